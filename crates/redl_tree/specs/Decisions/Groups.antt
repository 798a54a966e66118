-- Joined paragraphs: where the mark of a paragraph goes, the content of the paragraph goes on in the next one (ECMA-376
-- Part 1, 17.3.1.29, 17.13.5). A list of blocks is put together from the left, with a look at what comes next.
use Rattle.std.specs.Prelude.{List, [], ◌∷◌, ◌&&◌, ◌||◌, not, Bool, true, false, Option, Some, None, if◌then◌else◌}
use Rattle.redl_tree.specs.Model.Nodes.{Tag, Nodes, no_nodes, element, ◌⊕◌}
use Rattle.redl_tree.specs.Roles.Names.{is}
use Rattle.redl_tree.specs.Model.Kids.{only, without, has_element}
use Rattle.redl_tree.specs.Model.Nodes.{Close}
use Rattle.redl_tree.specs.Model.Nodes.{Empty, End}

-- what a node of a list gives by itself: a paragraph among blocks, with its tag, whether it is cut, and its passed kids; or
-- the nodes that another thin or thick node gives, which may be none
pub data GroupPiece : Type 0 where
  para : Tag → Bool → Nodes → GroupPiece
  thin : Nodes → GroupPiece
  thick : Nodes → GroupPiece

-- The next thick node is a paragraph. A node counts as what it was in the original, also where it goes.
abbrev pub paragraph_next : List GroupPiece → Bool
paragraph_next [] = false
paragraph_next (para tag cut kids ∷ rest) = true
paragraph_next (thin nodes ∷ rest) = paragraph_next rest
paragraph_next (thick nodes ∷ rest) = false

-- one of these is thick
abbrev pub has_thick : List GroupPiece → Bool
has_thick [] = false
has_thick (para tag cut kids ∷ rest) = true
has_thick (thin nodes ∷ rest) = has_thick rest
has_thick (thick nodes ∷ rest) = true

-- a paragraph that is cut is joined with the next thick node, where that is a paragraph
abbrev pub joins : GroupPiece → List GroupPiece → Bool
joins (para tag cut kids) rest = cut && paragraph_next rest
joins (thin nodes) rest = false
joins (thick nodes) rest = false

-- What the next paragraph takes up once these nodes are added. `None`: no paragraph is joined with it so far. `Some held`:
-- what the joined ones before it hold besides a `pPr`, and what comes between them.
abbrev pub taken : Option Nodes → Nodes → Nodes
taken None nodes = without (is "pPr") nodes
taken (Some held) nodes = held ⊕ without (is "pPr") nodes

-- an element that was closed in its start tag gets an end tag, since it holds something now
abbrev pub ended : Close → Close
ended Empty = End []
ended (End space) = End space

-- Several paragraphs become one. It has the tag and the `pPr` of the last one, and then the other kids of all of them.

-- the tag of the last paragraph, where `held` is joined with it
abbrev pub joined_tag : Option Nodes → Tag → Tag
joined_tag None tag = tag
joined_tag (Some held) tag = record tag { close = ended tag.close }

-- the kids of the last paragraph, where `held` is joined with it
abbrev pub joined_kids : Option Nodes → Nodes → Nodes
joined_kids None kids = kids
joined_kids (Some held) kids = only (is "pPr") kids ⊕ (held ⊕ without (is "pPr") kids)

-- A paragraph that is joined with no later one stays. But where it is cut, another thick node follows (`ends`), and it holds
-- no element besides its `pPr`, only its bytes stay.
abbrev pub unjoined_para : Bool → Tag → Nodes → Nodes
unjoined_para ends tag kids =
    if ends && not (has_element (without (is "pPr") kids)) then without (is "pPr") kids else element tag kids no_nodes

-- what a piece adds to the result, given what it takes up, whether it is joined with a later paragraph, and whether a thick
-- node follows
abbrev pub given : GroupPiece → Option Nodes → Bool → Bool → Nodes
given (para tag cut kids) held true followed = no_nodes
given (para tag cut kids) held false followed = unjoined_para (cut && followed) (joined_tag held tag) (joined_kids held kids)
given (thin nodes) None joins followed = nodes
given (thin nodes) (Some held) joins followed = no_nodes
given (thick nodes) held joins followed = nodes

-- what the next paragraph takes up after a piece
abbrev pub held_by : GroupPiece → Option Nodes → Bool → Option Nodes
held_by (para tag cut kids) held true = Some (taken held kids)
held_by (para tag cut kids) held false = None
held_by (thin nodes) None joins = None
held_by (thin nodes) (Some held) joins = Some (taken (Some held) nodes)
held_by (thick nodes) held joins = None

-- What the pieces of a list give together, where the next paragraph takes up `held`. `followed`: a thick node comes after
-- the list, and that is no paragraph where the last paragraph of the list is cut.
abbrev pub grouped_from : Bool → Option Nodes → List GroupPiece → Nodes
grouped_from followed held [] = no_nodes
grouped_from followed held (piece ∷ rest) =
    given piece held (joins piece rest) (has_thick rest || followed)
    ⊕ grouped_from followed (held_by piece held (joins piece rest)) rest

-- the same where nothing is held before the list
abbrev pub grouped : Bool → List GroupPiece → Nodes
grouped followed pieces = grouped_from followed None pieces
