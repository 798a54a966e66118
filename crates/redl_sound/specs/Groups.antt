-- A group of paragraphs in one piece (ECMA-376 Part 1, 17.3.1.29, 17.13.5): a longest run of paragraphs, each the next thick node after
-- the one before, of which all but the last are cut.
use Rattle.std.specs.Prelude.{◌≡◌, ◌&&◌, ◌++◌, List, [], ◌∷◌, Bool, true, false}
use Rattle.redl_tree.specs.Decisions.Groups.{GroupPiece, para, thin, thick, joins, ended}
use Rattle.redl_tree.specs.Model.Kids.{only, without}
use Rattle.redl_tree.specs.Model.Nodes.{Tag, Nodes, no_nodes, ◌⊕◌}
use Rattle.redl_tree.specs.Roles.Names.{is}

-- the pieces of a group before its last paragraph: the paragraphs among them are cut, and nothing else is thick
abbrev pub are_before_last : List GroupPiece → Bool
are_before_last [] = true
are_before_last (para tag cut kids ∷ rest) = cut && are_before_last rest
are_before_last (thin nodes ∷ rest) = are_before_last rest
are_before_last (thick nodes ∷ rest) = false

-- what a piece holds: the kids of a paragraph, or the nodes themselves
abbrev pub content : GroupPiece → Nodes
content (para tag cut kids) = kids
content (thin nodes) = nodes
content (thick nodes) = nodes

-- what these hold in their order, without the properties of paragraphs
abbrev pub bare_content : List GroupPiece → Nodes
bare_content [] = no_nodes
bare_content (piece ∷ rest) = without (is "pPr") (content piece) ⊕ bare_content rest

-- the tag of the one paragraph: that of the last one, with an end tag
abbrev pub own_tag : Tag → Tag
own_tag tag = record tag { close = ended tag.close }

-- the kids of the one paragraph, where these pieces come before the last paragraph, which has these kids: its properties, what the others
-- hold, and its other kids
abbrev pub one_para : List GroupPiece → Nodes → Nodes
one_para before kids = only (is "pPr") kids ⊕ (bare_content before ⊕ without (is "pPr") kids)

-- a group of several begins with a paragraph that is cut, where these pieces come after it: then others before the last, and the last
-- paragraph, which joins none of what follows
pub record BeginsGroup (cut : Bool) (rest : List GroupPiece) : Type 0 where
  pub is_cut : cut ≡ true
  pub between : List GroupPiece
  pub last : Tag
  pub last_cut : Bool
  pub last_kids : Nodes
  pub later : List GroupPiece
  pub splits : rest ≡ between ++ para last last_cut last_kids ∷ later
  pub are_before : are_before_last between ≡ true
  pub is_last : joins (para last last_cut last_kids) later ≡ false
