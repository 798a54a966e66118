-- The nine rules of structure that a package must keep, for its revisions to be decided (our own rule, so that what a
-- decision leaves is a document again; ECMA-376 Part 1, 17.4 and 17.13.5). They speak of the open elements of its stories,
-- by names and ancestors; rule 8 speaks of every element. What two of them ask of a tag's attributes is a parameter, as a
-- test of its tail, since attributes are read by a crate above.
use Rattle.std.specs.Prelude.{ℕ, ◌+◌, List, [], ◌∷◌, ◌&&◌, ◌||◌, not, Bool, false, Option, Some, None, is_some, if◌then◌else◌}
use Rattle.std.specs.List.{list_all}
use Rattle.redl_tree.specs.Model.Nodes.{Tag, Nodes, no_nodes, bytes, element}
use Rattle.redl_tree.specs.Roles.Names.{named, is, is_any}
use Rattle.redl_tree.specs.Model.Kids.{some_element, has_element}
use Rattle.redl_tree.specs.Roles.Places.{is_open, in_mark_props, in_para_props, in_row_props, in_cell_props, is_range_edge, role, trace_of, prop_of, props_name}
use Rattle.redl_tree.specs.Roles.Lists.{in_blocks, is_thick}
use Rattle.redl_tree.specs.declared.lists.Reach.TheVariants.{Direct}
use Rattle.redl_tree.specs.Rules.Tests.{Test, everywhere, implies, open_one, open_any, once, each_once, only_first, only_last}
use Rattle.redl_tree.specs.Rules.CellEnds.{is_so, end_of}
use Rattle.redl_tree.specs.Decisions.Tables.{has_own}
use Rattle.redl_tree.specs.Roles.Kinds.{is_content, is_change}
use Rattle.redl_tree.specs.Decisions.Packages.{stories}
use Rattle.redl_tree.specs.Model.View.{Element}
use Rattle.redl_tree.specs.declared.kinds.Kind.{Kind}
use Rattle.redl_tree.specs.declared.kinds.Kind.TheVariants.{Change}

-- Rule 1. The last block of a table cell is a paragraph, or a content control or custom XML element that ends so
-- itself (17.4: a cell ends with block content). Where a control has several contents, one that ends so is enough.

-- a cell ends so
abbrev pub test_1 : Test
test_1 ancestors tag kids = implies (open_one "tc" ancestors tag) (is_so (end_of Direct kids))

-- Rule 2. Each row has a cell of its own (17.4).
abbrev pub test_2 : Test
test_2 ancestors tag kids = implies (open_one "tr" ancestors tag) (has_own "tc" Direct kids)

-- Rule 3. A content revision holds no paragraph, no table, and no properties of these, text boxes aside; it has no run
-- properties and no content of a control as a kid; and where it is among blocks it has no block as a kid. So the elements
-- round it keep their form when the tags of the revision go.

-- these ancestors, up to a text box, include a content revision
abbrev pub below_content : List Tag → Bool
below_content [] = false
below_content (tag ∷ ancestors) = not (is "txbxContent" tag) && (is_some (trace_of tag) || below_content ancestors)

-- the nearest ancestor is a content revision
abbrev pub in_content : List Tag → Bool
in_content [] = false
in_content (tag ∷ ancestors) = is_some (trace_of tag)

-- an element with these ancestors is in a block list, directly or through content revisions
abbrev pub among_blocks : List Tag → Bool
among_blocks [] = false
among_blocks (tag ∷ ancestors) = if is_some (trace_of tag) then among_blocks ancestors else in_blocks (tag ∷ ancestors)

-- what no content revision holds, at any depth
abbrev pub is_banned : Tag → Bool
is_banned tag = is_any ("p" ∷ "tbl" ∷ "tr" ∷ "tc" ∷ "pPr" ∷ "tblPr" ∷ "tblPrEx" ∷ "trPr" ∷ "tcPr" ∷ "sectPr" ∷ []) tag

-- the three parts of rule 3
abbrev pub test_3 : Test
test_3 ancestors tag kids =
    implies (is_banned tag && is_open ancestors) (not (below_content ancestors))
    && implies (open_any ("rPr" ∷ "sdtContent" ∷ []) ancestors tag) (not (in_content ancestors))
    && implies (is_content (role ancestors tag) && among_blocks ancestors) (not (some_element is_thick kids))

-- Rule 4. A property element has at most one change, as its last child element.
abbrev pub test_4 : Test
test_4 ancestors tag kids = only_last (λ kid. is_change (role (tag ∷ ancestors) kid)) kids

-- Rule 5. A paragraph's mark has its properties once; a mark, a row and a cell are marked once in each way at most.
abbrev pub test_5 : Test
test_5 ancestors tag kids =
    implies (in_para_props (tag ∷ ancestors)) (once "rPr" kids)
    && implies (in_mark_props (tag ∷ ancestors)) (each_once ("ins" ∷ "del" ∷ "moveFrom" ∷ "moveTo" ∷ []) kids)
    && implies (in_row_props (tag ∷ ancestors)) (each_once ("ins" ∷ "del" ∷ []) kids)
    && implies (in_cell_props (tag ∷ ancestors)) (each_once ("cellIns" ∷ "cellDel" ∷ []) kids)

-- Rule 6. Properties stand once, those of a paragraph first, and those of a body's section last; a control has one content.
abbrev pub test_6 : Test
test_6 ancestors tag kids =
    implies (open_one "p" ancestors tag) (only_first (is "pPr") kids)
    && implies (open_one "tr" ancestors tag) (once "trPr" kids)
    && implies (open_one "tc" ancestors tag) (once "tcPr" kids)
    && implies (open_one "body" ancestors tag) (only_last (is "sectPr") kids)
    && implies (open_one "sdt" ancestors tag) (once "sdtContent" kids)

-- Rule 7. No marker of a move holds an element.

-- an element with these ancestors is a marker: an open edge of a range that has an `id`
abbrev pub is_marker : (List ℕ → Bool) → List Tag → Tag → Bool
is_marker has_id ancestors tag = is_open ancestors && is_range_edge tag && has_id tag.tail

-- a marker holds no element
abbrev pub test_7 : (List ℕ → Bool) → Test
test_7 has_id ancestors tag kids = implies (is_marker has_id ancestors tag) (not (has_element kids))

-- Rule 8. Former properties hold no change element, whatever its place, and no block.

-- these ancestors include a change
abbrev pub below_change : List Tag → Bool
below_change [] = false
below_change (tag ∷ ancestors) = is_change (role ancestors tag) || below_change ancestors

-- what no change holds, at any depth
abbrev pub is_banned_below_change : Tag → Bool
is_banned_below_change tag = is_some (prop_of tag) || is_any ("p" ∷ "tbl" ∷ "tr" ∷ "tc" ∷ "txbxContent" ∷ []) tag

-- an element that no change holds is below no change
abbrev pub test_8 : Test
test_8 ancestors tag kids = implies (is_banned_below_change tag) (not (below_change ancestors))

-- Rule 9. What a decision can take the tags of declares no namespace, since kids that stay would lose it.

-- the first element with this name, given by its bytes, declares a namespace
abbrev pub former_declares : (List ℕ → Bool) → List ℕ → Nodes → Bool
former_declares declares name no_nodes = false
former_declares declares name (bytes b rest) = former_declares declares name rest
former_declares declares name (element tag kids rest) =
    if named name tag then declares tag.tail else former_declares declares name rest

-- the former properties in a change with these kids declare a namespace
abbrev pub change_declares : (List ℕ → Bool) → Kind → Nodes → Bool
change_declares declares (Change prop) kids = former_declares declares (props_name prop) kids
change_declares declares _ kids = false

-- a paragraph, a content revision and a change declare no namespace, and neither do former properties
abbrev pub test_9 : (List ℕ → Bool) → Test
test_9 declares ancestors tag kids =
    implies (open_one "p" ancestors tag || is_content (role ancestors tag) || is_change (role ancestors tag))
    (not (declares tag.tail))
    && not (change_declares declares (role ancestors tag) kids)

-- the nine rules in their order, where `has_id` says of a tag's tail that it has an `id`, and `declares` that it declares
-- a namespace
abbrev pub tests : (List ℕ → Bool) → (List ℕ → Bool) → List Test
tests has_id declares =
    test_1 ∷ test_2 ∷ test_3 ∷ test_4 ∷ test_5 ∷ test_6 ∷ test_7 has_id ∷ test_8 ∷ test_9 declares ∷ []

-- the rule of a test holds in stories: all elements pass
abbrev pub holds : Test → List Element → Bool
holds test parts = list_all (λ story. everywhere test [] (element story.tag story.kids no_nodes)) parts

-- the least number of a rule that doesn't hold, where the first of these has this one
abbrev pub first_broken : ℕ → List Test → List Element → Option ℕ
first_broken number [] parts = None
first_broken number (test ∷ later) parts =
    if holds test parts then first_broken (number + 1) later parts else Some number

-- the least rule of these that a package breaks
abbrev pub broken : List Test → Nodes → Option ℕ
broken rules nodes = first_broken 1 rules (stories nodes)

-- a package is sound where all of these rules hold
abbrev pub is_sound : List Test → Nodes → Bool
is_sound rules nodes = list_all (λ test. holds test (stories nodes)) rules
