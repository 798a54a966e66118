-- The own rows of a table, the own cells of a row, and which tables, rows, cells and shells go (ECMA-376 Part 1, 17.4,
-- 17.13.5).
use Prim.Native.String.{String}
use Rattle.std.specs.Prelude.{List, [], ◌∷◌, ◌++◌, ◌&&◌, ◌||◌, Bool, true, false, if◌then◌else◌}
use Rattle.std.specs.List.{list_all}
use Rattle.redl_tree.specs.Model.Nodes.{Tag, Nodes, no_nodes, bytes, element}
use Rattle.redl_tree.specs.Roles.Names.{is}
use Rattle.redl_tree.specs.Model.Kids.{some_element, kids_of_all}
use Rattle.redl_tree.specs.Roles.Lists.{into, is_direct, in_cells, is_shell}
use Rattle.redl_tree.specs.Decisions.Fates.{fate_of}
use Rattle.redl_tree.specs.Roles.Kinds.{is_cut, is_mark, is_row, is_cell}
use Rattle.redl_tree.specs.declared.kinds.Say.{Say}
use Rattle.redl_tree.specs.declared.kinds.Kind.{Kind}
use Rattle.redl_tree.specs.declared.lists.Reach.{Reach}
use Rattle.redl_tree.specs.declared.lists.Reach.TheVariants.{Direct}

-- the kids of each element with this name among these nodes, directly or through content controls and custom XML elements:
-- of the own rows of a table, or of the own cells of a row
abbrev pub own : String → Reach → Nodes → List Nodes
own name reach no_nodes = []
own name reach (bytes b rest) = own name reach rest
own name reach (element tag kids rest) =
    (if is_direct reach && is name tag then kids ∷ [] else own name (into reach tag) kids)
    ++ own name reach rest

-- there is such an element
abbrev pub has_own : String → Reach → Nodes → Bool
has_own name reach no_nodes = false
has_own name reach (bytes b rest) = has_own name reach rest
has_own name reach (element tag kids rest) =
    (if is_direct reach && is name tag then true else has_own name (into reach tag) kids)
    || has_own name reach rest

-- some member of this kind among these is cut
abbrev pub has_cut : (Kind → Bool) → List Say → Nodes → Bool
has_cut test says nodes = some_element (λ tag. test tag.kind && is_cut (fate_of says tag)) nodes

-- a paragraph with these kids is cut, by a member in the properties of its mark
abbrev pub para_is_cut : List Say → Nodes → Bool
para_is_cut says kids = has_cut is_mark says (kids_of_all "rPr" (kids_of_all "pPr" kids))

-- a row with these kids is cut, by a member in its properties
abbrev pub row_is_cut : List Say → Nodes → Bool
row_is_cut says kids = has_cut is_row says (kids_of_all "trPr" kids)

-- a cell with these kids is cut, by a member in its properties
abbrev pub cell_is_cut : List Say → Nodes → Bool
cell_is_cut says kids = has_cut is_cell says (kids_of_all "tcPr" kids)

-- a list has items, and all of them pass
abbrev pub all_of_some : {X : Type 0} → (X → Bool) → List X → Bool
all_of_some test [] = false
all_of_some test (x ∷ xs) = list_all test (x ∷ xs)

-- these nodes hold cells for their row, and all of these go
abbrev pub cells_go : List Say → Reach → Nodes → Bool
cells_go says reach nodes = all_of_some (cell_is_cut says) (own "tc" reach nodes)

-- a row goes where it is cut, or where it has cells and all go
abbrev pub row_goes : List Say → Nodes → Bool
row_goes says kids = row_is_cut says kids || cells_go says Direct kids

-- these nodes hold rows for their table, and all of these go
abbrev pub rows_go : List Say → Reach → Nodes → Bool
rows_go says reach nodes = all_of_some (row_goes says) (own "tr" reach nodes)

-- Whether a table, a row, a cell or a shell with these kids goes. A shell goes where it holds cells (`in_row`) or rows, and
-- all of these go.
abbrev pub goes : List Say → Bool → Tag → Nodes → Bool
goes says in_row tag kids =
    if is "tc" tag then cell_is_cut says kids
    else if is "tr" tag then row_goes says kids
    else if is "tbl" tag then rows_go says Direct kids
    else if in_row then cells_go says (into Direct tag) kids
    else rows_go says (into Direct tag) kids

-- an element with these ancestors is a table, row, cell or shell, and goes
abbrev pub goes_at : List Say → List Tag → Tag → Nodes → Bool
goes_at says ancestors tag kids =
    (is "tc" tag || is "tr" tag || is "tbl" tag || is_shell ancestors tag) && goes says (in_cells ancestors) tag kids
