-- The fourth way in which two revisions belong together: both are cells of one table that were inserted, or deleted, or both are changes of
-- the table, of its exceptions, rows or cells, and none is between them (our own rule).
use Rattle.std.specs.Prelude.{ℕ, Bool, true, false, List, [], ◌∷◌, ◌++◌, Option, None, Some, if◌then◌else◌}
use Rattle.std.specs.List.{flat_map}
use Rattle.redl_classes.specs.declared.pair.Pair.{Pair}
use Rattle.redl_index.specs.declared.revision.Revision.{Revision}
use Rattle.redl_kinds.specs.declared.rev_kind.RevKind.{RevKind}
use Rattle.redl_kinds.specs.declared.rev_kind.RevKind.TheVariants.{Cell, Change}
use Rattle.redl_tree.specs.Model.Nodes.{Tag, Nodes, no_nodes, bytes, element}
use Rattle.redl_tree.specs.Model.View.{Element}
use Rattle.redl_tree.specs.Roles.Names.{is}
use Rattle.redl_tree.specs.declared.kinds.Prop.{Prop}
use Rattle.redl_tree.specs.declared.kinds.Prop.TheVariants as props
use Rattle.redl_tree.specs.declared.kinds.Trace.TheVariants.{Ins, Del}
use Rattle.redl_edits.specs.Alike.{are_alike_at, revision_at}
use Rattle.redl_edits.specs.Tables.{table_revisions}
use Rattle.redl_edits.specs.declared.tabled.Sort.{Sort}
use Rattle.redl_edits.specs.declared.tabled.Sort.TheVariants.{Inserted, Deleted, Changed}

abbrev pub is_of_table : Prop → Bool
is_of_table props.Table = true
is_of_table props.Except = true
is_of_table props.Row = true
is_of_table props.Cell = true
is_of_table _ = false

abbrev pub is_of_sort : Sort → RevKind → Bool
is_of_sort Inserted (Cell Ins) = true
is_of_sort Deleted (Cell Del) = true
is_of_sort Changed (Change what) = is_of_table what
is_of_sort _ _ = false

abbrev pub has_sort : Sort → Option Revision → Bool
has_sort sort None = false
has_sort sort (Some revision) = is_of_sort sort revision.kind

-- a revision with the last one before it
abbrev pub pair_tabled : List Revision → Option ℕ → ℕ → List Pair
pair_tabled revisions None two = []
pair_tabled revisions (Some one) two = if are_alike_at revisions one two then record { one = one; two = two } ∷ [] else []

-- those of one sort among some revisions, of which this is the last one before them
abbrev pub pairs_of_sort : List Revision → Sort → Option ℕ → List ℕ → List Pair
pairs_of_sort revisions sort last [] = []
pairs_of_sort revisions sort last (v ∷ later) =
    if has_sort sort (revision_at revisions v) then pair_tabled revisions last v ++ pairs_of_sort revisions sort (Some v) later
    else pairs_of_sort revisions sort last later

-- those of one table
abbrev pub table_pairs : List Revision → List ℕ → List Pair
table_pairs revisions table =
    pairs_of_sort revisions Inserted None table ++ (pairs_of_sort revisions Deleted None table ++ pairs_of_sort revisions Changed None table)

abbrev pub own_tabled : List Revision → Tag → Nodes → List Pair
own_tabled revisions tag kids = if is "tbl" tag then table_pairs revisions (table_revisions kids) else []

-- those of each table among nodes, at every depth
abbrev pub tabled_in : List Revision → Nodes → List Pair
tabled_in revisions no_nodes = []
tabled_in revisions (bytes b rest) = tabled_in revisions rest
tabled_in revisions (element tag kids rest) = (own_tabled revisions tag kids ++ tabled_in revisions kids) ++ tabled_in revisions rest

abbrev pub tabled_pairs : List Revision → List Element → List Pair
tabled_pairs revisions roots = flat_map (λ root. tabled_in revisions root.kids) roots
