-- The names of the kinds of revisions, in listings and on the command line (our own rule).
use Rattle.std.specs.Prelude.{ℕ, List, [], Bool, Option, codes, find}
use Rattle.std.specs.Str.{bytes_eq}
use Rattle.redl_tree.specs.declared.kinds.Trace.TheVariants.{Ins, Del, From, To}
use Rattle.redl_tree.specs.declared.kinds.Prop.TheVariants as props
use Rattle.redl_kinds.specs.declared.rev_kind.RevKind.{RevKind}
use Rattle.redl_kinds.specs.declared.rev_kind.RevKind.TheVariants.{Content, Move, Mark, Row, Cell, Change}
use Rattle.redl_kinds.specs.declared.kind_names.TheConstants.{KINDS}

-- the name of a kind; rows and cells that are moved have none
abbrev pub kind_name : RevKind → List ℕ
kind_name (Content Ins) = codes "ins"
kind_name (Content Del) = codes "del"
kind_name (Content From) = codes "move-from"
kind_name (Content To) = codes "move-to"
kind_name Move = codes "move"
kind_name (Mark Ins) = codes "mark-ins"
kind_name (Mark Del) = codes "mark-del"
kind_name (Mark From) = codes "mark-from"
kind_name (Mark To) = codes "mark-to"
kind_name (Row Ins) = codes "row-ins"
kind_name (Row Del) = codes "row-del"
kind_name (Row From) = []
kind_name (Row To) = []
kind_name (Cell Ins) = codes "cell-ins"
kind_name (Cell Del) = codes "cell-del"
kind_name (Cell From) = []
kind_name (Cell To) = []
kind_name (Change props.Run) = codes "run-props"
kind_name (Change props.Para) = codes "para-props"
kind_name (Change props.Sect) = codes "sect-props"
kind_name (Change props.Table) = codes "table-props"
kind_name (Change props.Except) = codes "except-props"
kind_name (Change props.Row) = codes "row-props"
kind_name (Change props.Cell) = codes "cell-props"

-- the kind has this name
abbrev pub is_name_of : List ℕ → RevKind → Bool
is_name_of name kind = bytes_eq (kind_name kind) name

-- the kind with this name, if there is one
unfoldable pub kind_named : List ℕ → Option RevKind
kind_named name = find (is_name_of name) KINDS
