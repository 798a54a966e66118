-- What a revision is (ECMA-376 Part 1, 17.13.5).
use Rattle.std.specs.Prelude.{◌==◌, ℕ, Bool, true, false}
use Rattle.redl_tree.specs.declared.kinds.Trace.{Trace}
use Rattle.redl_tree.specs.declared.kinds.Trace.TheVariants.{Ins, Del, From, To}
use Rattle.redl_tree.specs.declared.kinds.Prop.{Prop}
use Rattle.redl_tree.specs.declared.kinds.Prop.TheVariants as props
use Rattle.redl_kinds.specs.declared.rev_kind.RevKind.{RevKind}
use Rattle.redl_kinds.specs.declared.rev_kind.RevKind.TheVariants.{Content, Move, Mark, Row, Cell, Change}

-- rows and cells are inserted and deleted, and not moved
abbrev pub is_named : RevKind → Bool
is_named (Row From) = false
is_named (Row To) = false
is_named (Cell From) = false
is_named (Cell To) = false
is_named _ = true

-- traces and properties, told apart by a number for each
abbrev pub trace_rank : Trace → ℕ
trace_rank Ins = 0
trace_rank Del = 1
trace_rank From = 2
trace_rank To = 3

abbrev pub prop_rank : Prop → ℕ
prop_rank props.Run = 0
prop_rank props.Para = 1
prop_rank props.Sect = 2
prop_rank props.Table = 3
prop_rank props.Except = 4
prop_rank props.Row = 5
prop_rank props.Cell = 6

-- two kinds of revisions are the same
abbrev pub is_same_kind : RevKind → RevKind → Bool
is_same_kind (Content a) (Content b) = trace_rank a == trace_rank b
is_same_kind Move Move = true
is_same_kind (Mark a) (Mark b) = trace_rank a == trace_rank b
is_same_kind (Row a) (Row b) = trace_rank a == trace_rank b
is_same_kind (Cell a) (Cell b) = trace_rank a == trace_rank b
is_same_kind (Change a) (Change b) = prop_rank a == prop_rank b
is_same_kind _ _ = false
