use Rattle.std.proofs.Common.{◌≡◌}
use Rattle.std.specs.Prelude.{find}
use Rattle.std.specs.Option.{option_map}
use Rattle.redl_lists.specs.Parts.{part_elements}
use Rattle.redl_lists.specs.Tables.{is_at, upto}
use Rattle.redl_lists.proofs.table.rows_at.Given as goal

abbrev pub invariant-loop-level : goal.invariant-loop-level
invariant-loop-level g l = l.said.items ≡ upto (λ k. option_map g.T.Row.row (find (is_at k) (part_elements l.parts))) l.level
