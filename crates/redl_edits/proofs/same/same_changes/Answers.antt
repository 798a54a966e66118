use Rattle.redl_edits.proofs.SameLaws.{same_changes-length}
use Rattle.redl_edits.proofs.same.same_changes.Goals as goal
use Rattle.std.proofs.Common.{sym, arith}

pub returns-then-one-two : goal.returns-then-one-two
returns-then-one-two c = sym (same_changes-length c.args.one.now c.args.two.now (λ e. omega (arith, e)))
