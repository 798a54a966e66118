use Rattle.std.proofs.Common.{◌≡◌, subst}
use Rattle.std.specs.Prelude.{List, IfOk}
use Rattle.redl_commands.specs.Notes.{with_result_notes}
use Rattle.redl_commands.specs.Settle.{passed, passed_text, same_says}
use Rattle.redl_commands.specs.Views.{writing_view}
use Rattle.redl_lines.specs.Remarks.{Remarks}
use Rattle.redl_tree.specs.declared.kinds.Say.{Say}
use Rattle.redl_commands_write.proofs.settle.settle_under.Goals as goal

pub returns : goal.returns
returns c =
    let says : List Say = same_says c.args.say c.args.pkg in
    subst
    (λ (remarks : Remarks). IfOk c.package.result (λ writing. writing_view writing
    ≡ with_result_notes (passed says c.args.pkg) (record { bytes = passed_text says c.args.pkg; remarks = remarks })))
    c.none.ensures (rw c.in_ok-nodes.ensures at c.package.ensures)
