-- What is passed in the text is what is passed in its nodes.
use Rattle.std.proofs.Common.{◌≡◌, ◌++◌, List, ℕ, OnOk, subst, sym}
use Rattle.redl_edits.proofs.PassedLaws.{passed_kept}
use Rattle.redl_edits.proofs.kept.pass_plain.Goals as goal

pub returns : goal.returns
returns c =
    subst (λ (text : List ℕ). OnOk c.show.result (c.show.new.out ≡ c.args.out.now ++ text)) (sym (passed_kept c.args.in_text c.args.plain.now)) c.show.ensures
