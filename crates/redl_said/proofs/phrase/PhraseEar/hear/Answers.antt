use Rattle.std.proofs.Common.{ap, drop, sym, ◌∙◌}
use Rattle.redl_said.specs.Phrases.{Kept, heard}
use Rattle.redl_said.proofs.PhraseLaws.{heard-over}
use Rattle.redl_said.proofs.phrase.PhraseEar.hear.Goals as goal

-- there were more characters than room, so the bytes that are left change nothing
pub returns-then-self : goal.returns-then-self
returns-then-self c =
    let over = ap (λ (kept : Kept). kept.over) (sym c.self.view_is) ∙ c.if-self.true in
    let left = c.in_ok-left.left.now in
    sym (heard-over c.loop-byte.self (drop c.loop-byte.byte-index left) over)
    ∙ c.loop-byte.invariant
    ∙ ap (λ (kept : Kept). heard kept left) c.make_room.ensures
    ∙ c.in_ok-left.ensures
