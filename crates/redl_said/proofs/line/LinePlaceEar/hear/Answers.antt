use Rattle.std.proofs.Common.{ℕ, ap, sym, ◌∙◌}
use Rattle.redl_said.proofs.EvenLaws.{along-even}
use Rattle.redl_said.proofs.line.LinePlaceEar.hear.Goals as goal

-- all bytes are kept as they are
pub returns-in-Some : goal.returns-in-Some
returns-in-Some c =
    ap (λ (left : ℕ). record { left = left; gap = c.in-Some.gap }) c.saturating_sub-self.ensures
    ∙ sym (along-even c.args.self.now c.args.bytes.now c.in-Some.gap (sym c.even_end.ensures ∙ c.in-Some.is))
