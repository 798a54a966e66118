use Rattle.std.proofs.Common.{List, ℕ, ap, sym, ◌∙◌}
use Rattle.redl_said.specs.Lines.{Drawn, drawn}
use Rattle.redl_said.proofs.EvenLaws.{drawn-even}
use Rattle.redl_said.proofs.line.LineEar.hear.Goals as goal

-- all bytes are kept as they are
pub returns-in-Some : goal.returns-in-Some
returns-in-Some c =
    let old : Drawn = record { text = c.self.inside.text.items; gap = c.self.inside.gap } in
    ap (λ (text : List ℕ). record { text = text; gap = c.in-Some.gap }) c.in_ok-extend_from_slice.ensures.items
    ∙ sym (drawn-even old c.args.bytes.now c.in-Some.gap (sym c.even_end.ensures ∙ c.in-Some.is))
    ∙ ap (λ (line : Drawn). drawn line c.args.bytes.now) c.self.view_is
