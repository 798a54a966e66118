use Rattle.std.proofs.Common.{◌≡◌, ◌∙◌, ap, sym, get_or, Bool, true, false, not, refl}
use Rattle.redl_edits.specs.Formatted.{is_loose}
use Rattle.std.proofs.lemmas.List.{get_or_default}
use Rattle.std.proofs.lemmas.Option.{slice_get-get_or}
use Rattle.redl_edits.proofs.BesideLaws.{none}
use Rattle.redl_edits.proofs.LooseLaws.{loose-is}
use Rattle.redl_edits.proofs.loose.is_loose.Goals as goal

twice : (b : Bool) → not (not b) ≡ b
twice true = refl
twice false = refl

pub returns-then-is_change_at : goal.returns-then-is_change_at
returns-then-is_change_at c = λ d.
    let own = get_or c.args.spans.now c.args.place none in
    sym (twice c.is_none.result) ∙ ap not (sym c.is_none.ensures)
    ∙ loose-is c.args.index.now c.args.spans.now own c.enclosing.result (sym c.if-is_change_at.ensures) (c.enclosing.ensures own (slice_get-get_or c.args.spans.now c.args.place none c.requires.bound))
    ∙ ap (is_loose c.args.index.now c.args.spans.now) (get_or_default c.args.spans.now c.args.place none d c.requires.bound)
