use Rattle.std.proofs.Common.{◌≡◌, None, Some, get_or, refl, subst, sym, ◌∙◌}
use Rattle.std.proofs.lemmas.Option.{get_or_from_slice_get}
use Rattle.redl_edits.specs.Inside.Rounds.{sought}
use Rattle.redl_edits.proofs.BesideLaws.{none}
use Rattle.redl_edits.proofs.RoundLaws.{sought-earlier, sought-later, sought-not}
use Rattle.redl_edits.proofs.enclosed.enclosing.Goals as goal

pub returns-then-change-need : goal.returns-then-change-need
returns-then-change-need c change here =
    subst (λ one. None ≡ sought c.args.index.now c.args.spans.now one) (get_or_from_slice_get c.args.spans.now c.args.place change none here)
    (sym (sought-not c.args.index.now c.args.spans.now (get_or c.args.spans.now c.args.place none) c.args.place c.args.later.now c.requires.bound refl
    (c.requires.change none) (c.requires.stack none) c.lowered_by_later-need.result c.lowered_by_earlier-need.result c.lowered_by_later-need.ensures c.lowered_by_earlier-need.ensures
    c.if-change.false c.if-change-need.true))

pub returns-in-Some : goal.returns-in-Some
returns-in-Some c change here =
    subst (λ one. Some c.in-Some.span ≡ sought c.args.index.now c.args.spans.now one) (get_or_from_slice_get c.args.spans.now c.args.place change none here)
    (sym (sought-later c.args.index.now c.args.spans.now (get_or c.args.spans.now c.args.place none) c.args.place c.args.later.now c.requires.bound refl
    (c.requires.change none) (c.requires.stack none) c.lowered_by_later-need.result c.lowered_by_earlier-need.result c.lowered_by_later-need.ensures c.lowered_by_earlier-need.ensures
    c.if-change.false c.if-change-need.false c.in-Some.span (sym c.in-Some.ensures)))

pub returns-in-None : goal.returns-in-None
returns-in-None c change here =
    subst (λ one. c.last_round.result ≡ sought c.args.index.now c.args.spans.now one) (get_or_from_slice_get c.args.spans.now c.args.place change none here)
    (c.last_round.ensures ∙ sym (sought-earlier c.args.index.now c.args.spans.now (get_or c.args.spans.now c.args.place none) c.args.place c.args.later.now c.requires.bound refl
    (c.requires.change none) (c.requires.stack none) c.lowered_by_later-need.result c.lowered_by_earlier-need.result c.lowered_by_later-need.ensures c.lowered_by_earlier-need.ensures
    c.if-change.false c.if-change-need.false (sym c.in-None.ensures)))
