-- Where a span ends behind what keeps apart, nothing is paired from there on.
use Rattle.std.proofs.Common.{◌≡◌, ◌+◌, ◌<◌, ◌∙◌, [], ap, sym, subst, arith, drop, get_or, length}
use Rattle.std.specs.Prelude.{find}
use Rattle.std.proofs.lemmas.List.{get_or_default}
use Rattle.redl_spans.specs.declared.span.Span.{Span}
use Rattle.redl_edits.specs.Formatted.{is_next, pair_formatted}
use Rattle.redl_edits.specs.Inside.Known.{facts_with}
use Rattle.redl_edits.proofs.BesideLaws.{none}
use Rattle.redl_edits.proofs.FormattedLaws.{nothing-behind}
use Rattle.redl_edits.proofs.formatted.next_of_format.Goals as goal

pub returns-then-seen-two : goal.returns-then-seen-two
returns-then-seen-two c = λ d.
    let facts = (facts_with c.args.known.index.now c.args.known.spans.now c.args.known.passed.now c.args.known.said.now.formats.items) in
    let within : c.loop-behind.behind < length c.args.known.spans.now = omega (arith, c.loop-behind-test.true) in
    subst (λ (one : Span). [] ≡ pair_formatted facts one (find (is_next facts one) (drop (c.args.place + 1) c.args.known.spans.now)))
    (get_or_default c.args.known.spans.now c.args.place none d c.requires.bound)
    (sym (ap (pair_formatted facts (get_or c.args.known.spans.now c.args.place none)) c.loop-behind.invariant
    ∙ nothing-behind facts (get_or c.args.known.spans.now c.args.place none) c.args.place c.args.seen (c.requires.reach none) (c.requires.here none) c.requires.known.order
    c.loop-behind.behind within c.if-seen-two.true))
