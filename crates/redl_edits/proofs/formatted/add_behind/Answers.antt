use Rattle.std.proofs.Common.{◌++◌, ◌∙◌, ap, sym, get_or, List}
use Rattle.std.proofs.lemmas.List.{append-nil}
use Rattle.redl_classes.specs.declared.pair.Pair.{Pair}
use Rattle.redl_edits.specs.Inside.Known.{facts_with}
use Rattle.redl_edits.proofs.BesideLaws.{none}
use Rattle.redl_edits.proofs.FormattedLaws.{behind-is, behind-not, formatted-near}
use Rattle.redl_edits.proofs.formatted.add_behind.Goals as goal

pub returns-then-not-known-place : goal.returns-then-not-known-place
returns-then-not-known-place c =
    let facts = (facts_with c.args.known.index.now c.args.known.spans.now c.args.known.passed.now c.args.known.said.now.formats.items) in
    sym (append-nil c.args.pairs.now.items)
    ∙ ap (λ (ps : List Pair). c.args.pairs.now.items ++ ps)
    (sym (behind-not facts c.args.place c.requires.bound (sym (c.requires.known.changes.each c.args.place none c.requires.bound) ∙ c.if-not-known-place.true)))

pub returns : goal.returns
returns c =
    let facts = (facts_with c.args.known.index.now c.args.known.spans.now c.args.known.passed.now c.args.known.said.now.formats.items) in
    let own = get_or c.args.known.spans.now c.args.place none in
    c.in_ok-add_near.ensures
    ∙ ap (λ (ps : List Pair). c.args.pairs.now.items ++ ps)
    (sym (behind-is facts c.args.place c.requires.bound (sym (c.requires.known.changes.each c.args.place none c.requires.bound) ∙ c.if-not-known-place.false)
    ∙ sym (c.next_of_format-next.ensures none)
    ∙ formatted-near facts own c.args.place c.args.seen (c.requires.reach none) (c.requires.here none) c.next_of_format-next.result))
