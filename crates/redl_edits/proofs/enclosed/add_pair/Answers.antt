use Rattle.std.proofs.Common.{◌++◌, ◌∷◌, [], get_or, sym, ◌∙◌, ap}
use Rattle.std.proofs.lemmas.List.{append-nil}
use Rattle.std.proofs.lemmas.Option.{slice_get-get_or}
use Rattle.redl_edits.specs.Enclosed.{pair_enclosed_if}
use Rattle.redl_edits.proofs.BesideLaws.{none}
use Rattle.redl_edits.proofs.RoundLaws.{no_pair, one_pair}
use Rattle.redl_edits.proofs.enclosed.add_pair.Goals as goal

pub returns-then-not-is_change_at : goal.returns-then-not-is_change_at
returns-then-not-is_change_at c =
    sym (append-nil c.args.pairs.now.items)
    ∙ ap (λ pairs. c.args.pairs.now.items ++ pairs)
    (sym (ap (pair_enclosed_if c.args.index.now c.args.spans.now) (slice_get-get_or c.args.spans.now c.args.place none c.requires.bound)
    ∙ no_pair c.args.index.now c.args.spans.now (get_or c.args.spans.now c.args.place none) (sym c.if-not-is_change_at.ensures)))

pub returns-in_ok-push : goal.returns-in_ok-push
returns-in_ok-push c =
    c.in_ok-push.ensures.items
    ∙ ap (λ pair. c.args.pairs.now.items ++ pair ∷ []) c.pair_of.ensures
    ∙ ap (λ pairs. c.args.pairs.now.items ++ pairs)
    (sym (ap (pair_enclosed_if c.args.index.now c.args.spans.now) (slice_get-get_or c.args.spans.now c.args.place none c.requires.bound)
    ∙ one_pair c.args.index.now c.args.spans.now (get_or c.args.spans.now c.args.place none) c.in-Some.outer (sym c.if-not-is_change_at.ensures)
    (sym (c.in-Some.ensures (get_or c.args.spans.now c.args.place none) (slice_get-get_or c.args.spans.now c.args.place none c.requires.bound)))))
