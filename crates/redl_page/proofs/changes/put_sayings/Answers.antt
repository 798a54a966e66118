use Rattle.std.proofs.Common.{ap, sym, ◌∙◌, ◌+◌, ◌∷◌, arith, drop, map}
use Rattle.std.proofs.lemmas.List.{drop_more, drop_all}
use Rattle.std.specs.List.{flat_map}
use Rattle.std.specs.Map.Iter.{deref}
use Rattle.redl_io.proofs.Puts.{so_far_goes_on, so_far_stops, so_far_ends}
use Rattle.redl_page.specs.Changes.{saying}
use Rattle.redl_html.specs.Pieces.{pieces_text}
use Rattle.redl_page.proofs.ChangeLaws.{sayings-more}
use Rattle.redl_page.proofs.changes.put_sayings.Goals as goal

pub returns-in_err-put_saying : goal.returns-in_err-put_saying
returns-in_err-put_saying g c =
    let words = c.args.words.now in
    let i = c.loop-entry.entry-index in
    let entry = c.entry-item.result in
    so_far_stops (pieces_text (saying entry.now)) (pieces_text (flat_map saying (map deref (drop (i + 1) words))))
    (ap (λ ws. pieces_text (flat_map saying (map deref ws))) (drop_more words i entry (omega arith) ∙ ap (λ x. x ∷ drop (i + 1) words) (sym c.entry-item.is))
    ∙ sayings-more entry.now (map deref (drop (i + 1) words)))
    c.from_residual.ensures.1 c.loop-entry.invariant c.in_err-put_saying.ensures

pub loop-entry-preserved : goal.loop-entry-preserved
loop-entry-preserved g c =
    let words = c.args.words.now in
    let i = c.loop-entry.entry-index in
    let entry = c.entry-item.result in
    so_far_goes_on (pieces_text (saying entry.now)) (pieces_text (flat_map saying (map deref (drop (i + 1) words))))
    (ap (λ ws. pieces_text (flat_map saying (map deref ws))) (drop_more words i entry (omega arith) ∙ ap (λ x. x ∷ drop (i + 1) words) (sym c.entry-item.is))
    ∙ sayings-more entry.now (map deref (drop (i + 1) words)))
    c.loop-entry.invariant c.in_ok-put_saying.ensures

pub returns : goal.returns
returns g c =
    so_far_ends (ap (λ ws. pieces_text (flat_map saying (map deref ws))) (drop_all c.loop-entry.entry-index c.args.words.now (omega arith))) c.loop-entry.invariant
