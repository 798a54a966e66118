use Rattle.std.proofs.Common.{ap, sym, ◌∙◌, [], Some, append-nil, option_map, refl}
use Rattle.redl_io.proofs.Puts.{so_far_begins, so_far_goes_on, so_far_stops, so_far_ends}
use Rattle.redl_page.specs.Reviewers.{item_at_end, item_before, items_from}
use Rattle.redl_html.specs.Pieces.{pieces_text}
use Rattle.redl_html.proofs.PieceLaws.{puts_is}
use Rattle.redl_page.proofs.ReviewerLaws.{items-more, reviewers_same}
use Rattle.redl_page.proofs.reviewers.put_reviewers.Goals as goal

pub loop-entry-init : goal.loop-entry-init
loop-entry-init g c =
    rw (c.into_iter-entry-iterator.ensures.into_iter_gives, c.entries-entry-items.ensures.entries) (so_far_begins _ _)

pub loop-entry-preserved : goal.loop-entry-preserved
loop-entry-preserved g c =
    let last = option_map (λ last. last.now) c.loop-entry.last in
    let entry = c.in-Some.entry.now in
    so_far_goes_on (pieces_text (item_before last entry)) (pieces_text (items_from (Some entry) c.next.new.self))
    (ap (λ es. pieces_text (items_from last es)) c.in-Some.ensures.steps ∙ items-more last entry c.next.new.self)
    c.loop-entry.invariant c.in_ok-put_ended.ensures

pub returns-in_err-put_ended : goal.returns-in_err-put_ended
returns-in_err-put_ended g c =
    let last = option_map (λ last. last.now) c.loop-entry.last in
    let entry = c.in-Some.entry.now in
    puts_is (ap pieces_text (sym (reviewers_same c.args.book.now c.entries-entry-items.ensures.ordered)))
    (so_far_stops (pieces_text (item_before last entry)) (pieces_text (items_from (Some entry) c.next.new.self))
    (ap (λ es. pieces_text (items_from last es)) c.in-Some.ensures.steps ∙ items-more last entry c.next.new.self)
    c.from_residual.ensures.1 c.loop-entry.invariant c.in_err-put_ended.ensures)

pub returns-in_err-put_last : goal.returns-in_err-put_last
returns-in_err-put_last g c =
    let last = option_map (λ last. last.now) c.loop-entry.last in
    puts_is (ap pieces_text (sym (reviewers_same c.args.book.now c.entries-entry-items.ensures.ordered)))
    (so_far_stops (pieces_text (item_at_end last)) []
    (ap (λ es. pieces_text (items_from last es)) c.in-None.ensures.steps.0 ∙ sym (append-nil (pieces_text (item_at_end last))))
    c.from_residual-in_err-put_last.ensures.1 c.loop-entry.invariant c.in_err-put_last.ensures)

pub returns : goal.returns
returns g c =
    let last = option_map (λ last. last.now) c.loop-entry.last in
    puts_is (ap pieces_text (sym (reviewers_same c.args.book.now c.entries-entry-items.ensures.ordered)))
    (so_far_ends refl
    (so_far_goes_on (pieces_text (item_at_end last)) []
    (ap (λ es. pieces_text (items_from last es)) c.in-None.ensures.steps.0 ∙ sym (append-nil (pieces_text (item_at_end last))))
    c.loop-entry.invariant c.in_ok-put_last.ensures))
