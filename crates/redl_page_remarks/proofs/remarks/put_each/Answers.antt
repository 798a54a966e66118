use Rattle.std.proofs.Common.{◌≡◌, ◌∙◌, ◌+◌, ◌<◌, ◌++◌, ap, sym, arith, drop, length, option_map}
use Rattle.redl_io.proofs.Puts.{so_far_goes_on, so_far_stops, so_far_ends}
use Rattle.redl_comments.specs.Threads.{is_done}
use Rattle.redl_html.specs.Pieces.{pieces_text}
use Rattle.redl_page_remarks.specs.Remarks.{remark_end, remark_start, remarks_from, reply_attribute}
use Rattle.redl_page_remarks.proofs.RemarkLaws.{remarks-here, remarks-end}
use Rattle.redl_page_remarks.proofs.remarks.put_each.Goals as goal

pub returns-in_err-put_remark : goal.returns-in_err-put_remark
returns-in_err-put_remark g c =
    let comments = c.args.comments.now in
    let threads = c.args.threads.now in
    let place = c.loop-place.place in
    let comment = c.index-comments-place.result in
    let within : place < length comments = omega arith in
    let later = pieces_text (remarks_from comments threads (place + 1) (drop (place + 1) comments)) in
    let parent = option_map (λ comment. comment.now) c.replied_to-parent.result in
    so_far_stops (pieces_text (remark_start comment) ++ (pieces_text (reply_attribute parent) ++ pieces_text (remark_end c.is_done.result comment.text))) later
    (remarks-here comments threads place comment within c.index-comments-place.is
    ∙ ap (λ p. (pieces_text (remark_start comment) ++ (pieces_text (reply_attribute p) ++ pieces_text (remark_end (is_done threads place) comment.text))) ++ later) (sym c.replied_to-parent.ensures)
    ∙ ap (λ d. (pieces_text (remark_start comment) ++ (pieces_text (reply_attribute parent) ++ pieces_text (remark_end d comment.text))) ++ later) (sym c.is_done.ensures))
    c.from_residual.ensures.1 c.loop-place.invariant c.in_err-put_remark.ensures

pub loop-place-preserved : goal.loop-place-preserved
loop-place-preserved g c =
    let comments = c.args.comments.now in
    let threads = c.args.threads.now in
    let place = c.loop-place.place in
    let comment = c.index-comments-place.result in
    let within : place < length comments = omega arith in
    let later = pieces_text (remarks_from comments threads (place + 1) (drop (place + 1) comments)) in
    let parent = option_map (λ comment. comment.now) c.replied_to-parent.result in
    so_far_goes_on (pieces_text (remark_start comment) ++ (pieces_text (reply_attribute parent) ++ pieces_text (remark_end c.is_done.result comment.text))) later
    (remarks-here comments threads place comment within c.index-comments-place.is
    ∙ ap (λ p. (pieces_text (remark_start comment) ++ (pieces_text (reply_attribute p) ++ pieces_text (remark_end (is_done threads place) comment.text))) ++ later) (sym c.replied_to-parent.ensures)
    ∙ ap (λ d. (pieces_text (remark_start comment) ++ (pieces_text (reply_attribute parent) ++ pieces_text (remark_end d comment.text))) ++ later) (sym c.is_done.ensures))
    c.loop-place.invariant c.in_ok-put_remark.ensures

pub returns : goal.returns
returns g c = so_far_ends (remarks-end c.args.comments.now c.args.threads.now c.loop-place.place (omega arith)) c.loop-place.invariant
