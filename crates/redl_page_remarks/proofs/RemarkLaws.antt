-- What is written of the list of comments, part by part.
use Rattle.std.proofs.Common.{◌≡◌, ◌∙◌, ◌+◌, ◌<◌, ◌≤◌, ℕ, Bool, List, [], ◌∷◌, ◌++◌, Option, ap, sym, codes, drop, length, arith, append_assoc, append-nil}
use Rattle.std.proofs.lemmas.List.{drop_more, drop_all}
use Rattle.std.specs.List.{slice_index_or}
use Rattle.redl_comments.specs.Threads.{Threads, is_done}
use Rattle.redl_comments.specs.declared.comment.Comment.{Comment}
use Rattle.redl_html.specs.Escaping.{escaped}
use Rattle.redl_html.specs.Pieces.{HtmlPiece, own, pieces_text}
use Rattle.redl_html.proofs.PieceLaws.{pieces_text-append}
use Rattle.redl_page_remarks.specs.Remarks.{done_attribute, remark, remark_date, remark_end, remark_start, remarks, remarks_from, replied_to, reply_attribute}

start_parts : (a i b n d t : List ℕ) → a ++ (i ++ (b ++ (n ++ (d ++ (t ++ []))))) ≡ (a ++ i) ++ ((b ++ n) ++ (d ++ t))
start_parts a i b n d t = simp (append_assoc, append-nil)

pub start-text : (comment : Comment) → pieces_text (remark_start comment)
    ≡ (codes "<li data-remark=\"" ++ escaped comment.id) ++ ((codes "\" data-author=\"" ++ escaped comment.author) ++ (codes "\" data-date=\"" ++ escaped (remark_date comment.seconds)))
start-text comment =
    start_parts (codes "<li data-remark=\"") (escaped comment.id) (codes "\" data-author=\"") (escaped comment.author) (codes "\" data-date=\"") (escaped (remark_date comment.seconds))

pub end-text : (done : Bool) (text : List ℕ) → pieces_text (remark_end done text) ≡ (codes (done_attribute done) ++ escaped text) ++ codes "</li>\n"
end-text done text = sym (append_assoc (codes (done_attribute done)) (escaped text) (codes "</li>\n"))

pub remark-text : (comments : List Comment) (threads : Threads) (place : ℕ) (comment : Comment) → pieces_text (remark comments threads place comment)
    ≡ pieces_text (remark_start comment) ++ (pieces_text (reply_attribute (replied_to comments threads place)) ++ pieces_text (remark_end (is_done threads place) comment.text))
remark-text comments threads place comment =
    let reply = reply_attribute (replied_to comments threads place) in
    let end = remark_end (is_done threads place) comment.text in
    pieces_text-append (remark_start comment) (reply ++ end) ∙ ap (λ l. pieces_text (remark_start comment) ++ l) (pieces_text-append reply end)

pub remarks-text : (comments : List Comment) (threads : Threads) → pieces_text (remarks comments threads)
    ≡ codes "<ul class=\"remarks\" hidden>\n" ++ (pieces_text (remarks_from comments threads 0 comments) ++ codes "</ul>\n")
remarks-text comments threads = ap (λ l. codes "<ul class=\"remarks\" hidden>\n" ++ l) (pieces_text-append (remarks_from comments threads 0 comments) (own "</ul>\n" ∷ []))

-- the items from this place on
pub remarks-here : (comments : List Comment) (threads : Threads) (place : ℕ) (comment : Comment) → place < length comments → comment ≡ slice_index_or comments place comment
    → pieces_text (remarks_from comments threads place (drop place comments))
    ≡ (pieces_text (remark_start comment) ++ (pieces_text (reply_attribute (replied_to comments threads place)) ++ pieces_text (remark_end (is_done threads place) comment.text)))
    ++ pieces_text (remarks_from comments threads (place + 1) (drop (place + 1) comments))
remarks-here comments threads place comment within is =
    let later = remarks_from comments threads (place + 1) (drop (place + 1) comments) in
    ap (λ cs. pieces_text (remarks_from comments threads place cs)) (drop_more comments place comment within ∙ ap (λ c. c ∷ drop (place + 1) comments) (sym is))
    ∙ pieces_text-append (remark comments threads place comment) later
    ∙ ap (λ l. l ++ pieces_text later) (remark-text comments threads place comment)

pub remarks-end : (comments : List Comment) (threads : Threads) (place : ℕ) → length comments ≤ place → pieces_text (remarks_from comments threads place (drop place comments)) ≡ []
remarks-end comments threads place past = ap (λ cs. pieces_text (remarks_from comments threads place cs)) (drop_all place comments past)
