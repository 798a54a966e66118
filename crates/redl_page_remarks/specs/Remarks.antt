-- The comments of a package in its page (ECMA-376 Part 1, 17.13.4; how they are listed is our own rule): an item for each, in the
-- order of the comments part, with its id, author and date, the id of the comment that it replies to, and whether it is done.
use Prim.Native.String.{String}
use Rattle.std.specs.Prelude.{ℕ, ◌+◌, ℤ, List, [], ◌∷◌, ◌++◌, Bool, true, false, Option, Some, None, option_and_then, slice_get, IfSome}
use Rattle.std.specs.Option.{option_map}
use Rattle.redl_tree.specs.Model.Nodes.{Nodes}
use Rattle.redl_stamp.specs.Moment.{IsMoment}
use Rattle.redl_formats.specs.Dates.{moment_text}
use Rattle.redl_comments.specs.Comments.{comments_of}
use Rattle.redl_comments.specs.Threads.{Threads, is_done, package_threads, parent_at}
use Rattle.redl_comments.specs.declared.comment.Comment.{Comment}
use Rattle.redl_html.specs.Pieces.{HtmlPiece, own, outside}

-- a date that can be read lies in the years 0000 to 9999
abbrev pub IsDated : Comment → Type 0
IsDated comment = IfSome comment.seconds IsMoment

-- a date that can't be read is empty
abbrev pub remark_date : Option ℤ → List ℕ
remark_date None = []
remark_date (Some seconds) = moment_text seconds

abbrev pub remark_start : Comment → List HtmlPiece
remark_start comment =
    own "<li data-remark=\"" ∷ outside comment.id ∷ own "\" data-author=\"" ∷ outside comment.author
    ∷ own "\" data-date=\"" ∷ outside (remark_date comment.seconds) ∷ []

-- the comment that the one at this place replies to
abbrev pub replied_to : List Comment → Threads → ℕ → Option Comment
replied_to comments threads place = option_and_then (slice_get comments) (parent_at threads place)

-- its id, where it is there
abbrev pub reply_attribute : Option Comment → List HtmlPiece
reply_attribute None = []
reply_attribute (Some comment) = own "\" data-reply=\"" ∷ outside comment.id ∷ []

abbrev pub done_attribute : Bool → String
done_attribute true = "\" data-done=\"yes\">"
done_attribute false = "\" data-done=\"no\">"

abbrev pub remark_end : Bool → List ℕ → List HtmlPiece
remark_end done text = own (done_attribute done) ∷ outside text ∷ own "</li>\n" ∷ []

-- the item of the comment at this place
abbrev pub remark : List Comment → Threads → ℕ → Comment → List HtmlPiece
remark comments threads place comment =
    remark_start comment ++ (reply_attribute (replied_to comments threads place) ++ remark_end (is_done threads place) comment.text)

-- the items of these comments, of which the first has this place among all
abbrev pub remarks_from : List Comment → Threads → ℕ → List Comment → List HtmlPiece
remarks_from comments threads place [] = []
remarks_from comments threads place (comment ∷ later) =
    remark comments threads place comment ++ remarks_from comments threads (place + 1) later

abbrev pub remarks : List Comment → Threads → List HtmlPiece
remarks comments threads =
    own "<ul class=\"remarks\" hidden>\n" ∷ (remarks_from comments threads 0 comments ++ (own "</ul>\n" ∷ []))

-- those of a package
abbrev pub package_remarks : Nodes → List HtmlPiece
package_remarks nodes = remarks (comments_of nodes) (package_threads nodes)
