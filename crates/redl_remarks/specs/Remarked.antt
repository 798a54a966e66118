-- Details with the comments on their revisions (our own rule).
use Rattle.std.specs.Prelude.{ℕ, ◌+◌, Bool, false, List, [], ◌∷◌, filter_map, length, slice_get, unwrap_or, Option, option_and_then, if◌then◌else◌}
use Rattle.std.specs.Option.{option_map}
use Rattle.redl_tree.specs.Model.Nodes.{Nodes}
use Rattle.redl_clauses.specs.Clauses.{numbered_details}
use Rattle.redl_commented.specs.On as on
use Rattle.redl_commented.specs.Package.{package_remarks}
use Rattle.redl_comments.specs.Comments.{comments_of}
use Rattle.redl_comments.specs.Threads.{Threads, is_done, package_threads, parent_at}
use Rattle.redl_comments.specs.declared.comment.Comment.{Comment}
use Rattle.redl_edits.specs.Edits.{package_edits}
use Rattle.redl_excerpts.specs.Details.{text_or_nothing, with_edit, with_hidden, with_remarks}
use Rattle.redl_excerpts.specs.Remarks.{Remarks}
use Rattle.redl_excerpts.specs.declared.detail.Detail.{Detail}
use Rattle.redl_excerpts.specs.declared.remark.Remark.{Remark}
use Rattle.redl_hidden_members.specs.Members.{package_hidden_members}
use Rattle.redl_index.specs.declared.revision.Revision.{Revision}
use Rattle.redl_journal.specs.declared.entry.Entry.{Entry}

-- ---- the comments on one revision

-- the id of a comment, in UTF-8
abbrev pub id_of : Comment → List ℕ
id_of comment = text_or_nothing comment.id

-- the id of the comment that the one at this place replies to
abbrev pub parent_id : List Comment → Threads → ℕ → Option (List ℕ)
parent_id comments threads place = option_map id_of (option_and_then (slice_get comments) (parent_at threads place))

-- the comment at this place
abbrev pub remark_of : List Comment → Threads → ℕ → Comment → Remark
remark_of comments threads place comment = record {
  author = text_or_nothing comment.author;
  seconds = comment.seconds;
  is_done = is_done threads place;
  id = id_of comment;
  reply_to = parent_id comments threads place;
  text = text_or_nothing comment.text;
}

abbrev pub remark_at : List Comment → Threads → ℕ → Option Remark
remark_at comments threads place = option_map (remark_of comments threads place) (slice_get comments place)

abbrev pub remarks_of : List Comment → Threads → on.Remarks → Remarks
remarks_of comments threads remarks = record { first = filter_map (remark_at comments threads) remarks.kept; count = on.count_of remarks }

-- the comments on the revision with this number
abbrev pub remarks_on : Nodes → ℕ → Remarks
remarks_on nodes v = remarks_of (comments_of nodes) (package_threads nodes) (package_remarks nodes v)

-- ---- details

-- the flag at this place, from 0, is set: there is one
abbrev pub is_set : List Bool → ℕ → Bool
is_set flags place = unwrap_or (slice_get flags place) false

-- the edit at this place, and 0 where there is none
abbrev pub edit_at : List ℕ → ℕ → ℕ
edit_at edits place = unwrap_or (slice_get edits place) 0

-- the detail of the revision at this place, with its edit, and where it is hidden or not
abbrev pub edited : List ℕ → List Bool → ℕ → Detail → Detail
edited edits hidden place detail = with_hidden (with_edit detail (edit_at edits place)) (is_set hidden place)

-- the same of details of revisions, of which the first stands at this place
abbrev pub edited_from : List ℕ → List Bool → ℕ → List Detail → List Detail
edited_from edits hidden place [] = []
edited_from edits hidden place (detail ∷ more) = edited edits hidden place detail ∷ edited_from edits hidden (place + 1) more

-- the details of the revisions of a package that are wanted, with the clauses and edits of all, and where they are hidden, on which a book
-- has these entries
abbrev pub edited_details : Nodes → List Revision → List Bool → List Entry → List Detail
edited_details nodes revisions wanted book =
    edited_from (package_edits nodes revisions) (package_hidden_members nodes (length revisions)) 0 (numbered_details nodes revisions wanted book)

-- details of revisions, of which the first stands at this place, with the comments on those that are wanted
abbrev pub remarked_from : Nodes → List Bool → ℕ → List Detail → List Detail
remarked_from nodes wanted place [] = []
remarked_from nodes wanted place (detail ∷ more) =
    (if is_set wanted place then with_remarks detail (remarks_on nodes (place + 1)) else detail) ∷ remarked_from nodes wanted (place + 1) more

-- the same with the comments on those that are wanted
unfoldable pub remarked_details : Nodes → List Revision → List Bool → List Entry → List Detail
remarked_details nodes revisions wanted book = remarked_from nodes wanted 0 (edited_details nodes revisions wanted book)
