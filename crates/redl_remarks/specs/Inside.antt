-- Details with comments, by what was found of a package.
use Rattle.std.specs.Prelude.{ℕ, ◌+◌, Bool, List, [], ◌∷◌, IfSome, slice_get, Option, Some, None, if◌then◌else◌}
use Rattle.redl_stamp.specs.Moment.{IsMoment}
use Rattle.redl_commented.specs.On as on
use Rattle.redl_commented.specs.declared.package.Commented.{Commented}
use Rattle.redl_comments.specs.Threads.{Threads}
use Rattle.redl_comments.specs.declared.comment.Comment.{Comment}
use Rattle.redl_excerpts.specs.Details.{with_remarks}
use Rattle.redl_excerpts.specs.Remarks.{Remarks, no_remarks}
use Rattle.redl_excerpts.specs.declared.detail.Detail.{Detail}
use Rattle.redl_remarks.specs.Ids.{ids_line}
use Rattle.redl_remarks.specs.Remarked.{is_set, remarks_of}

-- a date that can be read lies in the years 0000 to 9999
abbrev pub IsDated : Comment → Type 0
IsDated comment = IfSome comment.seconds IsMoment

abbrev pub remarks_if : List Comment → Threads → Option on.Remarks → Remarks
remarks_if comments threads None = no_remarks
remarks_if comments threads (Some remarks) = remarks_of comments threads remarks

-- the comments on the revision at this place
abbrev pub remarks_at : Commented → ℕ → Remarks
remarks_at found place = remarks_if found.comments.items found.threads (slice_get found.on.items place)

-- the detail of the revision at this place, with the comments on it if it is wanted
abbrev pub remarked : Commented → List Bool → ℕ → Detail → Detail
remarked found wanted place detail = if is_set wanted place then with_remarks detail (remarks_at found place) else detail

-- the details of the revisions from this place on
abbrev pub all_remarked : Commented → List Bool → ℕ → List Detail → List Detail
all_remarked found wanted place [] = []
all_remarked found wanted place (detail ∷ more) = remarked found wanted place detail ∷ all_remarked found wanted (place + 1) more

-- ---- ids

abbrev pub ids_if : List Comment → Option on.Remarks → List ℕ
ids_if comments None = []
ids_if comments (Some remarks) = ids_line comments remarks.kept

-- the ids of the comments on the revision at this place
abbrev pub ids_at : Commented → ℕ → List ℕ
ids_at found place = ids_if found.comments.items (slice_get found.on.items place)
