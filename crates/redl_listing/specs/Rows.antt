-- The rows of a listing: what it says of each revision (our own rule).
use Rattle.std.specs.Prelude.{ℕ, ◌||◌, Bool, true, List, [], ◌∷◌, IsTrue, IfSome, bytes_eq, codes, if◌then◌else◌, unwrap_or, slice_get}
use Rattle.std.specs.Str.{IsUtf8}
use Rattle.redl_excerpts.specs.declared.detail.Detail.{Detail}
use Rattle.redl_excerpts.specs.Details.{IsDetail, no_detail}
use Rattle.redl_stamp.specs.Moment.{IsMoment}
use Rattle.redl_kinds.specs.Kinds.{is_named}
use Rattle.redl_index.specs.declared.revision.Revision.{Revision}
use Rattle.redl_join.specs.declared.verdict.Verdict.{Verdict}
use Rattle.redl_listing.specs.declared.listing.Listed.{Listed}
use Rattle.redl_listing.specs.declared.row.Row.{Row}

-- what a row keeps: its kind has a name, its texts are UTF-8, and its moment lies in the years 0000 to 9999
pub record IsRow (row : Row) : Type 0 where
  pub named : IsTrue (is_named row.kind)
  pub author : IsUtf8 row.author
  pub part : IsUtf8 row.part
  pub moment : IfSome row.seconds IsMoment
  pub detail : IsDetail row.detail

-- the formats of the program that show details
abbrev pub shows_details : List ℕ → Bool
shows_details name = bytes_eq name (codes "words") || bytes_eq name (codes "full")

-- the row of a revision on which this was decided, with this detail, where these are the names of the parts
abbrev pub told_row : List (List ℕ) → Revision → Verdict → Detail → Row
told_row parts revision verdict detail = record {
  number = revision.number;
  kind = revision.kind;
  verdict = verdict;
  author = revision.author;
  seconds = revision.seconds;
  part = unwrap_or (slice_get parts revision.part) [];
  members = revision.members;
  detail = detail;
}

-- the detail at a place, or none
abbrev pub first_detail : List Detail → Detail
first_detail [] = no_detail
first_detail (detail ∷ more) = detail

abbrev pub more_details : List Detail → List Detail
more_details [] = []
more_details (detail ∷ more) = more

-- the rows of revisions, each with what was decided on it and with its detail; those that are missing are none
abbrev pub told_rows : List (List ℕ) → List Revision → List Verdict → List Detail → List Row
told_rows parts [] verdicts details = []
told_rows parts (revision ∷ revisions) [] details = []
told_rows parts (revision ∷ revisions) (verdict ∷ verdicts) details =
    told_row parts revision verdict (first_detail details) ∷ told_rows parts revisions verdicts (more_details details)

-- ---- the rows that are shown

-- whether the first row is shown; one of which nothing is said is
abbrev pub first_shown : List Bool → Bool
first_shown [] = true
first_shown (is_shown ∷ more) = is_shown

abbrev pub more_shown : List Bool → List Bool
more_shown [] = []
more_shown (is_shown ∷ more) = more

-- the rows that are shown, in their order
abbrev pub shown_rows : List Bool → List Row → List Row
shown_rows shown [] = []
shown_rows shown (row ∷ rows) = if first_shown shown then row ∷ shown_rows (more_shown shown) rows else shown_rows (more_shown shown) rows

-- all rows, without details
abbrev pub rows_of : List (List ℕ) → List Revision → List Verdict → List Row
rows_of parts revisions verdicts = told_rows parts revisions verdicts []

-- the rows of what is listed, with these details
abbrev pub listed_rows : Listed → List Detail → List Row
listed_rows listed details = shown_rows listed.shown.now (told_rows listed.parts.now listed.index.now listed.verdicts.now details)
