-- Formats by their names, and what is left of their list.
use Rattle.std.proofs.Common.{◌≡◌, ◌+◌, ◌<◌, ◌≤◌, inl, inr, ℕ, suc, length, get_or, drop, remove, List, [], ◌∷◌, Bool, true, false, Option, None, Some, Result, Ok, Err, refl, sym, ap, ◌∙◌, subst, cond, add-one, arith}
use Rattle.std.proofs.Math.Seq.{drop-cons}
use Rattle.std.proofs.lemmas.List.{drop_all}
use Rattle.std.proofs.lemmas.Iterator.Adapters.{position_from-zero}
use Rattle.std.proofs.lemmas.List.FromFn.{length-map-range_with_len}
use Rattle.std.specs.List.{position_from, slice_get}
use Rattle.std.specs.Option.{option_map}
use Rattle.std.specs.Str.{bytes_eq}
use Rattle.redl_lines.proofs.CauseLaws.{by_cause}
use Rattle.redl_inputs.specs.Admission.{Admission}
use Rattle.redl_commands_shown.specs.List.{listing, listing_named, part_names, session_details, session_rows, session_shown, session_verdicts}
use Rattle.redl_commands.specs.Endings.{Finishes}
use Rattle.redl_commands_shown.specs.Formats.{Format, LeavesFormats, format_named, formats_by, found_format, place_named, whether}
use Rattle.redl_inputs.specs.Reading.{Reads}
use Rattle.redl_inputs.specs.Steps.{◌>>=◌}
use Rattle.redl_commands.specs.Writing.{Writing, outcome_of}
use Rattle.redl_journal.specs.declared.entry.Entry.{Entry}
use Rattle.redl_lines.specs.Remarks.{all_refused}
use Rattle.redl_lines.specs.Ends.{End, end_status, written_status}
use Rattle.redl_lines.specs.Refused.{RefusedEntries}
use Rattle.redl_lines.specs.Failures.{Failure, caused, unread, no_memory, no_format, failure_status}
use Rattle.redl_excerpts.specs.declared.detail.Detail.{Detail}
use Rattle.redl_formats.specs.Formats.{IsListed, first_named, without_named}
use Rattle.redl_index.specs.declared.revision.Revision.{Revision}
use Rattle.redl_join.specs.Verdicts.{verdict_at}
use Rattle.redl_join.specs.declared.verdict.Verdict.{Verdict}
use Rattle.redl_listing.specs.Rows.{shown_rows, told_rows}
use Rattle.redl_listing.specs.declared.row.Row.{Row}
use Rattle.redl_report.specs.declared.line.ReportLine.{ReportLine}
use Rattle.redl_commands_shown.specs.Report.{report_named, report_of, session_lines}
use Rattle.redl_session.specs.Says.{verdicts_of}
use Rattle.redl_words.specs.Shown.{Only}

-- ---- the first format of a name

-- a format, by its name and by the text that it gives
abbrev pub format_by : {I F : Type 0} → (F → List ℕ) → (F → List I → Bool → List ℕ) → F → Format I
format_by name_of text_of format = record { name = name_of format; text = λ rows. text_of format rows true }

first_named-by : {I F : Type 0} (name_of : F → List ℕ) (text_of : F → List I → Bool → List ℕ) (name : List ℕ) (formats : List F)
    → first_named (λ (format : Format I). format.name) name (formats_by name_of text_of formats) ≡ option_map (format_by name_of text_of) (first_named name_of name formats)
first_named-by {I} name_of text_of name [] = refl
first_named-by {I} name_of text_of name (format ∷ more) =
    elim (bytes_eq (name_of format) name) as (λ test.
    cond test (Some (format_by name_of text_of format)) (first_named (λ (one : Format I). one.name) name (formats_by name_of text_of more))
    ≡ option_map (format_by name_of text_of) (cond test (Some format) (first_named name_of name more))) [
      | true ↦ refl
      | false ↦ first_named-by name_of text_of name more
    ]

-- what the search for a format gives, by what it found among the formats
pub named-by : {I F : Type 0} (name_of : F → List ℕ) (text_of : F → List I → Bool → List ℕ) (name : List ℕ) (formats : List F)
    → format_named (formats_by name_of text_of formats) name ≡ found_format name (option_map (format_by name_of text_of) (first_named name_of name formats))
named-by name_of text_of name formats = ap (found_format name) (first_named-by name_of text_of name formats)

-- ---- the place of a name

-- the format at this place is the first that has the name
pub record IsPlaced {F : Type 0} (name_of : F → List ℕ) (name : List ℕ) (formats : List F) (place : ℕ) : Type 0 where
  pub format : F
  pub within : place < length formats
  pub here : slice_get formats place ≡ Some format
  pub first : first_named name_of name formats ≡ Some format
  pub others : remove formats place ≡ without_named name_of name formats

-- a search that counts from here found one so many places on
record IsPlacedFrom {F : Type 0} (name_of : F → List ℕ) (name : List ℕ) (formats : List F) (from found : ℕ) : Type 0 where
  place : ℕ
  is : found ≡ from + place
  placed : IsPlaced name_of name formats place

-- the format here has the name, or the search goes on
placed_at : {F : Type 0} (name_of : F → List ℕ) (name : List ℕ) (format : F) (more : List F) (from found : ℕ) (test : Bool) → bytes_eq (name_of format) name ≡ test
    → (position_from (λ format. bytes_eq (name_of format) name) (from + 1) more ≡ Some found → IsPlacedFrom name_of name more (from + 1) found)
    → cond test (Some from) (position_from (λ format. bytes_eq (name_of format) name) (from + 1) more) ≡ Some found
    → IsPlacedFrom name_of name (format ∷ more) from found
placed_at name_of name format more from found true here later is = record {
  place = 0;
  is = grind (arith, is);
  placed = record { format = format; within = omega arith; here = refl; first = rw here refl; others = rw here refl };
}
placed_at name_of name format more from found false other later is =
    let next = later is in
    let at = next.placed in
    record {
      place = suc next.place;
      is = omega (arith, next.is);
      placed = record {
        format = at.format;
        within = omega (arith, at.within);
        here = at.here;
        first = rw other at.first;
        others = rw other (ap (λ rest. format ∷ rest) at.others);
      };
    }

-- what a search finds is placed
placed_from : {F : Type 0} (name_of : F → List ℕ) (name : List ℕ) (formats : List F) (from found : ℕ) → position_from (λ format. bytes_eq (name_of format) name) from formats ≡ Some found
    → IsPlacedFrom name_of name formats from found
placed_from name_of name [] from found is = absurd (cc is)
placed_from name_of name (format ∷ more) from found is = placed_at name_of name format more from found (bytes_eq (name_of format) name) refl (λ next. placed_from name_of name more (from + 1) found next) is

-- a search that finds nothing: no format has the name
unplaced_from : {F : Type 0} (name_of : F → List ℕ) (name : List ℕ) (formats : List F) (from : ℕ) → position_from (λ format. bytes_eq (name_of format) name) from formats ≡ None
    → first_named name_of name formats ≡ None
unplaced_from name_of name [] from none = refl
unplaced_from {F} name_of name (format ∷ more) from none =
    elim (bytes_eq (name_of format) name) as (λ test. cond test (Some from) (position_from (λ (format : F). bytes_eq (name_of format) name) (from + 1) more) ≡ None
    → cond test (Some format) (first_named name_of name more) ≡ None) [
      | true ↦ λ is. absurd (cc is)
      | false ↦ λ is. unplaced_from name_of name more (from + 1) is
    ] none

-- what stands at the place of a name
pub placed : {F : Type 0} (name_of : F → List ℕ) (name : List ℕ) (formats : List F) (place : ℕ) → place_named name_of name formats ≡ Some place → IsPlaced name_of name formats place
placed {F} name_of name formats place is =
    let from = placed_from name_of name formats 0 place (sym (position_from-zero (λ (format : F). bytes_eq (name_of format) name) formats) ∙ is) in
    let same : from.place ≡ place = omega (arith, from.is) in
    subst (IsPlaced name_of name formats) same from.placed

-- the place of the first format from this one on that has the name
abbrev pub place_from : {F : Type 0} → (F → List ℕ) → List ℕ → List F → ℕ → Option ℕ
place_from name_of name formats i = position_from (λ format. bytes_eq (name_of format) name) i (drop i formats)

-- a search by name starts at the first format
pub placed_first : {F : Type 0} (name_of : F → List ℕ) (name : List ℕ) (formats : List F)
    → place_from name_of name formats 0 ≡ place_named name_of name formats
placed_first {F} name_of name formats = sym (position_from-zero (λ (format : F). bytes_eq (name_of format) name) formats)

-- the format at this place is the first that has the name, if none before it does
pub placed_here : {F : Type 0} (name_of : F → List ℕ) (name : List ℕ) (formats : List F) (i : ℕ) (x : F) → i < length formats → x ≡ get_or formats i x
    → bytes_eq (name_of x) name ≡ true → place_from name_of name formats i ≡ place_named name_of name formats
    → Some i ≡ place_named name_of name formats
placed_here name_of name formats i x within at here so_far = rw (drop-cons formats i x within, ← at, here) at so_far

-- the format at this place has another name
pub placed_later : {F : Type 0} (name_of : F → List ℕ) (name : List ℕ) (formats : List F) (i : ℕ) (x : F) → i < length formats → x ≡ get_or formats i x
    → bytes_eq (name_of x) name ≡ false → place_from name_of name formats i ≡ place_named name_of name formats
    → place_from name_of name formats (i + 1) ≡ place_named name_of name formats
placed_later name_of name formats i x within at other so_far =
    subst (λ rest. position_from (λ format. bytes_eq (name_of format) name) (i + 1) rest ≡ place_named name_of name formats)
    (ap (λ k. drop k formats) (sym (add-one i))) (rw (drop-cons formats i x within, ← at, other) at so_far)

-- no format has the name
pub placed_nowhere : {F : Type 0} (name_of : F → List ℕ) (name : List ℕ) (formats : List F) (i : ℕ) → length formats ≤ i
    → place_from name_of name formats i ≡ place_named name_of name formats
    → None ≡ place_named name_of name formats
placed_nowhere name_of name formats i past so_far = rw (drop_all i formats past) at so_far

-- a format that has a place is there
pub placed_there : {I F : Type 0} (name_of : F → List ℕ) (text_of : F → List I → Bool → List ℕ) (name : List ℕ) (formats : List F) (place : ℕ) → place_named name_of name formats ≡ Some place
    → whether (format_named (formats_by name_of text_of formats) name) ≡ Ok tt
placed_there name_of text_of name formats place is =
    let at = placed name_of name formats place is in
    ap whether (named-by name_of text_of name formats) ∙ ap (λ found. whether (found_format name (option_map (format_by name_of text_of) found))) at.first

-- and one that has none isn't
pub unplaced : {I F : Type 0} (name_of : F → List ℕ) (text_of : F → List I → Bool → List ℕ) (name : List ℕ) (formats : List F) → place_named name_of name formats ≡ None
    → whether (format_named (formats_by name_of text_of formats) name) ≡ Err (caused (no_format name))
unplaced {I} {F} name_of text_of name formats none =
    let absent = unplaced_from name_of name formats 0 (sym (position_from-zero (λ (format : F). bytes_eq (name_of format) name) formats) ∙ none) in
    ap whether (named-by name_of text_of name formats) ∙ ap (λ found. whether (found_format name (option_map (format_by name_of text_of) found))) absent

-- what the format at the place of a name made, the first that has the name made
listed_first : {F : Type 0} (name_of : F → List ℕ) (text : F → List ℕ) (name : List ℕ) (formats : List F) (place : ℕ) (made : List ℕ) → place_named name_of name formats ≡ Some place
    → IsListed (slice_get formats place) text true made → IsListed (first_named name_of name formats) text true made
listed_first name_of text name formats place made is listed =
    let at = placed name_of name formats place is in
    subst (λ one. IsListed one text true made) (at.here ∙ sym at.first) listed

-- ---- a listing

-- a listing with this text, by an admission
abbrev pub made_by : Admission → List ℕ → Writing
made_by admission bytes = record { bytes = bytes; remarks = admission.remarks }

listed_by : {F : Type 0} (name_of : F → List ℕ) (text_of : F → List Row → Bool → List ℕ) (name : List ℕ) (wanted : List Only) (admission : Admission) (made : List ℕ) (first : Option F)
    → IsListed first (λ format. text_of format (session_rows name wanted admission.state) true) true made
    → found_format name (option_map (format_by name_of text_of) first) >>= (λ format. Ok (listing name wanted admission format)) ≡ Ok (made_by admission made)
listed_by name_of text_of name wanted admission made None (found, is) = absurd (cc found)
listed_by name_of text_of name wanted admission made (Some format) (found, is) = ap (λ bytes. Ok (made_by admission bytes)) (sym is)

-- the format was found
pub listed_text : {F : Type 0} (name_of : F → List ℕ) (text_of : F → List Row → Bool → List ℕ) (name : List ℕ) (wanted : List Only) (admission : Admission) (made : List ℕ) (formats : List F)
    → IsListed (first_named name_of name formats) (λ format. text_of format (session_rows name wanted admission.state) true) true made
    → listing_named (formats_by name_of text_of formats) name wanted admission ≡ Ok (made_by admission made)
listed_text name_of text_of name wanted admission made formats is =
    ap (λ found. found >>= (λ format. Ok (listing name wanted admission format))) (named-by name_of text_of name formats)
    ∙ listed_by name_of text_of name wanted admission made (first_named name_of name formats) is

-- as many verdicts as revisions
pub verdicts_for : (book : List Entry) (count : ℕ) (verdicts : List Verdict) → verdicts ≡ verdicts_of book count → length verdicts ≡ count
verdicts_for book count verdicts is = ap length is ∙ length-map-range_with_len (verdict_at book) 1 count

-- the same rows and verdicts make the same listing
pub listed_same : {F : Type 0} {shown others : List Bool} {verdicts same : List Verdict} (text_of : F → List Row → Bool → List ℕ) (first : Option F) (made : List ℕ)
    (parts : List (List ℕ)) (revisions : List Revision) (details : List Detail) → shown ≡ others → verdicts ≡ same
    → IsListed first (λ format. text_of format (shown_rows shown (told_rows parts revisions verdicts details)) true) true made
    → IsListed first (λ format. text_of format (shown_rows others (told_rows parts revisions same details)) true) true made
listed_same {others = others} {verdicts = verdicts} text_of first made parts revisions details of_shown of_verdicts listed =
    subst (λ vs. IsListed first (λ format. text_of format (shown_rows others (told_rows parts revisions vs details)) true) true made) of_verdicts
    (subst (λ (ss : List Bool). IsListed first (λ format. text_of format (shown_rows ss (told_rows parts revisions verdicts details)) true) true made) of_shown listed)

-- the format at the place of the name made the listing
pub reads_listing : {F : Type 0} (name_of : F → List ℕ) (text_of : F → List Row → Bool → List ℕ) (name : List ℕ) (wanted : List Only) (admission : Admission) (formats : List F)
    (parts : List (List ℕ)) (revisions : List Revision) (verdicts : List Verdict) (details : List Detail) (shown : List Bool) (place : ℕ) (made : List ℕ)
    → parts ≡ part_names admission.state.nodes → revisions ≡ admission.state.revisions → verdicts ≡ session_verdicts admission.state
    → details ≡ session_details name wanted admission.state → shown ≡ session_shown wanted admission.state
    → place_named name_of name formats ≡ Some place
    → IsListed (slice_get formats place) (λ format. text_of format (shown_rows shown (told_rows parts revisions verdicts details)) true) true made
    → Reads (Ok (made_by admission made)) (λ reader. listing_named (formats_by name_of text_of formats) name wanted admission)
reads_listing name_of text_of name wanted admission formats parts revisions verdicts details shown place made of_parts of_revisions of_verdicts of_details of_shown at listed =
    let first = listed_first name_of _ name formats place made at listed in
    record {
      as_due = λ reader reads. listed_text name_of text_of name wanted admission made formats (rw (of_shown, of_parts, of_revisions, of_verdicts, of_details) at first);
      of_no_file = tt;
    }

-- ---- a report

reported_by : {F : Type 0} (name_of : F → List ℕ) (text_of : F → List ReportLine → Bool → List ℕ) (name : List ℕ) (by_kind : Bool) (admission : Admission) (made : List ℕ) (first : Option F)
    → IsListed first (λ format. text_of format (session_lines by_kind admission.state) true) true made
    → found_format name (option_map (format_by name_of text_of) first) >>= (λ format. Ok (report_of by_kind admission format)) ≡ Ok (made_by admission made)
reported_by name_of text_of name by_kind admission made None (found, is) = absurd (cc found)
reported_by name_of text_of name by_kind admission made (Some format) (found, is) = ap (λ bytes. Ok (made_by admission bytes)) (sym is)

-- the format at the place of the name made the report
pub reads_report : {F : Type 0} (name_of : F → List ℕ) (text_of : F → List ReportLine → Bool → List ℕ) (name : List ℕ) (by_kind : Bool) (admission : Admission) (reports : List F)
    (lines : List ReportLine) (place : ℕ) (made : List ℕ) → lines ≡ session_lines by_kind admission.state
    → place_named name_of name reports ≡ Some place
    → IsListed (slice_get reports place) (λ format. text_of format lines true) true made
    → Reads (Ok (made_by admission made)) (λ reader. report_named (formats_by name_of text_of reports) name by_kind admission)
reads_report name_of text_of name by_kind admission reports lines place made of_lines at listed =
    let first = listed_first name_of _ name reports place made at listed in
    record {
      as_due = λ reader reads.
          ap (λ one. one >>= (λ format. Ok (report_of by_kind admission format))) (named-by name_of text_of name reports)
          ∙ reported_by name_of text_of name by_kind admission made (first_named name_of name reports) (rw of_lines at first);
      of_no_file = tt;
    }

-- ---- what is left of the formats

pub leaves_written : {F : Type 0} (without old new : List F) (refused : RefusedEntries) → new ≡ without → LeavesFormats (written_status refused) without old new
leaves_written without old new [] is = is
leaves_written without old new (entry ∷ refused) is = is

pub leaves_failed : {F : Type 0} (without old new : List F) (failure : Failure) → new ≡ old → LeavesFormats (failure_status failure) without old new
leaves_failed without old new no_memory is = inl is
leaves_failed without old new (unread name) is = is
leaves_failed without old new (caused cause) is = by_cause (λ s. LeavesFormats s without old new) is is is is is is is cause

taken_by : {F : Type 0} (without old new : List F) (refused : RefusedEntries) → LeavesFormats (written_status refused) without old new → new ≡ without
taken_by without old new [] is = is
taken_by without old new (entry ∷ refused) is = is

-- what was made leaves the formats as its end does
pub leaves_end : {F : Type 0} (without old new : List F) {K : Type 0} (told : K → Option (List ℕ)) (faults : K → ℕ) (out out_new : K) (made : Result Writing Failure) (end : End)
    → Finishes told faults out out_new made end → LeavesFormats (outcome_of made).status without old new → LeavesFormats (end_status end) without old new
leaves_end without old new told faults out out_new (Ok writing) end (inl (is, all)) left = rw is left
leaves_end without old new told faults out out_new (Ok writing) end (inr (is, front)) left = rw is (taken_by without old new (all_refused writing.remarks) left)
leaves_end without old new told faults out out_new (Err failure) end (is, same, stands) left = rw is left
