-- Rows one after another.
use Rattle.std.proofs.Common.{◌≡◌, ◌≤◌, ◌<◌, ◌+◌, ℕ, zero, suc, Bool, true, false, List, [], ◌∷◌, ◌++◌, length, drop, get_or, Option, Some, None, slice_get, unwrap_or, if◌then◌else◌, refl, sym, ap, ◌∙◌, arith, add-one, append_assoc}
use Rattle.std.proofs.Math.Seq.{drop-cons}
use Rattle.std.proofs.lemmas.List.{drop_all, append-nil}
use Rattle.std.proofs.lemmas.Str.{IsUtf8-from_ascii}
use Rattle.std.proofs.lemmas.Str.Ascii.{IsAscii-nil}
use Rattle.redl_index.specs.declared.revision.Revision.{Revision}
use Rattle.redl_join.specs.declared.verdict.Verdict.{Verdict}
use Rattle.redl_excerpts.specs.declared.detail.Detail.{Detail}
use Rattle.redl_excerpts.specs.Details.{IsDetail, no_detail}
use Rattle.redl_listing.specs.Rows.{first_detail, first_shown, shown_rows, more_details, more_shown, told_row, told_rows}
use Rattle.redl_listing.specs.declared.row.Row.{Row}

-- no revision is left
pub told_rows-done : (rows whole : List Row) (parts : List (List ℕ)) (revisions : List Revision) (verdicts : List Verdict) (details : List Detail) (shown : List Bool) (i : ℕ)
    → length revisions ≤ i → rows ++ shown_rows (drop i shown) (told_rows parts (drop i revisions) (drop i verdicts) (drop i details)) ≡ whole → rows ≡ whole
told_rows-done rows whole parts revisions verdicts details shown i h e =
    let none : drop i revisions ≡ [] = drop_all i revisions h in
    sym (append-nil rows) ∙ (rw none at e)

more_details-drop : (details : List Detail) (i : ℕ) → more_details (drop i details) ≡ drop (suc i) details
more_details-drop [] zero = refl
more_details-drop [] (suc i) = refl
more_details-drop (detail ∷ details) zero = refl
more_details-drop (detail ∷ details) (suc i) = more_details-drop details i

more_shown-drop : (shown : List Bool) (i : ℕ) → more_shown (drop i shown) ≡ drop (suc i) shown
more_shown-drop [] zero = refl
more_shown-drop [] (suc i) = refl
more_shown-drop (is_shown ∷ shown) zero = refl
more_shown-drop (is_shown ∷ shown) (suc i) = more_shown-drop shown i

-- the row at a place, and the rows behind it
told_rows-here : (parts : List (List ℕ)) (revisions : List Revision) (verdicts : List Verdict) (details : List Detail) (i : ℕ) (revision : Revision) (verdict : Verdict)
    → i < length revisions → i < length verdicts → revision ≡ get_or revisions i revision → verdict ≡ get_or verdicts i verdict
    → told_rows parts (drop i revisions) (drop i verdicts) (drop i details)
    ≡ told_row parts revision verdict (first_detail (drop i details)) ∷ told_rows parts (drop (i + 1) revisions) (drop (i + 1) verdicts) (drop (i + 1) details)
told_rows-here parts revisions verdicts details i revision verdict within decided at verdict_at =
    let first : drop i revisions ≡ revision ∷ drop (i + 1) revisions = rw (add-one, drop-cons revisions i revision within, ← at) refl in
    let second : drop i verdicts ≡ verdict ∷ drop (i + 1) verdicts = rw (add-one, drop-cons verdicts i verdict decided, ← verdict_at) refl in
    let next_place : suc i ≡ i + 1 = omega arith in
    let third : more_details (drop i details) ≡ drop (i + 1) details = more_details-drop details i ∙ ap (λ (k : ℕ). drop k details) next_place in
    ap (λ rs. told_rows parts rs (drop i verdicts) (drop i details)) first ∙ ap (λ vs. told_rows parts (revision ∷ drop (i + 1) revisions) vs (drop i details)) second
    ∙ ap (λ ds. told_row parts revision verdict (first_detail (drop i details)) ∷ told_rows parts (drop (i + 1) revisions) (drop (i + 1) verdicts) ds) third

-- the shown ones of these rows
shown_rows-here : (shown : List Bool) (rows next : List Row) (row : Row) (i : ℕ) (is_shown : Bool) → is_shown ≡ first_shown (drop i shown) → rows ≡ row ∷ next
    → shown_rows (drop i shown) rows ≡ (if is_shown then row ∷ shown_rows (drop (i + 1) shown) next else shown_rows (drop (i + 1) shown) next)
shown_rows-here shown rows next row i is_shown is whole =
    let next_place : suc i ≡ i + 1 = omega arith in
    let rest : more_shown (drop i shown) ≡ drop (i + 1) shown = more_shown-drop shown i ∙ ap (λ (k : ℕ). drop k shown) next_place in
    ap (shown_rows (drop i shown)) whole ∙ ap (λ ks. if first_shown (drop i shown) then row ∷ shown_rows ks next else shown_rows ks next) rest
    ∙ ap (λ (b : Bool). if b then row ∷ shown_rows (drop (i + 1) shown) next else shown_rows (drop (i + 1) shown) next) (sym is)

-- a row more that is shown
told_rows-more : (rows whole : List Row) (parts : List (List ℕ)) (revisions : List Revision) (verdicts : List Verdict) (details : List Detail) (shown : List Bool) (i : ℕ) (revision : Revision) (verdict : Verdict)
    → i < length revisions → i < length verdicts → revision ≡ get_or revisions i revision → verdict ≡ get_or verdicts i verdict → true ≡ first_shown (drop i shown)
    → rows ++ shown_rows (drop i shown) (told_rows parts (drop i revisions) (drop i verdicts) (drop i details)) ≡ whole
    → (rows ++ told_row parts revision verdict (first_detail (drop i details)) ∷ []) ++ shown_rows (drop (i + 1) shown) (told_rows parts (drop (i + 1) revisions) (drop (i + 1) verdicts) (drop (i + 1) details)) ≡ whole
told_rows-more rows whole parts revisions verdicts details shown i revision verdict within decided at verdict_at is_shown so_far =
    let next = told_rows parts (drop (i + 1) revisions) (drop (i + 1) verdicts) (drop (i + 1) details) in
    let row = told_row parts revision verdict (first_detail (drop i details)) in
    let all = told_rows-here parts revisions verdicts details i revision verdict within decided at verdict_at in
    let here : shown_rows (drop i shown) (told_rows parts (drop i revisions) (drop i verdicts) (drop i details)) ≡ row ∷ shown_rows (drop (i + 1) shown) next =
    shown_rows-here shown _ next row i true is_shown all in
    append_assoc rows (row ∷ []) (shown_rows (drop (i + 1) shown) next) ∙ ap (λ (rs : List Row). rows ++ rs) (sym here) ∙ so_far

-- a row that is not shown
told_rows-skipped : (rows whole : List Row) (parts : List (List ℕ)) (revisions : List Revision) (verdicts : List Verdict) (details : List Detail) (shown : List Bool) (i : ℕ) (revision : Revision) (verdict : Verdict)
    → i < length revisions → i < length verdicts → revision ≡ get_or revisions i revision → verdict ≡ get_or verdicts i verdict → false ≡ first_shown (drop i shown)
    → rows ++ shown_rows (drop i shown) (told_rows parts (drop i revisions) (drop i verdicts) (drop i details)) ≡ whole
    → (rows ++ []) ++ shown_rows (drop (i + 1) shown) (told_rows parts (drop (i + 1) revisions) (drop (i + 1) verdicts) (drop (i + 1) details)) ≡ whole
told_rows-skipped rows whole parts revisions verdicts details shown i revision verdict within decided at verdict_at hidden so_far =
    let next = told_rows parts (drop (i + 1) revisions) (drop (i + 1) verdicts) (drop (i + 1) details) in
    let all = told_rows-here parts revisions verdicts details i revision verdict within decided at verdict_at in
    let here : shown_rows (drop i shown) (told_rows parts (drop i revisions) (drop i verdicts) (drop i details)) ≡ shown_rows (drop (i + 1) shown) next =
    shown_rows-here shown _ next (told_row parts revision verdict (first_detail (drop i details))) i false hidden all in
    ap (λ (rs : List Row). rs ++ shown_rows (drop (i + 1) shown) next) (append-nil rows) ∙ ap (λ (rs : List Row). rows ++ rs) (sym here) ∙ so_far

-- the next revision, whether it is shown or not, where the details behind its own stay as they are
pub told_rows-next : (rows more whole : List Row) (parts : List (List ℕ)) (revisions : List Revision) (verdicts : List Verdict) (details left : List Detail) (shown : List Bool) (i : ℕ)
    (revision : Revision) (verdict : Verdict) (detail : Detail) (is_shown : Bool)
    → i < length revisions → i < length verdicts → revision ≡ get_or revisions i revision → verdict ≡ get_or verdicts i verdict
    → detail ≡ first_detail (drop i details) → drop (i + 1) left ≡ drop (i + 1) details → is_shown ≡ first_shown (drop i shown)
    → more ≡ rows ++ (if is_shown then told_row parts revision verdict detail ∷ [] else [])
    → rows ++ shown_rows (drop i shown) (told_rows parts (drop i revisions) (drop i verdicts) (drop i details)) ≡ whole
    → more ++ shown_rows (drop (i + 1) shown) (told_rows parts (drop (i + 1) revisions) (drop (i + 1) verdicts) (drop (i + 1) left)) ≡ whole
told_rows-next rows more whole parts revisions verdicts details left shown i revision verdict detail is_shown within decided at verdict_at detail_is same is grown so_far =
    ap (λ ds. more ++ shown_rows (drop (i + 1) shown) (told_rows parts (drop (i + 1) revisions) (drop (i + 1) verdicts) ds)) same
    ∙ ap (λ (rs : List Row). rs ++ later) (grown ∙ ap (λ d. rows ++ (if is_shown then told_row parts revision verdict d ∷ [] else [])) detail_is)
    ∙ by is_shown is
  where
    later : List Row
    later = shown_rows (drop (i + 1) shown) (told_rows parts (drop (i + 1) revisions) (drop (i + 1) verdicts) (drop (i + 1) details))

    by : (b : Bool) → b ≡ first_shown (drop i shown) → (rows ++ (if b then told_row parts revision verdict (first_detail (drop i details)) ∷ [] else [])) ++ later ≡ whole
    by true here = told_rows-more rows whole parts revisions verdicts details shown i revision verdict within decided at verdict_at here so_far
    by false here = told_rows-skipped rows whole parts revisions verdicts details shown i revision verdict within decided at verdict_at here so_far

-- where nothing is said of the rows, all are shown
pub shown_rows-all : (rows : List Row) → shown_rows [] rows ≡ rows
shown_rows-all [] = refl
shown_rows-all (row ∷ rows) = ap (λ rs. row ∷ rs) (shown_rows-all rows)

-- whether a row is shown, at its place
pub first_shown-at : (shown : List Bool) (i : ℕ) (o : Option Bool) → slice_get shown i ≡ o → first_shown (drop i shown) ≡ unwrap_or o true
first_shown-at shown i o is = here shown i ∙ ap (λ found. unwrap_or found true) is
  where
    here : (ks : List Bool) (k : ℕ) → first_shown (drop k ks) ≡ unwrap_or (slice_get ks k) true
    here [] zero = refl
    here [] (suc k) = refl
    here (b ∷ ks) zero = refl
    here (b ∷ ks) (suc k) = here ks k

-- the detail, or none
abbrev pub first_or : Option Detail → Detail
first_or None = no_detail
first_or (Some detail) = detail

-- the detail at a place
pub first_detail-at : (details : List Detail) (i : ℕ) (o : Option Detail) → slice_get details i ≡ o → first_detail (drop i details) ≡ first_or o
first_detail-at details i o is = here details i ∙ ap first_or is
  where
    here : (ds : List Detail) (k : ℕ) → first_detail (drop k ds) ≡ first_or (slice_get ds k)
    here [] zero = refl
    here [] (suc k) = refl
    here (d ∷ ds) zero = refl
    here (d ∷ ds) (suc k) = here ds k

-- no detail has texts that are UTF-8
pub no_detail-is : IsDetail no_detail
no_detail-is = record {
  words = IsUtf8-from_ascii [] IsAscii-nil;
  before = IsUtf8-from_ascii [] IsAscii-nil;
  after = IsUtf8-from_ascii [] IsAscii-nil;
  id = tt;
  clause = tt;
  says = λ k d h. absurd (omega (arith, h));
  remarks = λ k d h. absurd (omega (arith, h));
}
