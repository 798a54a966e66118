-- Which revisions a listing shows, one after another.
use Rattle.std.proofs.Common.{◌≡◌, ◌≤◌, ◌<◌, ◌+◌, ℕ, Bool, true, false, List, [], ◌∷◌, ◌++◌, length, drop, get_or, refl, sym, ap, ◌∙◌, add-one, append_assoc, if◌then◌else◌}
use Rattle.std.proofs.Math.Seq.{drop-cons}
use Rattle.std.proofs.lemmas.List.{drop_all, append-nil}
use Rattle.std.specs.List.{list_all}
use Rattle.redl_index.specs.declared.revision.Revision.{Revision}
use Rattle.redl_join.specs.declared.verdict.Verdict.{Verdict}
use Rattle.redl_commands_shown.specs.Shown.{ask_edits, asks, shown_revisions, shows}
use Rattle.redl_select.proofs.ChosenLaws.{chooses-unasked}
use Rattle.redl_words.specs.Shown.{Only, chosen, decided}
use Rattle.std.proofs.lemmas.Bool.{or_parts}

-- no revision is left
pub shown-done : (shown whole : List Bool) (edits : List ℕ) (wanted : List Only) (revisions : List Revision) (verdicts : List Verdict) (i : ℕ)
    → length revisions ≤ i → shown ++ shown_revisions edits wanted (drop i revisions) (drop i verdicts) ≡ whole → shown ≡ whole
shown-done shown whole edits wanted revisions verdicts i past so_far =
    let none : drop i revisions ≡ [] = drop_all i revisions past in
    sym (append-nil shown) ∙ (rw none at so_far)

-- one revision more
pub shown-more : (shown more whole : List Bool) (edits : List ℕ) (wanted : List Only) (revisions : List Revision) (verdicts : List Verdict) (i : ℕ) (revision : Revision) (verdict : Verdict) (is_shown : Bool)
    → i < length revisions → i < length verdicts → revision ≡ get_or revisions i revision → verdict ≡ get_or verdicts i verdict
    → is_shown ≡ list_all (shows edits revision verdict) wanted → more ≡ shown ++ is_shown ∷ []
    → shown ++ shown_revisions edits wanted (drop i revisions) (drop i verdicts) ≡ whole
    → more ++ shown_revisions edits wanted (drop (i + 1) revisions) (drop (i + 1) verdicts) ≡ whole
shown-more shown more whole edits wanted revisions verdicts i revision verdict is_shown within judged at verdict_at is grown so_far =
    let first : drop i revisions ≡ revision ∷ drop (i + 1) revisions = rw (add-one, drop-cons revisions i revision within, ← at) refl in
    let second : drop i verdicts ≡ verdict ∷ drop (i + 1) verdicts = rw (add-one, drop-cons verdicts i verdict judged, ← verdict_at) refl in
    let next = shown_revisions edits wanted (drop (i + 1) revisions) (drop (i + 1) verdicts) in
    let here : shown_revisions edits wanted (drop i revisions) (drop i verdicts) ≡ is_shown ∷ next =
    ap (λ rs. shown_revisions edits wanted rs (drop i verdicts)) first ∙ ap (λ vs. shown_revisions edits wanted (revision ∷ drop (i + 1) revisions) vs) second
    ∙ ap (λ (b : Bool). b ∷ next) (sym is) in
    ap (λ (bs : List Bool). bs ++ next) grown ∙ append_assoc shown (is_shown ∷ []) next ∙ ap (λ (bs : List Bool). shown ++ bs) (sym here) ∙ so_far

-- ---- where nothing that is wanted depends on edits

shows-unasked : (edits others : List ℕ) (revision : Revision) (verdict : Verdict) (only : Only) → asks only ≡ false
    → shows edits revision verdict only ≡ shows others revision verdict only
shows-unasked edits others revision verdict (chosen selection) none = chooses-unasked selection edits others revision none
shows-unasked edits others revision verdict (decided wanted) none = refl

all-unasked : (edits others : List ℕ) (revision : Revision) (verdict : Verdict) (wanted : List Only) → ask_edits wanted ≡ false
    → list_all (shows edits revision verdict) wanted ≡ list_all (shows others revision verdict) wanted
all-unasked edits others revision verdict [] none = refl
all-unasked edits others revision verdict (only ∷ wanted) none =
    let parts = or_parts (asks only) (ask_edits wanted) none in
    rw (shows-unasked edits others revision verdict only parts.0, all-unasked edits others revision verdict wanted parts.1) refl

shown-unasked : (edits others : List ℕ) (wanted : List Only) (revisions : List Revision) (verdicts : List Verdict) → ask_edits wanted ≡ false
    → shown_revisions edits wanted revisions verdicts ≡ shown_revisions others wanted revisions verdicts
shown-unasked edits others wanted [] verdicts none = refl
shown-unasked edits others wanted (revision ∷ revisions) [] none = refl
shown-unasked edits others wanted (revision ∷ revisions) (verdict ∷ verdicts) none =
    rw (all-unasked edits others revision verdict wanted none, shown-unasked edits others wanted revisions verdicts none) refl

-- edits that are looked for where something asks for them show the same as all of them
pub shown-asked : (edits : List ℕ) (wanted : List Only) (revisions : List Revision) (verdicts : List Verdict)
    → shown_revisions (if ask_edits wanted then edits else []) wanted revisions verdicts ≡ shown_revisions edits wanted revisions verdicts
shown-asked edits wanted revisions verdicts = by (ask_edits wanted) refl
  where
    by : (asked : Bool) → ask_edits wanted ≡ asked → shown_revisions (if asked then edits else []) wanted revisions verdicts ≡ shown_revisions edits wanted revisions verdicts
    by true is = refl
    by false is = shown-unasked [] edits wanted revisions verdicts is
