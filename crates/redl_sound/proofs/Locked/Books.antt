-- A book of admitted entries says nothing of a revision that a lock holds.
use Rattle.std.proofs.Common.{◌≡◌, ◌∙◌, refl, ap, sym, ℕ, zero, suc, ◌+◌, ◌-◌, ◌&&◌, ◌||◌, nat_lt, Bool, true, false, true≢false, List, [], ◌∷◌, All, map, slice_get, length, is_none, Option, Some, None, option_map, unwrap_or, arith, if◌then◌else◌}
use Rattle.std.specs.List.{list_any, range_with_len}
use Rattle.std.proofs.lemmas.List.Elements.{All-head, All-tail}
use Rattle.std.proofs.lemmas.Map.Views.{All-insert_key}
use Rattle.std.proofs.lemmas.Bool.{and_left, eqb-true}
use Rattle.redl_index.specs.declared.revision.Revision.{Revision}
use Rattle.redl_join.specs.Books.{is_on, with_entry}
use Rattle.redl_join.specs.Verdicts.{counts, speaks, decides, is_accept, is_reject, verdict_of, verdict_at}
use Rattle.redl_join.specs.declared.verdict.Verdict.TheVariants.{Undecided}
use Rattle.redl_journal.specs.Order.{entry_order}
use Rattle.redl_journal.specs.declared.entry.Entry.{Entry}
use Rattle.redl_kinds.specs.Locks.{is_author, is_kind}
use Rattle.redl_select.specs.Locks.{holds}
use Rattle.redl_kinds.specs.declared.lock.Lock.{Lock}
use Rattle.redl_session.specs.Bars.{bar_of}
use Rattle.redl_session.specs.Refusals.{revision_at, cause_on, cause_of}
use Rattle.redl_session.specs.Says.{say_of_verdict, says_of}
use Rattle.redl_session.specs.Sessions.{SessionState, after, says}
use Rattle.redl_session.specs.declared.refusal.AdmitError.{AdmitError}
use Rattle.redl_session.specs.declared.refusal.AdmitError.TheVariants.{Locked}
use Rattle.redl_session.specs.declared.refusal.Bar.{Bar}
use Rattle.redl_session.specs.declared.refusal.Bar.TheVariants.{Author, Kind, Span}
use Rattle.redl_tree.specs.Decisions.Fates.{say_of}
use Rattle.redl_tree.specs.declared.kinds.Say.TheVariants.{Keep}

-- no entry of these is on the revision
abbrev pub AreElsewhere : ℕ → List Entry → Type 0
AreElsewhere rev entries = All (λ (entry : Entry). is_on rev entry ≡ false) entries

-- ---- the verdict

module _ (entries : List Entry) (rev : ℕ) where
  decides-none : (entry : Entry) → is_on rev entry ≡ false → decides entries rev entry ≡ false
  decides-none entry e =
      and_left (speaks entries rev entry) _ (and_left (counts entries rev entry) _ (and_left (is_on rev entry) _ e))

  any-none : (test : Entry → Bool) (xs : List Entry) → AreElsewhere rev xs → list_any (λ entry. decides entries rev entry && test entry) xs ≡ false
  any-none test [] none = refl
  any-none test (x ∷ xs) none =
      ap (λ b. b || list_any (λ entry. decides entries rev entry && test entry) xs)
      (and_left (decides entries rev x) (test x) (decides-none x (All-head (λ (entry : Entry). is_on rev entry ≡ false) x xs none)))
      ∙ any-none test xs (All-tail (λ (entry : Entry). is_on rev entry ≡ false) x xs none)

  undecided : AreElsewhere rev entries → verdict_at entries rev ≡ Undecided
  undecided none =
      ap (λ b. verdict_of b (list_any (λ entry. decides entries rev entry && is_reject entry) entries)) (any-none is_accept entries none)
      ∙ ap (verdict_of false) (any-none is_reject entries none)

-- ---- the say

say-at : (book : List Entry) (first count place : ℕ) → verdict_at book (first + place) ≡ Undecided
    → unwrap_or (slice_get (map (λ rev. say_of_verdict (verdict_at book rev)) (range_with_len first count)) place) Keep ≡ Keep
say-at book first zero place e = refl
say-at book first (suc count) zero e =
    let none : first ≡ first + 0 = omega arith in
    ap (λ n. say_of_verdict (verdict_at book n)) none ∙ ap say_of_verdict e
say-at book first (suc count) (suc place) e =
    let one : (first + 1) + place ≡ first + suc place = omega arith in
    say-at book (first + 1) count place (ap (verdict_at book) one ∙ e)

pub kept-elsewhere : (book : List Entry) (count place : ℕ) → AreElsewhere (suc place) book → say_of (says_of book count) (suc place) ≡ Keep
kept-elsewhere book count place none =
    let one : 1 + place ≡ suc place = omega arith in
    say-at book 1 count place (ap (verdict_at book) one ∙ undecided book (suc place) none)

-- ---- admissions

-- a lock that holds the revision bars it
pub barred : (locks : List Lock) (revision : Revision) → list_any (holds revision) locks ≡ true → (bar : Bar) × (bar_of locks revision ≡ Some bar)
barred locks revision e =
    by (list_any (λ lock. is_author lock && holds revision lock) locks) (list_any (λ lock. is_kind lock && holds revision lock) locks) (list_any (λ lock. holds revision lock) locks) e
  where
    by : (a b c : Bool) → c ≡ true → (bar : Bar) × ((if a then Some Author else if b then Some Kind else if c then Some Span else None) ≡ Some bar)
    by true b c e = (Author, refl)
    by false true c e = (Kind, refl)
    by false false true e = (Span, refl)
    by false false false e = absurd (true≢false (sym e))

module _ (locks : List Lock) (revisions : List Revision) (place : ℕ) (revision : Revision) (at : slice_get revisions place ≡ Some revision) (bar : Bar)
    (is : bar_of locks revision ≡ Some bar) where
  cause-there : (entry : Entry) → is_on (suc place) entry ≡ true → cause_of revisions locks entry ≡ Some (Locked bar)
  cause-there entry e =
      let there : entry.rev ≡ suc place = eqb-true entry.rev (suc place) e in
      let begun : nat_lt 0 (suc place) ≡ true = grind arith in
      let less : suc place - 1 ≡ place = omega arith in
      ap (λ n. cause_on locks (revision_at revisions n)) there
      ∙ ap (λ b. cause_on locks (if b then slice_get revisions (suc place - 1) else None)) begun
      ∙ ap (λ n. cause_on locks (slice_get revisions n)) less
      ∙ ap (cause_on locks) at
      ∙ ap (option_map Locked) is

  -- what is admitted is not on the revision
  admitted-elsewhere : (entry : Entry) → cause_of revisions locks entry ≡ None → is_on (suc place) entry ≡ false
  admitted-elsewhere entry none = by (is_on (suc place) entry) refl
    where
      by : (b : Bool) → is_on (suc place) entry ≡ b → b ≡ false
      by false e = refl
      by true e = let no : None ≡ Some (Locked bar) = sym none ∙ cause-there entry e in absurd (cc)

-- ---- a session

module _ (place : ℕ) (revision : Revision) (bar : Bar) where
  after-one : (state : SessionState) (entry : Entry) → slice_get state.revisions place ≡ Some revision → bar_of state.locks revision ≡ Some bar → AreElsewhere (suc place) state.book
      → (o : Option AdmitError) → cause_of state.revisions state.locks entry ≡ o
      → AreElsewhere (suc place) (if is_none o then record state { book = with_entry state.book entry } else state).book
  after-one state entry at is none None e =
      All-insert_key entry_order entry (λ (x : Entry). is_on (suc place) x ≡ false) state.book none
      (admitted-elsewhere state.locks state.revisions place revision at bar is entry e)
  after-one state entry at is none (Some why) e = none

  pub still-elsewhere : (state : SessionState) (entries : List Entry) → slice_get state.revisions place ≡ Some revision → bar_of state.locks revision ≡ Some bar
      → AreElsewhere (suc place) state.book → say_of (says (after state entries)) (suc place) ≡ Keep
  still-elsewhere state [] at is none = kept-elsewhere state.book (length state.revisions) place none
  still-elsewhere state (entry ∷ entries) at is none =
      by (cause_of state.revisions state.locks entry) refl (λ later there barred_so away. still-elsewhere later entries there barred_so away)
    where
      Rest : Type 0
      Rest = (later : SessionState) → slice_get later.revisions place ≡ Some revision → bar_of later.locks revision ≡ Some bar → AreElsewhere (suc place) later.book
          → say_of (says (after later entries)) (suc place) ≡ Keep

      by : (o : Option AdmitError) → cause_of state.revisions state.locks entry ≡ o → Rest
          → say_of (says (after (if is_none o then record state { book = with_entry state.book entry } else state) entries)) (suc place) ≡ Keep
      by None e rest = rest (record state { book = with_entry state.book entry }) at is (after-one state entry at is none None e)
      by (Some why) e rest = rest state at is none
