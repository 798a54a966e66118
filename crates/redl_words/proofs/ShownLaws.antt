-- Which revisions a listing shows: what was read is what the text means, and what the text means is read.
use Rattle.std.proofs.Common.{◌≡◌, ℕ, List, Option, Some, None, refl, sym, ap, subst, ◌∙◌}
use Rattle.std.specs.Prelude.{codes, option_map}
use Rattle.std.specs.Str.{bytes_eq}
use Rattle.std.proofs.lemmas.Option.{same_Some}
use Rattle.redl_reading.proofs.Options.{map_some}
use Rattle.redl_join.specs.declared.verdict.Verdict.{Verdict}
use Rattle.redl_join.specs.declared.verdict.Verdict.TheVariants.{Undecided, Accept, Reject, Disputed}
use Rattle.redl_kinds.specs.Selections.{Selection}
use Rattle.redl_reading.specs.Lists.{field_at}
use Rattle.redl_words.specs.Selections.{Means}
use Rattle.redl_words.specs.Shown.{Only, chosen, decided, verdict_text, MeansOnly}
use Rattle.redl_words.specs.Reading.Selections.{selection_in}
use Rattle.redl_words.specs.Reading.Shown.{verdict_in, decided_or, only_in}
use Rattle.redl_words.proofs.SelectionLaws.{bytes_same, pick, selection_takes, selection_again}

verdict_takes : (word : List ℕ) (v : Verdict) → verdict_in word ≡ Some v → word ≡ verdict_text v
unfolding verdict_in
verdict_takes word v e =
    pick P (bytes_eq word (codes "open")) Undecided _ v e (λ hit. bytes_same word (codes "open") hit) (λ e.
    pick P (bytes_eq word (codes "accept")) Accept _ v e (λ hit. bytes_same word (codes "accept") hit) (λ e.
    pick P (bytes_eq word (codes "reject")) Reject _ v e (λ hit. bytes_same word (codes "reject") hit) (λ e.
    pick P (bytes_eq word (codes "disputed")) Disputed _ v e (λ hit. bytes_same word (codes "disputed") hit) (λ e. absurd cc)))) where
      P : Verdict → Type 0
      P v = word ≡ verdict_text v

verdict_again : (v : Verdict) → verdict_in (verdict_text v) ≡ Some v
unfolding verdict_in
verdict_again Undecided = refl
verdict_again Accept = refl
verdict_again Reject = refl
verdict_again Disputed = refl

-- the name of a verdict chooses nothing
unread : (v : Verdict) → selection_in (verdict_text v) ≡ None
unfolding selection_in field_at
unread Undecided = refl
unread Accept = refl
unread Reject = refl
unread Disputed = refl

-- the text of a selection names no verdict
no_verdict : (text : List ℕ) (s : Selection) → Means text s → (v : Verdict) → text ≡ verdict_text v → ⊥
no_verdict text s h v e =
    let read : selection_in (verdict_text v) ≡ Some s = ap selection_in (sym e) ∙ selection_again text s h in
    let none = unread v in
    cc

pub only_takes : (text : List ℕ) (wanted : Only) → only_in text ≡ Some wanted → MeansOnly text wanted
unfolding only_in
only_takes text wanted e = of (verdict_in text) refl e where
  of : (o : Option Verdict) → verdict_in text ≡ o → decided_or o text ≡ Some wanted → MeansOnly text wanted
  of (Some v) is e = subst (MeansOnly text) (same_Some (decided v) wanted e) (verdict_takes text v is)
  of None is e =
      let s = map_some chosen (selection_in text) wanted e in
      subst (MeansOnly text) s.2 (selection_takes text s.0 s.1)

pub only_again : (text : List ℕ) (wanted : Only) → MeansOnly text wanted → only_in text ≡ Some wanted
unfolding only_in
only_again text (decided v) h = rw (ap verdict_in h ∙ verdict_again v) refl
only_again text (chosen s) h = of (verdict_in text) refl where
  of : (o : Option Verdict) → verdict_in text ≡ o → decided_or (verdict_in text) text ≡ Some (chosen s)
  of None is = rw is (ap (option_map chosen) (selection_again text s h))
  of (Some v) is = absurd (no_verdict text s h v (verdict_takes text v is))
