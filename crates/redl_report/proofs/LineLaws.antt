-- Lines that count one by one, and lists of lines.
use Rattle.std.proofs.Common.{◌≡◌, ◌∙◌, ◌+◌, ◌≤◌, ◌<◌, ℕ, Bool, true, false, cond, List, [], ◌∷◌, ◌++◌, map, filter, length, length-append, refl, sym, ap, arith}
use Rattle.std.proofs.lemmas.List.{length-map}
use Rattle.redl_join.specs.declared.verdict.Verdict.{Verdict}
use Rattle.redl_join.specs.declared.verdict.Verdict.TheVariants.{Undecided, Accept, Reject, Disputed}
use Rattle.redl_report.specs.declared.line.ReportLine.{ReportLine}
use Rattle.redl_report.specs.declared.line.Role.{Role}
use Rattle.redl_report.specs.Reports.{is_accept, is_disputed, is_reject, is_undecided, line_of}
use Rattle.redl_report.specs.Counts.{sum_of, with_verdict}

-- the four counts of a line add up to the number of its revisions
pub counts-add_up : (role : Role) (who : List ℕ) (verdicts : List Verdict) → sum_of (line_of role who verdicts) ≡ length verdicts
counts-add_up role who [] = refl
counts-add_up role who (Accept ∷ rest) = omega (arith, counts-add_up role who rest)
counts-add_up role who (Reject ∷ rest) = omega (arith, counts-add_up role who rest)
counts-add_up role who (Disputed ∷ rest) = omega (arith, counts-add_up role who rest)
counts-add_up role who (Undecided ∷ rest) = omega (arith, counts-add_up role who rest)

-- ---- a verdict more

count-more : (p : Verdict → Bool) (verdicts : List Verdict) (verdict : Verdict) → length (filter p (verdicts ++ verdict ∷ [])) ≡ length (filter p verdicts) + cond (p verdict) 1 0
count-more p [] verdict = by (p verdict) where
  by : (b : Bool) → length (cond b (verdict ∷ []) []) ≡ 0 + cond b 1 0
  by true = refl
  by false = refl
count-more p (first ∷ rest) verdict = by (p first) (count-more p rest verdict) where
  by : (b : Bool) → length (filter p (rest ++ verdict ∷ [])) ≡ length (filter p rest) + cond (p verdict) 1 0
      → length (cond b (first ∷ filter p (rest ++ verdict ∷ [])) (filter p (rest ++ verdict ∷ []))) ≡ length (cond b (first ∷ filter p rest) (filter p rest)) + cond (p verdict) 1 0
  by true is = omega (arith, is)
  by false is = is

grown : (p : Verdict → Bool) (verdicts : List Verdict) (verdict : Verdict) → p verdict ≡ true → length (filter p verdicts) + 1 ≡ length (filter p (verdicts ++ verdict ∷ []))
grown p verdicts verdict is = sym (rw is at (count-more p verdicts verdict))

same : (p : Verdict → Bool) (verdicts : List Verdict) (verdict : Verdict) → p verdict ≡ false → length (filter p verdicts) ≡ length (filter p (verdicts ++ verdict ∷ []))
same p verdicts verdict is = let more : length (filter p (verdicts ++ verdict ∷ [])) ≡ length (filter p verdicts) + 0 = rw is at (count-more p verdicts verdict) in omega (arith, more)

abbrev line : Role → List ℕ → ℕ → ℕ → ℕ → ℕ → ReportLine
line role who accept reject disputed undecided = record { role = role; who = who; accept = accept; reject = reject; disputed = disputed; undecided = undecided }

same_line : (role : Role) (who : List ℕ) (a b c d e f g h : ℕ) → a ≡ e → b ≡ f → c ≡ g → d ≡ h → line role who a b c d ≡ line role who e f g h
same_line role who a b c d e f g h p q r s = λ i. line role who (p i) (q i) (r i) (s i)

pub line-more : (role : Role) (who : List ℕ) (verdicts : List Verdict) (verdict : Verdict) → with_verdict (line_of role who verdicts) verdict ≡ line_of role who (verdicts ++ verdict ∷ [])
line-more role who verdicts Accept =
    same_line role who _ _ _ _ _ _ _ _ (grown is_accept verdicts Accept refl) (same is_reject verdicts Accept refl) (same is_disputed verdicts Accept refl) (same is_undecided verdicts Accept refl)
line-more role who verdicts Reject =
    same_line role who _ _ _ _ _ _ _ _ (same is_accept verdicts Reject refl) (grown is_reject verdicts Reject refl) (same is_disputed verdicts Reject refl) (same is_undecided verdicts Reject refl)
line-more role who verdicts Disputed =
    same_line role who _ _ _ _ _ _ _ _ (same is_accept verdicts Disputed refl) (same is_reject verdicts Disputed refl) (grown is_disputed verdicts Disputed refl) (same is_undecided verdicts Disputed refl)
line-more role who verdicts Undecided =
    same_line role who _ _ _ _ _ _ _ _ (same is_accept verdicts Undecided refl) (same is_reject verdicts Undecided refl) (same is_disputed verdicts Undecided refl) (grown is_undecided verdicts Undecided refl)

-- ---- room for a verdict more

-- while one thing more is to be counted, fewer are counted than there are
pub room : {X : Type 0} (verdict_of : X → Verdict) (role : Role) (who : List ℕ) (line : ReportLine) (before rest all : List X) (x : X) (limit : ℕ)
    → line ≡ line_of role who (map verdict_of before) → all ≡ before ++ (x ∷ rest) → length all ≤ limit → sum_of line < limit
room verdict_of role who line before rest all x limit is whole few =
    let sum : sum_of line ≡ length before = ap sum_of is ∙ counts-add_up role who (map verdict_of before) ∙ length-map before verdict_of in
    let long : length all ≡ length before + length (x ∷ rest) = ap length whole ∙ length-append before (x ∷ rest) in
    omega (arith, sum, long, few)
