-- Ranks: what was read is what the digits are, and what they are is read.
use Rattle.std.proofs.Common.{◌≡◌, ℕ, ◌≤◌, ◌<◌, ◌^◌, true, List, Some, refl, sym, ap, subst, ◌∙◌, arith}
use Rattle.std.specs.Prelude.{decimal, nat_le}
use Rattle.std.proofs.lemmas.Bool.Decides.{nat_tests}
use Rattle.std.proofs.lemmas.Option.{cond_some}
use Rattle.redl_journal.specs.Reading.{number_in}
use Rattle.redl_journal.proofs.Parts.{number_takes, number_again}
use Rattle.redl_reading.proofs.Steps.{bind_some}
use Rattle.redl_words.specs.Reading.Ranks.{rank_in}

is_low : (n : ℕ) → nat_le n 9 ≡ true → n ≤ 9
is_low n h = grind (arith, nat_tests)

low_is : (n : ℕ) → n ≤ 9 → nat_le n 9 ≡ true
low_is n h = grind (arith, nat_tests)

small : (n : ℕ) → n ≤ 9 → n < 2 ^ 32
small n h = omega arith

pub rank_takes : (digits : List ℕ) (rank : ℕ) → rank_in digits ≡ Some rank → (decimal rank ≡ digits) × (rank ≤ 9)
unfolding rank_in
rank_takes digits rank e =
    let n = bind_some (number_in digits) _ rank e in
    let c = cond_some (nat_le n.0 9) n.0 rank n.2 in
    (ap decimal (sym c.1) ∙ (number_takes digits n.0 n.1).0, subst (λ (m : ℕ). m ≤ 9) c.1 (is_low n.0 c.0))

pub rank_again : (rank : ℕ) → rank ≤ 9 → rank_in (decimal rank) ≡ Some rank
unfolding rank_in
rank_again rank h = rw (number_again rank (small rank h), low_is rank h) refl
