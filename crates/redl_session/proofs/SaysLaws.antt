-- The says of a book, one for each revision, and how one entry changes them.
use Rattle.std.proofs.Common.{◌≡◌, ◌≢◌, ℕ, zero, suc, ◌+◌, ◌-◌, ◌<◌, ◌≤◌, false, ◌==◌, List, [], ◌∷◌, map, set, length, replicate, refl, sym, ap, ◌∙◌, arith}
use Rattle.std.proofs.lemmas.Bool.{false_from_ne_true, eqb-true}
use Rattle.std.proofs.lemmas.List.FromFn.{length-range_with_len, length-map-range_with_len}
use Rattle.std.proofs.lemmas.Simd.{splat_is_map}
use Rattle.std.specs.List.{range_with_len}
use Rattle.redl_join.proofs.Verdicts.{verdict_at-other}
use Rattle.redl_join.specs.Books.{IsBook, is_on, with_entry}
use Rattle.redl_join.specs.Verdicts.{verdict_at}
use Rattle.redl_journal.specs.declared.entry.Entry.{Entry}
use Rattle.redl_session.specs.Says.{say_of_verdict, says_of}
use Rattle.redl_tree.specs.declared.kinds.Say.TheVariants.{Keep}

map_alike : {X : Type 0} (f g : ℕ → X) (a n : ℕ) → ((k : ℕ) → a ≤ k → f k ≡ g k) → map f (range_with_len a n) ≡ map g (range_with_len a n)
map_alike f g a zero alike = refl
map_alike {X} f g a (suc n) alike =
    ap (λ (x : X). x ∷ map f (range_with_len (a + 1) n)) (alike a (omega arith))
    ∙ ap (λ (xs : List X). g a ∷ xs) (map_alike f g (a + 1) n (λ k above. alike k (omega (arith, above))))

-- a list by number whose rule changes at one number alone
set_alike : {X : Type 0} (f g : ℕ → X) (a n i j : ℕ) → ((k : ℕ) → k ≢ j → f k ≡ g k) → a + i ≡ j → i < n
    → set (map f (range_with_len a n)) i (g j) ≡ map g (range_with_len a n)
set_alike f g a zero i j alike place within = absurd (omega (arith, within))
set_alike {X} f g a (suc n) zero j alike place within =
    let here : j ≡ a = omega (arith, place) in
    ap (λ (m : ℕ). g m ∷ map f (range_with_len (a + 1) n)) here
    ∙ ap (λ (xs : List X). g a ∷ xs) (map_alike f g (a + 1) n (λ k above. alike k (λ same. omega (arith, above, same, here))))
set_alike {X} f g a (suc n) (suc i) j alike place within =
    ap (λ (x : X). x ∷ set (map f (range_with_len (a + 1) n)) i (g j)) (alike a (λ same. omega (arith, place, same)))
    ∙ ap (λ (xs : List X). g a ∷ xs) (set_alike f g (a + 1) n i j alike (omega (arith, place)) (omega (arith, within)))

-- there is one say for each revision
pub length-says_of : (book : List Entry) (n : ℕ) → length (says_of book n) ≡ n
length-says_of book n = length-map-range_with_len (λ rev. say_of_verdict (verdict_at book rev)) 1 n

-- a book without entries keeps all
pub says_of-none : (n : ℕ) → replicate n Keep ≡ says_of [] n
says_of-none n = splat_is_map (range_with_len 1 n) n Keep (length-range_with_len 1 n)

other_revision : (rev : ℕ) (entry : Entry) → rev ≢ entry.rev → is_on rev entry ≡ false
other_revision rev entry differs = false_from_ne_true (entry.rev == rev) (λ same. differs (sym (eqb-true entry.rev rev same)))

-- one entry changes the say of its own revision at most
pub says_of-with : (book : List Entry) (entry : Entry) (n : ℕ) → IsBook book → 0 < entry.rev → entry.rev ≤ n
    → set (says_of book n) (entry.rev - 1) (say_of_verdict (verdict_at (with_entry book entry) entry.rev)) ≡ says_of (with_entry book entry) n
says_of-with book entry n sorted some within =
    set_alike (λ rev. say_of_verdict (verdict_at book rev)) (λ rev. say_of_verdict (verdict_at (with_entry book entry) rev)) 1 n (entry.rev - 1) entry.rev
    (λ rev differs. ap say_of_verdict (sym (verdict_at-other rev book entry sorted (other_revision rev entry differs))))
    (omega arith) (omega arith)
