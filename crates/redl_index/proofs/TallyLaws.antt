-- What has been found after the elements of a story.
use Rattle.std.proofs.Common.{◌≡◌, ◌∙◌, refl, ap, sym, ℕ, ◌+◌, ◌-◌, ◌≤◌, List, ◌∷◌, [], ◌++◌, Bool, true, false, ◌&&◌, not, ◌==◌, nat_eq, length, length-append, slice_get, Option, Some, None, if◌then◌else◌, arith}
use Rattle.std.proofs.lemmas.List.{length-set}
use Rattle.indexmap.specs.IndexMap.{insert_entry}
use Rattle.redl_index.specs.Revisions.{revision_of}
use Rattle.redl_index.specs.declared.revision.Revision.{Revision}
use Rattle.redl_index.specs.Mentions.{Mention, Sight}
use Rattle.redl_index.specs.Inside.Tallies.{Tally, with_one_more, replaced, next_number, move_number, known_number, mentioned, noted_by, noted, noted_all}

pub noted_all-append : (part : ℕ) (t : Tally) (xs ys : List Sight) → noted_all part t (xs ++ ys) ≡ noted_all part (noted_all part t xs) ys
noted_all-append part t [] ys = refl
noted_all-append part t (x ∷ xs) ys = noted_all-append part (noted part t x) xs ys

pub length-replaced : (index : List Revision) (place : ℕ) (o : Option Revision) → length (replaced index place o) ≡ length index
length-replaced index place None = refl
length-replaced index place (Some r) = length-set index place (with_one_more r)

length-mentioned : (part : ℕ) (t : Tally) (m : Mention) (o : Option ℕ) → length (mentioned part t m o).index ≤ length t.index + 1
length-mentioned part t m None = omega (arith, length-append t.index (revision_of part (m ∷ []) m (next_number t) ∷ []))
length-mentioned part t m (Some number) = by (m.counts && not (number == 0))
  where
    by : (b : Bool) → length (if b then replaced t.index (number - 1) (slice_get t.index (number - 1)) else t.index) ≤ length t.index + 1
    by true = omega (arith, length-replaced t.index (number - 1) (slice_get t.index (number - 1)))
    by false = omega arith

pub length-noted : (part : ℕ) (t : Tally) (o : Option Mention) → length (noted_by part t o).index ≤ length t.index + 1
length-noted part t None = omega arith
length-noted part t (Some m) = length-mentioned part t m (known_number t.moves m.move)

-- each element adds at most one revision
pub length-noted_all : (part : ℕ) (t : Tally) (xs : List Sight) → length (noted_all part t xs).index ≤ length t.index + length xs
length-noted_all part t [] = omega arith
length-noted_all part t (x ∷ xs) = omega (arith, length-noted part t x.mention, length-noted_all part (noted part t x) xs)

-- ---- the numbers of moves

flip : (a b : ℕ) → (a == b) ≡ (b == a)
flip a b = grind arith

both : (a b c : ℕ) → (a == c) ≡ true → (b == c) ≡ true → (a == b) ≡ true
both a b c p q = grind (arith, p, q)

one : (a b c : ℕ) → (a == c) ≡ true → (b == c) ≡ false → (a == b) ≡ false
one a b c p q = grind (arith, p, q)

-- a move that gets a number has it, and the others keep theirs
pub move_number-insert : (moves : List (ℕ × ℕ)) (start number other : ℕ) →
    move_number (insert_entry nat_eq moves start number) other ≡ (if start == other then Some number else move_number moves other)
move_number-insert [] start number other = ap (λ b. if b then Some number else None) (flip other start)
move_number-insert (e ∷ es) start number other = by (start == e.0) (other == e.0) refl refl (move_number-insert es start number other)
  where
    by : (b c : Bool) → (start == e.0) ≡ b → (other == e.0) ≡ c
        → move_number (insert_entry nat_eq es start number) other ≡ (if start == other then Some number else move_number es other)
        → move_number (if b then (e.0, number) ∷ es else e ∷ insert_entry nat_eq es start number) other ≡ (if start == other then Some number else if c then Some e.1 else move_number es other)
    by true true p q more =
        ap (λ c. if c then Some number else move_number es other) q ∙ ap (λ c. if c then Some number else Some e.1) (sym (both start other e.0 p q))
    by true false p q more =
        ap (λ c. if c then Some number else move_number es other) q ∙ ap (λ c. if c then Some number else move_number es other) (sym (one start other e.0 p q))
    by false true p q more =
        ap (λ c. if c then Some e.1 else move_number (insert_entry nat_eq es start number) other) q
        ∙ ap (λ c. if c then Some number else Some e.1) (sym (flip start other ∙ one other start e.0 q p))
    by false false p q more = ap (λ c. if c then Some e.1 else move_number (insert_entry nat_eq es start number) other) q ∙ more
