-- The lesser of two labels in place of both.
use Rattle.std.proofs.Common.{◌≡◌, ◌≢◌, ◌≤◌, inl, inr, ℕ, zero, suc, min, refl, ◌∙◌, arith}
use Rattle.std.proofs.Math.Nat.{min-zero, zero-min, min-le_left, min-le_right}
use Rattle.std.proofs.lemmas.Bool.Decides.{eqb_tells}
use Rattle.redl_classes.specs.Least.{merged}

pub merged-one : (one two : ℕ) → merged one two one ≡ min one two
merged-one one two = elim (eqb_tells one one) [
  | inl same ↦ rw same.0 refl
  | inr other ↦ absurd (other.1 refl)
]

pub merged-two : (one two : ℕ) → merged one two two ≡ min one two
merged-two one two = elim (eqb_tells two one) [
  | inl same ↦ rw same.0 refl
  | inr other ↦ rw other.0 (elim (eqb_tells two two) [ inl same ↦ rw same.0 refl | inr wrong ↦ absurd (wrong.1 refl) ])
]

pub merged-other : (one two label : ℕ) → label ≢ one → label ≢ two → merged one two label ≡ label
merged-other one two label not_one not_two = elim (eqb_tells label one) [
  | inl same ↦ absurd (not_one same.1)
  | inr other ↦ rw other.0 (elim (eqb_tells label two) [ inl same ↦ absurd (not_two same.1) | inr wrong ↦ rw wrong.0 refl ])
]

pub merged-zero : (one two : ℕ) → merged one two 0 ≡ 0
merged-zero zero two = merged-one 0 two ∙ zero-min two
merged-zero (suc one) zero = merged-two (suc one) 0 ∙ min-zero (suc one)
merged-zero (suc one) (suc two) =
    let not_one : 0 ≢ suc one = omega arith in
    let not_two : 0 ≢ suc two = omega arith in
    merged-other (suc one) (suc two) 0 not_one not_two

pub merged-down : (one two label : ℕ) → merged one two label ≤ label
merged-down one two label = elim (eqb_tells label one) [
  | inl same ↦ rw same.0 (rw same.1 (min-le_left one two))
  | inr other ↦ rw other.0 (elim (eqb_tells label two) [ inl same ↦ rw same.0 (rw same.1 (min-le_right one two)) | inr wrong ↦ rw wrong.0 (omega arith) ])
]
