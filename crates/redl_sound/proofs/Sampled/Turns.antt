-- How many revisions the first blocks of a sample have together, and that it is nine for each turn of eight.
use Rattle.std.proofs.Common.{◌≡◌, ℕ, zero, suc, ◌+◌, ◌*◌, ◌/◌, ◌%◌, ◌<◌, refl, sym, ap, ◌∙◌, arith}
use Rattle.redl_sample.specs.Packages.{begun, revisions}
use Rattle.redl_sound.proofs.Sampled.Blocks.{Form, Plain, Insertion, Deletion, Mark, Both, Properties, Table, Move, form_of}
use Rattle.redl_sound.proofs.Sampled.Moved.{revisions_in}

-- the revisions of the blocks before this number
abbrev pub before : ℕ → ℕ
before zero = 0
before (suc k) = before k + revisions_in (form_of k)

one_more : (k r following q : ℕ) (form : Form) → k % 8 ≡ r → form_of k ≡ form → suc k % 8 ≡ following → suc k / 8 ≡ q → before k ≡ revisions k
    → 9 * (k / 8) + begun r + revisions_in form ≡ 9 * q + begun following → before k + revisions_in (form_of k) ≡ revisions (suc k)
one_more k r following q form is form_is next_is turn so_far sum =
    ap (λ n. n + revisions_in (form_of k)) so_far
    ∙ ap (λ m. 9 * (k / 8) + begun m + revisions_in (form_of k)) is
    ∙ ap (λ f. 9 * (k / 8) + begun r + revisions_in f) form_is
    ∙ sum
    ∙ ap (λ m. 9 * q + begun m) (sym next_is)
    ∙ ap (λ m. 9 * m + begun (suc k % 8)) (sym turn)

pub before_is : (k : ℕ) → before k ≡ revisions k
before_is zero = refl
before_is (suc k) = by (k % 8) refl (before_is k)
  where
    low : k % 8 < 8
    low = omega arith

    by : (r : ℕ) → k % 8 ≡ r → before k ≡ revisions k → before k + revisions_in (form_of k) ≡ revisions (suc k)
    by zero e so_far =
        let sum : 9 * (k / 8) + 0 + 0 ≡ 9 * (k / 8) + 0 = omega arith in
        one_more k 0 1 (k / 8) Plain e (rw e refl) (omega (arith, e)) (omega (arith, e)) so_far sum
    by (suc zero) e so_far =
        let sum : 9 * (k / 8) + 0 + 1 ≡ 9 * (k / 8) + 1 = omega arith in
        one_more k 1 2 (k / 8) Insertion e (rw e refl) (omega (arith, e)) (omega (arith, e)) so_far sum
    by (suc (suc zero)) e so_far =
        let sum : 9 * (k / 8) + 1 + 1 ≡ 9 * (k / 8) + 2 = omega arith in
        one_more k 2 3 (k / 8) Deletion e (rw e refl) (omega (arith, e)) (omega (arith, e)) so_far sum
    by (suc (suc (suc zero))) e so_far =
        let sum : 9 * (k / 8) + 2 + 1 ≡ 9 * (k / 8) + 3 = omega arith in
        one_more k 3 4 (k / 8) Mark e (rw e refl) (omega (arith, e)) (omega (arith, e)) so_far sum
    by (suc (suc (suc (suc zero)))) e so_far =
        let sum : 9 * (k / 8) + 3 + 2 ≡ 9 * (k / 8) + 5 = omega arith in
        one_more k 4 5 (k / 8) Both e (rw e refl) (omega (arith, e)) (omega (arith, e)) so_far sum
    by (suc (suc (suc (suc (suc zero))))) e so_far =
        let sum : 9 * (k / 8) + 5 + 1 ≡ 9 * (k / 8) + 6 = omega arith in
        one_more k 5 6 (k / 8) Properties e (rw e refl) (omega (arith, e)) (omega (arith, e)) so_far sum
    by (suc (suc (suc (suc (suc (suc zero)))))) e so_far =
        let sum : 9 * (k / 8) + 6 + 2 ≡ 9 * (k / 8) + 8 = omega arith in
        one_more k 6 7 (k / 8) Table e (rw e refl) (omega (arith, e)) (omega (arith, e)) so_far sum
    by (suc (suc (suc (suc (suc (suc (suc zero))))))) e so_far =
        let sum : 9 * (k / 8) + 8 + 1 ≡ 9 * (k / 8 + 1) + 0 = omega arith in
        one_more k 7 0 (k / 8 + 1) Move e (rw e refl) (omega (arith, e)) (omega (arith, e)) so_far sum
    by (suc (suc (suc (suc (suc (suc (suc (suc r)))))))) e so_far = absurd (omega (arith, low, e))
