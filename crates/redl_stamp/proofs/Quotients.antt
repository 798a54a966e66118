-- The seconds of whole days, from the quotient of their nanoseconds.
use Rattle.std.proofs.Common.{◌≡◌, ℕ, zero, suc, ◌*◌, ◌/◌, ◌<◌, ℤ, pos, negsuc, neg_ℤ, ◌-ℤ◌, ◌*ℤ◌, int_div, refl, ap, ◌∙◌, arith}
use Rattle.std.proofs.Math.Nat.{zero-div, mul-div_cancel, mul_assoc}
use Rattle.jiff_core.specs.declared.civil.date.Date.{Date}
use Rattle.jiff_core.specs.Calendar.{days_from_civil}
use Rattle.jiff_core.specs.Date.{epoch_day}
use Rattle.jiff_core.proofs.SignedLemmas.{signed_arith}

quotient-neg : (n d : ℕ) → int_div (neg_ℤ (pos n)) (pos d) ≡ neg_ℤ (pos (n / d))
quotient-neg zero d = rw (zero-div d) refl
quotient-neg (suc n) d = refl

quotient-whole : (k a d : ℕ) → 0 < d → (k * (a * d)) / d ≡ k * a
quotient-whole k a d h = rw (← mul_assoc k a d) (mul-div_cancel (k * a) h)

-- a multiple of d, divided by d
int_div-whole : (k : ℤ) (a d : ℕ) → 0 < d → int_div (k *ℤ pos (a * d)) (pos d) ≡ k *ℤ pos a
int_div-whole (pos k) a d h = ap pos (quotient-whole k a d h)
int_div-whole (negsuc k) a d h =
    quotient-neg (suc k * (a * d)) d ∙ ap (λ (n : ℕ). neg_ℤ (pos n)) (quotient-whole (suc k) a d h)

-- 1970-01-01 is the day from which days are counted
pub epoch_day-first : (d : Date) → d.year ≡ pos 1970 → d.month ≡ 1 → d.day ≡ 1 → epoch_day d ≡ pos 0
unfolding days_from_civil
epoch_day-first d year month day = rw (year, month, day) (omega (arith, signed_arith))

-- the nanoseconds from a first day to another, in whole seconds
pub seconds_between : (days first nanos : ℤ) → first ≡ pos 0 → nanos ≡ (days -ℤ first) *ℤ pos 86_400_000_000_000 → int_div nanos (pos 1_000_000_000) ≡ days *ℤ pos 86_400
seconds_between days first nanos e h =
    let since : days -ℤ first ≡ days = omega (arith, signed_arith) in
    let whole : nanos ≡ days *ℤ pos 86_400_000_000_000 = rw since at h in
    rw whole (int_div-whole days 86_400 1_000_000_000 (omega arith))
