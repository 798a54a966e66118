-- A date that can be read has no slash.
use Rattle.std.proofs.Common.{◌≡◌, ℕ, ◌+◌, ◌-◌, ◌*◌, true, false, eqb, List, [], ◌∷◌, ◌++◌, length, Option, Some, None, refl, sym, subst, inl, inr, arith}
use Rattle.std.specs.Prelude.{ℤ, pos, ◌&&◌, nat_le, codes}
use Rattle.std.specs.List.{list_all}
use Rattle.std.proofs.lemmas.Bool.Decides.{nat_tests}
use Rattle.std.proofs.lemmas.Option.{same_Some, cond_some}
use Rattle.jiff_core.specs.Calendar.{days_from_civil}
use Rattle.redl_grammar.specs.Characters.{between}
use Rattle.redl_reading.specs.Lists.{behind, front, after, is_other}
use Rattle.redl_reading.specs.Steps.{◌>>=◌}
use Rattle.redl_reading.proofs.Steps.{bind_some}
use Rattle.redl_reading.proofs.Runs.{front-after, front_passes, passes-append}
use Rattle.redl_reading.proofs.Words.{behind_takes}
use Rattle.redl_stamp.specs.Moment.{is_decimal, digit_at, two_digits_at, four_digits_at, marked_digits_at, is_date, seconds_to, date_at, is_time, time_at, behind_digits, behind_fraction, is_at_end, offset_in, ahead, back, zone_in, moment_of}
use Rattle.std.proofs.lemmas.Bool.{and_parts, and_from, cases_Bool}

-- no slash
abbrev pub Lacks : List ℕ → Type 0
Lacks bs = list_all (is_other 47) bs ≡ true

join_lacks : (xs ys : List ℕ) → Lacks xs → Lacks ys → Lacks (xs ++ ys)
join_lacks xs ys h g = passes-append (is_other 47) xs ys h g

digit_is_other : (b : ℕ) → is_decimal b ≡ true → is_other 47 b ≡ true
digit_is_other b h = let other : eqb b 47 ≡ false = grind (arith, nat_tests) in rw other refl

digits_lack : (ds : List ℕ) → list_all is_decimal ds ≡ true → Lacks ds
digits_lack [] h = refl
digits_lack (d ∷ ds) h =
    let both = and_parts (is_decimal d) (list_all is_decimal ds) h in
    and_from (is_other 47 d) (list_all (is_other 47) ds) (digit_is_other d both.0) (digits_lack ds both.1)

-- what is read is without a slash where the rest is
digit_lacks : (bs : List ℕ) (x : ℕ × List ℕ) → digit_at bs ≡ Some x → Lacks x.1 → Lacks bs
digit_lacks [] x e rest = absurd cc
digit_lacks (b ∷ bs) x e rest =
    let c = cond_some (is_decimal b) (b - 48, bs) x e in
    and_from (is_other 47 b) (list_all (is_other 47) bs) (digit_is_other b c.0) (subst (λ (p : ℕ × List ℕ). Lacks p.1) (sym c.1) rest)

two_lack : (bs : List ℕ) (x : ℕ × List ℕ) → two_digits_at bs ≡ Some x → Lacks x.1 → Lacks bs
two_lack bs x e rest =
    let tens = bind_some (digit_at bs) (λ tens. digit_at tens.1 >>= λ ones. Some (tens.0 * 10 + ones.0, ones.1)) x e in
    let ones = bind_some (digit_at tens.0.1) (λ ones. Some (tens.0.0 * 10 + ones.0, ones.1)) x tens.2 in
    let last : Lacks ones.0.1 = subst (λ (p : ℕ × List ℕ). Lacks p.1) (sym (same_Some (tens.0.0 * 10 + ones.0.0, ones.0.1) x ones.2)) rest in
    digit_lacks bs tens.0 tens.1 (digit_lacks tens.0.1 ones.0 ones.1 last)

four_lack : (bs : List ℕ) (x : ℕ × List ℕ) → four_digits_at bs ≡ Some x → Lacks x.1 → Lacks bs
four_lack bs x e rest =
    let high = bind_some (two_digits_at bs) (λ high. two_digits_at high.1 >>= λ low. Some (high.0 * 100 + low.0, low.1)) x e in
    let low = bind_some (two_digits_at high.0.1) (λ low. Some (high.0.0 * 100 + low.0, low.1)) x high.2 in
    let last : Lacks low.0.1 = subst (λ (p : ℕ × List ℕ). Lacks p.1) (sym (same_Some (high.0.0 * 100 + low.0.0, low.0.1) x low.2)) rest in
    two_lack bs high.0 high.1 (two_lack high.0.1 low.0 low.1 last)

word_lacks : (word bs rest : List ℕ) → behind word bs ≡ Some rest → Lacks word → Lacks rest → Lacks bs
word_lacks word bs rest e own h = subst Lacks (sym (behind_takes word bs rest e)) (join_lacks word rest own h)

marked_lack : (mark bs : List ℕ) (x : ℕ × List ℕ) → marked_digits_at mark bs ≡ Some x → Lacks mark → Lacks x.1 → Lacks bs
marked_lack mark bs x e own rest =
    let r = bind_some (behind mark bs) (λ rest. two_digits_at rest) x e in
    word_lacks mark bs r.0 r.1 own (two_lack r.0 x r.2 rest)

date_lacks : (bs : List ℕ) (x : ℤ × List ℕ) → date_at bs ≡ Some x → Lacks x.1 → Lacks bs
unfolding date_at
date_lacks bs x e rest =
    let year = bind_some (four_digits_at bs) _ x e in
    let month = bind_some (marked_digits_at (codes "-") year.0.1) _ x year.2 in
    let day = bind_some (marked_digits_at (codes "-") month.0.1) _ x month.2 in
    let c = cond_some (is_date year.0.0 month.0.0 day.0.0) (seconds_to (days_from_civil (pos year.0.0) month.0.0 day.0.0), day.0.1) x day.2 in
    let last : Lacks day.0.1 = subst (λ (p : ℤ × List ℕ). Lacks p.1) (sym c.1) rest in
    four_lack bs year.0 year.1 (marked_lack (codes "-") year.0.1 month.0 month.1 refl (marked_lack (codes "-") month.0.1 day.0 day.1 refl last))

time_lacks : (bs : List ℕ) (x : ℕ × List ℕ) → time_at bs ≡ Some x → Lacks x.1 → Lacks bs
unfolding time_at
time_lacks bs x e rest =
    let hour = bind_some (two_digits_at bs) _ x e in
    let minute = bind_some (marked_digits_at (codes ":") hour.0.1) _ x hour.2 in
    let second = bind_some (marked_digits_at (codes ":") minute.0.1) _ x minute.2 in
    let c = cond_some (is_time hour.0.0 minute.0.0 second.0.0) (hour.0.0 * 3600 + minute.0.0 * 60 + second.0.0, second.0.1) x second.2 in
    let last : Lacks second.0.1 = subst (λ (p : ℕ × List ℕ). Lacks p.1) (sym c.1) rest in
    two_lack bs hour.0 hour.1 (marked_lack (codes ":") hour.0.1 minute.0 minute.1 refl (marked_lack (codes ":") minute.0.1 second.0 second.1 refl last))

fraction_lacks : (bs rest : List ℕ) → behind_fraction bs ≡ Some rest → Lacks rest → Lacks bs
unfolding behind_fraction
fraction_lacks bs rest e h = of (behind (codes ".") bs) refl e where
  of : (o : Option (List ℕ)) → behind (codes ".") bs ≡ o → behind_digits bs o ≡ Some rest → Lacks bs
  of None is e = subst Lacks (sym (same_Some bs rest e)) h
  of (Some digits) is e =
      let c = cond_some (between 1 9 (length (front is_decimal digits))) (after is_decimal digits) rest e in
      let last : Lacks (after is_decimal digits) = subst Lacks (sym c.1) h in
      let own : Lacks (front is_decimal digits) = digits_lack (front is_decimal digits) (front_passes is_decimal digits) in
      word_lacks (codes ".") bs digits is refl (subst Lacks (front-after is_decimal digits) (join_lacks (front is_decimal digits) (after is_decimal digits) own last))

end_lacks : (bs : List ℕ) → is_at_end bs ≡ true → Lacks bs
end_lacks [] h = refl
end_lacks (b ∷ bs) h = absurd cc

offset_lacks : (bs : List ℕ) (n : ℕ) → offset_in bs ≡ Some n → Lacks bs
unfolding offset_in
offset_lacks bs n e =
    let hours = bind_some (two_digits_at bs) _ n e in
    let minutes = bind_some (marked_digits_at (codes ":") hours.0.1) _ n hours.2 in
    let c = cond_some (nat_le hours.0.0 14 && nat_le minutes.0.0 59 && is_at_end minutes.0.1) (hours.0.0 * 3600 + minutes.0.0 * 60) n minutes.2 in
    let ends = and_parts (nat_le hours.0.0 14 && nat_le minutes.0.0 59) (is_at_end minutes.0.1) c.0 in
    two_lack bs hours.0 hours.1 (marked_lack (codes ":") hours.0.1 minutes.0 minutes.1 refl (end_lacks minutes.0.1 ends.1))

ahead_some : (o : Option ℕ) (z : ℤ) → ahead o ≡ Some z → (n : ℕ) × (o ≡ Some n)
ahead_some None z e = absurd cc
ahead_some (Some n) z e = (n, refl)

back_some : (o : Option ℕ) (z : ℤ) → back o ≡ Some z → (n : ℕ) × (o ≡ Some n)
back_some None z e = absurd cc
back_some (Some n) z e = (n, refl)

mark_lacks : (mark b : ℕ) (bs : List ℕ) → is_other 47 mark ≡ true → eqb b mark ≡ true → Lacks bs → Lacks (b ∷ bs)
mark_lacks mark b bs own same h =
    let e : b ≡ mark = grind (arith, nat_tests, same) in
    and_from (is_other 47 b) (list_all (is_other 47) bs) (subst (λ (m : ℕ). is_other 47 m ≡ true) (sym e) own) h

zone_lacks : (bs : List ℕ) (z : ℤ) → zone_in bs ≡ Some z → Lacks bs
unfolding zone_in
zone_lacks [] z e = refl
zone_lacks (b ∷ bs) z e =
    elim (cases_Bool (eqb b 90 && is_at_end bs)) [
      | inl utc ↦ let both = and_parts (eqb b 90) (is_at_end bs) utc in mark_lacks 90 b bs refl both.0 (end_lacks bs both.1)
      | inr other ↦
          elim (cases_Bool (eqb b 43)) [
            | inl plus ↦
                let h : ahead (offset_in bs) ≡ Some z = rw (other, plus) at e in
                let n = ahead_some (offset_in bs) z h in
                mark_lacks 43 b bs refl plus (offset_lacks bs n.0 n.1)
            | inr no_plus ↦
                elim (cases_Bool (eqb b 45)) [
                  | inl minus ↦
                      let h : back (offset_in bs) ≡ Some z = rw (other, no_plus, minus) at e in
                      let n = back_some (offset_in bs) z h in
                      mark_lacks 45 b bs refl minus (offset_lacks bs n.0 n.1)
                  | inr no_minus ↦ absurd (let h : None ≡ Some z = rw (other, no_plus, no_minus) at e in cc)
                ]
          ]
    ]

pub date_has_no_slash : (text : List ℕ) (s : ℤ) → moment_of text ≡ Some s → Lacks text
unfolding moment_of
date_has_no_slash text s e =
    let date = bind_some (date_at text) _ s e in
    let rest = bind_some (behind (codes "T") date.0.1) _ s date.2 in
    let time = bind_some (time_at rest.0) _ s rest.2 in
    let zone = bind_some (behind_fraction time.0.1) _ s time.2 in
    let ahead = bind_some (zone_in zone.0) _ s zone.2 in
    let fraction = fraction_lacks time.0.1 zone.0 zone.1 (zone_lacks zone.0 ahead.0 ahead.1) in
    date_lacks text date.0 date.1 (word_lacks (codes "T") date.0.1 rest.0 rest.1 refl (time_lacks rest.0 time.0 time.1 fraction))
