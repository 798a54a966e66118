-- The year is 0 to 9999, the month at most 12 and the day at most 31.
use Rattle.std.proofs.Common.{arith, ◌≡◌, ◌+◌, ◌∙◌, ℤ, pos, unsigned_abs, ap, refl, sym, subst, w16}
use Rattle.jiff_core.specs.Calendar.{IsCivilDate, day_count}
use Rattle.jiff_core.proofs.DateLemmas.{civil}
use Rattle.jiff_core.proofs.SignedLemmas.{signed_arith, back_small}
use Rattle.redl_formats.proofs.DateLaws.{day_text-is, natural_is, ymd_text-same}
use Rattle.redl_formats.proofs.dates.day_text.Goals as goal

pub returns : goal.returns
returns c =
    let date = c.day_after-date.result in
    let count = c.day_after-date.ensures.days in
    let is = civil date in
    let natural : date.year ≡ pos (unsigned_abs date.year) = natural_is date.year c.day_after-date.ensures.year in
    let year = ap unsigned_abs (back_small w16 date.year (omega (arith, signed_arith, natural, is.0))) in
    c.ymd_text.ensures
    ∙ (ymd_text-same _ _ _ _ _ _ year refl refl
    ∙ sym (day_text-is (unsigned_abs date.year) date.month date.day c.args.days (subst (λ (y : ℤ). IsCivilDate y date.month date.day) natural is)
    (subst (λ (y : ℤ). day_count y date.month date.day ≡ c.args.days + 3_652_425) natural count)))
