-- A date is text.
use Rattle.std.proofs.Common.{◌≡◌, refl, rules, subst, sym, w64, to_z-of_z, SFits}
use Rattle.std.specs.Int.{cast_signed, cast_unsigned}
use Rattle.std.specs.Str.{IsUtf8}
use Rattle.json.specs.Token.{string}
use Rattle.redl_formats.specs.Fields.{date_token}
use Rattle.redl_formats.proofs.DateLaws.{moment_text-utf8}
use Rattle.redl_formats.proofs.members.put_date.Goals as goal

pub put_text-requires : goal.put_text-requires
put_text-requires c =
    let text = subst IsUtf8 (sym c.moment_text.ensures) (moment_text-utf8 (cast_signed w64 (cast_unsigned w64 c.in-Some.seconds))) in
    search rules

pub returns-in-Some-clause-written : goal.returns-in-Some-clause-written
returns-in-Some-clause-written c =
    let fits : SFits w64 c.in-Some.seconds = search rules in
    let text = simp (to_z-of_z, fits) at c.moment_text.ensures in
    let is : date_token c.args.seconds ≡ string c.moment_text.result = rw (c.in-Some.is, text) refl in
    rw is (search rules)
