use Rattle.std.proofs.Common.{Some, None, refl}
use Rattle.redl_reading.specs.Lists.{field_at}
use Rattle.redl_markup.proofs.Values.{opened_as}
use Rattle.redl_markup.proofs.attribute.equated.Goals as goal

pub returns-in_err-quote : goal.returns-in_err-quote
returns-in_err-quote c = rw c.from_residual.ensures (opened_as c.args.bytes.now None None c.in_err-quote.ensures refl)

pub returns : goal.returns
returns c =
    let quote = c.in_ok-quote.quote in
    let rest = c.in_ok-quote.rest.now in
    rw (opened_as c.args.bytes.now (Some (quote, rest)) (field_at quote rest) c.in_ok-quote.ensures refl) c.field.ensures
