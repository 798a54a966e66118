use Rattle.std.proofs.Common.{Some, None, true, false, refl, sym, ◌∙◌}
use Rattle.redl_markup.proofs.Values.{opened_as, no_value, some_value}
use Rattle.redl_markup.proofs.attribute.value.Goals as goal

pub returns-in_err-quote : goal.returns-in_err-quote
returns-in_err-quote c = rw c.from_residual.ensures (no_value c.args.bytes.now (opened_as c.args.bytes.now None None c.in_err-quote.ensures refl))

pub returns-in-Some : goal.returns-in-Some
returns-in-Some c =
    some_value c.args.bytes.now c.in_ok-quote.quote c.in_ok-quote.rest.now c.in-Some.value.now c.in-Some.rest.now true c.in_ok-quote.ensures c.in-Some.ensures.0 c.in-Some.ensures.1

pub returns-in_err-value : goal.returns-in_err-value
returns-in_err-value c =
    rw c.from_residual-in_err-value.ensures (no_value c.args.bytes.now (opened_as c.args.bytes.now (Some (c.in_ok-quote.quote, c.in_ok-quote.rest.now)) None c.in_ok-quote.ensures c.in_err-value.ensures))

pub returns-then-is_value : goal.returns-then-is_value
returns-then-is_value c =
    some_value c.args.bytes.now c.in_ok-quote.quote c.in_ok-quote.rest.now c.in_ok-value.value.now c.in_ok-value.rest.now true c.in_ok-quote.ensures c.in_ok-value.ensures (sym c.is_value.ensures ∙ c.if-is_value.true)

pub returns-else-is_value : goal.returns-else-is_value
returns-else-is_value c =
    some_value c.args.bytes.now c.in_ok-quote.quote c.in_ok-quote.rest.now c.in_ok-value.value.now c.in_ok-value.rest.now false c.in_ok-quote.ensures c.in_ok-value.ensures (sym c.is_value.ensures ∙ c.if-is_value.false)
