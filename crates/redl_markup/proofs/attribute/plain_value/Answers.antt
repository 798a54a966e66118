use Rattle.redl_markup.proofs.Values.{plain_found}
use Rattle.redl_markup.proofs.attribute.plain_value.Goals as goal

pub returns : goal.returns
returns c =
    plain_found c.args.quote c.args.bytes.now c.near_until_any.result.0.now c.near_until_any.result.1.now c.in_ok-rest.rest.now c.near_until_any.ensures.front c.near_until_any.ensures.rest c.in_ok-rest.ensures
