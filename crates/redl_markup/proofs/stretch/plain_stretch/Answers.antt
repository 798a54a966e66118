use Rattle.std.proofs.Common.{◌≡◌, ◌∙◌, sym, rules, true}
use Rattle.redl_reading.specs.Lists.{is_filled}
use Rattle.redl_markup.proofs.Plain.{plain_is_stretch}
use Rattle.redl_markup.proofs.stretch.plain_stretch.Goals as goal

pub returns : goal.returns
returns c =
    let some : is_filled c.near_until_any.result.0.now ≡ true = search rules in
    plain_is_stretch c.args.bytes.now c.near_until_any.result.0.now c.near_until_any.result.1.now c.near_until_any.ensures.front c.near_until_any.ensures.rest some (sym c.ends_stretch.ensures ∙ c.if-not-ends_stretch.false)
