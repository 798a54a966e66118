use Rattle.std.proofs.Common.{Some, None}
use Rattle.redl_markup.specs.Views.{name_view}
use Rattle.redl_markup.proofs.Values.{no_name, some_name}
use Rattle.redl_markup.proofs.attribute.attribute_behind_gap.Goals as goal

pub returns-in_err-name : goal.returns-in_err-name
returns-in_err-name c = rw c.from_residual.ensures (no_name c.args.bytes.now c.in_err-name.ensures)

pub returns-in_err-value : goal.returns-in_err-value
returns-in_err-value c =
    rw c.from_residual-in_err-value.ensures (some_name c.args.bytes.now (name_view c.in_ok-name.name) c.in_ok-name.rest.now None c.in_ok-name.ensures c.in_err-value.ensures)

pub returns : goal.returns
returns c =
    some_name c.args.bytes.now (name_view c.in_ok-name.name) c.in_ok-name.rest.now (Some (c.in_ok-value.value.now, c.in_ok-value.rest.now)) c.in_ok-name.ensures c.in_ok-value.ensures
