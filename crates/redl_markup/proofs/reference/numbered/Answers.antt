use Rattle.redl_markup.proofs.Numbers.{number_refused}
use Rattle.redl_markup.proofs.reference.numbered.Goals as goal

pub returns-in_err-c : goal.returns-in_err-c
returns-in_err-c c =
    rw c.from_residual.ensures (number_refused c.args.base c.number.result c.args.bytes.now c.digits.result.0.now c.digits.ensures.front c.number.ensures c.in_err-c.ensures.value)
