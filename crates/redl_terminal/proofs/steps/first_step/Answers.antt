use Rattle.std.proofs.Common.{sym, arith}
use Rattle.redl_terminal.proofs.MaskLaws.{masked-hidden}
use Rattle.redl_terminal.proofs.steps.first_step.Goals as goal

pub returns-in_default-clause-masked : goal.returns-in_default-clause-masked
returns-in_default-clause-masked c =
    masked-hidden c.args.extent c.args.bytes.now c.args.first c.args.rest.now c.hidden_length.result c.requires (sym c.hidden_length.ensures.value) (omega arith)
