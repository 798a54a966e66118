use Rattle.std.proofs.Common.{◌∙◌, ap, take, drop}
use Rattle.redl_reading.proofs.Runs.{front_found, after_found}
use Rattle.redl_reading.proofs.scan.far_until.Goals as goal

pub returns-clause-front : goal.returns-clause-front
returns-clause-front c = c.split_at.ensures.front ∙ ap (λ n. take n c.args.bytes.now) c.unwrap_or-n.ensures ∙ front_found c.args.byte c.args.bytes.now c.find_byte.result c.find_byte.ensures

pub returns-clause-rest : goal.returns-clause-rest
returns-clause-rest c = c.split_at.ensures.back ∙ ap (λ n. drop n c.args.bytes.now) c.unwrap_or-n.ensures ∙ after_found c.args.byte c.args.bytes.now c.find_byte.result c.find_byte.ensures
