use Rattle.redl_opc.proofs.NumberLaws.{shape-numbered, parts-numbered, name-numbered}
use Rattle.redl_opc.proofs.laws.numbering_keeps_parts.Goals as goal

pub returns : goal.returns
returns c = record { shape = shape-numbered; count = parts-numbered; names = name-numbered }
