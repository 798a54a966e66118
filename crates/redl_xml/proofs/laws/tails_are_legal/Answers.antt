use Rattle.redl_xml.proofs.Answered.{tails_are_legal}
use Rattle.redl_xml.proofs.laws.tails_are_legal.Goals as goal

pub returns : goal.returns
returns c = tails_are_legal
