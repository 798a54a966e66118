use Rattle.redl_words.proofs.CommandLaws.{at_most_one}
use Rattle.redl_words.proofs.laws.one_command.Goals as goal

pub returns : goal.returns
returns c = at_most_one
