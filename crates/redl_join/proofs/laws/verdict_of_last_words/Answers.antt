use Rattle.redl_join.proofs.LastWordLaws.{verdict-last}
use Rattle.redl_join.proofs.laws.verdict_of_last_words.Goals as goal

pub returns : goal.returns
returns c = verdict-last
