use Rattle.std.proofs.Common.{sym}
use Rattle.redl_pairs.proofs.WordLaws.{empty_everywhere}
use Rattle.redl_pairs.proofs.word.lacks_word.Goals as goal

pub returns-in-None : goal.returns-in-None
returns-in-None c = sym (empty_everywhere c.args.word.now c.args.text.now c.in-None.ensures.cases)
