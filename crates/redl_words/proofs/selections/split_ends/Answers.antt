use Rattle.std.proofs.Common.{lit<}
use Rattle.redl_words.proofs.SelectionLaws.{split_field}
use Rattle.redl_words.proofs.selections.split_ends.Goals as goal

pub returns : goal.returns
returns c = split_field 45 c.args.text.now c.split_once.result c.split_once.ensures.cases (lit< tt)
