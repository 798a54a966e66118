use Rattle.std.proofs.Common.{sym, subst}
use Rattle.std.specs.Str.{IsUtf8}
use Rattle.redl_index.specs.Inside.Stories.{tails_in}
use Rattle.redl_index.proofs.StoryLaws.{utf8-at}
use Rattle.redl_index.proofs.found.Found.first_of_move.Goals as goal

pub first-requires-clause-tail : goal.first-requires-clause-tail
first-requires-clause-tail c = subst IsUtf8 (sym c.tail-tail.ensures) (utf8-at (tails_in c.args.story.now) c.args.start.place c.requires.tails)
