use Rattle.std.proofs.Common.{All, IsUtf8}
use Rattle.redl_rows.proofs.calls.words_of.Given as goal

abbrev pub invariant-loop-piece : goal.invariant-loop-piece
invariant-loop-piece l = All IsUtf8 l.words.items
