use Rattle.std.proofs.Common.{All, IsUtf8}
use Rattle.redl_rows.proofs.calls.add_words.Given as goal

abbrev pub invariant-loop-word : goal.invariant-loop-word
invariant-loop-word l = All IsUtf8 l.words.items
