use Rattle.std.proofs.Common.{◌≡◌, take}
use Rattle.redl_excerpts.proofs.last_word.copies.Given as goal

abbrev pub invariant-loop-said : goal.invariant-loop-said
invariant-loop-said l = l.copies.items ≡ take l.said-index l.words
