use Rattle.std.proofs.Common.{◌≡◌, ◌++◌, take}
use Rattle.std.specs.List.{flat_map}
use Rattle.redl_listing.specs.Words.{said_text}
use Rattle.redl_listing.proofs.words_rows.push_words.Given as goal

-- the words so far
abbrev pub invariant-loop-said : goal.invariant-loop-said
invariant-loop-said l = l.line.items ≡ l.fn.line.items ++ flat_map said_text (take l.said-index l.words)
