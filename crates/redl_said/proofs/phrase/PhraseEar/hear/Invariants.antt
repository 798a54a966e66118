use Rattle.std.proofs.Common.{◌≡◌, drop}
use Rattle.redl_said.specs.Phrases.{heard}
use Rattle.redl_said.proofs.phrase.PhraseEar.hear.Given as goal

-- the bytes that are left are heard after those so far
abbrev pub invariant-loop-byte : goal.invariant-loop-byte
invariant-loop-byte l = heard l.self (drop l.byte-index l.left) ≡ heard l.initial.self l.left
