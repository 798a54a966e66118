use Rattle.std.proofs.Common.{◌≡◌, map, take, All}
use Rattle.std.specs.Map.Iter.{deref}
use Rattle.std.specs.Str.{IsUtf8}
use Rattle.redl_excerpts.specs.declared.last_word.LastWord.{LastWord}
use Rattle.redl_excerpts.specs.Details.{last_word_of}
use Rattle.redl_excerpts.proofs.last_word.Says.of.Given as goal

abbrev pub invariant-loop-entry : goal.invariant-loop-entry
invariant-loop-entry l = record {
  said : l.words.items ≡ map last_word_of (map deref (take l.entry-index l.entries));
  utf8 : All (λ (said : LastWord). IsUtf8 said.reviewer) l.words.items;
}
