use Rattle.std.proofs.Common.{◌≡◌, ℕ, take}
use Rattle.std.specs.BTreeMap.{get, keys}
use Rattle.std.specs.Ordering.{nat_cmp}
use Rattle.redl_commands.specs.Choices.{chosen_numbers, word_on}
use Rattle.redl_words.specs.Views.{choices_view}
use Rattle.redl_commands_write.proofs.choices.words_of.Given as goal

-- the words by the choices so far
abbrev pub invariant-loop-word : goal.invariant-loop-word
invariant-loop-word l = record {
  numbers : keys l.words ≡ chosen_numbers l.index l.edits (choices_view (take l.word-index l.choices));
  words : (number : ℕ) → get nat_cmp l.words number ≡ word_on l.index l.edits (choices_view (take l.word-index l.choices)) number;
}
