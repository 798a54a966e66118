use Rattle.std.proofs.Common.{◌≡◌, ℕ, Some, take, fold, if◌then◌else◌}
use Rattle.std.specs.BTreeMap.{get, keys}
use Rattle.std.specs.BTreeSet.{insert_key}
use Rattle.std.specs.Ordering.{nat_cmp}
use Rattle.redl_commands.specs.Choices.{is_among}
use Rattle.redl_commands_write.proofs.choices.set_words.Given as goal

-- the numbers so far have the word
abbrev pub invariant-loop-number : goal.invariant-loop-number
invariant-loop-number l = record {
  numbers : keys l.words ≡ fold (insert_key nat_cmp) (keys l.initial.words) (take l.number-index l.numbers);
  words : (number : ℕ) → get nat_cmp l.words number
      ≡ (if is_among (take l.number-index l.numbers) number then Some l.word else get nat_cmp l.initial.words number);
}
