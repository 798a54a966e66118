use Rattle.std.proofs.Common.{◌≡◌, ◌++◌, drop, map, All, IsUtf8}
use Rattle.std.specs.String.{string_bytes}
use Rattle.std.specs.Vec.Iter.{into_iter_items}
use Rattle.redl_words.proofs.given.copy_words.Given as goal

-- what is copied, and what is left, are the words after the program's name
abbrev pub invariant-loop-word : goal.invariant-loop-word
invariant-loop-word l = record {
  utf8 : All IsUtf8 l.words.items;
  words : l.words.items ++ map string_bytes (into_iter_items l.word-iterator) ≡ map string_bytes (drop 1 (into_iter_items l.fn.args));
}
