use Rattle.std.proofs.Common.{◌≡◌, ◌==◌, [], drop, length}
use Rattle.std.specs.List.{slice_split}
use Rattle.redl_words.specs.Reading.Selections.{numbers_after}
use Rattle.redl_words.proofs.selections.read_numbers.Given as goal

abbrev pub invariant-loop-piece : goal.invariant-loop-piece
invariant-loop-piece l =
    numbers_after l.listed.items (drop (length l.yielded) (slice_split (λ b. b == 44) l.text)) ≡ numbers_after [] (slice_split (λ b. b == 44) l.text)
