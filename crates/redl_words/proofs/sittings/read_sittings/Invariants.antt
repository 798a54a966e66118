use Rattle.std.proofs.Common.{◌≡◌, length}
use Rattle.redl_words.specs.Reading.Sittings.{no_sittings, sittings_in, sittings_view}
use Rattle.redl_words.proofs.sittings.read_sittings.Given as goal

abbrev pub invariant-loop-word : goal.invariant-loop-word
invariant-loop-word l = sittings_in (sittings_view l.sittings) l.rest ≡ sittings_in no_sittings l.words

abbrev pub decreases-loop-word : goal.decreases-loop-word
decreases-loop-word l = length l.rest
