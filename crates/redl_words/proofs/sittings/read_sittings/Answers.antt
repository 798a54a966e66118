use Rattle.std.proofs.Common.{sym, ◌∙◌}
use Rattle.redl_words.specs.Reading.Sittings.{sittings_view}
use Rattle.redl_words.proofs.SittingLaws.{none_left}
use Rattle.redl_words.proofs.sittings.read_sittings.Goals as goal

pub returns : goal.returns
returns c = sym c.loop-word.invariant ∙ none_left (sittings_view c.loop-word.sittings) c.loop-word.rest.now c.in_default.ensures.cases
