use Rattle.redl_edits.specs.Inside.Known.{AreSeen, facts_with}
use Rattle.redl_edits.proofs.FormattedLaws.{Pairs}
use Rattle.redl_edits.proofs.formatted.add_known.Given as goal

abbrev pub invariant-loop-place : goal.invariant-loop-place
invariant-loop-place l =
    AreSeen (facts_with l.known.index.now l.known.spans.now l.known.passed.now l.known.said.now.formats.items) l.seen l.place
    × Pairs (facts_with l.known.index.now l.known.spans.now l.known.passed.now l.known.said.now.formats.items) l.fn.pairs.items l.pairs.items l.place
