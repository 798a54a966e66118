use Rattle.std.proofs.Common.{◌≡◌, ◌+◌, drop}
use Rattle.std.specs.Prelude.{find}
use Rattle.redl_edits.specs.Formatted.{is_next}
use Rattle.redl_edits.specs.Inside.Known.{facts_with}
use Rattle.redl_edits.proofs.formatted.next_of_format.Given as goal

-- none was found so far
abbrev pub invariant-loop-behind : goal.invariant-loop-behind
invariant-loop-behind l =
    find (is_next (facts_with l.known.index.now l.known.spans.now l.known.passed.now l.known.said.now.formats.items) l.one) (drop (l.place + 1) l.known.spans.now)
    ≡ find (is_next (facts_with l.known.index.now l.known.spans.now l.known.passed.now l.known.said.now.formats.items) l.one) (drop l.behind l.known.spans.now)
