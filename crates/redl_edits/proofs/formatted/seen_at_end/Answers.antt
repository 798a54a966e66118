use Rattle.redl_edits.specs.Inside.Known.{facts_with}
use Rattle.redl_edits.proofs.FormattedLaws.{AreSeen-end}
use Rattle.redl_edits.proofs.formatted.seen_at_end.Goals as goal

pub returns : goal.returns
returns c = AreSeen-end (facts_with c.args.known.index.now c.args.known.spans.now c.args.known.passed.now c.args.known.said.now.formats.items) c.all.result c.end_of-end.result c.end_of-end.ensures.passed c.end_of-end.ensures.spans c.all.ensures
