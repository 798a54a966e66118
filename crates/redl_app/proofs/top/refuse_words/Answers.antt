use Rattle.std.proofs.Common.{ap, ◌∙◌}
use Rattle.redl_lines.specs.Ends.{end_status}
use Rattle.redl_app.proofs.top.refuse_words.Goals as goal

pub returns-clause-status : goal.returns-clause-status
returns-clause-status g c = c.status.ensures ∙ ap end_status c.end_without_words-end.ensures

pub returns-clause-lines : goal.returns-clause-lines
returns-clause-lines g c = rw c.end_without_words-end.ensures at c.tell.ensures
