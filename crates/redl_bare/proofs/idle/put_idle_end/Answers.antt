use Rattle.std.proofs.Common.{sym, ap, ◌∙◌}
use Rattle.redl_bare.specs.Units.{end_texts, in_marks}
use Rattle.redl_bare.specs.Inside.Views.{marks_view}
use Rattle.redl_bare.proofs.FieldLaws.{numbers_back}
use Rattle.redl_bare.proofs.LineLaws.{units_by}
use Rattle.redl_bare.proofs.idle.put_idle_end.Goals as goal

pub returns : goal.returns
returns g c = units_by (ap (in_marks (marks_view c.args.writer.now.marks)) (numbers_back (end_texts c.args.place) ∙ sym c.end_of.ensures)) c.put_short.ensures
