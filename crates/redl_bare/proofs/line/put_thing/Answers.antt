use Rattle.std.proofs.Common.{refl, ap}
use Rattle.redl_bare.specs.Units.{thing}
use Rattle.redl_bare.specs.Inside.Views.{fields_view, marks_view}
use Rattle.redl_bare.proofs.LineLaws.{one_done}
use Rattle.redl_bare.proofs.line.put_thing.Goals as goal

pub returns : goal.returns
returns g c =
    one_done c.args.writer.now _ (thing (marks_view c.args.writer.now.marks) c.args.what) _ refl (rw c.name.ensures at c.put_named.ensures.puts) c.put_named.ensures.after
    (ap fields_view c.put_named.ensures.fields) c.put_named.ensures.marks
