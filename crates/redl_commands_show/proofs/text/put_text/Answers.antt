use Rattle.std.proofs.Common.{Err, refl}
use Rattle.redl_lines.specs.Failures.{failure_view}
use Rattle.redl_commands_show.proofs.TextLaws.{reads_through}
use Rattle.redl_commands_show.proofs.text.put_text.Goals as goal

pub returns-in-Ok : goal.returns-in-Ok
returns-in-Ok g c = record {
  made = c.put_shown.ensures.made;
  reads = reads_through c.in-Ok.ensures c.put_shown.ensures.reads;
  finishes = c.put_shown.ensures.finishes;
}

pub returns-in-Err : goal.returns-in-Err
returns-in-Err g c = record {
  made = Err (failure_view c.in-Err.failure);
  reads = c.in-Err.ensures;
  finishes = (refl, refl, refl);
}
