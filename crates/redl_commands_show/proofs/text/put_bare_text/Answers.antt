use Rattle.std.proofs.Common.{Err, refl}
use Rattle.redl_bare.specs.BareText.{bare_text}
use Rattle.redl_lines.specs.Failures.{no_memory}
use Rattle.redl_commands_show.proofs.TextLaws.{ends_after}
use Rattle.redl_commands_show.proofs.text.put_bare_text.Goals as goal

pub returns-in-Ok : goal.returns-in-Ok
returns-in-Ok g c =
    let puts = rw c.in-Ok.ensures at c.put_stories.ensures in
    ends_after (bare_text c.args.counted.now.pkg) c.put_stories.result c.end_of.ensures puts.all puts.front puts.cause

pub returns-in-Err : goal.returns-in-Err
returns-in-Err g c = record {
  made = Err no_memory;
  reads = record { as_due = λ reader reads. tt; of_no_file = tt };
  finishes = (refl, refl, refl);
}
