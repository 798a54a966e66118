use Rattle.std.proofs.Common.{◌<◌, length, arith}
use Rattle.redl_editor.proofs.WriteLaws.{next-there}
use Rattle.redl_editor.proofs.writing.write_story.Goals as goal

pub returns-in-Some : goal.returns-in-Some
returns-in-Some g c =
    let lt : c.args.number < length c.args.stories.now = omega (arith, c.in-Some.ensures.lookup) in
    let slots = rw c.deref.ensures.value at c.write_slots.ensures in
    rw (next-there c.args.stories.now c.args.number c.in-Some.story.now lt c.in-Some.ensures.lookup.1) slots
