use Rattle.std.proofs.Common.{codes}
use Rattle.redl_markup.specs.Views.{attribute_view}
use Rattle.redl_stamp.proofs.WrittenLaws.{found_on}
use Rattle.redl_stamp.proofs.stamp_values.Written.read.Goals as goal

pub loop-attribute-preserved : goal.loop-attribute-preserved
loop-attribute-preserved c =
    let left = c.loop-attribute.left.now in
    let rest = c.in-Some.rest.now in
    let here = attribute_view c.in-Some.attribute in
    let is = c.in-Some.ensures.found in
    let more = c.with-written.ensures in
    let before = c.loop-attribute.invariant in
    record {
      author = found_on (codes "author") _ _ left rest here _ is more.author before.author;
      date = found_on (codes "date") _ _ left rest here _ is more.date before.date;
      name = found_on (codes "name") _ _ left rest here _ is more.name before.name;
      id = found_on (codes "id") _ _ left rest here _ is more.id before.id;
      utf8 = λ tail_is.
          let left_is = before.utf8 tail_is in
          let read_is = c.in-Some.ensures.utf8 left_is.0 in
          (read_is.1, more.utf8 left_is.1 read_is.0);
      utf8_name = λ tail_is. more.utf8_name (before.utf8_name tail_is) (c.in-Some.ensures.utf8 (before.utf8 tail_is).0).0;
      utf8_id = λ tail_is. more.utf8_id (before.utf8_id tail_is) (c.in-Some.ensures.utf8 (before.utf8 tail_is).0).0;
    }
