use Rattle.redl_marks.proofs.MarkLaws.{added, added_back}
use Rattle.redl_marks.proofs.marks.Marks.add.Goals as goal

pub returns-in-Some-clause-marks : goal.returns-in-Some-clause-marks
returns-in-Some-clause-marks c =
    added c.args.self.now.list.items c.as_slice.result.now c.insert.new.self.items c.in-Some.at c.args.mark c.is_full.result
    c.as_slice.ensures.value c.insert.ensures.items c.in-Some.ensures.within c.in-Some.ensures.place c.is_full.ensures.value c.if-is_full.false

pub returns-in-Some-clause-back : goal.returns-in-Some-clause-back
returns-in-Some-clause-back c =
    added_back c.args.self.now.list.items c.as_slice.result.now c.insert.new.self.items c.in-Some.at c.args.mark c.as_slice.ensures.value c.insert.ensures.items c.in-Some.ensures.within
