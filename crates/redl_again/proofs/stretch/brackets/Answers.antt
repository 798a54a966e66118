use Rattle.redl_again.proofs.MeetingLaws.{brackets-none, brackets-one, brackets-two}
use Rattle.redl_again.proofs.stretch.brackets.Goals as goal

pub returns-then-last-ne93 : goal.returns-then-last-ne93
returns-then-last-ne93 c =
    brackets-none c.args.before c.in-Some.last.now c.args.text.now c.in-Some.front.now c.in-Some.ensures.cases.0 c.if-last-ne93.true

pub returns-then-second-eq93 : goal.returns-then-second-eq93
returns-then-second-eq93 c =
    brackets-two c.args.before c.in-Some.last.now c.in-Some-split_last.second.now c.args.text.now c.in-Some.front.now c.in-Some-split_last.field-0-1.now
    c.in-Some.ensures.cases.0 c.if-last-ne93.false c.in-Some-split_last.ensures.cases.0 c.if-second-eq93.true

pub returns-else-second-eq93 : goal.returns-else-second-eq93
returns-else-second-eq93 c =
    brackets-one c.args.before c.in-Some.last.now c.in-Some-split_last.second.now c.args.text.now c.in-Some.front.now c.in-Some-split_last.field-0-1.now
    c.in-Some.ensures.cases.0 c.if-last-ne93.false c.in-Some-split_last.ensures.cases.0 c.if-second-eq93.false
