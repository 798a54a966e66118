use Rattle.std.proofs.Common.{◌-◌, length, take}
use Rattle.redl_commented.specs.Inside.Fronts.{BeginBy, IsFront}
use Rattle.redl_commented.proofs.front.Front.advance.Given as goal

-- those so far were ranked, and all of them begin before the place
abbrev pub invariant-loop-self : goal.invariant-loop-self
invariant-loop-self l = record {
  front : IsFront l.all l.self;
  begin : BeginBy l.to (take l.self.next l.all);
}

abbrev pub decreases-loop-self : goal.decreases-loop-self
decreases-loop-self l = length l.all - l.self.next
