use Rattle.std.proofs.Common.{◌≡◌, ℕ, ◌+◌, drop, filter, take, slice_get}
use Rattle.std.specs.Option.{option_map}
use Rattle.redl_commented.specs.Inside.Fronts.{BeginBefore, IsFront}
use Rattle.redl_commented.specs.On.{Remarks, all_remarked, is_of}
use Rattle.redl_commented.proofs.on.remark_all.Given as goal

-- what each revision has so far, and then the comments on the members that are left
abbrev pub invariant-loop-at : goal.invariant-loop-at
invariant-loop-at l = record {
  front : IsFront l.all l.front;
  begin : BeginBefore (drop l.at l.spans) (take l.front.next l.all);
  each : (k : ℕ) → option_map (λ (remarks : Remarks). all_remarked l.all remarks (filter (is_of (k + 1)) (drop l.at l.spans))) (slice_get l.on.items k)
      ≡ option_map (λ (remarks : Remarks). all_remarked l.all remarks (filter (is_of (k + 1)) l.spans)) (slice_get l.initial.on.items k);
}
