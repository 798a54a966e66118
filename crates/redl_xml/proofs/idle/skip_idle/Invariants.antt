use Rattle.std.proofs.Common.{◌≡◌, length}
use Rattle.std.specs.Prelude.{IfSome}
use Rattle.redl_tree.specs.declared.kinds.Space.TheVariants.{W}
use Rattle.redl_xml.specs.Inside.Passing.{IsIdleIn, IsPassed, names_view, rest_behind}
use Rattle.redl_xml.proofs.FoldLoop.{IsPassing}
use Rattle.redl_xml.proofs.idle.skip_idle.Given as goal

abbrev pub invariant-loop-rest : goal.invariant-loop-rest
invariant-loop-rest l = record {
  passing : IsPassing (IsIdleIn l.fn.scopes) W l.bytes l.now.rest.now (names_view l.tries.names.items) l.now.nodes l.now.elems l.now.deepest;
  same : l.scopes ≡ l.fn.scopes;
  here : length l.tries.names.items ≡ 0 → rest_behind l.bytes l.whole ≡ l.now.rest.now;
  whole : IfSome l.whole (λ idle. IsPassed (IsIdleIn l.fn.scopes) W l.bytes idle.rest.now idle.nodes idle.elems idle.deepest);
}

abbrev pub decreases-loop-rest : goal.decreases-loop-rest
decreases-loop-rest l = length l.now.rest.now
