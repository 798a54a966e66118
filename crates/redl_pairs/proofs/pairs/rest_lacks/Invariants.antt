use Rattle.std.proofs.Common.{◌≡◌, ◌≤◌, ◌-◌, length, drop}
use Rattle.redl_pairs.specs.Pairs.{begins_either, lacks_both}
use Rattle.redl_pairs.proofs.pairs.rest_lacks.Given as goal

-- no word begins before what is left
abbrev pub invariant-loop-i : goal.invariant-loop-i
invariant-loop-i l = record {
  within : l.i ≤ length l.text;
  so_far : lacks_both (begins_either l.a.0 l.a.1 l.b.0 l.b.1) (drop l.i l.text) (drop 1 (drop l.i l.text))
      ≡ lacks_both (begins_either l.a.0 l.a.1 l.b.0 l.b.1) l.text (drop 1 l.text);
}

abbrev pub decreases-loop-i : goal.decreases-loop-i
decreases-loop-i l = length l.text - l.i
