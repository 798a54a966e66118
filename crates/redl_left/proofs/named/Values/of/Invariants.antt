use Rattle.std.proofs.Common.{◌≡◌, ◌||◌, ℕ, List, drop, length}
use Rattle.std.specs.List.{list_any}
use Rattle.redl_left.specs.Named.{has_value, is_value_of}
use Rattle.redl_left.specs.declared.named.TheConstants.{FRONTS}
use Rattle.redl_left.proofs.named.Values.of.Given as goal

-- the values so far, or those of the lines that are left
abbrev pub invariant-loop-line : goal.invariant-loop-line
invariant-loop-line l = record {
  maps : length l.values.by_front.items ≡ FRONTS;
  found : (other : List ℕ) → (has_value l.values other || list_any (is_value_of other) (drop l.line-index l.lines)) ≡ list_any (is_value_of other) l.lines;
}
