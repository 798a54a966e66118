use Rattle.std.proofs.Common.{◌≡◌, ◌≤◌, ◌-◌, [], map, replicate, vec_len}
use Rattle.redl_left.specs.declared.fact.TheConstants.{FACTS}
use Rattle.redl_left.proofs.seen.Seen.none.Given as goal

abbrev pub decreases-loop-tables : goal.decreases-loop-tables
decreases-loop-tables l = FACTS - vec_len l.tables

abbrev pub invariant-loop-tables : goal.invariant-loop-tables
invariant-loop-tables l = record {
  few : vec_len l.tables ≤ FACTS;
  empty : map (λ lines. lines.items) l.tables.items ≡ replicate (vec_len l.tables) [];
}
