use Rattle.std.proofs.Common.{◌≡◌, ◌≤◌, ◌-◌, None, replicate, vec_len}
use Rattle.redl_left.specs.declared.tags.TheConstants.{PLACES}
use Rattle.redl_left.proofs.tags.Known.none.Given as goal

abbrev pub decreases-loop-tags : goal.decreases-loop-tags
decreases-loop-tags l = PLACES - vec_len l.tags

abbrev pub invariant-loop-tags : goal.invariant-loop-tags
invariant-loop-tags l = record {
  few : vec_len l.tags ≤ PLACES;
  empty : l.tags.items ≡ replicate (vec_len l.tags) None;
}
