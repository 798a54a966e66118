use Rattle.std.proofs.Common.{◌≡◌, ℕ, List, drop}
use Rattle.redl_commented.specs.Inside.Founds.{found_at}
use Rattle.redl_commented.specs.Ranges.{found_after, found_in}
use Rattle.redl_commented.proofs.found.Founds.of.Given as goal

-- what was found so far, and then what the places that are left add
abbrev pub invariant-loop-place : goal.invariant-loop-place
invariant-loop-place l = (id : List ℕ) → found_after (found_at l.founds id) (drop l.place-index l.places) id ≡ found_in l.places id
