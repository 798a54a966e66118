use Rattle.std.proofs.Common.{◌≡◌, ℕ, List, drop}
use Rattle.redl_reading.specs.Steps.{or_else}
use Rattle.redl_comments.specs.Firsts.{place_at}
use Rattle.redl_comments.specs.Threads.{place_from}
use Rattle.redl_comments.proofs.firsts.Firsts.of.Given as goal

-- the places so far, or else those of the keys that are left
abbrev pub invariant-loop-place : goal.invariant-loop-place
invariant-loop-place l = (key : List ℕ) → or_else (place_at l.firsts key) (place_from l.place (drop l.place l.keys) key) ≡ place_from 0 l.keys key
