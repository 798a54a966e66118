use Rattle.std.proofs.Common.{◌≡◌, ◌++◌, drop, take}
use Rattle.redl_commented.specs.On.{ranked_in}
use Rattle.redl_commented.proofs.front.place_among.Given as goal

-- it comes behind those before this place
abbrev pub invariant-loop-place : goal.invariant-loop-place
invariant-loop-place l = ranked_in l.ranged l.top ≡ take l.place l.top ++ ranked_in l.ranged (drop l.place l.top)
