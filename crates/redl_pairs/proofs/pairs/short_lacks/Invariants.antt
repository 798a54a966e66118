use Rattle.std.proofs.Common.{◌≡◌, length, drop}
use Rattle.redl_pairs.specs.Pairs.{begins_either, lacks_both}
use Rattle.redl_pairs.proofs.pairs.short_lacks.Given as goal

-- no word begins before what is left
abbrev pub invariant-loop-rest : goal.invariant-loop-rest
invariant-loop-rest l =
    lacks_both (begins_either l.a.0 l.a.1 l.b.0 l.b.1) l.rest (drop 1 l.rest) ≡ lacks_both (begins_either l.a.0 l.a.1 l.b.0 l.b.1) l.text (drop 1 l.text)

abbrev pub decreases-loop-rest : goal.decreases-loop-rest
decreases-loop-rest l = length l.rest
