use Rattle.std.proofs.Common.{◌≡◌, ℕ, List, drop}
use Rattle.std.specs.List.{position_from}
use Rattle.redl_reading.specs.Steps.{or_else}
use Rattle.redl_lists.specs.Tables.{is_text}
use Rattle.redl_numbering.specs.Known.{place_in}
use Rattle.redl_numbering.specs.Nums.{place_of}
use Rattle.redl_numbering.proofs.firsts.Firsts.of.Given as goal

-- each name has the place that it has so far, or else that among the rows that are left
abbrev pub invariant-loop-place : goal.invariant-loop-place
invariant-loop-place g l = (name : List ℕ)
    → or_else (place_in l.firsts name) (position_from (λ row. is_text name (g.N.Name.name row)) l.place (drop l.place l.rows)) ≡ place_of g.N.Name.name l.rows name
