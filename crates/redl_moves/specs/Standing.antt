-- The move that is open at a position: the definition of `pair_at`, said by the starts before the position.
use Rattle.std.specs.Prelude.{ℕ, ◌+◌, List, [], ◌∷◌, nat_lt, Option, Some, None, option_and_then, slice_get, ◌≡◌, filter, filter_map, if◌then◌else◌}
use Rattle.redl_tree.specs.Revisions.Moves.{Edge, Marking, Range, Pair, same_edge, pair_with_name}
use Rattle.redl_moves.specs.Opens.{find_last, start_of}
use Rattle.redl_moves.specs.declared.opens.Side.{Side}
use Rattle.redl_moves.specs.declared.opens.Side.TheVariants.{Source, Target}

-- the range of a move on this side
abbrev pub range_on : Side → Pair → Range
range_on Source pair = pair.source
range_on Target pair = pair.target

-- the paired move that begins on a side with this marker
abbrev pub pair_begun : Edge → List Marking → Marking → Option Pair
pair_begun edge marks mark = if same_edge mark.edge edge then option_and_then (pair_with_name marks) mark.name else None

-- the move to which a member at this position belongs: of those whose range started before, the last whose range ends after it
abbrev pub pair_open : Side → ℕ → List Marking → Option Pair
pair_open side at marks =
    find_last (λ pair. nat_lt at (range_on side pair).end.at)
    (filter_map (pair_begun (start_of side) marks) (filter (λ m. nat_lt m.at at) marks))

-- how many markers come before a position
abbrev pub before : ℕ → List Marking → ℕ
before at [] = 0
before at (mark ∷ marks) = if nat_lt mark.at at then 1 + before at marks else 0

-- no marker is at this position
abbrev pub IsApart : ℕ → List Marking → Type 0
IsApart at marks = (i : ℕ) (mark : Marking) → slice_get marks i ≡ Some mark → mark.at ≡ at → ⊥
