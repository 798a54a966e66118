-- Which move's range is open at a place among the markers, and started last. A place is the number of markers before it.
use Rattle.std.specs.Prelude.{ℕ, ◌+◌, ◌≤◌, ◌≡◌, List, [], ◌∷◌, ◌++◌, Bool, not, nat_lt, Option, Some, None, option_to_list, if◌then◌else◌}
use Rattle.redl_tree.specs.Revisions.Moves.{Edge, from_start, to_start, Marking, Move}
use Rattle.redl_moves.specs.Places.{move_begun}
use Rattle.redl_moves.specs.declared.opens.Side.{Side}
use Rattle.redl_moves.specs.declared.opens.Side.TheVariants.{Source, Target}

abbrev pub start_of : Side → Edge
start_of Source = from_start
start_of Target = to_start

abbrev pub end_of : Side → Move → ℕ
end_of Source m = m.from_end
end_of Target m = m.to_end

-- the range of a move that has begun is open yet: its end isn't among the markers before
abbrev pub is_open_at : Side → ℕ → Move → Bool
is_open_at side place m = not (nat_lt (end_of side m) place)

-- this one, where there is none after it
abbrev pub or_this : {X : Type 0} → Bool → X → Option X → Option X
or_this b x None = if b then Some x else None
or_this b x (Some y) = Some y

-- the last that passes
abbrev pub find_last : {X : Type 0} → (X → Bool) → List X → Option X
find_last test [] = None
find_last test (x ∷ xs) = or_this (test x) x (find_last test xs)

-- for each place from before these markers to after the last of them: of the moves begun so far, the last that is open
abbrev pub opens_over : Side → List Marking → List Move → ℕ → List Marking → List (Option Move)
opens_over side whole begun place [] = find_last (is_open_at side place) begun ∷ []
opens_over side whole begun place (mark ∷ marks) =
    find_last (is_open_at side place) begun
    ∷ opens_over side whole (begun ++ option_to_list (move_begun (start_of side) whole mark)) (place + 1) marks

-- from a place on, the same is open among these moves and among those, whatever begins later
abbrev pub OpenAlike : Side → ℕ → List Move → List Move → Type 0
OpenAlike side place xs ys = (at : ℕ) (more : List Move) → place ≤ at → find_last (is_open_at side at) (xs ++ more) ≡ find_last (is_open_at side at) (ys ++ more)
