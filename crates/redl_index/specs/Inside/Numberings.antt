-- The numbers of the revisions of a story so far, as the code keeps them.
use Rattle.std.specs.Prelude.{◌≡◌, ℕ, zero, suc, ◌+◌, ◌<◌, ◌==◌, List, get_or, set, length, Option, Some, None, is_some, IfSome, if◌then◌else◌}
use Rattle.redl_tree.specs.Revisions.Moves.{Marking, Pair, place_of}
use Rattle.redl_tree.specs.Revisions.Numbers.{Numbering, number_of_move}
use Rattle.redl_moves.specs.Marks.{RisesFrom}
use Rattle.redl_moves.specs.declared.start.Start.{Start}
use Rattle.redl_index.specs.Kinds.{kind_of}
use Rattle.redl_index.specs.declared.numbers.Numbers.{Numbers}
use Rattle.redl_index.specs.declared.story.Sight.{Sight}

-- the next number, and the numbers of the moves by the places of their sources' starts among the markers; 0 stands for none
pub record NumbersView : Type 0 where
  pub next : ℕ
  pub moves : List ℕ

abbrev pub numbers_view : Numbers → NumbersView
numbers_view numbers = record { next = numbers.next; moves = numbers.moves.items }

-- after the next number was given
abbrev pub one_given : NumbersView → NumbersView
one_given numbers = record numbers { next = numbers.next + 1 }

-- the number of a move, which is the next one where it has none, and the numbers after that
abbrev pub number_at : ℕ → NumbersView → ℕ
number_at place numbers = if get_or numbers.moves place 0 == 0 then numbers.next else get_or numbers.moves place 0

abbrev pub given_at : ℕ → NumbersView → NumbersView
given_at place numbers =
    if get_or numbers.moves place 0 == 0 then record { next = numbers.next + 1; moves = set numbers.moves place numbers.next } else numbers

-- the number of an element that is in a revision, in the move that starts there or in none, and the numbers after it
abbrev pub number_in_revision : Option Start → NumbersView → ℕ
number_in_revision None numbers = numbers.next
number_in_revision (Some start) numbers = number_at start.place numbers

abbrev pub given_in_revision : Option Start → NumbersView → NumbersView
given_in_revision None numbers = one_given numbers
given_in_revision (Some start) numbers = given_at start.place numbers

-- the number of an element, which is 0 where it is in no revision, and the numbers after it
abbrev pub number_given : Sight → NumbersView → ℕ
number_given sight numbers = if is_some (kind_of sight.kind) then number_in_revision sight.start numbers else 0

abbrev pub given : Sight → NumbersView → NumbersView
given sight numbers = if is_some (kind_of sight.kind) then given_in_revision sight.start numbers else numbers

-- the number that is kept so: 0 stands for none
abbrev pub number_in : ℕ → Option ℕ
number_in zero = None
number_in (suc n) = Some (suc n)

-- the source of the move starts with one of these markers
abbrev pub IsPlaced : List Marking → Option Pair → Type 0
IsPlaced marks pair = IfSome pair (λ pair. place_of marks pair.source.start.at < length marks)

-- the code's numbers are those of the numbering so far: the next one is the same, and so is that of each move, by the place of its
-- source's start among these markers, whose positions rise
pub record IsNumbering (marks : List Marking) (numbers : NumbersView) (so_far : Numbering) : Type 0 where
  pub rising : RisesFrom 0 marks
  pub next : numbers.next ≡ so_far.next
  pub begun : 0 < so_far.next
  pub places : length numbers.moves ≡ length marks
  pub moves : (start : ℕ) → place_of marks start < length marks
      → number_of_move so_far.moves start ≡ number_in (get_or numbers.moves (place_of marks start) 0)
