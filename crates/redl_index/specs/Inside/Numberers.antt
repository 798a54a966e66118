-- How a walk gives the elements of a story their kinds and numbers.
use Rattle.std.specs.Prelude.{ℕ, ◌+◌, ◌^◌, ◌<◌, List}
use Rattle.redl_tree.specs.Model.Nodes.{Tag}
use Rattle.redl_tree.specs.Roles.Arounds.{role_in}
use Rattle.redl_tree.specs.Revisions.Moves.{Marking}
use Rattle.redl_tree.specs.declared.around.Around.{Around}
use Rattle.redl_visit.specs.Labelling.{LabelRule, LabelNeeds}
use Rattle.redl_index.specs.Inside.Numberings.{NumbersView, numbers_view, number_given, given}
use Rattle.redl_index.specs.Inside.Sights.{IsApartAs, sight_at, next_end, ends_after}
use Rattle.redl_index.specs.declared.label.Numberer.{Numberer}
use Rattle.redl_index.specs.declared.story.Sight.{Sight}

-- the markers of the story, the position of the next tag, the ends of the paragraphs that start from there on, and the numbers
-- so far
pub record NumbererState : Type 0 where
  pub marks : List Marking
  pub at : ℕ
  pub ends : List ℕ
  pub numbers : NumbersView

abbrev pub numberer_state : Numberer → NumbererState
numberer_state numberer = record {
  marks = numberer.moves.now;
  at = numberer.walk.at;
  ends = numberer.walk.ends.now;
  numbers = numbers_view numberer.numbers;
}

-- what the next element is, where its nearest paragraph ends there
abbrev pub sight_of_next : Around → ℕ → Tag → NumbererState → Sight
sight_of_next here end tag s = sight_at s.marks here end s.at tag

-- an element gets its kind, and the number of its revision; where its paragraph ends is handed down
abbrev pub numberer_rule : LabelRule Around ℕ NumbererState
numberer_rule = record {
  below = λ here end tag kids s. next_end tag s.ends end;
  enter = λ here end tag kids s. record s {
    at = s.at + 1;
    ends = ends_after tag s.ends;
    numbers = given (sight_of_next here end tag s) s.numbers;
  };
  leave = λ s. record s { at = s.at + 1 };
  label = λ here end tag kids s. record {
    kind = (sight_of_next here end tag s).kind;
    rev = number_given (sight_of_next here end tag s) s.numbers;
  };
}

-- positions and numbers fit, and no marker is where the element's role is
abbrev pub numberer_needs : LabelNeeds Around ℕ NumbererState
numberer_needs = record {
  Enter = λ here end tag kids s. (s.at + 1 < 2 ^ 64) × (s.numbers.next + 1 < 2 ^ 32) × IsApartAs s.marks (role_in here tag) s.at end;
  Leave = λ s. s.at + 1 < 2 ^ 64;
}
