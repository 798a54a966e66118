-- How a walk of a story finds revisions, element by element.
use Rattle.std.specs.Prelude.{ℕ, ◌+◌, ◌^◌, ◌<◌, List, [], All, length}
use Rattle.std.specs.Str.{IsUtf8}
use Rattle.redl_tree.specs.Roles.Arounds.{role_in}
use Rattle.redl_tree.specs.Revisions.Moves.{Marking}
use Rattle.redl_tree.specs.declared.around.Around.{Around}
use Rattle.redl_visit.specs.Visits.{VisitRule, VisitNeeds}
use Rattle.redl_index.specs.StoryFacts.{Facts}
use Rattle.redl_index.specs.Mentions.{sight_by}
use Rattle.redl_index.specs.Inside.Sights.{IsApartAs, sight_at, next_end, ends_after}
use Rattle.redl_index.specs.Inside.Stories.{tails_in}
use Rattle.redl_index.specs.Inside.Tallies.{Tally, tally_of, noted}
use Rattle.redl_index.specs.declared.revision.Revision.{Revision}
use Rattle.redl_index.specs.declared.story.Sight.{Sight}
use Rattle.redl_index.specs.declared.find.Seeker.{Seeker}

-- the part of the story, its markers and their attributes; the position of the next tag, and the ends of the paragraphs that start
-- from there on; and what is found so far
pub record Seeking : Type 0 where
  pub part : ℕ
  pub marks : List Marking
  pub tails : List (List ℕ)
  pub at : ℕ
  pub ends : List ℕ
  pub found : Tally

abbrev pub seeking_of : Seeker → Seeking
seeking_of seeker = record {
  part = seeker.story.part;
  marks = seeker.story.moves.now;
  tails = tails_in seeker.story;
  at = seeker.walk.at;
  ends = seeker.walk.ends.now;
  found = tally_of seeker.found;
}

-- at the start of the story in this part, from what is known of it and the revisions found so far
abbrev pub seeking_in : ℕ → Facts → List Revision → Seeking
seeking_in part known index = record {
  part = part;
  marks = known.marks;
  tails = known.tails;
  at = 1;
  ends = known.ends;
  found = record { index = index; moves = [] };
}

-- after an element with these attributes, which is this
abbrev pub added : ℕ → List (List ℕ) → List ℕ → Sight → Tally → Tally
added part tails tail sight found = noted part found (sight_by tails tail sight.kind sight.start)

-- what is handed down is where the nearest paragraph ends
abbrev pub seeker_rule : VisitRule Around ℕ Seeking
seeker_rule = record {
  below = λ here own tag kids s. next_end tag s.ends own;
  enter = λ here own tag kids s. record s {
    found = added s.part s.tails tag.tail (sight_at s.marks here own s.at tag) s.found;
    ends = ends_after tag s.ends;
    at = s.at + 1;
  };
  leave = λ here below tag kids s. record s { at = s.at + 1 };
}

-- Positions fit a number of 64 bits, and numbers of revisions one of 32. No marker is where the role of an element is.
abbrev pub seeker_needs : VisitNeeds Around ℕ Seeking
seeker_needs = record {
  Enter = λ here own tag kids s.
      (s.at + 1 < 2 ^ 64) × (length s.found.index + 1 < 2 ^ 32) × IsUtf8 tag.tail × All IsUtf8 s.tails
      × IsApartAs s.marks (role_in here tag) s.at own;
  Leave = λ here below tag kids s. s.at + 1 < 2 ^ 64;
}
