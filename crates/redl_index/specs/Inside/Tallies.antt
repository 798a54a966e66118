-- What has been found after some elements of a story, one element after the other.
use Rattle.std.specs.Prelude.{ℕ, ◌+◌, ◌-◌, ◌^◌, nat_lt, nat_eq, List, [], ◌∷◌, ◌++◌, ◌==◌, ◌&&◌, not, Bool, set, slice_get, Option, Some, None, length, if◌then◌else◌}
use Rattle.std.specs.Map.{lookup}
use Rattle.indexmap.specs.IndexMap.{insert_entry}
use Rattle.redl_index.specs.Mentions.{Mention, Sight}
use Rattle.redl_index.specs.Revisions.{revision_of}
use Rattle.redl_index.specs.declared.revision.Revision.{Revision}
use Rattle.redl_index.specs.declared.found.Found.{Found}

-- the revisions so far, and the moves of the story that have a number, each by where its source starts
pub record Tally : Type 0 where
  pub index : List Revision
  pub moves : List (ℕ × ℕ)

abbrev pub tally_of : Found → Tally
tally_of found = record { index = found.index; moves = found.moves.entries }

abbrev pub next_number : Tally → ℕ
next_number tally = 1 + length tally.index

-- the number of the move whose source starts at this position, if it has one
abbrev pub move_number : List (ℕ × ℕ) → ℕ → Option ℕ
move_number moves start = lookup (nat_eq start) moves

-- the number that a move has so far
abbrev pub known_number : List (ℕ × ℕ) → Option ℕ → Option ℕ
known_number moves None = None
known_number moves (Some start) = move_number moves start

abbrev pub with_move : Option ℕ → ℕ → List (ℕ × ℕ) → List (ℕ × ℕ)
with_move None number moves = moves
with_move (Some start) number moves = insert_entry nat_eq moves start number

-- a revision with one member more, as far as 32 bits count
abbrev pub with_one_more : Revision → Revision
with_one_more revision = record revision { members = if nat_lt revision.members (2 ^ 32 - 1) then revision.members + 1 else revision.members }

abbrev pub replaced : List Revision → ℕ → Option Revision → List Revision
replaced index place None = index
replaced index place (Some revision) = set index place (with_one_more revision)

-- a further mention of the revision with this number, which counts as a member or not
abbrev pub mentioned_again : Bool → ℕ → List Revision → List Revision
mentioned_again counts number index =
    if counts && not (number == 0) then replaced index (number - 1) (slice_get index (number - 1)) else index

-- after a mention in this part: the first of its revision, or of the revision with this number
abbrev pub mentioned : ℕ → Tally → Mention → Option ℕ → Tally
mentioned part tally mention None = record {
  index = tally.index ++ revision_of part (mention ∷ []) mention (next_number tally) ∷ [];
  moves = with_move mention.move (next_number tally) tally.moves;
}
mentioned part tally mention (Some number) = record {
  index = mentioned_again mention.counts number tally.index;
  moves = tally.moves;
}

abbrev pub mentioned_by : ℕ → Tally → Mention → Tally
mentioned_by part tally mention = mentioned part tally mention (known_number tally.moves mention.move)

-- after one element more, in this part
abbrev pub noted_by : ℕ → Tally → Option Mention → Tally
noted_by part tally None = tally
noted_by part tally (Some mention) = mentioned_by part tally mention

abbrev pub noted : ℕ → Tally → Sight → Tally
noted part tally sight = noted_by part tally sight.mention

abbrev pub noted_all : ℕ → Tally → List Sight → Tally
noted_all part tally [] = tally
noted_all part tally (sight ∷ sights) = noted_all part (noted part tally sight) sights
