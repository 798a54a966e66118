-- The revisions of a package, in the order of their numbers, with who made each of them and when (ECMA-376 Part 1, 17.13.5).
use Rattle.std.specs.Prelude.{◌≡◌, ℕ, ◌+◌, ◌^◌, ◌<◌, ◌==◌, ◌&&◌, not, List, [], ◌∷◌, ◌++◌, All, Bool, true, false, IsTrue, Option, Some, None, length, filter, map, slice_get, if◌then◌else◌, IfSome, IsSome}
use Rattle.std.specs.List.{list_any}
use Rattle.std.specs.Str.{IsUtf8}
use Rattle.redl_tree.specs.Model.Nodes.{Tag, Nodes}
use Rattle.redl_opc.specs.Elements.{Element}
use Rattle.redl_opc.specs.Parts.{part_name, story}
use Rattle.redl_opc.specs.Shape.{parts_of, story_of}
use Rattle.redl_stamp.specs.Moment.{IsMoment}
use Rattle.redl_stamp.specs.Stamp.{author_of, seconds_of}
use Rattle.redl_kinds.specs.declared.rev_kind.RevKind.{RevKind}
use Rattle.redl_index.specs.declared.revision.Revision.{Revision}
use Rattle.redl_kinds.specs.Kinds.{is_named}
use Rattle.redl_index.specs.Mentions.{Mention, mentions}

-- what is told of each revision: its kind has a name, its author is UTF-8, and its moment lies in the years 0000 to 9999
pub record IsListable (revision : Revision) : Type 0 where
  pub named : IsTrue (is_named revision.kind)
  pub author : IsUtf8 revision.author
  pub moment : IfSome revision.seconds IsMoment

-- the numbers count from 1: revision number k + 1 stands at place k
abbrev pub AreNumbered : List Revision → Type 0
AreNumbered revisions = (k : ℕ) (revision : Revision) → slice_get revisions k ≡ Some revision → revision.number ≡ k + 1

-- what an index keeps: that this is told of each revision, that their numbers count from 1, and that 32 bits hold them
pub record IsIndex (revisions : List Revision) : Type 0 where
  pub told : All IsListable revisions
  pub numbers : AreNumbered revisions
  pub few : length revisions < 2 ^ 32

-- a mention of the move whose source starts at this position
abbrev pub starts_at : ℕ → Option ℕ → Bool
starts_at start None = false
starts_at start (Some other) = other == start

-- a mention is of the move with this start
abbrev pub is_of : ℕ → Mention → Bool
is_of start mention = starts_at start mention.move

-- a mention after these is the first of its revision: the revision is the element's own, or a move that none of these is of
abbrev pub is_new : List Mention → Option ℕ → Bool
is_new before None = true
is_new before (Some start) = not (list_any (is_of start) before)

-- of mentions that come after others, the first of each revision
abbrev pub firsts : List Mention → List Mention → List Mention
firsts before [] = []
firsts before (mention ∷ more) =
    if is_new before mention.move then mention ∷ firsts (before ++ mention ∷ []) more else firsts (before ++ mention ∷ []) more

-- how many members a revision has, where these are the mentions of the story: an element's own has that one, and a move those
-- that mention it, its markers not counted
abbrev pub members_of : List Mention → Option ℕ → ℕ
members_of story None = 1
members_of story (Some start) = length (filter (λ mention. mention.counts && is_of start mention) story)

-- the revision in this part of which these attributes speak, with so many members and this number
abbrev pub revision_with : ℕ → RevKind → List ℕ → ℕ → ℕ → Revision
revision_with part kind tail members number = record {
  number = number;
  kind = kind;
  author = author_of tail;
  seconds = seconds_of tail;
  part = part;
  members = members;
}

-- the revision that is mentioned, with this number, in the story in this part with these mentions
abbrev pub revision_of : ℕ → List Mention → Mention → ℕ → Revision
revision_of part story mention number = revision_with part mention.kind mention.tail (members_of story mention.move) number

-- the revisions of a story but for their numbers, in the order of their first start tags
abbrev pub story_revisions : ℕ → Tag → Nodes → List (ℕ → Revision)
story_revisions part root kids = map (revision_of part (mentions root kids)) (firsts [] (mentions root kids))

-- the revisions in the part with this number; none if the part is not a story
abbrev pub revisions_in : ℕ → Option Element → List (ℕ → Revision)
revisions_in part None = []
revisions_in part (Some root) = story_revisions part root.tag root.kids

-- the revisions in these parts, of which the first has this number
abbrev pub revisions_from : ℕ → List Element → List (ℕ → Revision)
revisions_from number [] = []
revisions_from number (part ∷ later) = revisions_in number (story_of part) ++ revisions_from (number + 1) later

-- revisions with their numbers, from this one on
abbrev pub numbered : ℕ → List (ℕ → Revision) → List Revision
numbered number [] = []
numbered number (revision ∷ more) = revision number ∷ numbered (number + 1) more

-- the revisions of a package, whose parts count from 0
abbrev pub revisions_of : Nodes → List Revision
revisions_of nodes = numbered 1 (revisions_from 0 (parts_of nodes))

-- the part of a revision is a story of the package, and has a name
pub record IsInStory (nodes : Nodes) (revision : Revision) : Type 0 where
  pub is_part : revision.part < length (parts_of nodes)
  pub has_name : IsSome (part_name nodes revision.part)
  pub has_story : IsSome (story nodes revision.part)
