-- The third way in which two revisions belong together: one author gave one format to one stretch of text (our own rule).
use Rattle.std.specs.Prelude.{ℕ, zero, suc, ◌+◌, ◌-◌, ◌==◌, ◌&&◌, not, Bool, true, false, List, [], ◌∷◌, ◌++◌, drop, find, length, bytes_eq, slice_get, slice_index, Option, None, Some, if◌then◌else◌}
use Rattle.std.specs.List.{list_any}
use Rattle.redl_changed.specs.declared.changed.ChangedSaid.{ChangedSaid}
use Rattle.redl_classes.specs.declared.pair.Pair.{Pair}
use Rattle.redl_grammar.specs.Characters.{is_space}
use Rattle.redl_index.specs.declared.revision.Revision.{Revision}
use Rattle.redl_kinds.specs.Kinds.{is_same_kind}
use Rattle.redl_properties.specs.Values.{same_value}
use Rattle.redl_properties.specs.declared.change.Changed.{Changed}
use Rattle.redl_spans.specs.declared.span.Span.{Span}
use Rattle.redl_edits.specs.Alike.{are_alike_at, is_change_at, revision_at}
use Rattle.redl_edits.specs.Beside.{pair_of}
use Rattle.redl_edits.specs.Enclosed.{holds, is_inside}
use Rattle.redl_edits.specs.Facts.{Facts}
use Rattle.redl_edits.specs.Formats.{said_of}

-- a change that isn't inside what was inserted, deleted or moved
abbrev pub is_loose : List Revision → List Span → Span → Bool
is_loose revisions spans span = is_change_at revisions span.revision && not (is_inside revisions spans span)

-- ---- one format

abbrev pub same_change : Changed → Changed → Bool
same_change one two = bytes_eq one.property two.property && same_value one.from two.from && same_value one.to two.to

abbrev pub same_changes : List Changed → List Changed → Bool
same_changes [] [] = true
same_changes (one ∷ ones) (two ∷ twos) = same_change one two && same_changes ones twos
same_changes _ _ = false

-- how many more there are is known of both, and the same
abbrev pub same_count : Option ℕ → Option ℕ → Bool
same_count (Some one) (Some two) = one == two
same_count _ _ = false

-- The same properties differ, with the same former and present values: the first 20 of them, and how many more there are. Of lists that
-- are too large to be compared it isn't known.
abbrev pub same_said : ChangedSaid → ChangedSaid → Bool
same_said one two = same_changes one.changes two.changes && same_count one.more two.more

abbrev pub same_author_and_kind : Option Revision → Option Revision → Bool
same_author_and_kind (Some one) (Some two) = bytes_eq one.author two.author && is_same_kind one.kind two.kind
same_author_and_kind _ _ = false

-- one author gave one kind of elements one format
abbrev pub same_format : Facts → Span → Span → Bool
same_format facts one two =
    same_author_and_kind (revision_at facts.revisions one.revision) (revision_at facts.revisions two.revision)
    && same_said (said_of facts.formats one.revision) (said_of facts.formats two.revision)

-- ---- one stretch of text

-- white space, or the end of a paragraph
abbrev pub is_blank : Facts → ℕ → Bool
is_blank facts unit = is_space (slice_index facts.passed unit)

abbrev pub same_author : Option Revision → Option Revision → Bool
same_author (Some one) (Some two) = bytes_eq one.author two.author
same_author _ _ = false

-- a member by the author of a change holds this unit
abbrev pub is_by_author : Facts → Span → ℕ → Span → Bool
is_by_author facts change unit span =
    holds unit span && same_author (revision_at facts.revisions change.revision) (revision_at facts.revisions span.revision)

-- a unit that keeps what an author did apart: it isn't blank, and no revision of the author holds it
abbrev pub keeps_apart : Facts → Span → ℕ → Bool
keeps_apart facts change unit = not (is_blank facts unit) && not (list_any (is_by_author facts change unit) facts.spans)

-- none of so many units from this one on does
abbrev pub reaches : Facts → Span → ℕ → ℕ → Bool
reaches facts change from zero = true
reaches facts change from (suc place) = reaches facts change from place && not (keeps_apart facts change (from + place))

abbrev pub are_one_format : Facts → Span → Span → Bool
are_one_format facts one two =
    are_alike_at facts.revisions one.revision two.revision && reaches facts one one.to (two.from - one.to)

-- ---- each change with the next one of the same format

-- a loose change of the same format
abbrev pub is_next : Facts → Span → Span → Bool
is_next facts one two = is_loose facts.revisions facts.spans two && same_format facts one two

abbrev pub pair_formatted : Facts → Span → Option Span → List Pair
pair_formatted facts one None = []
pair_formatted facts one (Some two) = if are_one_format facts one two then pair_of one two ∷ [] else []

-- the loose change at a place with the first one behind it
abbrev pub pair_behind : Facts → ℕ → Option Span → List Pair
pair_behind facts place None = []
pair_behind facts place (Some one) =
    if is_loose facts.revisions facts.spans one then pair_formatted facts one (find (is_next facts one) (drop (place + 1) facts.spans))
    else []

-- of so many first spans, the last one first
abbrev pub formatted_upto : Facts → ℕ → List Pair
formatted_upto facts zero = []
formatted_upto facts (suc place) = pair_behind facts place (slice_get facts.spans place) ++ formatted_upto facts place

abbrev pub formatted_pairs : Facts → List Pair
formatted_pairs facts = formatted_upto facts (length facts.spans)
