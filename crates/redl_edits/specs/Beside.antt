-- The first way in which two revisions belong together: their texts, ends of paragraphs, rows or cells touch (our own rule).
use Rattle.std.specs.Prelude.{ℕ, zero, suc, ◌&&◌, not, nat_le, Bool, List, [], ◌∷◌, ◌++◌, length, slice_get, Option, None, Some, if◌then◌else◌}
use Rattle.redl_classes.specs.declared.pair.Pair.{Pair}
use Rattle.redl_index.specs.declared.revision.Revision.{Revision}
use Rattle.redl_spans.specs.declared.span.Span.{Span}
use Rattle.redl_edits.specs.Alike.{are_alike_at, is_change_at}

-- they hold a unit in common, or a unit of the one is followed at once by a unit of the other
abbrev pub touch : Span → Span → Bool
touch one two = nat_le one.from two.to && nat_le two.from one.to

-- neither is a change of properties
abbrev pub are_beside : List Revision → Span → Span → Bool
are_beside revisions one two =
    touch one two && not (is_change_at revisions one.revision) && not (is_change_at revisions two.revision)
    && are_alike_at revisions one.revision two.revision

abbrev pub pair_of : Span → Span → Pair
pair_of one two = record { one = one.revision; two = two.revision }

abbrev pub pair_beside : List Revision → Span → Option Span → List Pair
pair_beside revisions one None = []
pair_beside revisions one (Some two) = if are_beside revisions one two then pair_of one two ∷ [] else []

-- a span with so many of the first ones
abbrev pub pairs_before : List Revision → List Span → Span → ℕ → List Pair
pairs_before revisions spans one zero = []
pairs_before revisions spans one (suc place) =
    pair_beside revisions one (slice_get spans place) ++ pairs_before revisions spans one place

-- the span at a place with those before it
abbrev pub pairs_at : List Revision → List Span → ℕ → Option Span → List Pair
pairs_at revisions spans place None = []
pairs_at revisions spans place (Some one) = pairs_before revisions spans one place

abbrev pub beside_upto : List Revision → List Span → ℕ → List Pair
beside_upto revisions spans zero = []
beside_upto revisions spans (suc place) =
    beside_upto revisions spans place ++ pairs_at revisions spans place (slice_get spans place)

-- each span with those that end before it
abbrev pub beside_pairs : List Revision → List Span → List Pair
beside_pairs revisions spans = beside_upto revisions spans (length spans)
