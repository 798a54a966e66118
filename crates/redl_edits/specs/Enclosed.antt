-- The second way in which two revisions belong together: the one is a change of properties inside what was inserted, deleted or moved, and
-- the other the outermost of these (our own rule).
use Rattle.std.specs.Prelude.{ℕ, zero, suc, ◌+◌, ◌-◌, ◌&&◌, not, nat_le, nat_lt, Bool, true, List, [], ◌∷◌, ◌++◌, length, slice_get, Option, None, Some, is_some, if◌then◌else◌}
use Rattle.redl_classes.specs.declared.pair.Pair.{Pair}
use Rattle.redl_index.specs.declared.revision.Revision.{Revision}
use Rattle.redl_spans.specs.declared.span.Span.{Span}
use Rattle.redl_edits.specs.Alike.{are_alike_at, is_change_at}
use Rattle.redl_edits.specs.Beside.{pair_of}

abbrev pub holds : ℕ → Span → Bool
holds unit span = nat_le span.from unit && nat_lt unit span.to

-- it is alike to the change, and is none itself
abbrev pub may_enclose : List Revision → Span → Span → Bool
may_enclose revisions change span =
    not (is_change_at revisions span.revision) && are_alike_at revisions change.revision span.revision

abbrev pub is_round : List Revision → Span → ℕ → Span → Bool
is_round revisions change unit span = holds unit span && may_enclose revisions change span

abbrev pub round_if : List Revision → Span → ℕ → Option Span → Option Span
round_if revisions change unit None = None
round_if revisions change unit (Some span) = if is_round revisions change unit span then Some span else None

abbrev pub or_else : Option Span → Option Span → Option Span
or_else None other = other
or_else (Some span) other = Some span

-- The last of so many first spans that holds this unit, is alike to the change, and is none itself. Spans are in the order in which they
-- end, so of nested ones it is the outermost.
abbrev pub round_upto : List Revision → List Span → Span → ℕ → ℕ → Option Span
round_upto revisions spans change unit zero = None
round_upto revisions spans change unit (suc place) =
    or_else (round_if revisions change unit (slice_get spans place)) (round_upto revisions spans change unit place)

abbrev pub outermost : List Revision → List Span → Span → ℕ → Option Span
outermost revisions spans change unit = round_upto revisions spans change unit (length spans)

-- each of so many first units of a change has such a span
abbrev pub are_held : List Revision → List Span → Span → ℕ → Bool
are_held revisions spans change zero = true
are_held revisions spans change (suc place) =
    are_held revisions spans change place && is_some (outermost revisions spans change (change.from + place))

-- it has a unit, and each of its units has such a span
abbrev pub is_enclosed : List Revision → List Span → Span → Bool
is_enclosed revisions spans change =
    nat_lt change.from change.to && are_held revisions spans change (change.to - change.from)

abbrev pub is_inside : List Revision → List Span → Span → Bool
is_inside revisions spans change = is_change_at revisions change.revision && is_enclosed revisions spans change

abbrev pub pair_with : Span → Option Span → List Pair
pair_with one None = []
pair_with one (Some two) = pair_of one two ∷ []

-- a change that is inside, and the outermost one round its first unit
abbrev pub pair_enclosed : List Revision → List Span → Span → List Pair
pair_enclosed revisions spans change =
    if is_inside revisions spans change then pair_with change (outermost revisions spans change change.from) else []

abbrev pub pair_enclosed_if : List Revision → List Span → Option Span → List Pair
pair_enclosed_if revisions spans None = []
pair_enclosed_if revisions spans (Some change) = pair_enclosed revisions spans change

-- of so many first spans, the last one first
abbrev pub enclosed_upto : List Revision → List Span → ℕ → List Pair
enclosed_upto revisions spans zero = []
enclosed_upto revisions spans (suc place) =
    pair_enclosed_if revisions spans (slice_get spans place) ++ enclosed_upto revisions spans place

abbrev pub enclosed_pairs : List Revision → List Span → List Pair
enclosed_pairs revisions spans = enclosed_upto revisions spans (length spans)
