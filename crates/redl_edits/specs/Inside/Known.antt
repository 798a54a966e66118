-- What is known where changes of one format are looked for.
use Rattle.std.specs.Prelude.{◌≡◌, ◌+◌, ◌&&◌, ℕ, Bool, nat_le, List, [], ◌∷◌, length, Option, Some, None, if◌then◌else◌}
use Rattle.redl_classes.specs.declared.pair.Pair.{Pair}
use Rattle.redl_index.specs.declared.revision.Revision.{Revision}
use Rattle.redl_spans.specs.declared.span.Span.{Span}
use Rattle.redl_edits.specs.Alike.{are_alike_at, revision_at}
use Rattle.redl_edits.specs.Beside.{pair_of}
use Rattle.redl_edits.specs.Facts.{Facts}
use Rattle.redl_edits.specs.Inside.Authors.{seen_of}
use Rattle.redl_edits.specs.Inside.Ends.{AreInOrder}
use Rattle.redl_edits.specs.Inside.Loose.{AreLoose}
use Rattle.redl_edits.specs.Inside.Reaches.{Reach}
use Rattle.redl_edits.specs.Inside.Said.{IsFound}
use Rattle.redl_edits.specs.declared.formats.Format.{Format}
use Rattle.redl_edits.specs.declared.said.Said.{Said}
use Rattle.redl_edits.specs.declared.seen_by.SeenBy.{SeenBy}

abbrev pub facts_with : List Revision → List Span → List ℕ → List Format → Facts
facts_with revisions spans passed formats = record { revisions = revisions; spans = spans; passed = passed; formats = formats }

-- a change and another one that begins no later than this unit
abbrev pub pair_near : List Revision → Span → Option Span → ℕ → List Pair
pair_near revisions one None apart = []
pair_near revisions one (Some two) apart =
    if are_alike_at revisions one.revision two.revision && nat_le two.from apart then pair_of one two ∷ [] else []

-- which changes are loose is known, and what each change changes
pub record IsKnown (facts : Facts) (loose : List Bool) (said : Said) : Type 0 where
  pub order : AreInOrder facts.spans
  pub changes : AreLoose facts.revisions facts.spans loose
  pub found : IsFound said (length facts.revisions + 1)

-- of each author it is known how far what was done from a place on reaches
pub record AreSeen (facts : Facts) (seen : SeenBy) (left : ℕ) : Type 0 where
  pub each : (one : Span) (revision : Revision) → revision_at facts.revisions one.revision ≡ Some revision → Reach facts one left (seen_of seen revision.author)
