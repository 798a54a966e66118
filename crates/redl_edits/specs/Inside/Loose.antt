-- Which spans are of changes that aren't inside others, as a list of their places.
use Rattle.std.specs.Prelude.{◌≡◌, ◌<◌, ℕ, Bool, List, false, length, slice_index_or}
use Rattle.redl_index.specs.declared.revision.Revision.{Revision}
use Rattle.redl_spans.specs.declared.span.Span.{Span}
use Rattle.redl_edits.specs.Formatted.{is_loose}

pub record AreLoose (revisions : List Revision) (spans : List Span) (loose : List Bool) : Type 0 where
  pub size : length loose ≡ length spans
  pub each : (k : ℕ) (none : Span) → k < length spans → slice_index_or loose k false ≡ is_loose revisions spans (slice_index_or spans k none)
