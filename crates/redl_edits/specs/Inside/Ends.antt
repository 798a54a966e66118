-- Spans in the order in which they end.
use Rattle.std.specs.Prelude.{ℕ, ◌≤◌, ◌<◌, List, length, slice_index_or}
use Rattle.redl_spans.specs.declared.span.Span.{Span}

abbrev pub AreInOrder : List Span → Type 0
AreInOrder spans = (i j : ℕ) (none : Span) → i ≤ j → j < length spans → (slice_index_or spans i none).to ≤ (slice_index_or spans j none).to
