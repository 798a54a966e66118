use Rattle.std.proofs.Common.{◌≤◌, ◌<◌, ℕ, length, get_or}
use Rattle.redl_spans.specs.declared.span.Span.{Span}
use Rattle.redl_edits.proofs.enclosed.kept_count.Given as goal

abbrev pub invariant-loop-place : goal.invariant-loop-place
invariant-loop-place l = (place : ℕ) (none : Span) → l.place ≤ place → place < length l.later → l.end ≤ (get_or l.later place none).from
