-- How far what an author did reaches, as the code keeps it while it goes back from the last span.
use Rattle.std.specs.Prelude.{◌≡◌, ◌≤◌, ◌<◌, ◌&&◌, ℕ, Bool, true, false, min, nat_lt, List, length, slice_index, slice_index_or, if◌then◌else◌}
use Rattle.std.specs.List.{list_any}
use Rattle.redl_grammar.specs.Characters.{is_space}
use Rattle.redl_spans.specs.declared.span.Span.{Span}
use Rattle.redl_edits.specs.Alike.{revision_at}
use Rattle.redl_edits.specs.Facts.{Facts}
use Rattle.redl_edits.specs.Formatted.{is_by_author, keeps_apart, same_author}
use Rattle.redl_edits.specs.declared.seen.Seen.{Seen}

-- the first unit from this one on that isn't blank
pub record IsDark (passed : List ℕ) (from dark : ℕ) : Type 0 where
  pub bound : from ≤ dark
  pub blank : (unit : ℕ) → from ≤ unit → unit < dark → is_space (slice_index passed unit) ≡ true
  pub here : is_space (slice_index passed dark) ≡ false

-- that of each span, from its end on
abbrev pub AreDark : List ℕ → List Span → List ℕ → Type 0
AreDark passed spans dark = (k : ℕ) (none : Span) → k < length spans → IsDark passed (slice_index_or spans k none).to (slice_index dark k)

-- what an author did is seen with one span more
abbrev pub seen_with : Seen → Span → ℕ → Seen
seen_with seen span dark = record {
  low = min seen.low span.from;
  at = span.to;
  apart = if nat_lt dark seen.low && nat_lt dark seen.at then dark else seen.apart;
}

-- the span is by the author of this one
abbrev pub is_same : Facts → Span → Span → Bool
is_same facts one span = same_author (revision_at facts.revisions one.revision) (revision_at facts.revisions span.revision)

-- Of the spans from a place on, those by an author hold the units from the first one on to the second, and none before. Behind the second the
-- next unit that keeps the author's changes apart is the third one.
pub record Reach (facts : Facts) (one : Span) (left : ℕ) (seen : Seen) : Type 0 where
  pub above : (k : ℕ) (none : Span) → left ≤ k → k < length facts.spans → is_same facts one (slice_index_or facts.spans k none) ≡ true
      → seen.low ≤ (slice_index_or facts.spans k none).from
  pub before : (k : ℕ) (none : Span) → k < left → k < length facts.spans → (slice_index_or facts.spans k none).to ≤ seen.at
  pub held : (unit : ℕ) → seen.low ≤ unit → unit < seen.at → list_any (is_by_author facts one unit) facts.spans ≡ true
  pub bound : seen.at ≤ seen.apart
  pub clear : (unit : ℕ) → seen.at ≤ unit → unit < seen.apart → keeps_apart facts one unit ≡ false
  pub next : keeps_apart facts one seen.apart ≡ true
