-- What is known of the spans round a change while they are sought.
use Rattle.std.specs.Prelude.{◌≡◌, ◌≤◌, ◌<◌, ◌-◌, ℕ, List, length, find, slice_index_or, Option, None, is_some, true, if◌then◌else◌}
use Rattle.redl_index.specs.declared.revision.Revision.{Revision}
use Rattle.redl_spans.specs.declared.span.Span.{Span}
use Rattle.redl_edits.specs.Enclosed.{is_enclosed, is_round, or_else, outermost, round_upto}

-- the outermost one round the first unit of a change, if each of its units has one
abbrev pub sought : List Revision → List Span → Span → Option Span
sought revisions spans change =
    if is_enclosed revisions spans change then outermost revisions spans change change.from else None

-- Of the spans from a place on these are kept. They end there or behind it, and with the spans before the place they tell which span is
-- the outermost round each unit before.
pub record IsStack (revisions : List Revision) (spans later : List Span) (place end : ℕ) : Type 0 where
  pub ends : (k : ℕ) (none : Span) → k < length later → end ≤ (slice_index_or later k none).to
  pub found : (change : Span) (unit : ℕ) → unit < end
      → outermost revisions spans change unit ≡ or_else (find (is_round revisions change unit) later) (round_upto revisions spans change unit place)

-- of the units of a change those from this one on are held by these spans, and none before it is
pub record LowersLater (revisions : List Revision) (change : Span) (later : List Span) (unit : ℕ) : Type 0 where
  pub bound : unit ≤ change.to
  pub held : (k : ℕ) → unit ≤ k → k < change.to → is_some (find (is_round revisions change k) later) ≡ true
  pub free : (k : ℕ) → k < unit → find (is_round revisions change k) later ≡ None

-- of the units before the first one those from the second on are held, and the one before that, if it is one of the change, isn't
pub record LowersEarlier (revisions : List Revision) (change : Span) (spans : List Span) (before unit : ℕ) : Type 0 where
  pub bound : unit ≤ before
  pub held : (k : ℕ) → unit ≤ k → k < before → is_some (round_upto revisions spans change k (length spans)) ≡ true
  pub free : change.from < unit → round_upto revisions spans change (unit - 1) (length spans) ≡ None
