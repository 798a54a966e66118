-- Locks by hand, with the revisions that they hold.
use Rattle.std.proofs.Common.{◌≡◌, true, false, Some, None, refl}
use Rattle.std.specs.Prelude.{codes, pos}
use Rattle.redl_index.specs.declared.revision.Revision.{Revision}
use Rattle.redl_kinds.specs.declared.rev_kind.RevKind.TheVariants as kinds
use Rattle.redl_tree.specs.declared.kinds.Trace.TheVariants.{Ins, From}
use Rattle.redl_kinds.specs.declared.lock.Lock.TheVariants.{Author, Kind, Span}
use Rattle.redl_select.specs.Locks.{holds}

-- an insertion of Ann's at second 1714979289
abbrev ann : Revision
ann = record { number = 1; kind = kinds.Content Ins; author = codes "Ann"; seconds = Some (pos 1_714_979_289); part = 0; members = 1 }

-- a name is compared byte by byte
row_author : (holds ann (Author (codes "Ann")) ≡ true) × (holds ann (Author (codes "An")) ≡ false)
row_author = (refl, refl)

row_kind : (holds ann (Kind (kinds.Content Ins)) ≡ true) × (holds ann (Kind (kinds.Row Ins)) ≡ false)
row_kind = (refl, refl)

-- a paired move is held by its own kind, and not by that of one of its halves
row_move : (holds (record ann { kind = kinds.Move }) (Kind kinds.Move) ≡ true) × (holds (record ann { kind = kinds.Move }) (Kind (kinds.Content From)) ≡ false)
row_move = (refl, refl)

-- the start of a span is in it, and its end is outside
row_span : (holds ann (Span (pos 1_714_979_289) (pos 1_714_979_290)) ≡ true) × (holds ann (Span (pos 1_714_979_288) (pos 1_714_979_289)) ≡ false)
row_span = (refl, refl)

row_empty_span : holds ann (Span (pos 1_714_979_289) (pos 1_714_979_289)) ≡ false
row_empty_span = refl

row_undated : holds (record ann { seconds = None }) (Span (pos 0) (pos 2_000_000_000)) ≡ false
row_undated = refl
