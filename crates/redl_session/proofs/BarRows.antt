-- Locks by hand, with what bars an insertion of Ann's.
use Rattle.std.proofs.Common.{◌≡◌, [], ◌∷◌, Some, None, refl}
use Rattle.std.specs.Prelude.{codes, pos}
use Rattle.redl_index.specs.declared.revision.Revision.{Revision}
use Rattle.redl_kinds.specs.declared.rev_kind.RevKind.TheVariants as kinds
use Rattle.redl_journal.specs.declared.entry.Word.TheVariants as word
use Rattle.redl_kinds.specs.declared.lock.Lock.TheVariants as lock
use Rattle.redl_session.specs.Bars.{bar_of}
use Rattle.redl_session.specs.Refusals.{cause_of}
use Rattle.redl_session.specs.declared.refusal.AdmitError.TheVariants.{Unknown, Locked}
use Rattle.redl_session.specs.declared.refusal.Bar.TheVariants.{Author, Kind, Span}
use Rattle.redl_tree.specs.declared.kinds.Trace.TheVariants.{Ins, Del}

abbrev ann : Revision
ann = record { number = 1; kind = kinds.Content Ins; author = codes "Ann"; seconds = Some (pos 1_714_979_289); part = 0; members = 1 }

row_none : bar_of (lock.Author (codes "Bob") ∷ lock.Kind (kinds.Content Del) ∷ lock.Span (pos 0) (pos 1_714_979_289) ∷ []) ann ≡ None
row_none = refl

row_kind : bar_of (lock.Kind (kinds.Content Ins) ∷ []) ann ≡ Some Kind
row_kind = refl

row_span : bar_of (lock.Span (pos 1_714_979_289) (pos 1_714_979_290) ∷ []) ann ≡ Some Span
row_span = refl

-- an author comes before a kind, and a kind before a span, whatever the order of the locks
row_author_first : bar_of (lock.Kind (kinds.Content Ins) ∷ lock.Author (codes "Ann") ∷ []) ann ≡ Some Author
row_author_first = refl

row_kind_first : bar_of (lock.Span (pos 0) (pos 2_000_000_000) ∷ lock.Kind (kinds.Content Ins) ∷ []) ann ≡ Some Kind
row_kind_first = refl

-- a number that the package does not have comes before all locks
row_unknown : cause_of (ann ∷ []) (lock.Author (codes "Ann") ∷ []) (record { reviewer = codes "Dee"; seq = 1; rev = 2; word = word.Accept; rank = 0 }) ≡ Some Unknown
row_unknown = refl

row_locked : cause_of (ann ∷ []) (lock.Author (codes "Ann") ∷ []) (record { reviewer = codes "Dee"; seq = 1; rev = 1; word = word.Accept; rank = 0 }) ≡ Some (Locked Author)
row_locked = refl
