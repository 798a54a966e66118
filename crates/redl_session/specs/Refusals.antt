-- Which entries on a package's revisions are refused, and why (our own rule).
use Rattle.std.specs.Prelude.{◌≡◌, ◌-◌, ℕ, List, ◌++◌, filter, Option, Some, None, is_some, is_none, nat_lt, slice_get, if◌then◌else◌}
use Rattle.std.specs.List.{filter_map}
use Rattle.std.specs.Option.{option_map}
use Rattle.redl_index.specs.declared.revision.Revision.{Revision}
use Rattle.redl_join.specs.Books.{union}
use Rattle.redl_journal.specs.declared.entry.Entry.{Entry}
use Rattle.redl_kinds.specs.declared.lock.Lock.{Lock}
use Rattle.redl_session.specs.Bars.{bar_of}
use Rattle.redl_session.specs.declared.refusal.AdmitError.{AdmitError}
use Rattle.redl_session.specs.declared.refusal.AdmitError.TheVariants.{Unknown, Locked, NoMemory}
use Rattle.redl_session.specs.declared.refusal.Refusal.{Refusal}

-- the revision with this number; numbers count from 1
abbrev pub revision_at : List Revision → ℕ → Option Revision
revision_at revisions number = if nat_lt 0 number then slice_get revisions (number - 1) else None

-- why an entry on this revision is refused: there is none, or a lock holds it
abbrev pub cause_on : List Lock → Option Revision → Option AdmitError
cause_on locks None = Some Unknown
cause_on locks (Some revision) = option_map Locked (bar_of locks revision)

-- why an entry is refused, if it is
abbrev pub cause_of : List Revision → List Lock → Entry → Option AdmitError
cause_of revisions locks entry = cause_on locks (revision_at revisions entry.rev)

-- the entries of a list that are not refused
abbrev pub admitted : List Revision → List Lock → List Entry → List Entry
admitted revisions locks entries = filter (λ entry. is_none (cause_of revisions locks entry)) entries

-- those that are
abbrev pub refused : List Revision → List Lock → List Entry → List Entry
refused revisions locks entries = filter (λ entry. is_some (cause_of revisions locks entry)) entries

-- an entry with the cause why it is refused, if it is
abbrev pub refusal_of : List Revision → List Lock → Entry → Option Refusal
refusal_of revisions locks entry = option_map (λ why. record { entry = entry; why = why }) (cause_of revisions locks entry)

-- the refused entries of a list, in their order, each with its cause
abbrev pub refusals : List Revision → List Lock → List Entry → List Refusal
refusals revisions locks entries = filter_map (refusal_of revisions locks) entries

-- An answer has the cause of the refusal. Memory runs out only where there is none.
abbrev pub IsCause : AdmitError → Option AdmitError → Type 0
IsCause Unknown cause = cause ≡ Some Unknown
IsCause (Locked bar) cause = cause ≡ Some (Locked bar)
IsCause NoMemory cause = cause ≡ None

-- a first part of the entries was taken into a book
pub record TakesFirst (revisions : List Revision) (locks : List Lock) (old new entries : List Entry) : Type 0 where
  pub first : List Entry
  pub rest : List Entry
  pub splits : entries ≡ first ++ rest
  pub taken : new ≡ union old (admitted revisions locks first)
