-- What bars a revision under locks (our own rule).
use Rattle.std.specs.Prelude.{◌&&◌, List, Option, Some, None, if◌then◌else◌}
use Rattle.std.specs.List.{list_any}
use Rattle.redl_index.specs.declared.revision.Revision.{Revision}
use Rattle.redl_kinds.specs.Locks.{is_author, is_kind}
use Rattle.redl_select.specs.Locks.{holds}
use Rattle.redl_kinds.specs.declared.lock.Lock.{Lock}
use Rattle.redl_session.specs.declared.refusal.Bar.{Bar}
use Rattle.redl_session.specs.declared.refusal.Bar.TheVariants.{Author, Kind, Span}

-- its author where a lock on an author holds it, else its kind where a lock on a kind does, else its moment
abbrev pub bar_of : List Lock → Revision → Option Bar
bar_of locks revision =
    if list_any (λ lock. is_author lock && holds revision lock) locks then Some Author
    else if list_any (λ lock. is_kind lock && holds revision lock) locks then Some Kind
    else if list_any (λ lock. holds revision lock) locks then Some Span
    else None
