-- Locks that hold nothing (our own rule).
use Rattle.std.specs.Prelude.{Bool, not, List, filter}
use Rattle.std.specs.List.{list_any}
use Rattle.redl_index.specs.declared.revision.Revision.{Revision}
use Rattle.redl_select.specs.Locks.{holds}
use Rattle.redl_kinds.specs.declared.lock.Lock.{Lock}

-- the lock holds some revision
abbrev pub holds_some : List Revision → Lock → Bool
holds_some revisions lock = list_any (λ revision. holds revision lock) revisions

-- the locks that hold no revision, in their order
abbrev pub idle_locks : List Revision → List Lock → List Lock
idle_locks revisions locks = filter (λ lock. not (holds_some revisions lock)) locks
