-- What a lock is on (our own rule).
use Rattle.std.specs.Prelude.{Bool, true, false}
use Rattle.redl_kinds.specs.declared.lock.Lock.{Lock}
use Rattle.redl_kinds.specs.declared.lock.Lock.TheVariants.{Author, Kind, Span}

-- a lock on the revisions of an author
abbrev pub is_author : Lock → Bool
is_author (Author name) = true
is_author (Kind of_kind) = false
is_author (Span start end) = false

-- a lock on the revisions of a kind
abbrev pub is_kind : Lock → Bool
is_kind (Author name) = false
is_kind (Kind of_kind) = true
is_kind (Span start end) = false
