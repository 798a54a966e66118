-- Locks: which revisions nobody decides (our own rule).
use Rattle.std.specs.Prelude.{Bool}
use Rattle.std.specs.Str.{bytes_eq}
use Rattle.redl_index.specs.declared.revision.Revision.{Revision}
use Rattle.redl_kinds.specs.Kinds.{is_same_kind}
use Rattle.redl_kinds.specs.declared.lock.Lock.{Lock}
use Rattle.redl_kinds.specs.declared.lock.Lock.TheVariants.{Author, Kind, Span}
use Rattle.redl_select.specs.Selections.{is_within}

-- The lock holds the revision. A paired move has the kind move alone, and no lock by span holds a revision without a moment.
abbrev pub holds : Revision → Lock → Bool
holds revision (Author name) = bytes_eq revision.author name
holds revision (Kind of_kind) = is_same_kind revision.kind of_kind
holds revision (Span start end) = is_within start end revision.seconds
