-- Reading a lock: an author, a kind, or two dates.
use Rattle.std.specs.Prelude.{ℕ, List, Option, Some, option_map}
use Rattle.redl_kinds.specs.KindNames.{kind_named}
use Rattle.redl_kinds.specs.declared.lock.Lock.{Lock}
use Rattle.redl_kinds.specs.declared.lock.Lock.TheVariants.{Author, Kind, Span}
use Rattle.redl_words.specs.Reading.Selections.{moments_in}
use Rattle.redl_words.specs.declared.options.Locked.{Locked}
use Rattle.redl_words.specs.declared.options.Locked.TheVariants as locked

abbrev pub kind_lock_in : List ℕ → Option Lock
kind_lock_in text = option_map Kind (kind_named text)

abbrev pub span_lock_in : List ℕ → Option Lock
span_lock_in text = option_map (λ moments. Span moments.0 moments.1) (moments_in text)

-- the lock of this sort that a text means
unfoldable pub lock_in : Locked → List ℕ → Option Lock
lock_in locked.Author text = Some (Author text)
lock_in locked.Kind text = kind_lock_in text
lock_in locked.Span text = span_lock_in text
