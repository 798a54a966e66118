-- What is seen of each author, as the code keeps it.
use Rattle.std.specs.Prelude.{ℕ, List, Option, None, Some}
use Rattle.std.specs.BTreeMap.{get_by}
use Rattle.std.specs.Cmp.Lexicographic.{slice_cmp}
use Rattle.std.specs.Ordering.{nat_cmp}
use Rattle.redl_edits.specs.declared.seen.Seen.{Seen}
use Rattle.redl_edits.specs.declared.seen_by.SeenBy.{SeenBy}

abbrev pub seen_or : Seen → Option Seen → Seen
seen_or none None = none
seen_or none (Some seen) = seen

-- what is seen of an author
abbrev pub seen_of : SeenBy → List ℕ → Seen
seen_of seen author = seen_or seen.none (get_by (λ k. slice_cmp nat_cmp author k.now) seen.by_author)
