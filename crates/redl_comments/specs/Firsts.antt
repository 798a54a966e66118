-- What code keeps of the places of keys, as the definitions see it.
use Rattle.std.specs.Prelude.{ℕ, List, Option}
use Rattle.std.specs.BTreeMap.{get_by}
use Rattle.std.specs.Cmp.Lexicographic.{slice_cmp}
use Rattle.std.specs.Ordering.{nat_cmp}
use Rattle.redl_comments.specs.declared.firsts.Firsts.{Firsts}

-- the place of a key
abbrev pub place_at : Firsts → List ℕ → Option ℕ
place_at firsts key = get_by (λ k. slice_cmp nat_cmp key k.now) firsts.places
