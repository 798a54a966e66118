-- What code keeps of the places of comments, as the definitions see it.
use Rattle.std.specs.Prelude.{ℕ, List, Option}
use Rattle.std.specs.BTreeMap.{get_by}
use Rattle.std.specs.Cmp.Lexicographic.{slice_cmp}
use Rattle.std.specs.Ordering.{nat_cmp}
use Rattle.redl_commented.specs.declared.found.Found.{Found}
use Rattle.redl_commented.specs.declared.found.Founds.{Founds}

-- the places of the comment with this id
abbrev pub found_at : Founds → List ℕ → Option Found
found_at founds id = get_by (λ k. slice_cmp nat_cmp id k.now) founds.by_id
