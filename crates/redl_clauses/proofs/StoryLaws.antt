-- Stories one after the other.
use Rattle.std.proofs.Common.{◌≡◌, refl, List, [], ◌∷◌, ◌++◌}
use Rattle.redl_lists.specs.declared.table.Tables.{Tables}
use Rattle.redl_tree.specs.Model.View.{Element}
use Rattle.redl_clauses.specs.Clauses.{story_walked, stories_walked}
use Rattle.redl_clauses.specs.Walks.{Walk}

pub stories_walked-append : (tables : Tables) (xs ys : List Element) (w : Walk) → stories_walked tables (xs ++ ys) w ≡ stories_walked tables ys (stories_walked tables xs w)
stories_walked-append tables [] ys w = refl
stories_walked-append tables (x ∷ xs) ys w = stories_walked-append tables xs ys (story_walked tables x w)
