-- Stories one after the other.
use Rattle.std.proofs.Common.{◌≡◌, refl, List, [], ◌∷◌, ◌++◌}
use Rattle.redl_tree.specs.Model.View.{Element}
use Rattle.redl_spans.specs.Stories.{story_walked, stories_walked}
use Rattle.redl_spans.specs.Walks.{Walk}

pub stories_walked-append : (xs ys : List Element) (w : Walk) → stories_walked (xs ++ ys) w ≡ stories_walked ys (stories_walked xs w)
stories_walked-append [] ys w = refl
stories_walked-append (x ∷ xs) ys w = stories_walked-append xs ys (story_walked x w)
