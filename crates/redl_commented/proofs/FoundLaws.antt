-- Places of a comment that are added to a table.
use Rattle.std.proofs.Common.{◌≡◌, ◌∙◌, refl, sym, ap, ℕ, List, Bool, true, false, bytes_eq, cond, Option, Some, if◌then◌else◌}
use Rattle.std.proofs.lemmas.Slice.Eq.{bytes_eq-Decides}
use Rattle.redl_commented.specs.Ranges.{with_place}
use Rattle.redl_commented.specs.declared.found.Found.{Found}
use Rattle.redl_spans.specs.declared.place.CommentPlace.{CommentPlace}

-- the places of one comment changed: those before were `old`
pub found_more : (place : CommentPlace) (other : List ℕ) (old : List ℕ → Option Found) (put now : Option Found) → put ≡ Some (with_place (old place.id) place) → now ≡ cond (bytes_eq place.id other) put (old other)
    → now ≡ (if bytes_eq place.id other then Some (with_place (old other) place) else old other)
found_more place other old put now same is = at (bytes_eq place.id other) refl
  where
    at : (b : Bool) → bytes_eq place.id other ≡ b → now ≡ (if bytes_eq place.id other then Some (with_place (old other) place) else old other)
    at true s =
        is ∙ ap (λ b. cond b put (old other)) s ∙ same ∙ ap (λ (id : List ℕ). Some (with_place (old id) place)) ((bytes_eq-Decides place.id other).0 s)
        ∙ sym (ap (λ b. if b then Some (with_place (old other) place) else old other) s)
    at false s =
        is ∙ ap (λ b. cond b put (old other)) s ∙ sym (ap (λ b. if b then Some (with_place (old other) place) else old other) s)
