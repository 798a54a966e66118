-- Which move the marker at a position is of: by places it is the same as by the definitions.
use Rattle.std.proofs.Common.{◌≡◌, ◌∙◌, refl, ap, cond, ℕ, inl, inr, List, [], ◌∷◌, Bool, true, false, ◌||◌, ◌==◌, Option, Some, None, option_map, slice_get, find, map}
use Rattle.redl_tree.specs.Revisions.Moves.{Marking, Pair, Move, pairs, is_of_pair, place_of, by_places, paired_moves}
use Rattle.redl_moves.specs.Marks.{RisesFrom}
use Rattle.redl_moves.specs.Starts.{at_of, start_by, start_in}
use Rattle.redl_moves.specs.Inside.Owners.{is_at, first_owner, owner_over}
use Rattle.redl_moves.specs.declared.start.Start.{Start}
use Rattle.redl_moves.proofs.AgainLaws.{In}
use Rattle.redl_moves.proofs.ThereLaws.{IsThere, pair-there}

module _ (marks : List Marking) (at : ℕ) where
  -- the position is that of one of these
  abbrev any : Option Marking → Option Marking → Option Marking → Option Marking → Bool
  any a b c d = at == at_of a || at == at_of b || at == at_of c || at == at_of d

  hits : (pair : Pair) → IsThere marks pair → is_at marks at (by_places marks pair) ≡ is_of_pair at pair
  hits pair t =
      let b = slice_get marks (place_of marks pair.source.end.at) in
      let c = slice_get marks (place_of marks pair.target.start.at) in
      let d = slice_get marks (place_of marks pair.target.end.at) in
      ap (λ o. any o b c d) t.source_start
      ∙ ap (λ o. any (Some pair.source.start) o c d) t.source_end
      ∙ ap (λ o. any (Some pair.source.start) (Some pair.source.end) o d) t.target_start
      ∙ ap (λ o. any (Some pair.source.start) (Some pair.source.end) (Some pair.target.start) o) t.target_end

  kept : (start : Start) (ms : List Move) → owner_over marks at (Some start) ms ≡ Some start
  kept start [] = refl
  kept start (m ∷ ms) = kept start ms

  first-of : (ps : List Pair) → ((p : Pair) → In p ps → IsThere marks p) →
      owner_over marks at None (map (by_places marks) ps) ≡ option_map (start_in marks) (find (is_of_pair at) ps)
  first-of [] each = refl
  first-of (p ∷ ps) each =
      let t = each p (inl refl) in
      ap (λ b. owner_over marks at (first_owner b (start_by marks (place_of marks p.source.start.at)) None) (map (by_places marks) ps)) (hits p t)
      ∙ ap (λ o. owner_over marks at (first_owner (is_of_pair at p) (record { at = at_of o; place = place_of marks p.source.start.at }) None) (map (by_places marks) ps)) t.source_start
      ∙ by (is_of_pair at p) (first-of ps (λ q i. each q (inr i)))
    where
      by : (b : Bool) → owner_over marks at None (map (by_places marks) ps) ≡ option_map (start_in marks) (find (is_of_pair at) ps) →
          owner_over marks at (first_owner b (start_in marks p) None) (map (by_places marks) ps) ≡ option_map (start_in marks) (cond b (Some p) (find (is_of_pair at) ps))
      by true ih = kept (start_in marks p) (map (by_places marks) ps)
      by false ih = ih

  -- the first of the paired moves that has a marker there
  pub owner-pairs : RisesFrom 0 marks → owner_over marks at None (paired_moves marks) ≡ option_map (start_in marks) (find (is_of_pair at) (pairs marks))
  owner-pairs rises = first-of (pairs marks) (pair-there marks rises)

-- four positions, one after the other
pub four-noted : (a b c d : Bool) (start : Start) (had one two three all : Option Start) →
    one ≡ first_owner a start had → two ≡ first_owner b start one → three ≡ first_owner c start two → all ≡ first_owner d start three →
    all ≡ first_owner (a || b || c || d) start had
four-noted a b c d start had one two three all p q r s =
    s ∙ ap (first_owner d start) (r ∙ ap (first_owner c start) (q ∙ ap (first_owner b start) p)) ∙ by a b c had
  where
    by : (a b c : Bool) (had : Option Start) →
        first_owner d start (first_owner c start (first_owner b start (first_owner a start had))) ≡ first_owner (a || b || c || d) start had
    by a b c (Some start) = refl
    by true b c None = refl
    by false true c None = refl
    by false false true None = refl
    by false false false None = refl
