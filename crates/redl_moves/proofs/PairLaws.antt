-- The moves of the markers so far, and those of the markers that are left.
use Rattle.std.proofs.Common.{◌≡◌, ◌∙◌, refl, ap, sym, ℕ, ◌+◌, ◌<◌, List, [], ◌∷◌, ◌++◌, Option, Some, None, option_map, option_to_list, filter_map, map, length, drop, get_or}
use Rattle.std.proofs.lemmas.List.{drop_more}
use Rattle.std.specs.List.{cons_option}
use Rattle.redl_tree.specs.Revisions.Moves as moves
use Rattle.redl_tree.specs.Revisions.Moves.{Marking, from_start}
use Rattle.redl_moves.specs.Marks.{marking_of, markings, move_of}
use Rattle.redl_moves.specs.Places.{move_begun}
use Rattle.redl_moves.specs.declared.marker.Marker.{Marker}
use Rattle.redl_moves.specs.declared.marker.Move.{Move}

-- the markers from a place on, where this one is there
pub marks_here : (marks : List Marker) (i : ℕ) (mark : Marker) → i < length marks → mark ≡ get_or marks i mark →
    markings (drop i marks) ≡ marking_of mark ∷ markings (drop (i + 1) marks)
marks_here marks i mark within is =
    ap markings (drop_more marks i mark within) ∙ ap (λ m. marking_of m ∷ markings (drop (i + 1) marks)) (sym is)

added : (had : List Move) (found : Option Move) (rest : List moves.Move) →
    map move_of (had ++ option_to_list found) ++ rest ≡ map move_of had ++ cons_option (option_map move_of found) rest
added [] None rest = refl
added [] (Some m) rest = refl
added (x ∷ had) found rest = ap (λ ms. move_of x ∷ ms) (added had found rest)

-- one more marker
pub move-added : (whole : List Marking) (marks : List Marker) (i : ℕ) (mark : Marker) (had : List Move) (found : Option Move) →
    i < length marks → mark ≡ get_or marks i mark → option_map move_of found ≡ move_begun from_start whole (marking_of mark) →
    map move_of (had ++ option_to_list found) ++ filter_map (move_begun from_start whole) (markings (drop (i + 1) marks))
    ≡ map move_of had ++ filter_map (move_begun from_start whole) (markings (drop i marks))
move-added whole marks i mark had found within is paired =
    let rest = filter_map (move_begun from_start whole) (markings (drop (i + 1) marks)) in
    added had found rest
    ∙ ap (λ o. map move_of had ++ cons_option o rest) paired
    ∙ ap (λ ms. map move_of had ++ filter_map (move_begun from_start whole) ms) (sym (marks_here marks i mark within is))
