-- Moves that are over can be forgotten.
use Rattle.std.proofs.Common.{◌≡◌, ◌∙◌, refl, ap, sym, ℕ, ◌+◌, ◌<◌, List, [], ◌∷◌, ◌++◌, Bool, true, false, not, nat_lt, Option, Some, None, option_map, option_to_list, map, arith, length, drop, get_or, append_assoc}
use Rattle.std.proofs.lemmas.List.{append-nil, map-append}
use Rattle.redl_moves.specs.Marks.{marking_of, markings, move_of}
use Rattle.redl_moves.specs.declared.marker.Marker.{Marker}
use Rattle.redl_moves.specs.declared.marker.Move as marker
use Rattle.redl_moves.proofs.PairLaws.{marks_here}
use Rattle.redl_tree.specs.Revisions.Moves.{Marking, Move}
use Rattle.redl_moves.specs.Places.{move_begun}
use Rattle.redl_moves.specs.Opens.{start_of, end_of, is_open_at, or_this, find_last, opens_over, OpenAlike}
use Rattle.redl_moves.specs.declared.opens.Side.{Side}

-- what doesn't pass can be left out
pub find_last-without : {X : Type 0} (test : X → Bool) (xs : List X) (x : X) (more : List X) → test x ≡ false →
    find_last test ((xs ++ x ∷ []) ++ more) ≡ find_last test (xs ++ more)
find_last-without test [] x more fails = ap (λ b. or_this b x (find_last test more)) fails ∙ nothing (find_last test more)
  where
    nothing : (o : Option _) → or_this false x o ≡ o
    nothing None = refl
    nothing (Some y) = refl
find_last-without test (y ∷ xs) x more fails = ap (or_this (test y) y) (find_last-without test xs x more fails)

-- the last one, where it passes
pub find_last-push : {X : Type 0} (test : X → Bool) (xs : List X) (x : X) → test x ≡ true → find_last test (xs ++ x ∷ []) ≡ Some x
find_last-push test [] x passes = ap (λ b. or_this b x None) passes
find_last-push test (y ∷ xs) x passes = ap (or_this (test y) y) (find_last-push test xs x passes)

-- what is over at a place is over at later ones
pub alike-over : (side : Side) (place : ℕ) (xs : List Move) (x : Move) → is_open_at side place x ≡ false → OpenAlike side place xs (xs ++ x ∷ [])
alike-over side place xs x over at more h = sym (find_last-without (is_open_at side at) xs x more (over_on (end_of side x) over))
  where
    over_on : (n : ℕ) → not (nat_lt n place) ≡ false → not (nat_lt n at) ≡ false
    over_on n e = grind arith

pub opens-alike : (side : Side) (whole : List Marking) (xs ys : List Move) (place : ℕ) (marks : List Marking) → OpenAlike side place xs ys →
    opens_over side whole xs place marks ≡ opens_over side whole ys place marks
opens-alike side whole xs ys place [] alike = ap (λ o. o ∷ []) (here side place xs ys alike)
  where
    here : (side : Side) (place : ℕ) (xs ys : List Move) → OpenAlike side place xs ys → find_last (is_open_at side place) xs ≡ find_last (is_open_at side place) ys
    here side place xs ys alike = ap (find_last (is_open_at side place)) (sym (append-nil xs)) ∙ alike place [] (omega arith) ∙ ap (find_last (is_open_at side place)) (append-nil ys)
opens-alike side whole xs ys place (mark ∷ marks) alike =
    let new = option_to_list (move_begun (start_of side) whole mark) in
    ap (λ o. o ∷ opens_over side whole (xs ++ new) (place + 1) marks)
    (ap (find_last (is_open_at side place)) (sym (append-nil xs)) ∙ alike place [] (omega arith) ∙ ap (find_last (is_open_at side place)) (append-nil ys))
    ∙ ap (λ os. find_last (is_open_at side place) ys ∷ os)
    (opens-alike side whole (xs ++ new) (ys ++ new) (place + 1) marks
    (λ at more h. ap (find_last (is_open_at side at)) (append_assoc xs new more) ∙ alike at (new ++ more) (omega (arith, h)) ∙ ap (find_last (is_open_at side at)) (sym (append_assoc ys new more))))

-- ---- as the code keeps them

-- what is open among alike ones is the same
pub alike-here : (side : Side) (place : ℕ) (xs ys : List Move) → OpenAlike side place xs ys → find_last (is_open_at side place) xs ≡ find_last (is_open_at side place) ys
alike-here side place xs ys alike = ap (find_last (is_open_at side place)) (sym (append-nil xs)) ∙ alike place [] (omega arith) ∙ ap (find_last (is_open_at side place)) (append-nil ys)

module _ (side : Side) (place : ℕ) (first : List Move) (old new : List marker.Move) (x : marker.Move) (popped : old ≡ new ++ x ∷ [])
    (alike : OpenAlike side place (map move_of old) first) where
  moved : map move_of old ≡ map move_of new ++ move_of x ∷ []
  moved = ap (map move_of) popped ∙ map-append move_of new (x ∷ [])

  -- one that is over goes
  pub alike-popped : is_open_at side place (move_of x) ≡ false → OpenAlike side place (map move_of new) first
  alike-popped over at more h =
      alike-over side place (map move_of new) (move_of x) over at more h
      ∙ ap (λ ms. find_last (is_open_at side at) (ms ++ more)) (sym moved) ∙ alike at more h

  -- one that is open is the last
  pub last-open : is_open_at side place (move_of x) ≡ true → Some (move_of x) ≡ find_last (is_open_at side place) first
  last-open yet =
      sym (find_last-push (is_open_at side place) (map move_of new) (move_of x) yet)
      ∙ ap (find_last (is_open_at side place)) (sym moved) ∙ alike-here side place (map move_of old) first alike

-- one place more
pub opens-step : (side : Side) (whole : List Marking) (marks : List Marker) (place : ℕ) (mark : Marker) (before after : List marker.Move)
    (had : List (Option marker.Move)) (yet : Option marker.Move) (more : Option marker.Move) →
    place < length marks → mark ≡ get_or marks place mark →
    OpenAlike side place (map move_of after) (map move_of before) →
    option_map move_of yet ≡ find_last (is_open_at side place) (map move_of before) →
    option_map move_of more ≡ move_begun (start_of side) whole (marking_of mark) →
    map (option_map move_of) (had ++ yet ∷ []) ++ opens_over side whole (map move_of (after ++ option_to_list more)) (place + 1) (markings (drop (place + 1) marks))
    ≡ map (option_map move_of) had ++ opens_over side whole (map move_of before) place (markings (drop place marks))
opens-step side whole marks place mark before after had yet more within is alike value begins =
    let left = markings (drop (place + 1) marks) in
    let rest = opens_over side whole (map move_of (after ++ option_to_list more)) (place + 1) left in
    ap (λ os. os ++ rest) (map-append (option_map move_of) had (yet ∷ []))
    ∙ append_assoc (map (option_map move_of) had) (option_map move_of yet ∷ []) rest
    ∙ ap (λ os. map (option_map move_of) had ++ os)
    (ap (λ o. o ∷ rest) (value ∙ sym (alike-here side place (map move_of after) (map move_of before) alike))
    ∙ ap (λ ms. find_last (is_open_at side place) (map move_of after) ∷ opens_over side whole ms (place + 1) left) (pushed after more ∙ ap (λ o. map move_of after ++ option_to_list o) begins)
    ∙ opens-alike side whole (map move_of after) (map move_of before) place (marking_of mark ∷ left) alike
    ∙ ap (opens_over side whole (map move_of before) place) (sym (marks_here marks place mark within is)))
  where
    pushed : (xs : List marker.Move) (o : Option marker.Move) → map move_of (xs ++ option_to_list o) ≡ map move_of xs ++ option_to_list (option_map move_of o)
    pushed xs None = map-append move_of xs []
    pushed xs (Some m) = map-append move_of xs (m ∷ [])
