-- Marks that come to others in their order, and go again.
use Rattle.std.proofs.Common.{◌≡◌, ◌<◌, ◌≤◌, ◌+◌, ℕ, zero, suc, List, [], ◌∷◌, ◌++◌, map, length, take, drop, insert, remove, get_or, Bool, true, false, ◌&&◌, Ordering, Less, Equal, Greater, refl, sym, ap, ◌∙◌, append_assoc, subst, take-append-drop, eqb, if◌then◌else◌, arith}
use Rattle.std.specs.Ordering.{match_ordering}
use Rattle.std.specs.BTreeSet.{insert_key}
use Rattle.std.proofs.Math.Bool.{and-false}
use Rattle.std.proofs.lemmas.List.{map-append, length-map, drop_more, take_more}
use Rattle.redl_marks.specs.Marks.{Mark, mark_order, with_mark, same_mark, same_marks}
use Rattle.redl_marks.specs.Views.{mark_view}
use Rattle.redl_marks.specs.declared.mark.Mark as code_mark

module _ {A : Type 0} where
  -- what was put at a place is taken from it
  pub put_and_taken : (xs : List A) (i : ℕ) (x : A) → i ≤ length xs → remove (insert xs i x) i ≡ xs
  put_and_taken xs zero x h = refl
  put_and_taken [] (suc i) x h = absurd (omega (arith, h))
  put_and_taken (y ∷ ys) (suc i) x h = ap (λ l. y ∷ l) (put_and_taken ys i x (omega (arith, h)))

  module _ {B : Type 0} (f : A → B) where
    pub map-insert : (xs : List A) (i : ℕ) (x : A) → i ≤ length xs → map f (insert xs i x) ≡ insert (map f xs) i (f x)
    map-insert xs zero x h = refl
    map-insert [] (suc i) x h = absurd (omega (arith, h))
    map-insert (y ∷ ys) (suc i) x h = ap (λ l. f y ∷ l) (map-insert ys i x (omega (arith, h)))

    pub map-drop : (i : ℕ) (xs : List A) → map f (drop i xs) ≡ drop i (map f xs)
    map-drop zero xs = refl
    map-drop (suc i) [] = refl
    map-drop (suc i) (x ∷ xs) = map-drop i xs

    pub map-take : (i : ℕ) (xs : List A) → map f (take i xs) ≡ take i (map f xs)
    map-take zero xs = refl
    map-take (suc i) [] = refl
    map-take (suc i) (x ∷ xs) = ap (λ l. f x ∷ l) (map-take i xs)

-- ---- the place of a mark

abbrev put : List Mark → Mark → List Mark
put marks mark = insert_key mark_order marks mark

put_by : (x mark : Mark) (later : List Mark) (o : Ordering) → mark_order mark x ≡ o → put (x ∷ later) mark ≡ match_ordering o (mark ∷ x ∷ later) (x ∷ later) (x ∷ put later mark)
put_by x mark later o e = ap (λ o. match_ordering o (mark ∷ x ∷ later) (x ∷ later) (x ∷ put later mark)) e

-- the first marks come before this one
abbrev pub IsPast : List Mark → Mark → ℕ → Type 0
IsPast marks mark at = put marks mark ≡ take at marks ++ put (drop at marks) mark

-- the mark at a place, and those after it
abbrev pub IsAt : List Mark → ℕ → Mark → Type 0
IsAt marks at x = (drop at marks ≡ x ∷ drop (at + 1) marks) × (take (at + 1) marks ≡ take at marks ++ (x ∷ []))

put_at : (marks : List Mark) (at : ℕ) (x mark : Mark) (o : Ordering) → IsAt marks at x → mark_order mark x ≡ o → IsPast marks mark at
    → put marks mark ≡ take at marks ++ match_ordering o (mark ∷ x ∷ drop (at + 1) marks) (x ∷ drop (at + 1) marks) (x ∷ put (drop (at + 1) marks) mark)
put_at marks at x mark o is e past =
    past ∙ ap (λ l. take at marks ++ put l mark) is.0 ∙ ap (λ l. take at marks ++ l) (put_by x mark (drop (at + 1) marks) o e)

pub place_here : (marks : List Mark) (at : ℕ) (x mark : Mark) → IsAt marks at x → mark_order mark x ≡ Less → IsPast marks mark at → insert marks at mark ≡ put marks mark
place_here marks at x mark is e past = sym (put_at marks at x mark Less is e past ∙ ap (λ l. take at marks ++ (mark ∷ l)) (sym is.0))

pub place_there : (marks : List Mark) (at : ℕ) (x mark : Mark) → IsAt marks at x → mark_order mark x ≡ Equal → IsPast marks mark at → marks ≡ put marks mark
place_there marks at x mark is e past =
    sym (put_at marks at x mark Equal is e past ∙ ap (λ l. take at marks ++ l) (sym is.0) ∙ take-append-drop at marks)

pub place_later : (marks : List Mark) (at : ℕ) (x mark : Mark) → IsAt marks at x → mark_order mark x ≡ Greater → IsPast marks mark at → IsPast marks mark (at + 1)
place_later marks at x mark is e past =
    put_at marks at x mark Greater is e past ∙ sym (append_assoc (take at marks) (x ∷ []) (put (drop (at + 1) marks) mark))
    ∙ ap (λ l. l ++ put (drop (at + 1) marks) mark) (sym is.1)

pub place_last : (marks : List Mark) (at : ℕ) (mark : Mark) → drop at marks ≡ [] → IsPast marks mark at → insert marks at mark ≡ put marks mark
place_last marks at mark none past = sym (past ∙ ap (λ l. take at marks ++ put l mark) none ∙ ap (λ l. take at marks ++ (mark ∷ l)) (sym none))

-- a place among the code's marks is one among their views
pub at_view : (marks : List code_mark.Mark) (at : ℕ) (d : code_mark.Mark) → at < length marks → IsAt (map mark_view marks) at (mark_view (get_or marks at d))
at_view marks at d within = (
  sym (map-drop mark_view at marks) ∙ ap (map mark_view) (drop_more marks at d within) ∙ ap (λ l. mark_view (get_or marks at d) ∷ l) (map-drop mark_view (at + 1) marks),
  sym (map-take mark_view (at + 1) marks) ∙ ap (map mark_view) (take_more marks at d within) ∙ map-append mark_view (take at marks) (get_or marks at d ∷ [])
      ∙ ap (λ l. l ++ (mark_view (get_or marks at d) ∷ [])) (map-take mark_view at marks),
)

-- ---- a mark that came

pub added : (items slice new : List code_mark.Mark) (at : ℕ) (mark : code_mark.Mark) (full : Bool) → slice ≡ items → new ≡ insert items at mark → at ≤ length slice
    → insert (map mark_view slice) at (mark_view mark) ≡ put (map mark_view slice) (mark_view mark) → full ≡ eqb (length items) 512 → full ≡ false
    → map mark_view new ≡ with_mark (map mark_view items) (mark_view mark)
added items slice new at mark full e n within place f g =
    ap (map mark_view) n ∙ map-insert mark_view items at mark (subst (λ l. at ≤ length l) e within)
    ∙ subst (λ l. insert (map mark_view l) at (mark_view mark) ≡ put (map mark_view l) (mark_view mark)) e place
    ∙ ap (λ b. if b then map mark_view items else put (map mark_view items) (mark_view mark)) (sym g ∙ f ∙ ap (λ n. eqb n 512) (sym (length-map items mark_view)))

pub added_back : (items slice new : List code_mark.Mark) (at : ℕ) (mark : code_mark.Mark) → slice ≡ items → new ≡ insert items at mark → at ≤ length slice → remove new at ≡ items
added_back items slice new at mark e n within = ap (λ l. remove l at) n ∙ put_and_taken items at mark (subst (λ l. at ≤ length l) e within)

-- ---- equal marks

pub same_first : (marks others : List Mark) (at : ℕ) (x y : Mark) → IsAt marks at x → IsAt others at y → same_marks (drop at marks) (drop at others) ≡ same_mark x y && same_marks (drop (at + 1) marks) (drop (at + 1) others)
same_first marks others at x y is other = ap (λ l. same_marks l (drop at others)) is.0 ∙ ap (same_marks (x ∷ drop (at + 1) marks)) other.0

not_same_long : (marks others : List Mark) → (length marks ≡ length others → ⊥) → same_marks marks others ≡ false
not_same_long [] [] differ = absurd (differ refl)
not_same_long [] (y ∷ ys) differ = refl
not_same_long (x ∷ xs) [] differ = refl
not_same_long (x ∷ xs) (y ∷ ys) differ = ap (λ b. same_mark x y && b) (not_same_long xs ys (λ e. differ (ap (λ n. suc n) e))) ∙ and-false (same_mark x y)

pub not_as_long : (marks others : List code_mark.Mark) → (length marks ≡ length others → ⊥) → same_marks (map mark_view marks) (map mark_view others) ≡ false
not_as_long marks others differ =
    not_same_long (map mark_view marks) (map mark_view others) (λ e. differ (sym (length-map marks mark_view) ∙ e ∙ length-map others mark_view))
