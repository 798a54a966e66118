-- Lists that are gone through, one thing after the other.
use Rattle.std.proofs.Common.{◌≡◌, ◌∙◌, ◌<◌, ◌+◌, ℕ, suc, List, [], ◌∷◌, ◌++◌, length, map, take, drop, get_or, All, refl, sym, ap, arith, add-one, append_assoc}
use Rattle.std.proofs.Math.Seq.{drop-cons, take-suc}
use Rattle.std.proofs.lemmas.List.{map_push, take-append-drop, map-append}
use Rattle.std.proofs.lemmas.List.Concat.{flat_map-cons}
use Rattle.std.specs.List.{flat_map}

-- a thing more by its place
pub take-more : {A : Type 0} (xs : List A) (i : ℕ) (x : A) → i < length xs → x ≡ get_or xs i x → take (i + 1) xs ≡ take i xs ++ x ∷ []
take-more xs i x inside at = rw (add-one, take-suc xs i x inside, ← at) refl

pub map-take-more : {A B : Type 0} (f : A → B) (xs : List A) (i : ℕ) (x : A) → i < length xs → x ≡ get_or xs i x → map f (take (i + 1) xs) ≡ map f (take i xs) ++ f x ∷ []
map-take-more f xs i x inside at = ap (map f) (take-more xs i x inside at) ∙ map_push f (take i xs) x

-- those before, one, and those after it
pub split-at : {A : Type 0} (xs : List A) (i : ℕ) (x : A) → i < length xs → x ≡ get_or xs i x → xs ≡ take i xs ++ (x ∷ drop (i + 1) xs)
split-at xs i x inside at =
    let next : drop i xs ≡ x ∷ drop (i + 1) xs = rw (add-one, drop-cons xs i x inside, ← at) refl in
    sym (take-append-drop i xs) ∙ ap (λ rest. take i xs ++ rest) next

pub map-split-at : {A B : Type 0} (f : A → B) (xs : List A) (i : ℕ) (x : A) → i < length xs → x ≡ get_or xs i x → map f xs ≡ map f (take i xs) ++ (f x ∷ map f (drop (i + 1) xs))
map-split-at f xs i x inside at = ap (map f) (split-at xs i x inside at) ∙ map-append f (take i xs) (x ∷ drop (i + 1) xs)

-- what holds of all holds of one between others
pub holds-between : {A : Type 0} (P : A → Type 0) (before rest all : List A) (x : A) → all ≡ before ++ (x ∷ rest) → All P all → P x
holds-between P [] rest all x is holds = let each : All P (x ∷ rest) = rw is at holds in each 0 x (omega arith)
holds-between P (y ∷ ys) rest all x is holds =
    let each : All P (y ∷ (ys ++ (x ∷ rest))) = rw is at holds in
    holds-between P ys rest (ys ++ (x ∷ rest)) x refl (λ k d h. each (suc k) d (omega arith))

-- one step of a loop that has given some things and has others left
pub moved : {A X : Type 0} (shows : A → X) (seen : List A) (x : A) (left rest all : List X) → left ≡ shows x ∷ rest → map shows seen ++ left ≡ all → map shows (seen ++ x ∷ []) ++ rest ≡ all
moved shows seen x left rest all step whole =
    ap (λ xs. xs ++ rest) (map_push shows seen x) ∙ append_assoc (map shows seen) (shows x ∷ []) rest ∙ ap (λ xs. map shows seen ++ xs) (sym step) ∙ whole

-- and that puts what it makes of each thing at the end of a list
pub made-more : {A L : Type 0} (make : A → L) (made grown : List L) (first : A) (item : L) (left rest : List A) (whole : List L)
    → grown ≡ made ++ item ∷ [] → item ≡ make first → left ≡ first ∷ rest → made ++ map make left ≡ whole → grown ++ map make rest ≡ whole
made-more make made grown first item left rest whole push is step so_far =
    ap (λ xs. xs ++ map make rest) push ∙ append_assoc made (item ∷ []) (map make rest)
    ∙ ap (λ one. made ++ (one ∷ map make rest)) is ∙ ap (λ xs. made ++ map make xs) (sym step) ∙ so_far

-- and that puts all that it makes of each thing
pub all-made-more : {A L : Type 0} (make : A → List L) (made grown : List L) (first : A) (left rest : List A) (whole : List L)
    → grown ≡ made ++ make first → left ≡ first ∷ rest → made ++ flat_map make left ≡ whole → grown ++ flat_map make rest ≡ whole
all-made-more make made grown first left rest whole put step so_far =
    ap (λ xs. xs ++ flat_map make rest) put ∙ append_assoc made (make first) (flat_map make rest)
    ∙ ap (λ more. made ++ more) (sym (flat_map-cons make first rest)) ∙ ap (λ xs. made ++ flat_map make xs) (sym step) ∙ so_far
