-- Stories of parts, each once.
use Rattle.std.proofs.Common.{◌≡◌, ◌∙◌, refl, sym, ap, ℕ, ◌+◌, ◌<◌, ◌≤◌, length, drop, List, [], ◌∷◌, ◌++◌, append_assoc, Bool, true, false, ◌||◌, cond, eqb, arith, Option, Some, None, option_to_list, filter_map, if◌then◌else◌}
use Rattle.std.specs.Prelude.{nat_lt}
use Rattle.std.specs.List.{flat_map, cons_option}
use Rattle.std.specs.Ordering.{is_eq, nat_cmp}
use Rattle.std.specs.declared.cmp.Ordering.TheVariants.{Less, Equal, Greater}
use Rattle.std.proofs.lemmas.Bool.{eqb-true}
use Rattle.std.proofs.lemmas.Bool.Decides.{nat_tests}
use Rattle.redl_tree.specs.Model.Nodes.{Nodes}
use Rattle.redl_tree.specs.Model.View.{Element}
use Rattle.redl_opc.specs.Shape.{parts_of}
use Rattle.redl_opc.proofs.WalkLaws.{part-at, parts-end}
use Rattle.redl_order.specs.Order.{each_once, numbers_from}
use Rattle.redl_order.specs.Inside.Once.{Pushes}

pub each_once-same : (one other : ℕ → Bool) → ((m : ℕ) → one m ≡ other m) → (xs : List ℕ) → each_once one xs ≡ each_once other xs
each_once-same one other h [] = refl
each_once-same one other h (n ∷ more) =
    by (one n) (other n) (h n) (each_once-same one other h more)
    (each_once-same (λ m. eqb m n || one m) (λ m. eqb m n || other m) (λ m. ap (λ b. eqb m n || b) (h m)) more)
  where
    by : (a b : Bool) → a ≡ b → each_once one more ≡ each_once other more → each_once (λ m. eqb m n || one m) more ≡ each_once (λ m. eqb m n || other m) more
        → (if a then each_once one more else n ∷ each_once (λ m. eqb m n || one m) more) ≡ (if b then each_once other more else n ∷ each_once (λ m. eqb m n || other m) more)
    by true true e past here = past
    by false false e past here = ap (λ (l : List ℕ). n ∷ l) here
    by true false e past here = cc
    by false true e past here = cc

-- ---- numbers in a set

number_same : (n m : ℕ) → is_eq (nat_cmp n m) ≡ eqb m n
number_same n m = by (nat_lt n m) (eqb n m) (eqb m n) refl refl refl
  where
    by : (a b d : Bool) → nat_lt n m ≡ a → eqb n m ≡ b → eqb m n ≡ d → is_eq (cond a Less (cond b Equal Greater)) ≡ d
    by true b true p q r = grind (arith, nat_tests)
    by true b false p q r = refl
    by false true true p q r = refl
    by false true false p q r = grind (arith, nat_tests)
    by false false true p q r = grind (arith, nat_tests)
    by false false false p q r = refl

-- what is seen after one number more
pub one_more_seen : (n m : ℕ) (was : Bool) → cond (is_eq (nat_cmp n m)) true was ≡ (eqb m n || was)
one_more_seen n m was = ap (λ b. cond b true was) (number_same n m) ∙ by (eqb m n)
  where
    by : (b : Bool) → cond b true was ≡ (b || was)
    by true = refl
    by false = refl

none_more : (seen : ℕ → Bool) (n m : ℕ) → seen n ≡ true → (eqb m n || seen m) ≡ seen m
none_more seen n m e = by (eqb m n) refl
  where
    by : (b : Bool) → eqb m n ≡ b → (b || seen m) ≡ seen m
    by true same = sym e ∙ ap seen (sym (eqb-true m n same))
    by false apart = refl

-- ---- what was pushed

pub pushes_none : (story : ℕ → List Element) (seen : ℕ → Bool) (roots : List Element) → Pushes story seen roots seen roots []
pushes_none story seen roots = λ tail. refl

-- a part that was seen
pub pushes_past : (story : ℕ → List Element) (seen now : ℕ → Bool) (roots : List Element) (n : ℕ) → seen n ≡ true → ((m : ℕ) → now m ≡ (eqb m n || seen m))
    → Pushes story seen roots now roots (n ∷ [])
pushes_past story seen now roots n e h = λ tail.
    ap (λ (l : List ℕ). roots ++ flat_map story l) (each_once-same now seen (λ m. h m ∙ none_more seen n m e) tail)
    ∙ sym (ap (λ b. roots ++ flat_map story (if b then each_once seen tail else n ∷ each_once (λ m. eqb m n || seen m) tail)) e)

-- and one that wasn't
pub pushes_one : (story : ℕ → List Element) (seen now : ℕ → Bool) (old new : List Element) (n : ℕ) → seen n ≡ false → ((m : ℕ) → now m ≡ (eqb m n || seen m))
    → new ≡ old ++ story n → Pushes story seen old now new (n ∷ [])
pushes_one story seen now old new n e h is = λ tail.
    let more = flat_map story (each_once now tail) in
    ap (λ (r : List Element). r ++ more) is
    ∙ append_assoc old (story n) more
    ∙ ap (λ (l : List ℕ). old ++ (story n ++ flat_map story l)) (each_once-same now (λ m. eqb m n || seen m) h tail)
    ∙ sym (ap (λ b. old ++ flat_map story (if b then each_once seen tail else n ∷ each_once (λ m. eqb m n || seen m) tail)) e)

-- what was pushed so far, and what is left
abbrev pub Left : (ℕ → List Element) → (ℕ → Bool) → List Element → List ℕ → (ℕ → Bool) → List Element → List ℕ → Type 0
Left story seen old all seen_now now rest = (tail : List ℕ) → now ++ flat_map story (each_once seen_now (rest ++ tail)) ≡ old ++ flat_map story (each_once seen (all ++ tail))

pub left_on : (story : ℕ → List Element) (seen seen_now seen_then : ℕ → Bool) (old now new : List Element) (all rest xs ys : List ℕ) → rest ≡ xs ++ ys
    → Left story seen old all seen_now now rest → Pushes story seen_now now seen_then new xs → Left story seen old all seen_then new ys
left_on story seen seen_now seen_then old now new all rest xs ys e left p = λ tail.
    p (ys ++ tail)
    ∙ ap (λ (l : List ℕ). now ++ flat_map story (each_once seen_now l)) (sym (append_assoc xs ys tail) ∙ ap (λ (l : List ℕ). l ++ tail) (sym e))
    ∙ left tail

pub left_end : (story : ℕ → List Element) (seen seen_now : ℕ → Bool) (old now : List Element) (all rest : List ℕ) → rest ≡ [] → Left story seen old all seen_now now rest
    → Pushes story seen old seen_now now all
left_end story seen seen_now old now all rest e left = λ tail.
    ap (λ (l : List ℕ). now ++ flat_map story (each_once seen_now (l ++ tail))) (sym e) ∙ left tail

-- ---- numbers of parts

pub numbers-here : (nodes : Nodes) (n : ℕ) → n < length (parts_of nodes) → numbers_from n (drop n (parts_of nodes)) ≡ n ∷ numbers_from (n + 1) (drop (n + 1) (parts_of nodes))
numbers-here nodes n within = ap (numbers_from n) (part-at nodes n within).1.front

pub numbers-end : (nodes : Nodes) (n : ℕ) → length (parts_of nodes) ≤ n → numbers_from n (drop n (parts_of nodes)) ≡ []
numbers-end nodes n past = ap (numbers_from n) (parts-end nodes n past)

-- ---- leads

pub lead_alone : {A : Type 0} (o : Option A) → cons_option o [] ≡ option_to_list o
lead_alone None = refl
lead_alone (Some x) = refl

pub filter_map-same : (f g : List ℕ → Option ℕ) → ((x : List ℕ) → f x ≡ g x) → (xs : List (List ℕ)) → filter_map f xs ≡ filter_map g xs
filter_map-same f g h [] = refl
filter_map-same f g h (x ∷ xs) = ap (λ o. cons_option o (filter_map f xs)) (h x) ∙ ap (cons_option (g x)) (filter_map-same f g h xs)
