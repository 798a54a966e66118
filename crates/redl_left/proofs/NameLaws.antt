-- Where nothing is named, no name is found; and values among lines.
use Rattle.std.proofs.Common.{◌≡◌, ◌∙◌, refl, sym, ap, ◌<◌, eqb, eqb-true, arith, get_or, set, replicate, zero, suc, true≢false, ℕ, List, [], ◌∷◌, ◌++◌, Bool, true, false, not, ◌&&◌, ◌==◌, cond, map, length, codes, bytes_eq, is_some, Option, Some, if◌then◌else◌}
use Rattle.std.proofs.lemmas.Bool.{eq-eqb}
use Rattle.std.proofs.lemmas.List.{get_or-set_other, get_or-set_same, length-map, map-set}
use Rattle.redl_tree.proofs.Reading.SameBytes.{same_bytes}
use Rattle.redl_grammar.specs.Names.{Name as Qualified}
use Rattle.redl_markup.specs.Decoding.{decoded_value}
use Rattle.redl_shown.specs.Shown.{shown}
use Rattle.redl_left.specs.Finds.{Find, Table, found_among, found_text, found_told, is_author}
use Rattle.redl_left.specs.Named.{added, front_byte}
use Rattle.redl_left.specs.declared.fact.Fact.TheVariants as fact

-- ---- no name

both_false : (a b : Bool) → b ≡ false → (a && b) ≡ false
both_false true b e = e
both_false false b e = refl

pub no_author : (table : Table) (text : List ℕ) → table.named fact.Name text ≡ false → is_author table text ≡ false
no_author table text none = both_false (not (length text == 0)) (table.named fact.Name text) none

told_none : (table : Table) → ((value : List ℕ) → table.named fact.Name value ≡ false) → (part text : List ℕ) → found_told table part text ≡ []
told_none table none part text =
    ap (λ b. let found : List Find = (if b then record { fact = fact.Name; part = part; value = text } ∷ [] else []) in found) (no_author table text (none text))

pub none_told : (table : Table) → ((value : List ℕ) → table.named fact.Name value ≡ false) → (part b : List ℕ) → found_text table part b ≡ []
none_told table none part b = told_none table none part (shown b)

pub if_none : (b : Bool) (found : List Find) → found ≡ [] → (if b then [] else found) ≡ []
if_none true found e = refl
if_none false found e = e

pub none_among : (table : Table) → ((value : List ℕ) → table.named fact.Name value ≡ false) → (part : List ℕ) (attributes : List (Qualified × List ℕ)) → found_among table part attributes ≡ []
none_among table none part [] = refl
none_among table none part (a ∷ attributes) =
    ap (λ (found : List Find). found ++ found_among table part attributes)
    (if_none (bytes_eq a.0.local (codes "author")) (found_told table part (decoded_value a.1)) (told_none table none part (decoded_value a.1)))
    ∙ none_among table none part attributes

-- ---- values

pub some_added : {X : Type 0} (b : Bool) (x : X) (had : Option X) → is_some (cond b (Some x) had) ≡ (if b then true else is_some had)
some_added true x had = refl
some_added false x had = refl

pub map_map : {A B C : Type 0} (g : B → C) (f : A → B) (xs : List A) → map g (map f xs) ≡ map (λ x. g (f x)) xs
map_map g f [] = refl
map_map g f (x ∷ xs) = ap (λ ys. g (f x) ∷ ys) (map_map g f xs)

pub none_at : (n i : ℕ) → get_or (replicate n false) i false ≡ false
none_at zero i = refl
none_at (suc n) zero = refl
none_at (suc n) (suc i) = none_at n i

-- one value more in the map of its first byte, of those in which f finds another value
pub added_at : {X : Type 0} (f : X → Bool) (xs : List X) (i : ℕ) (old new : X) (value other : List ℕ) → front_byte value ≡ i → i < length xs
    → get_or (map f xs) i false ≡ f old → f new ≡ added value other (f old)
    → get_or (map f (set xs i new)) (front_byte other) false ≡ added value other (get_or (map f xs) (front_byte other) false)
added_at f xs i old new value other at within was is =
    ap (λ (bs : List Bool). get_or bs (front_byte other) false) (map-set f xs i new) ∙ by (eqb (front_byte other) i) refl
  where
    fits : i < length (map f xs)
    fits = omega (arith, within, length-map xs f)

    by : (b : Bool) → eqb (front_byte other) i ≡ b → get_or (set (map f xs) i (f new)) (front_byte other) false ≡ added value other (get_or (map f xs) (front_byte other) false)
    by true e =
        let same = eqb-true (front_byte other) i e in
        ap (λ (j : ℕ). get_or (set (map f xs) i (f new)) j false) same
        ∙ get_or-set_same (map f xs) i (f new) false fits
        ∙ is
        ∙ ap (added value other) (sym was ∙ ap (λ (j : ℕ). get_or (map f xs) j false) (sym same))
    by false e =
        get_or-set_other (map f xs) i (front_byte other) (f new) false (λ same. true≢false (sym (eq-eqb (front_byte other) i same) ∙ e))
        ∙ sym (ap (λ (b : Bool). if b then true else get_or (map f xs) (front_byte other) false) (apart (bytes_eq value other) refl))
      where
        apart : (b : Bool) → bytes_eq value other ≡ b → b ≡ false
        apart true h = absurd (true≢false (sym (eq-eqb (front_byte other) i (ap front_byte (sym (same_bytes value other h)) ∙ at)) ∙ e))
        apart false h = refl
