-- A find names its own value alone, so lines that name the same values do so after it.
use Rattle.std.proofs.Common.{◌≡◌, ◌∙◌, refl, sym, ap, ℕ, zero, suc, List, [], ◌∷◌, ◌++◌, Bool, true, false, true≢false, ◌||◌, ◌-◌, length, get_or, set, map, bytes_eq, if◌then◌else◌, Option, None, Some}
use Rattle.std.specs.Prelude.{take}
use Rattle.std.specs.List.{list_any, slice_get}
use Rattle.std.proofs.Math.Bool.{or-false}
use Rattle.std.proofs.lemmas.Bool.{and_parts}
use Rattle.std.proofs.lemmas.List.{length-set}
use Rattle.std.proofs.lemmas.List.Folds.{list_any-append}
use Rattle.std.proofs.lemmas.Option.{same_Some}
use Rattle.redl_tree.proofs.Reading.SameBytes.{same_bytes}
use Rattle.redl_left.specs.Alike.{NameAlike}
use Rattle.redl_left.specs.Facts.{fact_number}
use Rattle.redl_left.specs.Finds.{Find, found_value, is_nothing}
use Rattle.redl_left.specs.Lines.{count_last, ends_same, last_of, line_of, noted, noted_all, noted_in, one_more}
use Rattle.redl_left.specs.Named.{is_value_of, named_in}
use Rattle.redl_left.specs.declared.fact.Fact.{Fact}
use Rattle.redl_left.specs.declared.fact.Fact.TheVariants as fact
use Rattle.redl_left.specs.declared.line.Line.{Line}
use Rattle.redl_left.specs.declared.row.Row.{Row}

pub alike : (a b : List (List Line)) → a ≡ b → NameAlike a b
alike a b e = record { places = ap length e; named = λ fact value. ap (λ (tables : List (List Line)). named_in tables fact value) e }

pub alike_then : (a b c : List (List Line)) → NameAlike a b → NameAlike b c → NameAlike a c
alike_then a b c p q = record { places = p.places ∙ q.places; named = λ fact value. p.named fact value ∙ q.named fact value }

-- ---- a find more among the lines of its fact

any_set : (p : Line → Bool) (lines : List Line) (k : ℕ) (x y : Line) → slice_get lines k ≡ Some x → p y ≡ p x → list_any p (set lines k y) ≡ list_any p lines
any_set p [] k x y at same = refl
any_set p (l ∷ ls) zero x y at same = ap (λ b. b || list_any p ls) (same ∙ ap p (sym (same_Some l x at)))
any_set p (l ∷ ls) (suc k) x y at same = ap (λ b. p l || b) (any_set p ls k x y at same)

or_true : (a b : Bool) → b ≡ true → (a || b) ≡ true
or_true true b e = refl
or_true false b e = e

any_at : (p : Line → Bool) (lines : List Line) (k : ℕ) (x : Line) → slice_get lines k ≡ Some x → p x ≡ true → list_any p lines ≡ true
any_at p [] k x at has = absurd cc
any_at p (l ∷ ls) zero x at has = ap (λ b. b || list_any p ls) (ap p (same_Some l x at) ∙ has)
any_at p (l ∷ ls) (suc k) x at has = or_true (p l) (list_any p ls) (any_at p ls k x at has)

-- what is among the first lines is among all of them
pub any_front : (p : Line → Bool) (n : ℕ) (lines : List Line) → list_any p (take n lines) ≡ true → list_any p lines ≡ true
any_front p zero lines h = absurd (true≢false (sym h))
any_front p (suc n) [] h = h
any_front p (suc n) (l ∷ ls) h = by (p l) h (any_front p n ls)
  where
    by : (b : Bool) → (b || list_any p (take n ls)) ≡ true → (list_any p (take n ls) ≡ true → list_any p ls ≡ true) → (b || list_any p ls) ≡ true
    by true h more = refl
    by false h more = more h

-- what holds where a second test holds is not changed by it
or_same : (a b : Bool) → (b ≡ true → a ≡ true) → (a || b) ≡ a
or_same a true h = or_true a true refl ∙ sym (h refl)
or_same a false h = or-false a

module _ (value : List ℕ) (lines : List Line) (find : Find) where
  abbrev told : Line → Bool
  told = is_value_of value

  abbrev Tells : List Line → Type 0
  Tells after = list_any told after ≡ (list_any told lines || bytes_eq find.value value)

  one_line : Tells (lines ++ line_of find ∷ [])
  one_line = list_any-append told lines (line_of find ∷ []) ∙ ap (λ b. list_any told lines || b) (or-false (bytes_eq find.value value))

  -- the last line is of the find, or there is a line more
  in_last : (last : Line) (same : Bool) → last_of lines ≡ Some last → ends_same (Some last) find ≡ same
      → Tells (if same then count_last lines (Some last) else lines ++ line_of find ∷ [])
  in_last last true at same =
      let equal = same_bytes last.value find.value (and_parts (bytes_eq last.part find.part) (bytes_eq last.value find.value) same).1 in
      any_set told lines (length lines - 1) last (one_more last) at refl
      ∙ sym (or_same (list_any told lines) (bytes_eq find.value value) (λ e.
      any_at told lines (length lines - 1) last at (ap (λ (v : List ℕ). bytes_eq v value) equal ∙ e)))
  in_last last false at same = one_line

  by_last : (last : Option Line) → last_of lines ≡ last → Tells (if ends_same last find then count_last lines last else lines ++ line_of find ∷ [])
  by_last None at = one_line
  by_last (Some last) at = in_last last (ends_same (Some last) find) at refl

  noted_tells : Tells (noted lines find)
  noted_tells = by_last (last_of lines) refl

-- ---- among the lines of all facts

-- a value is told among the lines at a place
abbrev told_at : List ℕ → List (List Line) → ℕ → Bool
told_at value tables m = get_or (map (λ lines. list_any (is_value_of value) lines) tables) m false

-- a find whose place is n is told at the place m of so many places
abbrev here : ℕ → ℕ → ℕ → Bool → Bool
here zero n m same = false
here (suc k) zero zero same = same
here (suc k) zero (suc m) same = false
here (suc k) (suc n) zero same = false
here (suc k) (suc n) (suc m) same = here k n m same

here_same : (k n m : ℕ) (same : Bool) → here k n m same ≡ true → (m ≡ n) × (same ≡ true)
here_same zero n m same h = absurd (true≢false (sym h))
here_same (suc k) zero zero same h = (refl, h)
here_same (suc k) zero (suc m) same h = absurd (true≢false (sym h))
here_same (suc k) (suc n) zero same h = absurd (true≢false (sym h))
here_same (suc k) (suc n) (suc m) same h = let both = here_same k n m same h in (ap suc both.0, both.1)

told-noted : (value : List ℕ) (find : Find) (tables : List (List Line)) (n m : ℕ)
    → told_at value (set tables n (noted (get_or tables n []) find)) m ≡ (told_at value tables m || here (length tables) n m (bytes_eq find.value value))
told-noted value find [] n m = refl
told-noted value find (l ∷ ls) zero zero = noted_tells value l find
told-noted value find (l ∷ ls) zero (suc m) = sym (or-false (told_at value ls m))
told-noted value find (l ∷ ls) (suc n) zero = sym (or-false (list_any (is_value_of value) l))
told-noted value find (l ∷ ls) (suc n) (suc m) = told-noted value find ls n m

alike_noted : (a b : List (List Line)) (find : Find) → NameAlike a b → NameAlike (noted_in a find) (noted_in b find)
alike_noted a b find p =
    let n = fact_number find.fact in
    record {
      places = length-set a n (noted (get_or a n []) find) ∙ p.places ∙ sym (length-set b n (noted (get_or b n []) find));
      named = λ fact value.
          let m = fact_number fact in
          let same = bytes_eq find.value value in
          told-noted value find a n m
          ∙ ap (λ (k : ℕ). told_at value a m || here k n m same) p.places
          ∙ ap (λ (b0 : Bool). b0 || here (length b) n m same) (p.named fact value)
          ∙ sym (told-noted value find b n m);
    }

-- ---- finds one after the other

pub alike_all : (a b : List (List Line)) (finds : List Find) → NameAlike a b → NameAlike (noted_all a finds) (noted_all b finds)
alike_all a b [] p = p
alike_all a b (find ∷ finds) p = alike_all (noted_in a find) (noted_in b find) finds (alike_noted a b find p)

-- a value that is named already is named no more by a find
pub alike_once : (tables : List (List Line)) (find : Find) → named_in tables find.fact find.value ≡ true → NameAlike tables (noted_in tables find)
alike_once tables find had =
    let n = fact_number find.fact in
    record {
      places = sym (length-set tables n (noted (get_or tables n []) find));
      named = λ fact value.
          let m = fact_number fact in
          sym (told-noted value find tables n m
          ∙ or_same (told_at value tables m) (here (length tables) n m (bytes_eq find.value value)) (λ e.
          let both = here_same (length tables) n m (bytes_eq find.value value) e in
          ap (λ (k : ℕ). told_at value tables k) both.0 ∙ ap (λ (v : List ℕ). told_at v tables n) (sym (same_bytes find.value value both.1)) ∙ had));
    }

-- an author who is named already is named no more
pub alike_author : (tables : List (List Line)) (part : List ℕ) (row : Row) (value : List ℕ) → row.fact ≡ fact.Name → named_in tables fact.Name value ≡ true
    → NameAlike tables (noted_all tables (found_value part row value))
alike_author tables part row value is had = by (is_nothing row.value value)
  where
    by : (none : Bool) → NameAlike tables (noted_all tables (if none then [] else record { fact = row.fact; part = part; value = value } ∷ []))
    by true = alike tables tables refl
    by false = alike_once tables (record { fact = row.fact; part = part; value = value }) (ap (λ (f : Fact). named_in tables f value) is ∙ had)
