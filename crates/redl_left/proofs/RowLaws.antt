-- A row that asks for an element is among those that may ask for a name of its length.
use Rattle.std.proofs.Common.{◌≡◌, ◌∙◌, refl, sym, ap, subst, ℕ, zero, suc, ◌==◌, cond, T, List, [], ◌∷◌, ◌++◌, Bool, true, false, true≢false, ◌&&◌, length, get_or, arith, bytes_eq, codes, Option, Some}
use Rattle.std.specs.Prelude.{filter}
use Rattle.std.proofs.Math.Facts.{yes_eqb}
use Rattle.redl_tree.specs.Roles.Names.{is_w}
use Rattle.redl_tree.specs.declared.kinds.Space.{Space}
use Rattle.redl_tree.specs.declared.kinds.Space.TheVariants as spaces
use Rattle.redl_tree.proofs.Reading.SameBytes.{same_bytes}
use Rattle.redl_left.specs.Finds.{asks, asks_place, asks_when, first_row, is_other, is_part_name}
use Rattle.redl_left.specs.Names.{name_text}
use Rattle.redl_left.specs.Search.{Agree, may_ask, may_ask_at}
use Rattle.redl_left.specs.declared.fact.Fact.{Fact}
use Rattle.redl_left.specs.declared.row.Where.{Where}
use Rattle.redl_left.specs.declared.row.Where.TheVariants.{Word, AnyWord, Inside, Part}
use Rattle.redl_left.specs.declared.row.Row.{Row}

-- ---- a name of another length

other_length : (local name : List ℕ) (n : ℕ) → length local ≡ n → (length name == n) ≡ false → bytes_eq local name ≡ false
other_length local name n of_n other = by (bytes_eq local name) refl
  where
    by : (b : Bool) → bytes_eq local name ≡ b → b ≡ false
    by true e =
        let lengths : length name ≡ n = ap length (sym (same_bytes local name e)) ∙ of_n in
        absurd (subst T other (yes_eqb lengths))
    by false e = refl

pub and_none : (a b : Bool) → b ≡ false → (a && b) ≡ false
and_none true b e = e
and_none false b e = refl

place_none : (place : Where) (parent : List ℕ) (space : Space) (local : List ℕ) (n : ℕ) → length local ≡ n → may_ask_at n place ≡ false
    → asks_place place parent space local ≡ false
place_none (Word name) parent space local n of_n never = and_none (is_w space) (bytes_eq local (name_text name)) (other_length local (name_text name) n of_n never)
place_none AnyWord parent space local n of_n never = absurd (true≢false never)
place_none (Inside outer name) parent space local n of_n never =
    and_none (is_other space) (bytes_eq parent (name_text outer) && bytes_eq local (name_text name))
    (and_none (bytes_eq parent (name_text outer)) (bytes_eq local (name_text name)) (other_length local (name_text name) n of_n never))
place_none Part parent space local n of_n never = part space
  where
    not_part : bytes_eq local (codes "part") ≡ false
    not_part = other_length local (codes "part") n of_n never

    part : (space : Space) → is_part_name space local ≡ false
    part spaces.W = refl
    part spaces.M = refl
    part spaces.Pkg = not_part
    part spaces.Other = refl

-- ---- the first row

module _ (named : Fact → List ℕ → Bool) (parent : List ℕ) (space : Space) (local tail : List ℕ) (n : ℕ) (of_n : length local ≡ n) where
  row_none : (row : Row) → may_ask n row ≡ false → asks named parent space local tail row ≡ false
  row_none row never = ap (λ b. b && asks_when named row.when tail) (place_none row.place parent space local n of_n never)

  pub first-filtered : (rows : List Row) → first_row named (filter (may_ask n) rows) parent space local tail ≡ first_row named rows parent space local tail
  first-filtered [] = refl
  first-filtered (row ∷ rows) = by (may_ask n row) refl (first-filtered rows)
    where
      by : (b : Bool) → may_ask n row ≡ b → first_row named (filter (may_ask n) rows) parent space local tail ≡ first_row named rows parent space local tail
          → first_row named (cond b (row ∷ filter (may_ask n) rows) (filter (may_ask n) rows)) parent space local tail ≡ first_row named (row ∷ rows) parent space local tail
      by true e later = ap (λ (o : Option Row). cond (asks named parent space local tail row) (Some row) o) later
      by false e later = later ∙ ap (λ (b : Bool). cond b (Some row) (first_row named rows parent space local tail)) (sym (row_none row e))

-- those that may ask for a name of a length agree with all
pub agree_filtered : (rows : List Row) (n : ℕ) → Agree rows n (filter (may_ask n) rows)
agree_filtered rows n = λ named parent space local tail of_n. first-filtered named parent space local tail n of_n rows

pub agree_all : (rows : List Row) (n : ℕ) → Agree rows n rows
agree_all rows n = λ named parent space local tail of_n. refl

-- ---- lists

-- what holds of each item at its place, and of none by the default, holds with one more item
pub each-push : {X : Type 0} (P : ℕ → X → Type 0) (d : X) (xs : List X) (x : X) → ((n : ℕ) → P n (get_or xs n d)) → P (length xs) x
    → (n : ℕ) → P n (get_or (xs ++ x ∷ []) n d)
each-push P d [] x each last zero = last
each-push P d [] x each last (suc n) = each (suc n)
each-push P d (y ∷ ys) x each last zero = each 0
each-push {X} P d (y ∷ ys) x each last (suc n) =
    let Later : ℕ → X → Type 0 = λ m z. P (suc m) z in
    each-push Later d ys x (λ m. each (suc m)) (subst (λ m. P m x) (omega arith) last) n

pub filter-append : {X : Type 0} (p : X → Bool) (xs ys : List X) → filter p (xs ++ ys) ≡ filter p xs ++ filter p ys
filter-append p [] ys = refl
filter-append {X} p (x ∷ xs) ys = by (p x) (filter-append p xs ys)
  where
    by : (b : Bool) → filter p (xs ++ ys) ≡ filter p xs ++ filter p ys
        → cond b (x ∷ filter p (xs ++ ys)) (filter p (xs ++ ys)) ≡ cond b (x ∷ filter p xs) (filter p xs) ++ filter p ys
    by true later = ap (λ (zs : List X). x ∷ zs) later
    by false later = later
