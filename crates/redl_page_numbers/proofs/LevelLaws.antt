-- What places give, one after the other.
use Rattle.std.proofs.Common.{◌≡◌, ◌∙◌, ◌+◌, ℕ, suc, Bool, false, true, List, [], ◌++◌, Some, None, slice_get, refl, ap, sym, append_assoc, append-nil, arith, if◌then◌else◌}
use Rattle.std.specs.Prelude.{unwrap_or}
use Rattle.redl_lists.specs.declared.table.Num.{Num}
use Rattle.redl_lists.specs.declared.table.Tables.{Tables}
use Rattle.redl_numbering.specs.Nums.{list_place}
use Rattle.redl_page_numbers.specs.Levels.{gathered, levels_at, levels_in, levels_of, num_levels}

pub gathered-more : {A : Type 0} (rows : ℕ → List A) (n : ℕ) (before now new : List A) → now ≡ before ++ gathered rows n → new ≡ now ++ rows n
    → new ≡ before ++ gathered rows (n + 1)
gathered-more rows n before now new so_far more =
    let next : suc n ≡ n + 1 = omega arith in
    more ∙ ap (λ l. l ++ rows n) so_far ∙ append_assoc before (gathered rows n) (rows n) ∙ ap (λ k. before ++ gathered rows k) next

-- ---- where there is nothing

pub adds_nothing : {A : Type 0} (rows more : List A) → more ≡ [] → rows ≡ rows ++ more
adds_nothing rows more none = sym (append-nil rows) ∙ sym (ap (λ l. rows ++ l) none)

pub no_list : (tables : Tables) (place : ℕ) (num : Num) (at : ℕ) → list_place tables num ≡ Some at → slice_get tables.lists at ≡ None
    → levels_at tables place num (list_place tables num) ≡ []
no_list tables place num at there none = ap (levels_at tables place num) there ∙ ap (levels_in place num at) none

pub no_num : (tables : Tables) (used : List Bool) (place : ℕ) → slice_get tables.nums place ≡ None → num_levels tables used place ≡ []
no_num tables used place none = by (unwrap_or (slice_get used place) false)
  where
    by : (is_used : Bool) → (if is_used then levels_of tables place (slice_get tables.nums place) else []) ≡ []
    by true = ap (levels_of tables place) none
    by false = refl
