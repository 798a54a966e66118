-- The place of the first row that has a name, row by row.
use Rattle.std.proofs.Common.{◌≡◌, ◌∙◌, ◌+◌, ◌<◌, ◌≤◌, ℕ, suc, List, ◌∷◌, drop, length, get_or, refl, sym, ap, Bool, true, false, Option, Some, None, if◌then◌else◌}
use Rattle.std.specs.List.{position_from}
use Rattle.std.proofs.lemmas.List.{at_drop_more, at_drop_all}
use Rattle.redl_reading.specs.Steps.{or_else}
use Rattle.redl_relations.proofs.Laws.{or_else-none, or_else-assoc}
use Rattle.redl_lists.specs.declared.level.Level.{Level}
use Rattle.redl_lists.specs.declared.table.Override.{Override}
use Rattle.redl_numbering.specs.Nums.{level_at, named_from, names_style}

module _ {A : Type 0} (test : A → Bool) where
  -- a row more was looked at
  pub place-more : (xs : List A) (i : ℕ) (x : A) (old now : Option ℕ) → i < length xs → x ≡ get_or xs i x → now ≡ or_else old (if test x then Some i else None)
      → or_else now (position_from test (i + 1) (drop (i + 1) xs)) ≡ or_else old (position_from test i (drop i xs))
  place-more xs i x old now within is more =
      let later = position_from test (i + 1) (drop (i + 1) xs) in
      ap (λ o. or_else o later) more ∙ or_else-assoc old (if test x then Some i else None) later
      ∙ ap (or_else old) (by (test x) ∙ ap (λ y. position_from test i (y ∷ drop (i + 1) xs)) is ∙ sym (at_drop_more (position_from test i) xs i x within))
    where
      by : (b : Bool) → or_else (if b then Some i else None) (position_from test (i + 1) (drop (i + 1) xs)) ≡ (if b then Some i else position_from test (i + 1) (drop (i + 1) xs))
      by true = refl
      by false = refl

  -- all were
  pub place-all : (xs : List A) (i : ℕ) (o : Option ℕ) → length xs ≤ i → or_else o (position_from test i (drop i xs)) ≡ o
  place-all xs i o past = ap (or_else o) (at_drop_all (position_from test i) xs i past) ∙ or_else-none o

-- ---- the level that names a style

module _ (overrides : List (Option Override)) (levels : List (Option Level)) (id : Option (List ℕ)) where
  pub named-later : (k n left : ℕ) → n ≡ suc left → names_style id (level_at overrides levels k) ≡ false → named_from overrides levels id k n ≡ named_from overrides levels id (suc k) left
  named-later k n left is none =
      ap (named_from overrides levels id k) is ∙ ap (λ b. if b then Some k else named_from overrides levels id (suc k) left) none

  pub named-here : (k n left : ℕ) → n ≡ suc left → names_style id (level_at overrides levels k) ≡ true → named_from overrides levels id k n ≡ Some k
  named-here k n left is some =
      ap (named_from overrides levels id k) is ∙ ap (λ b. if b then Some k else named_from overrides levels id (suc k) left) some
