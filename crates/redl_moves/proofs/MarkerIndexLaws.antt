-- Indexes of places by keys.
use Rattle.std.proofs.Common.{◌≡◌, ◌∙◌, refl, ap, sym, cond, ℕ, ◌+◌, List, [], ◌∷◌, Bool, true, false, ◌&&◌, Option, Some, None, bytes_eq, length, drop, ◌≤◌, suc, zero, arith, if◌then◌else◌}
use Rattle.std.specs.Map.{update}
use Rattle.redl_tree.proofs.Reading.SameBytes.{same_bytes}
use Rattle.redl_tree.specs.Revisions.Moves.{Edge, Marking, only_one, same_edge, has_name}
use Rattle.redl_moves.specs.Keys.{has_key, key_of}
use Rattle.redl_moves.specs.Places.{places_from}
use Rattle.redl_moves.specs.Inside.MarkerIndexes.{one_place, noted, noted_key, noted_all}
use Rattle.redl_moves.specs.declared.marker_index.Key.{Key}
use Rattle.redl_moves.specs.declared.marker_index.Key.TheVariants.{Id, Name}

several : (places : List ℕ) → noted_all (Some None) places ≡ Some None
several [] = refl
several (p ∷ places) = several places

-- what is noted of places, one after the other, is the only one of them
pub noted-only_one : (places : List ℕ) → one_place (noted_all None places) ≡ only_one places
noted-only_one [] = refl
noted-only_one (p ∷ []) = refl
noted-only_one (p ∷ q ∷ places) = ap one_place (several places)

none_if : (b : Bool) (key : List ℕ) (own : Option (List ℕ)) → has_name key (if b then own else None) ≡ (b && has_name key own)
none_if true key own = refl
none_if false key own = refl

-- a marker has a key where it is its own
pub has_key-key_of : (by : Key) (edge : Edge) (key : List ℕ) (mark : Marking) → has_key by edge key mark ≡ has_name key (key_of by edge mark)
has_key-key_of Id edge key mark = sym (none_if (same_edge mark.edge edge) key (Some mark.id))
has_key-key_of Name edge key mark = sym (none_if (same_edge mark.edge edge) key mark.name)

module _ (by : Key) (edge : Edge) (key : List ℕ) (place : ℕ) (mark : Marking) (marks : List Marking) (had : Option (Option ℕ)) where
  abbrev later : List ℕ
  later = places_from (place + 1) (has_key by edge key) marks

  noted_if : (b : Bool) → noted_all had (if b then place ∷ later else later) ≡ noted_all (if b then noted place had else had) later
  noted_if true = refl
  noted_if false = refl

  -- a marker without a key is in no index
  pub noted-none : key_of by edge mark ≡ None → noted_all had later ≡ noted_all had (places_from place (has_key by edge key) (mark ∷ marks))
  noted-none none =
      sym (ap (λ b. noted_all had (if b then place ∷ later else later)) (has_key-key_of by edge key mark ∙ ap (has_name key) none))

  -- a marker with a key is noted there
  pub noted-some : (own : List ℕ) → key_of by edge mark ≡ Some own →
      noted_all (noted_key own key place had) later ≡ noted_all had (places_from place (has_key by edge key) (mark ∷ marks))
  noted-some own some =
      sym (ap (λ b. noted_all had (if b then place ∷ later else later)) (has_key-key_of by edge key mark ∙ ap (has_name key) some)
      ∙ noted_if (bytes_eq own key))

-- what an index has for each key after one more place at a key
pub noted-updated : (had : List ℕ → Option (Option ℕ)) (key other : List ℕ) (place : ℕ) (only : Option ℕ) → Some only ≡ noted place (had key) →
    update bytes_eq had key (Some only) other ≡ noted_key key other place (had other)
noted-updated had key other place only is = by (bytes_eq key other) refl
  where
    by : (b : Bool) → bytes_eq key other ≡ b → cond b (Some only) (had other) ≡ (if b then noted place (had other) else had other)
    by true e = is ∙ ap (λ k. noted place (had k)) (same_bytes key other e)
    by false e = refl

pub drop-past : {X : Type 0} (n : ℕ) (xs : List X) → length xs ≤ n → drop n xs ≡ []
drop-past zero [] h = refl
drop-past zero (x ∷ xs) h = absurd (omega (arith, h))
drop-past (suc n) [] h = refl
drop-past (suc n) (x ∷ xs) h = drop-past n xs (omega (arith, h))
