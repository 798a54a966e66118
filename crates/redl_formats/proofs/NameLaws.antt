-- Finding formats by their names.
use Rattle.std.proofs.Common.{◌≡◌, ℕ, suc, [], ◌+◌, ◌<◌, Bool, true, false, cond, arith, List, ◌∷◌, ◌++◌, length, All, get_or, take, drop, refl, sym, subst, add-one, append_assoc, Some, None, ap}
use Rattle.std.proofs.Math.Seq.{take-suc, drop-cons}
use Rattle.std.specs.Str.{bytes_eq}
use Rattle.redl_formats.specs.Formats.{first_named, without_named}

-- the format at this place has the name
pub named_here : {F : Type 0} (name_of : F → List ℕ) (name : List ℕ) (formats : List F) (i : ℕ) (x : F) → i < length formats → x ≡ get_or formats i x → bytes_eq (name_of x) name ≡ true
    → (first_named name_of name (drop i formats) ≡ Some x) × (without_named name_of name (drop i formats) ≡ drop (i + 1) formats)
named_here name_of name formats i x h at here =
    rw (add-one, drop-cons formats i x h, ← at, here) (refl, refl)

-- the format at this place has another name
pub named_later : {F : Type 0} (name_of : F → List ℕ) (name : List ℕ) (formats : List F) (i : ℕ) (x : F) → i < length formats → x ≡ get_or formats i x → bytes_eq (name_of x) name ≡ false
    → (first_named name_of name (drop (i + 1) formats) ≡ first_named name_of name (drop i formats))
    × (take (i + 1) formats ++ without_named name_of name (drop (i + 1) formats) ≡ take i formats ++ without_named name_of name (drop i formats))
named_later name_of name formats i x h at here =
    rw (add-one, drop-cons formats i x h, ← at, here, take-suc formats i x h, ← at) (refl, append_assoc (take i formats) (x ∷ []) (without_named name_of name (drop (suc i) formats)))

named_has_at : {F : Type 0} (P : F → Type 0) (name_of : F → List ℕ) (name : List ℕ) (format : F) (more : List F) (x : F) (test : Bool) → P format → (Some x ≡ first_named name_of name more → P x)
    → Some x ≡ cond test (Some format) (first_named name_of name more) → P x
named_has_at P name_of name format more x true here later found = let same : x ≡ format = cc in subst P (sym same) here
named_has_at P name_of name format more x false here later found = later found

-- what holds of all formats holds of the one that has the name
pub named_has : {F : Type 0} (P : F → Type 0) (name_of : F → List ℕ) (name : List ℕ) (formats : List F) (x : F) → All P formats → Some x ≡ first_named name_of name formats → P x
named_has P name_of name [] x all found = cc
named_has P name_of name (format ∷ more) x all found =
    named_has_at P name_of name format more x (bytes_eq (name_of format) name) (all 0 format (omega arith)) (named_has P name_of name more x (λ k d h. all (suc k) d (omega arith))) found

-- without a format of that name nothing is taken
pub nothing_named : {F : Type 0} (name_of : F → List ℕ) (name : List ℕ) (formats : List F) → first_named name_of name formats ≡ None → without_named name_of name formats ≡ formats
nothing_named name_of name [] none = refl
nothing_named name_of name (format ∷ more) none =
    elim (bytes_eq (name_of format) name) as (λ test. cond test (Some format) (first_named name_of name more) ≡ None → cond test more (format ∷ without_named name_of name more) ≡ format ∷ more) [
      | true ↦ λ is. cc
      | false ↦ λ is. ap (λ rest. format ∷ rest) (nothing_named name_of name more is)
    ] none
