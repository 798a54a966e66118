-- Places of keys that are found one after the other.
use Rattle.std.proofs.Common.{◌≡◌, ◌∙◌, refl, sym, ap, ℕ, ◌+◌, List, ◌∷◌, Bool, true, false, bytes_eq, cond, Option, Some, None, is_some, if◌then◌else◌}
use Rattle.std.proofs.lemmas.Slice.Eq.{bytes_eq-Decides}
use Rattle.redl_reading.specs.Steps.{or_else}
use Rattle.redl_comments.specs.Threads.{place_from}

pub or_nothing : (o : Option ℕ) → o ≡ or_else o None
or_nothing None = refl
or_nothing (Some x) = refl

-- what the first key gives, or else the others
pub place_here : (n : ℕ) (own : List ℕ) (more : List (List ℕ)) (key : List ℕ) (old : Option ℕ)
    → or_else (or_else old (if bytes_eq own key then Some n else None)) (place_from (n + 1) more key) ≡ or_else old (place_from n (own ∷ more) key)
place_here n own more key None = by (bytes_eq own key)
  where
    by : (b : Bool) → or_else (if b then Some n else None) (place_from (n + 1) more key) ≡ (if b then Some n else place_from (n + 1) more key)
    by true = refl
    by false = refl
place_here n own more key (Some x) = refl

-- a place more, where there was none: the places before were `old`
pub place_more : (key other : List ℕ) (old : List ℕ → Option ℕ) (place : ℕ) (now : Option ℕ) → old key ≡ None → now ≡ cond (bytes_eq key other) (Some place) (old other)
    → now ≡ or_else (old other) (if bytes_eq key other then Some place else None)
place_more key other old place now none is = at (bytes_eq key other) refl
  where
    at : (b : Bool) → bytes_eq key other ≡ b → now ≡ or_else (old other) (if bytes_eq key other then Some place else None)
    at true s =
        is ∙ ap (λ b. cond b (Some place) (old other)) s
        ∙ sym (ap (λ b. or_else (old other) (if b then Some place else None)) s ∙ ap (λ o. or_else o (Some place)) (ap old (sym ((bytes_eq-Decides key other).0 s)) ∙ none))
    at false s =
        is ∙ ap (λ b. cond b (Some place) (old other)) s ∙ or_nothing (old other) ∙ sym (ap (λ b. or_else (old other) (if b then Some place else None)) s)

kept : (o : Option ℕ) (place : ℕ) → is_some o ≡ true → o ≡ or_else o (Some place)
kept None place h = cc
kept (Some x) place h = refl

-- and where there was one
pub place_kept : (key other : List ℕ) (old : List ℕ → Option ℕ) (place : ℕ) → is_some (old key) ≡ true → old other ≡ or_else (old other) (if bytes_eq key other then Some place else None)
place_kept key other old place there = at (bytes_eq key other) refl
  where
    at : (b : Bool) → bytes_eq key other ≡ b → old other ≡ or_else (old other) (if bytes_eq key other then Some place else None)
    at true s =
        kept (old other) place (ap (λ i. is_some (old i)) (sym ((bytes_eq-Decides key other).0 s)) ∙ there)
        ∙ sym (ap (λ b. or_else (old other) (if b then Some place else None)) s)
    at false s = or_nothing (old other) ∙ sym (ap (λ b. or_else (old other) (if b then Some place else None)) s)

pub none_there : (o : Option ℕ) → is_some o ≡ false → o ≡ None
none_there None h = refl
none_there (Some x) h = cc
