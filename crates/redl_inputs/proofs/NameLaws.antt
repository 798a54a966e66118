-- Names in a list, and texts that are UTF-8.
use Rattle.std.proofs.Common.{◌≡◌, ◌<◌, ◌+◌, ◌++◌, ℕ, List, [], ◌∷◌, take, drop, get_or, length, Result, Ok, Err, MatchResult, IsOk, refl, sym, ap, ◌∙◌}
use Rattle.std.proofs.lemmas.List.{drop_more, take_more, take-append-drop}

-- ---- none

pub none_before : {X : Type 0} (names more : List X) → names ++ more ≡ [] → names ≡ []
none_before [] more none = refl
none_before (name ∷ names) more none = absurd (cc none)

pub none_behind : {X : Type 0} (names more : List X) → names ++ more ≡ [] → more ≡ []
none_behind [] more none = none
none_behind (name ∷ names) more none = absurd (cc none)

pub not_none : (names : List (List ℕ)) (name : List ℕ) (more : List (List ℕ)) → names ++ name ∷ more ≡ [] → ⊥
not_none [] name more none = cc none
not_none (one ∷ names) name more none = cc none

-- ---- a place

-- this name stands in the list at this place
pub record IsAt (names : List (List ℕ)) (index : ℕ) (name : List ℕ) : Type 0 where
  pub left : drop index names ≡ name ∷ drop (index + 1) names
  pub more : take (index + 1) names ≡ take index names ++ name ∷ []
  pub split : names ≡ take index names ++ name ∷ drop (index + 1) names

pub is_at : (names : List (List ℕ)) (index : ℕ) (name item : List ℕ) → index < length names → item ≡ get_or names index item → name ≡ item → IsAt names index name
is_at names index name item within at is =
    let here : get_or names index item ≡ name = sym at ∙ sym is in
    let left : drop index names ≡ name ∷ drop (index + 1) names =
    drop_more names index item within ∙ ap (λ one. one ∷ drop (index + 1) names) here in
    record {
      left = left;
      more = take_more names index item within ∙ ap (λ one. take index names ++ one ∷ []) here;
      split = sym (take-append-drop index names) ∙ ap (λ later. take index names ++ later) left;
    }

-- ---- texts

pub is_ok_unless : {T E : Type 0} (Good : T → Type 0) (Bad : E → Type 0) (Held : Type 0) (r : Result T E)
    → MatchResult r Good (λ e. ¬ Held × Bad e) → Held → IsOk r
is_ok_unless Good Bad Held (Ok x) h held = refl
is_ok_unless Good Bad Held (Err e) h held = absurd (h.0 held)
