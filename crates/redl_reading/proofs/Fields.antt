-- A field and its end: what was read stands there, and what stands there is read.
use Rattle.std.proofs.Common.{◌≡◌, ℕ, true, List, ◌∷◌, [], ◌++◌, Some, refl, sym, ap, subst, ◌∙◌}
use Rattle.std.specs.List.{list_all}
use Rattle.std.proofs.lemmas.Option.{same_Some}
use Rattle.std.proofs.lemmas.Bool.{eq-eqb}
use Rattle.redl_reading.specs.Lists.{front, after, behind, is_other, field_at}
use Rattle.redl_reading.proofs.Steps.{bind_some}
use Rattle.redl_reading.proofs.Runs.{stops, front-after, front_passes, front_again, after_again}
use Rattle.redl_reading.proofs.Words.{behind_takes, behind_again}

-- a field that is read stands at the start of the bytes, before its end
pub field_takes : (end : ℕ) (bs : List ℕ) (x : List ℕ × List ℕ) → field_at end bs ≡ Some x → bs ≡ x.0 ++ (end ∷ x.1)
unfolding field_at
field_takes end bs x e =
    let r = bind_some (behind (end ∷ []) (after (is_other end) bs)) (λ rest. Some (front (is_other end) bs, rest)) x e in
    let made : (front (is_other end) bs, r.0) ≡ x = same_Some (front (is_other end) bs, r.0) x r.2 in
    let whole : bs ≡ front (is_other end) bs ++ (end ∷ r.0) =
    sym (front-after (is_other end) bs) ∙ ap (λ (z : List ℕ). front (is_other end) bs ++ z) (behind_takes (end ∷ []) (after (is_other end) bs) r.0 r.1) in
    whole ∙ ap (λ (y : List ℕ × List ℕ). y.0 ++ (end ∷ y.1)) made

-- a field that is written is read again
pub field_again : (end : ℕ) (a rest : List ℕ) → list_all (is_other end) a ≡ true → field_at end (a ++ (end ∷ rest)) ≡ Some (a, rest)
unfolding field_at
field_again end a rest h =
    let stop : stops (is_other end) (end ∷ rest) ≡ true = rw (eq-eqb end end refl) refl in
    rw (front_again (is_other end) a (end ∷ rest) h stop, after_again (is_other end) a (end ∷ rest) h stop, behind_again (end ∷ []) rest) refl

-- the field has no such byte
pub field_lacks : (end : ℕ) (bs : List ℕ) (x : List ℕ × List ℕ) → field_at end bs ≡ Some x → list_all (is_other end) x.0 ≡ true
unfolding field_at
field_lacks end bs x e =
    let r = bind_some (behind (end ∷ []) (after (is_other end) bs)) (λ rest. Some (front (is_other end) bs, rest)) x e in
    subst (λ (y : List ℕ × List ℕ). list_all (is_other end) y.0 ≡ true) (same_Some (front (is_other end) bs, r.0) x r.2) (front_passes (is_other end) bs)
