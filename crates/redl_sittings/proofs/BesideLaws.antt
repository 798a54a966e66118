-- Numbers side by side, from a place on.
use Rattle.std.proofs.Common.{◌≡◌, ℕ, zero, suc, ◌<◌, ◌≤◌, List, [], ◌∷◌, ◌++◌, drop, get_or, length, refl, sym, ap, ◌∙◌, arith, subst}
use Rattle.std.proofs.lemmas.List.{drop_all}
use Rattle.redl_sittings.specs.Inside.Filling.{with_number, with_pairs}
use Rattle.redl_sittings.proofs.FillLaws.{with-append}
use Rattle.redl_sittings.specs.SecondNumbers.{beside, parts_beside}

drop-none : {X : Type 0} (n : ℕ) → drop n (let xs : List X = [] in xs) ≡ []
drop-none zero = refl
drop-none (suc n) = refl

pub beside-here : (seconds firsts : List ℕ) (place d : ℕ) → place < length seconds
    → beside (drop place seconds) (drop place firsts) ≡ (get_or seconds place d, get_or firsts place 0) ∷ beside (drop (suc place) seconds) (drop (suc place) firsts)
beside-here [] firsts place d within = absurd (omega (arith, within))
beside-here (second ∷ seconds) [] zero d within = refl
beside-here (second ∷ seconds) (first ∷ firsts) zero d within = refl
beside-here (second ∷ seconds) [] (suc place) d within =
    ap (λ (l : List ℕ). beside (drop place seconds) l) (sym (drop-none place)) ∙ beside-here seconds [] place d (omega (arith, within))
beside-here (second ∷ seconds) (first ∷ firsts) (suc place) d within = beside-here seconds firsts place d (omega (arith, within))

pub parts-here : (seconds firsts : List (List ℕ)) (part : ℕ) (d : List ℕ) → part < length seconds
    → parts_beside (drop part seconds) (drop part firsts)
    ≡ beside (get_or seconds part d) (get_or firsts part []) ++ parts_beside (drop (suc part) seconds) (drop (suc part) firsts)
parts-here [] firsts part d within = absurd (omega (arith, within))
parts-here (second ∷ seconds) [] zero d within = refl
parts-here (second ∷ seconds) (first ∷ firsts) zero d within = refl
parts-here (second ∷ seconds) [] (suc part) d within =
    ap (λ (l : List (List ℕ)). parts_beside (drop part seconds) l) (sym (drop-none part)) ∙ parts-here seconds [] part d (omega (arith, within))
parts-here (second ∷ seconds) (first ∷ firsts) (suc part) d within = parts-here seconds firsts part d (omega (arith, within))

-- ---- filling from the last place on

pub fill-begins : (seconds firsts back : List ℕ) (place : ℕ) → length seconds ≤ place → back ≡ with_pairs (beside (drop place seconds) (drop place firsts)) back
fill-begins seconds firsts back place past = sym (ap (λ (l : List ℕ). with_pairs (beside l (drop place firsts)) back) (drop_all place seconds past))

pub fill-more : (seconds firsts back old new : List ℕ) (after place next second first : ℕ) → after ≡ suc place → place ≡ next → place < length seconds
    → second ≡ get_or seconds place second → first ≡ get_or firsts place 0
    → old ≡ with_pairs (beside (drop after seconds) (drop after firsts)) back → new ≡ with_number second first old
    → new ≡ with_pairs (beside (drop next seconds) (drop next firsts)) back
fill-more seconds firsts back old new after place next second first follows same within is_second is_first before is =
    let here : beside (drop place seconds) (drop place firsts) ≡ (get_or seconds place second, get_or firsts place 0) ∷ beside (drop (suc place) seconds) (drop (suc place) firsts) =
    beside-here seconds firsts place second within in
    let older : old ≡ with_pairs (beside (drop (suc place) seconds) (drop (suc place) firsts)) back = subst (λ k. old ≡ with_pairs (beside (drop k seconds) (drop k firsts)) back) follows before in
    let made : new ≡ with_pairs (beside (drop place seconds) (drop place firsts)) back =
    is ∙ ap (with_number second first) older
    ∙ ap (λ n. with_number n first (with_pairs (beside (drop (suc place) seconds) (drop (suc place) firsts)) back)) is_second
    ∙ ap (λ n. with_number (get_or seconds place second) n (with_pairs (beside (drop (suc place) seconds) (drop (suc place) firsts)) back)) is_first
    ∙ ap (λ (pairs : List (ℕ × ℕ)). with_pairs pairs back) (sym here) in
    subst (λ k. new ≡ with_pairs (beside (drop k seconds) (drop k firsts)) back) same made

pub fill-ends : (seconds firsts back new : List ℕ) (place : ℕ) → place ≡ 0 → new ≡ with_pairs (beside (drop place seconds) (drop place firsts)) back → new ≡ with_pairs (beside seconds firsts) back
fill-ends seconds firsts back new place none is = subst (λ k. new ≡ with_pairs (beside (drop k seconds) (drop k firsts)) back) none is

pub parts-begin : (seconds firsts : List (List ℕ)) (back : List ℕ) (part : ℕ) → length seconds ≤ part → back ≡ with_pairs (parts_beside (drop part seconds) (drop part firsts)) back
parts-begin seconds firsts back part past = sym (ap (λ (l : List (List ℕ)). with_pairs (parts_beside l (drop part firsts)) back) (drop_all part seconds past))

pub parts-more : (seconds firsts : List (List ℕ)) (back old new : List ℕ) (after part next : ℕ) → after ≡ suc part → part ≡ next → part < length seconds
    → old ≡ with_pairs (parts_beside (drop after seconds) (drop after firsts)) back → new ≡ with_pairs (beside (get_or seconds part []) (get_or firsts part [])) old
    → new ≡ with_pairs (parts_beside (drop next seconds) (drop next firsts)) back
parts-more seconds firsts back old new after part next follows same within before is =
    let one : List (ℕ × ℕ) = beside (get_or seconds part []) (get_or firsts part []) in
    let rest : List (ℕ × ℕ) = parts_beside (drop (suc part) seconds) (drop (suc part) firsts) in
    let older : old ≡ with_pairs rest back = subst (λ k. old ≡ with_pairs (parts_beside (drop k seconds) (drop k firsts)) back) follows before in
    let made : new ≡ with_pairs (parts_beside (drop part seconds) (drop part firsts)) back =
    is ∙ ap (with_pairs one) older ∙ sym (with-append one rest back) ∙ ap (λ (pairs : List (ℕ × ℕ)). with_pairs pairs back) (sym (parts-here seconds firsts part [] within)) in
    subst (λ k. new ≡ with_pairs (parts_beside (drop k seconds) (drop k firsts)) back) same made

pub parts-end : (seconds firsts : List (List ℕ)) (back new : List ℕ) (part : ℕ) → part ≡ 0 → new ≡ with_pairs (parts_beside (drop part seconds) (drop part firsts)) back
    → new ≡ with_pairs (parts_beside seconds firsts) back
parts-end seconds firsts back new part none is = subst (λ k. new ≡ with_pairs (parts_beside (drop k seconds) (drop k firsts)) back) none is
