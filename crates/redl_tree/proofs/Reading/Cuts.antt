-- A start tag whose text is a name and a tail is cut where they end.
use Rattle.std.proofs.Common.{◌≡◌, ℕ, suc, ◌+◌, List, [], ◌∷◌, ◌++◌, length, take, drop, get_or, refl, ap, ◌∙◌, arith, append_assoc, length-append}
use Rattle.std.specs.Prelude.{if◌then◌else◌}
use Rattle.std.proofs.Math.Dec.{eqb-suc-zero}
use Rattle.std.proofs.Math.Seq.{take-append_seam, drop-append_seam, get_or-append_seam}
use Rattle.redl_tree.specs.Model.Cuts.{IsCut}
use Rattle.redl_tree.specs.Model.Starts.{Start, before_local, local_in, start_in}
use Rattle.redl_tree.specs.Model.Text.{name_text}
use Rattle.redl_tree.specs.declared.kinds.Space.{Space}
use Rattle.redl_tree.specs.declared.kinds.Kind.TheVariants.{Plain}

with_colon : (p : ℕ) (ps local tail : List ℕ) → name_text (p ∷ ps) local ++ tail ≡ (p ∷ ps) ++ 58 ∷ (local ++ tail)
with_colon p ps local tail = append_assoc ((p ∷ ps) ++ 58 ∷ []) local tail ∙ append_assoc (p ∷ ps) (58 ∷ []) (local ++ tail)

pub text_is_cut : (prefix local tail : List ℕ) → IsCut (name_text prefix local ++ tail) (length prefix) (length (name_text prefix local))
text_is_cut [] local tail = record {
  within = omega (arith, length-append local tail);
  prefixed = λ h. absurd (omega arith);
  colon = λ h. absurd (omega arith);
}
text_is_cut (p ∷ ps) local tail = record {
  within = omega (arith, length-append (name_text (p ∷ ps) local) tail);
  prefixed = λ h. omega (arith, length-append ((p ∷ ps) ++ 58 ∷ []) local, length-append (p ∷ ps) (58 ∷ []));
  colon = λ h. ap (λ t. get_or t (length (p ∷ ps)) 0) (with_colon p ps local tail) ∙ get_or-append_seam (p ∷ ps) 58 (local ++ tail) 0;
}

prefix_cut : (prefix local tail : List ℕ) → take (length prefix) (name_text prefix local ++ tail) ≡ prefix
prefix_cut [] local tail = refl
prefix_cut (p ∷ ps) local tail = ap (take (length (p ∷ ps))) (with_colon p ps local tail) ∙ take-append_seam (p ∷ ps) (58 ∷ (local ++ tail))

before_some : (n : ℕ) → before_local (suc n) ≡ suc n + 1
before_some n = ap (λ b. if b then 0 else suc n + 1) (eqb-suc-zero n)

after_colon : (prefix local : List ℕ) → drop (before_local (length prefix)) (name_text prefix local) ≡ local
after_colon [] local = refl
after_colon (p ∷ ps) local =
    let ends : suc (length ps) + 1 ≡ length ((p ∷ ps) ++ 58 ∷ []) = omega (arith, length-append (p ∷ ps) (58 ∷ [])) in
    let before : before_local (length (p ∷ ps)) ≡ length ((p ∷ ps) ++ 58 ∷ []) = before_some (length ps) ∙ ends in
    ap (λ n. drop n (name_text (p ∷ ps) local)) before ∙ drop-append_seam ((p ∷ ps) ++ 58 ∷ []) local

local_cut : (prefix local tail : List ℕ) → local_in (name_text prefix local ++ tail) (length prefix) (length (name_text prefix local)) ≡ local
local_cut prefix local tail =
    ap (drop (before_local (length prefix))) (take-append_seam (name_text prefix local) tail) ∙ after_colon prefix local

pub start_of_text : (prefix local tail : List ℕ) (space : Space)
    → start_in (name_text prefix local ++ tail) (length prefix) (length (name_text prefix local)) space
    ≡ record { prefix = prefix; local = local; space = space; tail = tail; kind = Plain; rev = 0 }
start_of_text prefix local tail space =
    ap (λ a. made a (local_in whole (length prefix) (length name)) (drop (length name) whole)) (prefix_cut prefix local tail)
    ∙ ap (λ b. made prefix b (drop (length name) whole)) (local_cut prefix local tail)
    ∙ ap (λ c. made prefix local c) (drop-append_seam name tail)
  where
    name : List ℕ
    name = name_text prefix local

    whole : List ℕ
    whole = name ++ tail

    made : List ℕ → List ℕ → List ℕ → Start
    made a b c = record { prefix = a; local = b; space = space; tail = c; kind = Plain; rev = 0 }
