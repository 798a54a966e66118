-- The places of `&`: what comes before the first one has no reference.
use Rattle.std.proofs.Common.{◌≡◌, ℕ, ◌<◌, eqb, List, [], ◌∷◌, length, Option, Some, None, refl, sym, ap, ◌∙◌, inl, inr, arith}
use Rattle.std.specs.Prelude.{◌&&◌, true}
use Rattle.redl_reading.specs.Lists.{behind, after, is_other}
use Rattle.std.specs.Option.{is_some}
use Rattle.redl_reading.specs.Steps.{Gives}
use Rattle.redl_grammar.specs.References.{is_there, reference_at, has_references}
use Rattle.std.proofs.lemmas.Bool.{cases_Bool}
use Rattle.redl_reading.proofs.Runs.{after_fits, after_here}
use Rattle.redl_reading.proofs.Words.{behind_takes}

references_after : (bs : List ℕ) → has_references (after (is_other 38) bs) ≡ has_references bs
references_after [] = refl
references_after (b ∷ bs) =
    elim (cases_Bool (eqb b 38)) [
      | inl same ↦ ap has_references (after_here 38 b bs same)
      | inr other ↦ rw other (references_after bs)
    ]

-- with no `&`
pub references_none : (bs : List ℕ) → behind (38 ∷ []) (after (is_other 38) bs) ≡ None → has_references bs ≡ true
references_none [] e = refl
references_none (b ∷ bs) e =
    elim (cases_Bool (eqb b 38)) [
      | inl same ↦ absurd (let k = rw same at e in cc)
      | inr other ↦ rw other (references_none bs (rw other at e))
    ]

-- from the first `&` on
pub references_some : (bs rest : List ℕ) → behind (38 ∷ []) (after (is_other 38) bs) ≡ Some rest → (has_references bs ≡ (is_there (reference_at rest) && has_references rest)) × (length rest < length bs)
references_some bs rest e =
    let front : after (is_other 38) bs ≡ 38 ∷ rest = behind_takes (38 ∷ []) (after (is_other 38) bs) rest e in
    (sym (references_after bs) ∙ ap has_references front, omega (arith, after_fits 38 bs, ap length front))

-- what is read is where the code found it
pub found_there : {X Y : Type 0} (view : X → Y) (r : Option X) (read : Option Y) → Gives view r read → is_there read ≡ is_some r
found_there view None read e = rw e refl
found_there view (Some x) read e = rw e refl
