-- Refused entries that are added in two steps.
use Rattle.std.proofs.Common.{◌≡◌, List, [], ◌∷◌, ◌++◌, ◌&&◌, refl}
use Rattle.redl_lines.specs.Refused.{RefusedEntries, is_empty, with_refusal, with_refusals}
use Rattle.redl_session.specs.declared.refusal.Refusal.{Refusal}

-- refusals can be noted in two parts
pub with_refusals-append : (refused : RefusedEntries) (first more : List Refusal) → with_refusals refused (first ++ more) ≡ with_refusals (with_refusals refused first) more
with_refusals-append refused [] more = refl
with_refusals-append refused (refusal ∷ first) more = with_refusals-append (with_refusal refused refusal) first more

-- two lists are empty together where both are
pub both_empty : (first more : RefusedEntries) → is_empty (first ++ more) ≡ (is_empty first && is_empty more)
both_empty [] more = refl
both_empty (entry ∷ first) more = refl
