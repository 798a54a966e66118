-- A shell that stays has a row or a cell that stays, where it had one.
use Prim.Native.String.{String}
use Rattle.std.proofs.Common.{◌≡◌, List, [], ◌∷◌, Bool, true, false, true≢false, not, sym, ◌∙◌}
use Rattle.std.specs.List.{list_all}
use Rattle.redl_tree.specs.Model.Nodes.{Nodes}
use Rattle.redl_tree.specs.Decisions.Tables.{own, has_own, all_of_some}
use Rattle.redl_tree.specs.declared.lists.Reach.{Reach}
use Rattle.redl_laws.proofs.Soundness.RowLaws.{is_empty, own-has}

-- where some are own and not all go, one stays
pub own-keeps : (name : String) (reach : Reach) (test : Nodes → Bool) (kids : Nodes) → has_own name reach kids ≡ true → all_of_some test (own name reach kids) ≡ false
    → list_all test (own name reach kids) ≡ false
own-keeps name reach test kids full e = at (own name reach kids) (sym (own-has name reach kids) ∙ full) e
  where
    at : (xs : List Nodes) → not (is_empty xs) ≡ true → all_of_some test xs ≡ false → list_all test xs ≡ false
    at [] full e = absurd (true≢false (sym full))
    at (x ∷ xs) full e = e
