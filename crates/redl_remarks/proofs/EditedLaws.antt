-- Details with their edits, one after another.
use Rattle.std.proofs.Common.{◌≡◌, ◌+◌, ℕ, Bool, List, [], ◌∷◌, ◌++◌, length, ap, sym, ◌∙◌, append_assoc}
use Rattle.std.proofs.lemmas.List.{append-nil, length_push}
use Rattle.redl_excerpts.specs.declared.detail.Detail.{Detail}
use Rattle.redl_remarks.specs.Remarked.{edited, edited_from}

module _ (edits : List ℕ) (hidden : List Bool) (whole : List Detail) where
  -- one more, of the first of the details that are left
  pub edited-more : (all more details left : List Detail) (detail now : Detail) → details ≡ detail ∷ left → now ≡ edited edits hidden (length all) detail → more ≡ all ++ now ∷ []
      → all ++ edited_from edits hidden (length all) details ≡ whole → more ++ edited_from edits hidden (length more) left ≡ whole
  edited-more all more details left detail now front is grown so_far =
      let next = length all + 1 in
      let count : length more ≡ next = ap length grown ∙ length_push all now in
      ap (λ n. more ++ edited_from edits hidden n left) count ∙ ap (λ ds. ds ++ edited_from edits hidden next left) grown
      ∙ append_assoc all (now ∷ []) (edited_from edits hidden next left)
      ∙ ap (λ d. all ++ d ∷ edited_from edits hidden next left) is
      ∙ ap (λ ds. all ++ edited_from edits hidden (length all) ds) (sym front) ∙ so_far

  -- none is left
  pub edited-done : (all left : List Detail) → left ≡ [] → all ++ edited_from edits hidden (length all) left ≡ whole → all ≡ whole
  edited-done all left none so_far = sym (append-nil all) ∙ (rw none at so_far)
