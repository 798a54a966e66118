-- Details with their clauses, one after another.
use Rattle.std.proofs.Common.{◌≡◌, ◌+◌, ℕ, List, [], ◌∷◌, ◌++◌, length, ap, sym, ◌∙◌, append_assoc, Option}
use Rattle.std.proofs.lemmas.List.{append-nil, length_push}
use Rattle.redl_excerpts.specs.Details.{with_clause}
use Rattle.redl_excerpts.specs.declared.detail.Detail.{Detail}
use Rattle.redl_clauses.specs.Clauses.{clause_at, clauses_from}

module _ (told : List (Option (List ℕ))) (whole : List Detail) where
  -- one more, of the first of the details that are left
  pub clauses-more : (numbered more details left : List Detail) (detail now : Detail) → details ≡ detail ∷ left → now ≡ with_clause detail (clause_at told (length numbered)) → more ≡ numbered ++ now ∷ []
      → numbered ++ clauses_from (length numbered) details told ≡ whole → more ++ clauses_from (length more) left told ≡ whole
  clauses-more numbered more details left detail now front is grown so_far =
      let next = length numbered + 1 in
      let count : length more ≡ next = ap length grown ∙ length_push numbered now in
      ap (λ n. more ++ clauses_from n left told) count ∙ ap (λ ds. ds ++ clauses_from next left told) grown
      ∙ append_assoc numbered (now ∷ []) (clauses_from next left told)
      ∙ ap (λ d. numbered ++ d ∷ clauses_from next left told) is
      ∙ ap (λ ds. numbered ++ clauses_from (length numbered) ds told) (sym front) ∙ so_far

  -- none is left
  pub clauses-done : (numbered left : List Detail) → left ≡ [] → numbered ++ clauses_from (length numbered) left told ≡ whole → numbered ≡ whole
  clauses-done numbered left none so_far = sym (append-nil numbered) ∙ (rw none at so_far)
