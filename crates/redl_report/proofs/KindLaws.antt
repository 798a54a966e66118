-- The revisions of one kind.
use Rattle.std.proofs.Common.{◌≡◌, ◌∙◌, ◌≤◌, ℕ, Bool, true, false, cond, List, [], ◌∷◌, ◌++◌, length, ap, arith}
use Rattle.std.proofs.lemmas.List.Elements.{filter-append}
use Rattle.redl_kinds.specs.declared.rev_kind.RevKind.{RevKind}
use Rattle.redl_index.specs.declared.revision.Revision.{Revision}
use Rattle.redl_kinds.specs.Kinds.{is_same_kind}
use Rattle.redl_report.specs.Reports.{of_kind}

abbrev is_of : RevKind → Revision → Bool
is_of kind revision = is_same_kind revision.kind kind

-- those before a revision of the kind, it, and those after it
pub of_kind-split : (kind : RevKind) (before rest all : List Revision) (revision : Revision) → is_of kind revision ≡ true → all ≡ before ++ (revision ∷ rest)
    → of_kind kind all ≡ of_kind kind before ++ (revision ∷ of_kind kind rest)
of_kind-split kind before rest all revision is whole =
    ap (of_kind kind) whole ∙ filter-append (is_of kind) before (revision ∷ rest)
    ∙ ap (λ b. of_kind kind before ++ cond b (revision ∷ of_kind kind rest) (of_kind kind rest)) is

-- they are no more than all
pub of_kind-few : (kind : RevKind) (all : List Revision) (limit : ℕ) → length all ≤ limit → length (of_kind kind all) ≤ limit
of_kind-few kind all limit few = omega (arith, few, fewer all) where
  fewer : (revisions : List Revision) → length (of_kind kind revisions) ≤ length revisions
  fewer [] = omega arith
  fewer (revision ∷ revisions) = by (is_of kind revision) (fewer revisions) where
    by : (b : Bool) → length (of_kind kind revisions) ≤ length revisions → length (cond b (revision ∷ of_kind kind revisions) (of_kind kind revisions)) ≤ length (revision ∷ revisions)
    by true rest = omega (arith, rest)
    by false rest = omega (arith, rest)
