-- The numbers of pairs are those of revisions: both are there, since they are alike.
use Rattle.std.proofs.Common.{◌≡◌, ◌<◌, ◌+◌, ◌-◌, ◌&&◌, inl, inr, ℕ, zero, suc, Bool, true, false, List, [], ◌∷◌, ◌++◌, length, drop, refl, sym, ◌∙◌, ap, arith, Option, Some, None, is_some}
use Rattle.std.specs.Prelude.{if◌then◌else◌, find, slice_get}
use Rattle.std.specs.List.{All}
use Rattle.std.proofs.lemmas.Bool.{cases_lt}
use Rattle.std.proofs.lemmas.List.Elements.{All-append, All-cons, All-nil}
use Rattle.std.proofs.lemmas.Option.{slice_get_past}
use Rattle.redl_classes.specs.Least.{IsBelow}
use Rattle.redl_index.specs.declared.revision.Revision.{Revision}
use Rattle.redl_spans.specs.declared.span.Span.{Span}
use Rattle.redl_tree.specs.Decisions.Packages.{stories}
use Rattle.redl_tree.specs.Model.Nodes.{Nodes, no_nodes, bytes, element}
use Rattle.redl_tree.specs.Model.View.{Element}
use Rattle.redl_tree.specs.Roles.Names.{is}
use Rattle.redl_edits.specs.Alike.{are_alike_at, are_alike_if, revision_at}
use Rattle.redl_edits.specs.Beside.{are_beside, beside_pairs, beside_upto, pair_beside, pair_of, pairs_at, pairs_before}
use Rattle.redl_edits.specs.Enclosed.{enclosed_pairs, enclosed_upto, holds, is_inside, is_round, may_enclose, or_else, outermost, pair_enclosed_if, pair_with, round_if, round_upto}
use Rattle.redl_edits.specs.Edits.{package_pairs}
use Rattle.redl_edits.specs.Facts.{Facts, facts_of}
use Rattle.redl_edits.specs.Formatted.{are_one_format, formatted_pairs, formatted_upto, is_loose, is_next, pair_behind, pair_formatted, reaches}
use Rattle.redl_edits.specs.Tabled.{has_sort, own_tabled, pair_tabled, pairs_of_sort, table_pairs, tabled_in, tabled_pairs}
use Rattle.redl_edits.specs.Tables.{table_revisions}
use Rattle.redl_edits.specs.declared.tabled.Sort.{Sort}
use Rattle.redl_edits.specs.declared.tabled.Sort.TheVariants.{Inserted, Deleted, Changed}

pub last-true : (a b : Bool) → a && b ≡ true → b ≡ true
last-true true b e = e
last-true false b e = cc

pub first-true : (a b : Bool) → a && b ≡ true → a ≡ true
first-true true b e = refl
first-true false b e = cc

pub All-if : {X : Type 0} (P : X → Type 0) (xs : List X) (b : Bool) → (b ≡ true → All P xs) → All P (if b then xs else [])
All-if P xs true all = all refl
All-if P xs false all = All-nil P

module _ (revisions : List Revision) where
  there : (v : ℕ) → is_some (revision_at revisions v) ≡ true → v < length revisions + 1
  there zero some = omega arith
  there (suc place) some = elim (cases_lt place (length revisions)) [
    | inl less ↦ omega (arith, less)
    | inr past ↦ absurd (let none : is_some (slice_get revisions place) ≡ false = ap is_some (slice_get_past revisions place past) in let wrong : false ≡ true = sym none ∙ some in cc)
  ]

  both : (one two : Option Revision) → are_alike_if one two ≡ true → (is_some one ≡ true) × (is_some two ≡ true)
  both None two e = cc
  both (Some one) None e = cc
  both (Some one) (Some two) e = (refl, refl)

  -- a pair of alike revisions
  pub below : (v w : ℕ) → are_alike_at revisions v w ≡ true → IsBelow (length revisions + 1) (record { one = v; two = w })
  below v w alike =
      let some = both (revision_at revisions v) (revision_at revisions w) alike in
      record { one = there v some.0; two = there w some.1 }

  pub only : (v w : ℕ) → are_alike_at revisions v w ≡ true → All (IsBelow (length revisions + 1)) (record { one = v; two = w } ∷ [])
  only v w alike = All-cons (IsBelow (length revisions + 1)) (record { one = v; two = w }) [] (below v w alike) (All-nil (IsBelow (length revisions + 1)))

  -- ---- texts, ends of paragraphs, rows and cells that touch

  beside-below : (one : Span) (two : Option Span) → All (IsBelow (length revisions + 1)) (pair_beside revisions one two)
  beside-below one None = All-nil (IsBelow (length revisions + 1))
  beside-below one (Some two) = All-if (IsBelow (length revisions + 1)) (pair_of one two ∷ []) (are_beside revisions one two) (λ yes.
      only one.revision two.revision (last-true _ (are_alike_at revisions one.revision two.revision) yes))

  before-below : (spans : List Span) (one : Span) (n : ℕ) → All (IsBelow (length revisions + 1)) (pairs_before revisions spans one n)
  before-below spans one zero = All-nil (IsBelow (length revisions + 1))
  before-below spans one (suc n) =
      All-append (IsBelow (length revisions + 1)) (pair_beside revisions one (slice_get spans n)) (pairs_before revisions spans one n)
      (beside-below one (slice_get spans n)) (before-below spans one n)

  at-below : (spans : List Span) (place : ℕ) (one : Option Span) → All (IsBelow (length revisions + 1)) (pairs_at revisions spans place one)
  at-below spans place None = All-nil (IsBelow (length revisions + 1))
  at-below spans place (Some one) = before-below spans one place

  pub beside_upto-below : (spans : List Span) (n : ℕ) → All (IsBelow (length revisions + 1)) (beside_upto revisions spans n)
  beside_upto-below spans zero = All-nil (IsBelow (length revisions + 1))
  beside_upto-below spans (suc n) =
      All-append (IsBelow (length revisions + 1)) (beside_upto revisions spans n) (pairs_at revisions spans n (slice_get spans n))
      (beside_upto-below spans n) (at-below spans n (slice_get spans n))

  -- ---- changes inside what was inserted, deleted or moved

  -- a span that is found is alike to the change
  abbrev IsAlike : Span → Option Span → Type 0
  IsAlike change None = Unit {0}
  IsAlike change (Some two) = are_alike_at revisions change.revision two.revision ≡ true

  round_if-alike : (change : Span) (unit : ℕ) (one : Option Span) → IsAlike change (round_if revisions change unit one)
  round_if-alike change unit None = tt
  round_if-alike change unit (Some span) = found (is_round revisions change unit span) refl
    where
      found : (b : Bool) → is_round revisions change unit span ≡ b → IsAlike change (if b then Some span else None)
      found true e = last-true _ (are_alike_at revisions change.revision span.revision) (last-true (holds unit span) (may_enclose revisions change span) e)
      found false e = tt

  or_else-alike : (change : Span) (one two : Option Span) → IsAlike change one → IsAlike change two → IsAlike change (or_else one two)
  or_else-alike change None two first second = second
  or_else-alike change (Some span) two first second = first

  round_upto-alike : (change : Span) (spans : List Span) (unit n : ℕ) → IsAlike change (round_upto revisions spans change unit n)
  round_upto-alike change spans unit zero = tt
  round_upto-alike change spans unit (suc n) =
      or_else-alike change (round_if revisions change unit (slice_get spans n)) (round_upto revisions spans change unit n)
      (round_if-alike change unit (slice_get spans n)) (round_upto-alike change spans unit n)

  with-below : (change : Span) (two : Option Span) → IsAlike change two → All (IsBelow (length revisions + 1)) (pair_with change two)
  with-below change None alike = All-nil (IsBelow (length revisions + 1))
  with-below change (Some two) alike = only change.revision two.revision alike

  enclosed-below : (spans : List Span) (change : Option Span) → All (IsBelow (length revisions + 1)) (pair_enclosed_if revisions spans change)
  enclosed-below spans None = All-nil (IsBelow (length revisions + 1))
  enclosed-below spans (Some change) = All-if (IsBelow (length revisions + 1)) (pair_with change (outermost revisions spans change change.from)) (is_inside revisions spans change) (λ yes.
      with-below change (outermost revisions spans change change.from) (round_upto-alike change spans change.from (length spans)))

  pub enclosed_upto-below : (spans : List Span) (n : ℕ) → All (IsBelow (length revisions + 1)) (enclosed_upto revisions spans n)
  enclosed_upto-below spans zero = All-nil (IsBelow (length revisions + 1))
  enclosed_upto-below spans (suc n) =
      All-append (IsBelow (length revisions + 1)) (pair_enclosed_if revisions spans (slice_get spans n)) (enclosed_upto revisions spans n)
      (enclosed-below spans (slice_get spans n)) (enclosed_upto-below spans n)

  -- ---- changes of one format

  module _ (facts : Facts) (same : facts.revisions ≡ revisions) where
    formatted-below : (one : Span) (two : Option Span) → All (IsBelow (length revisions + 1)) (pair_formatted facts one two)
    formatted-below one None = All-nil (IsBelow (length revisions + 1))
    formatted-below one (Some two) = All-if (IsBelow (length revisions + 1)) (pair_of one two ∷ []) (are_one_format facts one two) (λ yes.
        only one.revision two.revision (ap (λ rs. are_alike_at rs one.revision two.revision) (sym same) ∙ first-true _ (reaches facts one one.to (two.from - one.to)) yes))

    behind-below : (place : ℕ) (one : Option Span) → All (IsBelow (length revisions + 1)) (pair_behind facts place one)
    behind-below place None = All-nil (IsBelow (length revisions + 1))
    behind-below place (Some one) = All-if (IsBelow (length revisions + 1)) (pair_formatted facts one (find (is_next facts one) (drop (place + 1) facts.spans)))
        (is_loose facts.revisions facts.spans one) (λ yes. formatted-below one (find (is_next facts one) (drop (place + 1) facts.spans)))

    pub formatted_upto-below : (n : ℕ) → All (IsBelow (length revisions + 1)) (formatted_upto facts n)
    formatted_upto-below zero = All-nil (IsBelow (length revisions + 1))
    formatted_upto-below (suc n) =
        All-append (IsBelow (length revisions + 1)) (pair_behind facts n (slice_get facts.spans n)) (formatted_upto facts n)
        (behind-below n (slice_get facts.spans n)) (formatted_upto-below n)

  -- ---- those of tables

  tabled-below : (last : Option ℕ) (v : ℕ) → All (IsBelow (length revisions + 1)) (pair_tabled revisions last v)
  tabled-below None v = All-nil (IsBelow (length revisions + 1))
  tabled-below (Some one) v = All-if (IsBelow (length revisions + 1)) (record { one = one; two = v } ∷ []) (are_alike_at revisions one v) (λ yes. only one v yes)

  sort-below : (sort : Sort) (last : Option ℕ) (table : List ℕ) → All (IsBelow (length revisions + 1)) (pairs_of_sort revisions sort last table)
  sort-below sort last [] = All-nil (IsBelow (length revisions + 1))
  sort-below sort last (v ∷ later) =
      elim (has_sort sort (revision_at revisions v)) as (λ b. All (IsBelow (length revisions + 1))
      (if b then pair_tabled revisions last v ++ pairs_of_sort revisions sort (Some v) later else pairs_of_sort revisions sort last later)) [
        | true ↦ All-append (IsBelow (length revisions + 1)) (pair_tabled revisions last v) (pairs_of_sort revisions sort (Some v) later) (tabled-below last v) (sort-below sort (Some v) later)
        | false ↦ sort-below sort last later
      ]

  table-below : (table : List ℕ) → All (IsBelow (length revisions + 1)) (table_pairs revisions table)
  table-below table =
      All-append (IsBelow (length revisions + 1)) (pairs_of_sort revisions Inserted None table) (pairs_of_sort revisions Deleted None table ++ pairs_of_sort revisions Changed None table)
      (sort-below Inserted None table)
      (All-append (IsBelow (length revisions + 1)) (pairs_of_sort revisions Deleted None table) (pairs_of_sort revisions Changed None table) (sort-below Deleted None table) (sort-below Changed None table))

  pub tabled_in-below : (nodes : Nodes) → All (IsBelow (length revisions + 1)) (tabled_in revisions nodes)
  tabled_in-below no_nodes = All-nil (IsBelow (length revisions + 1))
  tabled_in-below (bytes b rest) = tabled_in-below rest
  tabled_in-below (element tag kids rest) =
      All-append (IsBelow (length revisions + 1)) (own_tabled revisions tag kids ++ tabled_in revisions kids) (tabled_in revisions rest)
      (All-append (IsBelow (length revisions + 1)) (own_tabled revisions tag kids) (tabled_in revisions kids)
      (All-if (IsBelow (length revisions + 1)) (table_pairs revisions (table_revisions kids)) (is "tbl" tag) (λ yes. table-below (table_revisions kids)))
      (tabled_in-below kids))
      (tabled_in-below rest)

  pub tabled_pairs-below : (roots : List Element) → All (IsBelow (length revisions + 1)) (tabled_pairs revisions roots)
  tabled_pairs-below [] = All-nil (IsBelow (length revisions + 1))
  tabled_pairs-below (root ∷ roots) = All-append (IsBelow (length revisions + 1)) (tabled_in revisions root.kids) (tabled_pairs revisions roots) (tabled_in-below root.kids) (tabled_pairs-below roots)

-- ---- all pairs

pub package_pairs-below : (nodes : Nodes) (revisions : List Revision) → All (IsBelow (length revisions + 1)) (package_pairs nodes revisions)
package_pairs-below nodes revisions =
    let facts = facts_of (stories nodes) revisions in
    All-append (IsBelow (length revisions + 1)) (beside_pairs revisions facts.spans ++ enclosed_pairs revisions facts.spans) (formatted_pairs facts ++ tabled_pairs revisions (stories nodes))
    (All-append (IsBelow (length revisions + 1)) (beside_pairs revisions facts.spans) (enclosed_pairs revisions facts.spans)
    (beside_upto-below revisions facts.spans (length facts.spans)) (enclosed_upto-below revisions facts.spans (length facts.spans)))
    (All-append (IsBelow (length revisions + 1)) (formatted_pairs facts) (tabled_pairs revisions (stories nodes))
    (formatted_upto-below revisions facts refl (length facts.spans)) (tabled_pairs-below revisions (stories nodes)))
