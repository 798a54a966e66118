-- What one more number adds to the lists of the sample.
use Rattle.std.proofs.Common.{◌≡◌, ◌+◌, ℕ, Bool, true, false, cond, List, [], ◌∷◌, ◌++◌, refl, ap, sym, ◌∙◌, map, eqb, append-nil, arith, codes, lit≤}
use Rattle.std.specs.List.{filter, flat_map, range_with_len}
use Rattle.std.proofs.lemmas.Grind.{common_steps, flat_map-append}
use Rattle.std.proofs.lemmas.List.{map-append, map-id}
use Rattle.std.proofs.lemmas.List.Elements.{filter-append}
use Rattle.std.proofs.lemmas.List.FromFn.{map-range_with_len_more}
use Rattle.std.proofs.lemmas.Str.{IsUtf8-from_ascii}
use Rattle.redl_journal.specs.declared.entry.Entry.{Entry}
use Rattle.redl_journal.specs.Journals.{IsReviewer}
use Rattle.redl_journal.specs.Journals.{is_visible}
use Rattle.redl_sample.specs.Blocks.{block_text, filled, filled_byte}
use Rattle.redl_sample.specs.Packages.{blocks_text}
use Rattle.redl_sample.specs.Journals.{decides, entries_of, entry_on, reviewer_name}

-- one more number
pub range_more : (a n j : ℕ) → a + n ≡ j → range_with_len a (n + 1) ≡ range_with_len a n ++ j ∷ []
range_more a n j e =
    sym (map-id (range_with_len a (n + 1))) ∙ map-range_with_len_more (λ (x : ℕ). x) a n j e
    ∙ ap (λ (l : List ℕ). l ++ j ∷ []) (map-id (range_with_len a n))

-- ---- blocks

pub filled-push : (digits template : List ℕ) (byte : ℕ) → filled digits (template ++ byte ∷ []) ≡ filled digits template ++ filled_byte digits byte
filled-push digits template byte =
    flat_map-append (filled_byte digits) template (byte ∷ [])
    ∙ ap (λ (l : List ℕ). filled digits template ++ l) (append-nil (filled_byte digits byte))

pub blocks_text-more : (number : ℕ) → blocks_text (number + 1) ≡ blocks_text number ++ block_text number
blocks_text-more number =
    ap (flat_map block_text) (range_more 0 number number (omega arith))
    ∙ flat_map-append block_text (range_with_len 0 number) (number ∷ [])
    ∙ ap (λ (l : List ℕ). blocks_text number ++ l) (append-nil (block_text number))

-- ---- entries

-- the reviewer's entries on one revision
abbrev pub entries_at : ℕ → ℕ → List Entry
entries_at reviewer revision = cond (decides reviewer revision) (entry_on reviewer revision ∷ []) []

one_at : (reviewer revision : ℕ) (b : Bool) → map (entry_on reviewer) (cond b (revision ∷ []) []) ≡ cond b (entry_on reviewer revision ∷ []) []
one_at reviewer revision true = refl
one_at reviewer revision false = refl

pub entries_of-more : (reviewer before : ℕ) → entries_of reviewer (before + 1) ≡ entries_of reviewer before ++ entries_at reviewer (before + 1)
entries_of-more reviewer before =
    ap (λ (l : List ℕ). map (entry_on reviewer) (filter (decides reviewer) l)) (range_more 1 before (before + 1) (omega arith))
    ∙ ap (map (entry_on reviewer)) (filter-append (decides reviewer) (range_with_len 1 before) ((before + 1) ∷ []))
    ∙ map-append (entry_on reviewer) (filter (decides reviewer) (range_with_len 1 before)) (filter (decides reviewer) ((before + 1) ∷ []))
    ∙ ap (λ (l : List Entry). entries_of reviewer before ++ l) (one_at reviewer (before + 1) (decides reviewer (before + 1)))

-- each reviewer's name is one that a journal may hold
pub name_allowed : (reviewer : ℕ) → IsReviewer (reviewer_name reviewer)
unfolding is_visible
name_allowed reviewer = by (eqb reviewer 0) (eqb reviewer 1) where
  by : (a b : Bool) → IsReviewer (cond a (codes "Ann") (cond b (codes "Bob") (codes "Cy")))
  by true b = record { filled = lit≤ tt; short = lit≤ tt; visible = refl; utf8 = IsUtf8-from_ascii _ (grind (arith, common_steps)) }
  by false true = record { filled = lit≤ tt; short = lit≤ tt; visible = refl; utf8 = IsUtf8-from_ascii _ (grind (arith, common_steps)) }
  by false false = record { filled = lit≤ tt; short = lit≤ tt; visible = refl; utf8 = IsUtf8-from_ascii _ (grind (arith, common_steps)) }
