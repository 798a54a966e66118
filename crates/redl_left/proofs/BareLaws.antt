-- No row asks for an element with a name of one letter and no attribute.
use Rattle.std.proofs.Common.{◌≡◌, ◌∙◌, refl, sym, ap, ℕ, ◌==◌, List, [], Bool, true, false, length, codes, Option, None, if◌then◌else◌}
use Rattle.std.specs.Prelude.{filter}
use Rattle.std.proofs.lemmas.Bool.{and_parts, eqb-true}
use Rattle.redl_markup.specs.Attributes.{attributes_of}
use Rattle.redl_grammar.specs.ScanTags.{attribute_in}
use Rattle.redl_tree.specs.declared.kinds.Space.{Space}
use Rattle.redl_left.specs.Finds.{asks, first_row, has_front_name}
use Rattle.redl_left.specs.Search.{is_bare, may_ask}
use Rattle.redl_left.specs.declared.fact.Fact.{Fact}
use Rattle.redl_left.specs.declared.row.Row.{Row}
use Rattle.redl_left.specs.declared.rows.TheConstants.{ROWS}
use Rattle.redl_left.proofs.FrontLaws.{nil_by_length}
use Rattle.redl_left.proofs.NamingLaws.{find_after}
use Rattle.redl_left.proofs.RowLaws.{and_none, first-filtered}

-- an empty tail has no attribute
no_front : (front : List ℕ) → has_front_name [] front ≡ false
unfolding attributes_of attribute_in
no_front front = refl

module _ (named : Fact → List ℕ → Bool) (parent : List ℕ) (space : Space) (local tail : List ℕ) where
  -- the two rows with a name of one letter ask for an attribute
  none_asks : (one : length local ≡ 1) → first_row named ROWS parent space local [] ≡ None
  none_asks one =
      sym (first-filtered named parent space local [] 1 one ROWS)
      ∙ find_after (asks named parent space local []) (filter (may_ask 1) ROWS) [] (and_none _ _ (no_front (codes "rsid")), (and_none _ _ (no_front (codes "rsid")), tt))

  first_bare : is_bare local tail ≡ true → first_row named ROWS parent space local tail ≡ None
  first_bare bare =
      let both = and_parts (length tail == 0) (length local == 1) bare in
      ap (λ (t : List ℕ). first_row named ROWS parent space local t) (nil_by_length tail both.0) ∙ none_asks (eqb-true (length local) 1 both.1)

  -- so what agrees with all rows does so where these elements are left out
  pub unless_bare : (own : Option Row) → own ≡ first_row named ROWS parent space local tail
      → (if is_bare local tail then None else own) ≡ first_row named ROWS parent space local tail
  unless_bare own e = by (is_bare local tail) refl
    where
      by : (b : Bool) → is_bare local tail ≡ b → (if b then None else own) ≡ first_row named ROWS parent space local tail
      by true bare = sym (first_bare bare)
      by false other = e
