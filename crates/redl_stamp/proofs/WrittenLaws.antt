-- The first value with a name, found attribute by attribute.
use Rattle.std.proofs.Common.{◌≡◌, ℕ, List, ◌∷◌, Bool, true, false, cond, find, refl, ap, sym, ◌∙◌}
use Rattle.std.specs.Prelude.{Option, Some, None}
use Rattle.std.specs.Option.{option_map, option_or}
use Rattle.redl_markup.specs.Attributes.{attributes_of}
use Rattle.redl_grammar.specs.Names.{Name}
use Rattle.redl_stamp.specs.Attribute.{has_local_name, own_value, written_value}

abbrev first_in : List ℕ → List (Name × List ℕ) → Option (List ℕ)
first_in local attributes = option_map (λ attribute. attribute.1) (find (has_local_name local) attributes)

by_test : (test : Bool) (a : Name × List ℕ) (listed : Option (Name × List ℕ))
    → option_or (cond test (Some a.1) None) (option_map (λ attribute. attribute.1) listed)
    ≡ option_map (λ attribute. attribute.1) (cond test (Some a) listed)
by_test true a listed = refl
by_test false a listed = refl

found_here : (local : List ℕ) (found : Option (List ℕ)) (left rest : List ℕ) (a : Name × List ℕ)
    → attributes_of left ≡ a ∷ attributes_of rest
    → option_or (option_or found (own_value local a)) (written_value rest local) ≡ option_or found (written_value left local)
found_here local (Some value) left rest a is = refl
found_here local None left rest a is =
    by_test (has_local_name local a) a (find (has_local_name local) (attributes_of rest)) ∙ sym (ap (first_in local) is)

-- the value found so far or from this attribute on is the value found with this attribute or after it
pub found_on : (local : List ℕ) (before found : Option (List ℕ)) (left rest : List ℕ) (a : Name × List ℕ) (whole : Option (List ℕ))
    → attributes_of left ≡ a ∷ attributes_of rest → found ≡ option_or before (own_value local a)
    → option_or before (written_value left local) ≡ whole → option_or found (written_value rest local) ≡ whole
found_on local before found left rest a whole is more whole_is =
    ap (λ value. option_or value (written_value rest local)) more ∙ found_here local before left rest a is ∙ whole_is
