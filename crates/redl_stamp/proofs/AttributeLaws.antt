-- The first attribute of a list of attributes.
use Rattle.std.proofs.Common.{◌≡◌, ℕ, List, [], ◌∷◌, Bool, true, false, cond, map, find, refl}
use Rattle.std.specs.Prelude.{Option, Some}
use Rattle.std.specs.Option.{option_map}
use Rattle.redl_markup.specs.Decoding.{decoded_value}
use Rattle.redl_grammar.specs.Names.{Name}
use Rattle.redl_grammar.specs.Tails.{Attribute, IsTail, named_value}
use Rattle.redl_markup.proofs.Listing.{tail_lists}
use Rattle.redl_stamp.specs.Attribute.{has_local_name, attribute_value}

abbrev value_in : List ℕ → List Attribute → Option (List ℕ)
value_in local attributes =
    option_map (λ attribute. decoded_value attribute.value) (find (λ attribute. has_local_name local (named_value attribute)) attributes)

abbrev listed_value : List ℕ → List Attribute → Option (List ℕ)
listed_value local attributes =
    option_map decoded_value (option_map (λ attribute. attribute.1) (find (has_local_name local) (map named_value attributes)))

by_test : (test : Bool) (a : Attribute) (listed : Option (Name × List ℕ)) (own : Option Attribute)
    → option_map decoded_value (option_map (λ attribute. attribute.1) listed) ≡ option_map (λ attribute. decoded_value attribute.value) own
    → option_map decoded_value (option_map (λ attribute. attribute.1) (cond test (Some (named_value a)) listed))
    ≡ option_map (λ attribute. decoded_value attribute.value) (cond test (Some a) own)
by_test true a listed own e = refl
by_test false a listed own e = e

value-listed : (local : List ℕ) (attributes : List Attribute) → listed_value local attributes ≡ value_in local attributes
value-listed local [] = refl
value-listed local (a ∷ attributes) =
    by_test (has_local_name local (named_value a)) a _ _ (value-listed local attributes)

pub value_of_the_first : (tail local : List ℕ) (legal : IsTail tail) → attribute_value tail local ≡ value_in local legal.attributes
value_of_the_first tail local legal = rw (tail_lists tail legal) (value-listed local legal.attributes)
