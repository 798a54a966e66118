-- The tokens of the member `changed`.
use Rattle.std.proofs.Common.{◌≡◌, ◌∙◌, List, [], ◌∷◌, ◌++◌, codes, sym, ap, refl, append_assoc}
use Rattle.std.specs.List.{flat_map}
use Rattle.json.specs.Token.{Token, begin_object, end_object, begin_array, end_array, key, string}
use Rattle.json.specs.Tree.{json_tokens, items_tokens, members_tokens}
use Rattle.serde_json.specs.Data.{object}
use Rattle.serde_json.specs.Written.{items_outline, members_outline, outline}
use Rattle.redl_properties.specs.declared.attribute.Attribute.{Attribute}
use Rattle.redl_properties.specs.declared.change.Changed.{Changed}
use Rattle.redl_properties.specs.declared.value.Value.{Value}
use Rattle.redl_properties.specs.declared.value.Value.TheVariants.{Absent, Text, Leaves}
use Rattle.redl_listing.specs.Changed.{attribute_tokens, change_tokens, json_change, json_changed, json_value, leaf_items, leaf_members, leaf_tokens, value_tokens}

attributes_are : (attributes : List Attribute) (rest : List Token)
    → (flat_map attribute_tokens attributes ++ end_object ∷ []) ++ rest ≡ members_tokens (members_outline (leaf_members attributes)) ++ rest
attributes_are [] rest = refl
attributes_are (attribute ∷ more) rest = ap (λ (ts : List Token). key attribute.name ∷ string attribute.value ∷ ts) (attributes_are more rest)

leaf_is : (leaf : List Attribute) (rest : List Token) → leaf_tokens leaf ++ rest ≡ json_tokens (outline (object (leaf_members leaf))) ++ rest
leaf_is leaf rest = ap (λ (ts : List Token). begin_object ∷ ts) (attributes_are leaf rest)

leaves_are : (leaves : List (List Attribute)) (rest : List Token)
    → (flat_map leaf_tokens leaves ++ end_array ∷ []) ++ rest ≡ items_tokens (items_outline (leaf_items leaves)) ++ rest
leaves_are [] rest = refl
leaves_are (leaf ∷ more) rest =
    let own = json_tokens (outline (object (leaf_members leaf))) in
    let later = flat_map leaf_tokens more ++ end_array ∷ [] in
    ap (λ (ts : List Token). ts ++ rest) (append_assoc (leaf_tokens leaf) (flat_map leaf_tokens more) (end_array ∷ []))
    ∙ append_assoc (leaf_tokens leaf) later rest
    ∙ leaf_is leaf (later ++ rest)
    ∙ ap (λ (ts : List Token). own ++ ts) (leaves_are more rest)
    ∙ sym (append_assoc own (items_tokens (items_outline (leaf_items more))) rest)

value_is : (value : Value) (rest : List Token) → value_tokens value ++ rest ≡ json_tokens (outline (json_value value)) ++ rest
value_is Absent rest = refl
value_is (Text text) rest = refl
value_is (Leaves leaves) rest = ap (λ (ts : List Token). begin_array ∷ ts) (leaves_are leaves rest)

change_is : (change : Changed) (rest : List Token) → change_tokens change ++ rest ≡ json_tokens (outline (json_change change)) ++ rest
change_is change rest =
    let from = json_tokens (outline (json_value change.from)) in
    let to = json_tokens (outline (json_value change.to)) in
    let end = value_tokens change.to ++ end_object ∷ [] in
    let middle = λ (ts : List Token). key (codes "property") ∷ string change.property ∷ key (codes "said") ∷ string change.said ∷ key (codes "to") ∷ ts in
    let front = λ (ts : List Token). begin_object ∷ key (codes "from") ∷ ts in
    ap front (append_assoc (value_tokens change.from) (middle end) rest ∙ value_is change.from (middle (end ++ rest))
    ∙ ap (λ (ts : List Token). from ++ middle ts) (append_assoc (value_tokens change.to) (end_object ∷ []) rest ∙ value_is change.to (end_object ∷ rest))
    ∙ ap (λ (ts : List Token). from ++ middle ts) (sym (append_assoc to (end_object ∷ []) rest))
    ∙ sym (append_assoc from (middle (to ++ end_object ∷ [])) rest))

-- the tokens of the items, and what follows
pub changed_are : (changes : List Changed) (rest : List Token)
    → flat_map change_tokens changes ++ (end_array ∷ rest) ≡ items_tokens (items_outline (json_changed changes)) ++ rest
changed_are [] rest = refl
changed_are (change ∷ more) rest =
    let own = json_tokens (outline (json_change change)) in
    append_assoc (change_tokens change) (flat_map change_tokens more) (end_array ∷ rest)
    ∙ change_is change (flat_map change_tokens more ++ (end_array ∷ rest))
    ∙ ap (λ (ts : List Token). own ++ ts) (changed_are more rest)
    ∙ sym (append_assoc own (items_tokens (items_outline (json_changed more))) rest)

-- ---- tokens one after another

-- those of a property
pub change_more : (tokens from to : List Token) (a b c d e f g h : Token)
    → ((((((tokens ++ a ∷ []) ++ b ∷ from) ++ c ∷ d ∷ []) ++ e ∷ f ∷ []) ++ g ∷ to) ++ h ∷ [])
    ≡ tokens ++ (a ∷ b ∷ (from ++ (c ∷ d ∷ e ∷ f ∷ g ∷ (to ++ h ∷ []))))
change_more [] from to a b c d e f g h = ap (λ (ts : List Token). a ∷ b ∷ ts) (behind from)
  where
    behind : (from : List Token) → ((((from ++ c ∷ d ∷ []) ++ e ∷ f ∷ []) ++ g ∷ to) ++ h ∷ []) ≡ from ++ (c ∷ d ∷ e ∷ f ∷ g ∷ (to ++ h ∷ []))
    behind [] = refl
    behind (x ∷ from) = ap (λ (ts : List Token). x ∷ ts) (behind from)
change_more (token ∷ tokens) from to a b c d e f g h = ap (λ (ts : List Token). token ∷ ts) (change_more tokens from to a b c d e f g h)

-- those of an element
pub leaf_more : (tokens attributes : List Token) (a b : Token) → (((tokens ++ a ∷ []) ++ attributes) ++ b ∷ []) ≡ tokens ++ (a ∷ (attributes ++ b ∷ []))
leaf_more [] attributes a b = refl
leaf_more (token ∷ tokens) attributes a b = ap (λ (ts : List Token). token ∷ ts) (leaf_more tokens attributes a b)
