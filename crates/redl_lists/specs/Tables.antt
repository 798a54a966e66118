-- What the numbering part and the styles part say (ECMA-376 Part 1, 17.9.1, 17.9.15, 17.9.8 and 17.7.4.17), as tables.
use Rattle.std.specs.Prelude.{ℕ, zero, suc, ◌&&◌, ◌==◌, Bool, false, List, [], ◌∷◌, ◌++◌, map, find, codes, bytes_eq, Option, Some, None}
use Rattle.std.specs.Option.{option_map}
use Rattle.redl_tree.specs.Model.Nodes.{Nodes, no_nodes}
use Rattle.redl_tree.specs.Model.View.{Element}
use Rattle.redl_numerals.specs.Numerals.{numeral}
use Rattle.redl_numerals.specs.declared.format.Format.TheVariants.{Decimal}
use Rattle.redl_numerals.specs.declared.number.Number.{Number}
use Rattle.redl_numerals.specs.declared.number.Number.TheVariants.{Plus, Minus}
use Rattle.redl_lists.specs.Named.{first_named, all_named}
use Rattle.redl_lists.specs.Values.{value_at, number_at, kid_value, kid_number, on_if}
use Rattle.redl_lists.specs.Levels.{level_of}
use Rattle.redl_lists.specs.declared.table.AbstractNum.{AbstractNum}
use Rattle.redl_lists.specs.declared.table.Num.{Num}
use Rattle.redl_lists.specs.declared.table.Override.{Override}
use Rattle.redl_lists.specs.declared.table.Style.{Style}
use Rattle.redl_lists.specs.declared.table.Tables.{Tables}

-- ---- names: ids are numbers, each of which has one name

abbrev pub number_name : Number → List ℕ
number_name number = numeral Decimal number

abbrev pub id_at : List ℕ → Element → Option (List ℕ)
id_at local e = option_map number_name (number_at local e)

abbrev pub kid_id : List ℕ → Nodes → Option (List ℕ)
kid_id name kids = option_map number_name (kid_number name kids)

-- ---- what stands at a level, of which there are nine

abbrev pub is_number : ℕ → Option Number → Bool
is_number k None = false
is_number k (Some (Plus n)) = n == k
is_number k (Some (Minus n)) = false

abbrev pub is_at : ℕ → Element → Bool
is_at k e = is_number k (number_at (codes "ilvl") e)

-- the first of these that stands at each level
abbrev pub upto : {A : Type 0} → (ℕ → A) → ℕ → List A
upto f zero = []
upto f (suc n) = upto f n ++ f n ∷ []

abbrev pub levelled : {A : Type 0} → (Element → A) → List Element → List (Option A)
levelled row [] = []
levelled row (e ∷ es) = upto (λ k. option_map row (find (is_at k) (e ∷ es))) 9

-- ---- lists, nums and styles

abbrev pub abstract_of : Element → AbstractNum
abstract_of e = record {
  id = id_at (codes "abstractNumId") e;
  link = kid_value (codes "numStyleLink") e.kids;
  style = kid_value (codes "styleLink") e.kids;
  levels = levelled level_of (all_named (codes "lvl") e.kids);
}

abbrev pub override_of : Element → Override
override_of e = record {
  start = kid_number (codes "startOverride") e.kids;
  level = option_map level_of (first_named (codes "lvl") e.kids);
}

abbrev pub num_of : Element → Num
num_of e = record {
  id = id_at (codes "numId") e;
  list = kid_id (codes "abstractNumId") e.kids;
  overrides = levelled override_of (all_named (codes "lvlOverride") e.kids);
}

-- the kids of the first element with this name among these, if there is one
abbrev pub kids_in : Option Element → Nodes
kids_in None = no_nodes
kids_in (Some e) = e.kids

abbrev pub num_properties : Nodes → Nodes
num_properties kids = kids_in (first_named (codes "numPr") (kids_in (first_named (codes "pPr") kids)))

abbrev pub is_text : List ℕ → Option (List ℕ) → Bool
is_text text None = false
is_text text (Some own) = bytes_eq own text

abbrev pub style_of : Element → Style
style_of e = record {
  id = value_at (codes "styleId") e;
  based_on = kid_value (codes "basedOn") e.kids;
  is_default = is_text (codes "paragraph") (value_at (codes "type") e) && on_if (value_at (codes "default") e);
  num = kid_id (codes "numId") (num_properties e.kids);
  level = kid_number (codes "ilvl") (num_properties e.kids);
}

-- what the first roots among these nodes say
abbrev pub tables_of : Nodes → Nodes → Tables
tables_of numbering styles = record {
  lists = map abstract_of (all_named (codes "abstractNum") (kids_in (first_named (codes "numbering") numbering)));
  nums = map num_of (all_named (codes "num") (kids_in (first_named (codes "numbering") numbering)));
  styles = map style_of (all_named (codes "style") (kids_in (first_named (codes "styles") styles)));
}
