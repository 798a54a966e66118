-- What the styles part says of hidden text (ECMA-376 Part 1, 17.3.2.41 for `vanish`, 17.7.4.17, 17.7.4.3 and 17.7.5 for styles). The ids of
-- styles and the values of properties are compared as they are written, so no memory is taken to look one up.
use Rattle.std.specs.Prelude.{ℕ, zero, suc, ◌^◌, ◌&&◌, not, Bool, true, false, List, codes, map, slice_get, Option, Some, None, option_and_then, unwrap_or}
use Rattle.std.specs.List.{position, position_from}
use Rattle.std.specs.Option.{option_map}
use Rattle.redl_reading.specs.Steps.{or_else}
use Rattle.redl_tree.specs.Model.Nodes.{Nodes}
use Rattle.redl_tree.specs.Model.View.{Element}
use Rattle.redl_stamp.specs.Attribute.{written_value}
use Rattle.redl_lists.specs.Named.{first_named, all_named}
use Rattle.redl_lists.specs.Tables.{kids_in, is_text}
use Rattle.redl_lists.specs.Values.{is_off}
use Rattle.redl_relations.specs.Relations.{document_part, part_by_type, xml_data}

-- ---- properties

-- the value of an attribute of an element
abbrev pub value_at : List ℕ → Element → Option (List ℕ)
value_at local e = written_value e.tag.tail local

-- the value of the first property with this name among these
abbrev pub kid_value : List ℕ → Nodes → Option (List ℕ)
kid_value name kids = option_and_then (value_at (codes "val")) (first_named name kids)

-- the kids of the first element with this name among these
abbrev pub kids_of_first : List ℕ → Nodes → Nodes
kids_of_first name kids = kids_in (first_named name kids)

-- a value that isn't off, where nothing is said (17.17.4)
abbrev pub on_or : Bool → Option (List ℕ) → Bool
on_or other None = other
on_or other (Some text) = not (is_off text)

-- a property that is there is on, unless its value is off
abbrev pub is_on : Element → Bool
is_on e = on_or true (value_at (codes "val") e)

-- whether the properties of a run hide it, where they say so
abbrev pub vanish_in : Nodes → Option Bool
vanish_in properties = option_map is_on (first_named (codes "vanish") properties)

-- ---- styles

-- a style: its id, the id of the style that it is based on, whether it hides, where it says so itself, and whether it is the style of
-- paragraphs, or of runs, that name none
pub record Style : Type 0 where
  pub id : Option (List ℕ)
  pub base : Option (List ℕ)
  pub vanish : Option Bool
  pub is_of_paragraphs : Bool
  pub is_of_runs : Bool

-- it is the default style of this type
abbrev pub is_default : List ℕ → Element → Bool
is_default kind e = is_text kind (value_at (codes "type") e) && on_or false (value_at (codes "default") e)

abbrev pub style_of : Element → Style
style_of e = record {
  id = value_at (codes "styleId") e;
  base = kid_value (codes "basedOn") e.kids;
  vanish = vanish_in (kids_of_first (codes "rPr") e.kids);
  is_of_paragraphs = is_default (codes "paragraph") e;
  is_of_runs = is_default (codes "character") e;
}

-- the styles in their order, and whether the document hides all that nothing else speaks of
pub record HiddenStyles : Type 0 where
  pub styles : List Style
  pub document : Bool

-- the default properties of runs (17.7.5.1, 17.7.5.4)
abbrev pub default_properties : Nodes → Nodes
default_properties root = kids_of_first (codes "rPr") (kids_of_first (codes "rPrDefault") (kids_of_first (codes "docDefaults") root))

-- what the kids of a styles part's root say
abbrev pub hidden_styles : Nodes → HiddenStyles
hidden_styles root = record {
  styles = map style_of (all_named (codes "style") root);
  document = unwrap_or (vanish_in (default_properties root)) false;
}

-- the part to which the relationship of the document leads whose type is that of styles
abbrev pub styles_data : Nodes → Option ℕ → Option Element
styles_data nodes None = None
styles_data nodes (Some document) = option_and_then (xml_data nodes) (part_by_type nodes document (codes "/styles"))

abbrev pub package_hidden : Nodes → HiddenStyles
package_hidden nodes = hidden_styles (kids_of_first (codes "styles") (kids_in (styles_data nodes (document_part nodes))))

-- ---- the chain of a style: the first of its id counts

-- the place of the first style with this id
abbrev pub has_id : List ℕ → Style → Bool
has_id id style = is_text id style.id

abbrev pub place_of : List Style → List ℕ → Option ℕ
place_of styles id = position_from (has_id id) 0 styles

-- the place of the style that a style is based on
abbrev pub base_of : List Style → Style → Option ℕ
base_of styles style = option_and_then (place_of styles) style.base

-- Whether the nearest style in the chain hides that says so, of so many styles from this place on. `later`: the same of those behind it.
abbrev pub nearest_by : List Style → (Option ℕ → Option Bool) → Option Style → Option Bool
nearest_by styles later None = None
nearest_by styles later (Some style) = or_else style.vanish (later (base_of styles style))

abbrev pub nearest : List Style → ℕ → Option ℕ → Option Bool
nearest styles zero place = None
nearest styles (suc left) place = nearest_by styles (nearest styles left) (option_and_then (slice_get styles) place)

-- more styles than a package can have: a chain that is longer comes to each of its styles again, which says nothing new
unfoldable pub longest_chain : ℕ
longest_chain = 2 ^ 32

-- whether the style in this place hides, where its chain says so
abbrev pub chain_hides : List Style → Option ℕ → Option Bool
chain_hides styles place = nearest styles longest_chain place

-- the place of the first style that is so
abbrev pub place_with : (Style → Bool) → List Style → Option ℕ
place_with is_so styles = position is_so styles

-- that of the style with this id, or without an id of the default style
abbrev pub place_or : (Style → Bool) → List Style → Option (List ℕ) → Option ℕ
place_or is_so styles None = place_with is_so styles
place_or is_so styles (Some id) = place_of styles id
