-- Values of properties in words: points in place of halves, eighths and twentieths of them, per cent in place of fiftieths, and words
-- of people in place of those of the format (our own rule).
use Rattle.std.specs.Prelude.{ℕ, zero, suc, ◌+◌, ◌==◌, List, [], ◌∷◌, ◌++◌, length, slice_get, find, bytes_eq, codes, decimal, unwrap_or, Option, None, Some, if◌then◌else◌}
use Rattle.redl_reading.specs.Lists.{field_at}
use Rattle.redl_properties.specs.Amounts.{amount, measured, natural}
use Rattle.redl_properties.specs.Leaves.{last_value}
use Rattle.redl_properties.specs.Names.{name_of, path_of, way_of}
use Rattle.redl_properties.specs.Wholes.{is_off, switch_text}
use Rattle.redl_properties.specs.declared.attribute.Attribute.{Attribute}
use Rattle.redl_properties.specs.declared.property.Property.{Property}
use Rattle.redl_properties.specs.declared.property.TheConstants.{PROPERTIES}
use Rattle.redl_properties.specs.declared.property.Way.{Way}
use Rattle.redl_properties.specs.declared.property.Way.TheVariants as way
use Rattle.redl_properties.specs.declared.value.Value.{Value}
use Rattle.redl_properties.specs.declared.value.Value.TheVariants.{Absent, Text, Leaves}

-- the first of these properties that has this path
abbrev pub first_at : List ℕ → List Property → Option Property
first_at path properties = find (λ (property : Property). bytes_eq (path_of property) path) properties

-- the property with this path, if it has a name
unfoldable pub property_at : List ℕ → Option Property
property_at path = first_at path PROPERTIES

abbrev pub way_or_text : Option Property → Way
way_or_text None = way.Text
way_or_text (Some property) = way_of property

-- how its values are said: without a name, as they are written
abbrev pub way_at : List ℕ → Way
way_at path = way_or_text (property_at path)

abbrev pub name_or : List ℕ → Option Property → List ℕ
name_or path None = path
name_or path (Some property) = name_of property

-- its name, or its path
abbrev pub name_at : List ℕ → List ℕ
name_at path = name_or path (property_at path)

-- ---- texts

abbrev pub colour_said : List ℕ → List ℕ
colour_said text =
    if bytes_eq text (codes "auto") then codes "automatic"
    else if bytes_eq text (codes "000000") then codes "black"
    else if bytes_eq text (codes "FFFFFF") then codes "white"
    else text

abbrev pub switched : List ℕ → List ℕ
switched text = switch_text (is_off (Some text))

-- a word of the format, as people say it
abbrev pub common : List ℕ → List ℕ
common text =
    if bytes_eq text (codes "both") then codes "justified"
    else if bytes_eq text (codes "nextPage") then codes "next page"
    else if bytes_eq text (codes "evenPage") then codes "even page"
    else if bytes_eq text (codes "oddPage") then codes "odd page"
    else if bytes_eq text (codes "nextColumn") then codes "next column"
    else text

-- a list by its number, and 0 as none
abbrev pub list_said : List ℕ → List ℕ
list_said text = if bytes_eq text (codes "0") then codes "none" else codes "list " ++ text

abbrev pub level_by : List ℕ → Option ℕ → List ℕ
level_by text None = text
level_by text (Some level) = if level == 9 then codes "body text" else decimal (level + 1)

-- a level from 1 on
abbrev pub level_said : List ℕ → List ℕ
level_said text = level_by text (natural text)

-- a number of lines, of which one has 240 parts
abbrev pub lines_said : ℕ → List ℕ
lines_said height =
    if height == 240 then codes "single"
    else if height == 480 then codes "double"
    else amount 240 height ++ codes " lines"

-- a height of lines by its rule
abbrev pub line_by : ℕ → List ℕ → List ℕ → List ℕ
line_by height rule text =
    if bytes_eq rule (codes "auto") then lines_said height
    else if bytes_eq rule (codes "exact") then codes "exactly " ++ (amount 20 height ++ codes " pt")
    else if bytes_eq rule (codes "atLeast") then codes "at least " ++ (amount 20 height ++ codes " pt")
    else text

abbrev pub line_of : List ℕ → List ℕ → Option ℕ → List ℕ
line_of text rule None = text
line_of text rule (Some height) = line_by height rule text

abbrev pub line_with : List ℕ → Option (List ℕ × List ℕ) → List ℕ
line_with text None = text
line_with text (Some x) = line_of text x.1 (natural x.0)

-- a height, a space and its rule
abbrev pub line_said : List ℕ → List ℕ
line_said text = line_with text (field_at 32 text)

-- a text that is said so
abbrev pub text_said : Way → List ℕ → List ℕ
text_said way.Half text = measured 2 (codes " pt") text
text_said way.Twentieth text = measured 20 (codes " pt") text
text_said way.Percent text = measured 1 (codes "%") text
text_said way.Hundredth text = measured 100 (codes "") text
text_said way.Colour text = colour_said text
text_said way.List text = list_said text
text_said way.Level text = level_said text
text_said way.Line text = line_said text
text_said way.Switch text = switched text
text_said way.Text text = common text
text_said _ text = text

-- ---- elements

-- what stands before the next one
abbrev pub between : ℕ → List ℕ → List ℕ
between place sign = if place == 0 then [] else sign

-- the name of an attribute and its value
abbrev pub attribute_said : List ℕ → List ℕ → List ℕ
attribute_said name value = if bytes_eq name (codes "val") then value else name ++ (codes " " ++ value)

abbrev pub border_said : List ℕ → List ℕ → List ℕ
border_said name value =
    if bytes_eq name (codes "sz") then measured 8 (codes " pt") value
    else if bytes_eq name (codes "color") then colour_said value
    else attribute_said name value

abbrev pub shade_said : List ℕ → List ℕ → List ℕ
shade_said name value =
    if bytes_eq name (codes "fill") then codes "on " ++ colour_said value
    else if bytes_eq name (codes "color") then colour_said value
    else attribute_said name value

abbrev pub tab_said : List ℕ → List ℕ → List ℕ
tab_said name value = if bytes_eq name (codes "pos") then codes "at " ++ measured 20 (codes " pt") value else attribute_said name value

abbrev pub ruled : List ℕ → List ℕ
ruled rule =
    if bytes_eq rule (codes "exact") then codes "exactly"
    else if bytes_eq rule (codes "atLeast") then codes "at least"
    else rule

abbrev pub height_said : List ℕ → List ℕ → List ℕ
height_said name value =
    if bytes_eq name (codes "val") then measured 20 (codes " pt") value
    else if bytes_eq name (codes "hRule") then ruled value
    else attribute_said name value

-- an attribute of an element that is said so
abbrev pub part_said : Way → Attribute → List ℕ
part_said way.Border attribute = border_said attribute.name attribute.value
part_said way.Shade attribute = shade_said attribute.name attribute.value
part_said way.Tabs attribute = tab_said attribute.name attribute.value
part_said way.Height attribute = height_said attribute.name attribute.value
part_said _ attribute = attribute_said attribute.name attribute.value

abbrev pub part_at : Way → Option Attribute → List ℕ
part_at w None = []
part_at w (Some attribute) = part_said w attribute

-- the first attributes
abbrev pub parts_upto : Way → List Attribute → ℕ → List ℕ
parts_upto w attributes zero = []
parts_upto w attributes (suc place) = parts_upto w attributes place ++ (between place (codes " ") ++ part_at w (slice_get attributes place))

abbrev pub parts_said : Way → List Attribute → List ℕ
parts_said w attributes = parts_upto w attributes (length attributes)

-- the value of an attribute, or another one
abbrev pub value_or : List ℕ → List Attribute → List ℕ → List ℕ
value_or name attributes other = unwrap_or (last_value name attributes) other

-- a width of this sort
abbrev pub width_by : List ℕ → List ℕ → List ℕ
width_by sort width =
    if bytes_eq sort (codes "auto") then codes "automatic"
    else if bytes_eq sort (codes "nil") then codes "none"
    else if bytes_eq sort (codes "pct") then measured 50 (codes "%") width
    else measured 20 (codes " pt") width

abbrev pub width_said : List Attribute → List ℕ
width_said attributes = width_by (value_or (codes "type") attributes (codes "dxa")) (value_or (codes "w") attributes (codes "0"))

-- a cell that has no attributes goes on from the one above
abbrev pub merge_said : List Attribute → List ℕ
merge_said [] = codes "continue"
merge_said (attribute ∷ more) = parts_said way.Merge (attribute ∷ more)

-- an element that is said so
abbrev pub leaf_said : Way → List Attribute → List ℕ
leaf_said way.Width attributes = width_said attributes
leaf_said way.Merge attributes = merge_said attributes
leaf_said w attributes = parts_said w attributes

abbrev pub leaf_said_at : Way → Option (List Attribute) → List ℕ
leaf_said_at w None = []
leaf_said_at w (Some attributes) = leaf_said w attributes

-- the first elements
abbrev pub leaves_upto : Way → List (List Attribute) → ℕ → List ℕ
leaves_upto w leaves zero = []
leaves_upto w leaves (suc place) = leaves_upto w leaves place ++ (between place (codes ", ") ++ leaf_said_at w (slice_get leaves place))

abbrev pub leaves_said : Way → List (List Attribute) → List ℕ
leaves_said w leaves = leaves_upto w leaves (length leaves)

-- ---- changes

-- a value; what is absent isn't set, since a style may set it
abbrev pub value_said : Way → Value → List ℕ
value_said w Absent = codes "not set"
value_said w (Text text) = text_said w text
value_said w (Leaves leaves) = leaves_said w leaves

-- an arrow (U+2192) between two spaces
abbrev pub arrow : List ℕ
arrow = 32 ∷ 226 ∷ 134 ∷ 146 ∷ 32 ∷ []

-- the name of a property, and its former and present value
abbrev pub said_change : List ℕ → Value → Value → List ℕ
said_change property from to =
    name_at property ++ (codes ": " ++ (value_said (way_at property) from ++ (arrow ++ value_said (way_at property) to)))
