-- Which properties of two lists differ, in the order of the paths: those of the present list, and then those of the former one alone.
-- A property that is said whole is known by its path, and any other by its path and an attribute.
use Rattle.std.specs.Prelude.{ℕ, zero, suc, ◌&&◌, Bool, List, [], ◌∷◌, ◌++◌, take, drop, length, slice_get, bytes_eq, codes, unwrap_or, Option, None, Some, if◌then◌else◌}
use Rattle.redl_properties.specs.Leaves.{comes_first, last_value, leaves_at, path_comes_first, set_at}
use Rattle.redl_properties.specs.Said.{said_change, way_at}
use Rattle.redl_properties.specs.Utf8.{text_or_nothing}
use Rattle.redl_properties.specs.Values.{same_value}
use Rattle.redl_properties.specs.Wholes.{is_whole, whole_value}
use Rattle.redl_properties.specs.declared.attribute.Attribute.{Attribute}
use Rattle.redl_properties.specs.declared.attribute.Leaf.{Leaf}
use Rattle.redl_properties.specs.declared.change.Changed.{Changed}
use Rattle.redl_properties.specs.declared.property.Way.{Way}
use Rattle.redl_properties.specs.declared.value.Value.{Value}
use Rattle.redl_properties.specs.declared.value.Value.TheVariants.{Absent, Text}

-- a property with a former and a present value, where these differ
abbrev pub differing : List ℕ → Value → Value → List Changed
differing property from to =
    if same_value from to then []
    else record { property = text_or_nothing property; from = from; to = to; said = text_or_nothing (said_change property from to) } ∷ []

-- ---- attributes

-- how a path with an attribute is written: `val` under the path alone
abbrev pub key_of : List ℕ → List ℕ → List ℕ
key_of path name = if bytes_eq name (codes "val") then path else path ++ (codes "@" ++ name)

-- the rule of a line's height is a part of that
abbrev pub is_line_rule : List ℕ → List ℕ → Bool
is_line_rule path name = bytes_eq path (codes "spacing") && bytes_eq name (codes "lineRule")

abbrev pub rule_or_auto : Option (List ℕ) → List ℕ
rule_or_auto rule = unwrap_or rule (codes "auto")

-- a height and its rule, which is `auto` where there is none (ECMA-376 Part 1, 17.3.1.33)
abbrev pub line_value : Option (List ℕ) → Option (List ℕ) → Value
line_value None rule = Absent
line_value (Some height) rule = Text (text_or_nothing (height ++ (codes " " ++ rule_or_auto rule)))

abbrev pub text_value : Option (List ℕ) → Value
text_value None = Absent
text_value (Some text) = Text (text_or_nothing text)

-- the value that attributes give a path with this attribute
abbrev pub set_value : List ℕ → List ℕ → List Attribute → Value
set_value path name attributes =
    if bytes_eq path (codes "spacing") && bytes_eq name (codes "line")
    then line_value (last_value (codes "line") attributes) (last_value (codes "lineRule") attributes)
    else text_value (last_value name attributes)

abbrev pub attribute_change : List ℕ → List ℕ → List Attribute → List Attribute → List Changed
attribute_change path name present former =
    if is_line_rule path name then [] else differing (key_of path name) (set_value path name former) (set_value path name present)

-- an attribute, where it differs and none before it has its name
abbrev pub attribute_change_at : List ℕ → List Attribute → List Attribute → List Attribute → ℕ → Option Attribute → List Changed
attribute_change_at path set present former place None = []
attribute_change_at path set present former place (Some attribute) =
    if comes_first attribute.name set place then attribute_change path attribute.name present former else []

-- the first attributes
abbrev pub attributes_upto : List ℕ → List Attribute → List Attribute → List Attribute → ℕ → List Changed
attributes_upto path set present former zero = []
attributes_upto path set present former (suc place) =
    attributes_upto path set present former place ++ attribute_change_at path set present former place (slice_get set place)

-- the attributes that differ of a path whose leaves set these: first so many of the present list, and then those of the former one
abbrev pub attribute_changes : List ℕ → List Attribute → ℕ → List Changed
attribute_changes path set count = attributes_upto path set (take count set) (drop count set) (length set)

abbrev pub set_changes : List ℕ → List Leaf → List Leaf → List Changed
set_changes path present former = attribute_changes path (set_at path present ++ set_at path former) (length (set_at path present))

-- ---- paths

-- a property that is said whole, in this way, where it differs
abbrev pub whole_change : List ℕ → Way → List Leaf → List Leaf → List Changed
whole_change path way present former = differing path (whole_value way (leaves_at path former)) (whole_value way (leaves_at path present))

-- what differs of a path
abbrev pub path_changes : List ℕ → List Leaf → List Leaf → List Changed
path_changes path present former =
    if is_whole (way_at path) then whole_change path (way_at path) present former else set_changes path present former

-- what differs of the path of a leaf, where none before it has that path
abbrev pub leaf_changes : List Leaf → List Leaf → List Leaf → ℕ → Option Leaf → List Changed
leaf_changes all present former place None = []
leaf_changes all present former place (Some leaf) = if path_comes_first leaf.path all place then path_changes leaf.path present former else []

-- the first leaves
abbrev pub changes_upto : List Leaf → List Leaf → List Leaf → ℕ → List Changed
changes_upto all present former zero = []
changes_upto all present former (suc place) =
    changes_upto all present former place ++ leaf_changes all present former place (slice_get all place)

-- the properties that differ, of which these are the leaves: first so many of the present list, and then those of the former one
abbrev pub changes_between : List Leaf → ℕ → List Changed
changes_between leaves count = changes_upto leaves (take count leaves) (drop count leaves) (length leaves)

-- as many as are kept
abbrev pub first_changes : List Changed → List Changed
first_changes changes = take 20 changes
