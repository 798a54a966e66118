-- Rows by hand: properties that differ, and their words.
use Rattle.std.proofs.Common.{◌≡◌, ℕ, true, List, [], ◌∷◌, ◌++◌, codes, refl}
use Rattle.std.specs.Fmt.{digits}
use Rattle.redl_reading.specs.Lists.{field_at}
use Rattle.redl_properties.specs.Amounts.{measured}
use Rattle.redl_properties.specs.Changes.{changes_between, differing}
use Rattle.redl_properties.specs.Lines.{line_of, same_change, told}
use Rattle.redl_properties.specs.Names.{is_of_language, name_of, path_of, way_of}
use Rattle.redl_properties.specs.Said.{arrow, leaf_said, line_said, property_at, said_change}
use Rattle.redl_properties.specs.Values.{same_value}
use Rattle.redl_properties.specs.Wholes.{whole_value}
use Rattle.redl_properties.specs.declared.attribute.Attribute.{Attribute}
use Rattle.redl_properties.specs.declared.attribute.Leaf.{Leaf}
use Rattle.redl_properties.specs.declared.change.Changed.{Changed}
use Rattle.redl_properties.specs.declared.property.Way.TheVariants.{Border, Toggle, Width}
use Rattle.redl_properties.specs.declared.value.Value.TheVariants.{Absent, Text}

-- an attribute, and the leaf of an element without attributes
val : List ℕ → Attribute
val value = record { name = codes "val"; value = value }

bare : List ℕ → Leaf
bare path = record { path = path; attributes = [] }

-- ---- words

row_hidden : said_change (codes "vanish") Absent (Text (codes "on")) ≡ codes "hidden: not set" ++ (arrow ++ codes "on")
unfolding name_of path_of property_at way_of
row_hidden = refl

row_size : said_change (codes "sz") (Text (codes "22")) (Text (codes "24")) ≡ codes "size: 11 pt" ++ (arrow ++ codes "12 pt")
unfolding digits name_of path_of property_at way_of
row_size = refl

row_style : said_change (codes "pStyle") (Text (codes "Heading2")) (Text (codes "Heading1")) ≡ codes "style: Heading2" ++ (arrow ++ codes "Heading1")
unfolding name_of path_of property_at way_of
row_style = refl

row_indent : said_change (codes "ind@left") Absent (Text (codes "720")) ≡ codes "left indent: not set" ++ (arrow ++ codes "36 pt")
unfolding digits name_of path_of property_at way_of
row_indent = refl

row_landscape : said_change (codes "pgSz@orient") Absent (Text (codes "landscape")) ≡ codes "page orientation: not set" ++ (arrow ++ codes "landscape")
unfolding name_of path_of property_at way_of
row_landscape = refl

-- a property without a name is said as it is written
row_unnamed : said_change (codes "w14:glow@rad") (Text (codes "22")) Absent ≡ codes "w14:glow@rad: 22" ++ (arrow ++ codes "not set")
unfolding name_of path_of property_at way_of
row_unnamed = refl

row_half : measured 2 (codes " pt") (codes "23") ≡ codes "11.5 pt"
unfolding digits
row_half = refl

row_negative : measured 20 (codes " pt") (codes "-705") ≡ codes "-35.25 pt"
unfolding digits
row_negative = refl

-- a measure with a unit of its own is no number
row_unit : measured 20 (codes " pt") (codes "2cm") ≡ codes "2cm"
row_unit = refl

row_lines : line_said (codes "360 auto") ≡ codes "1.5 lines"
unfolding digits field_at
row_lines = refl

row_single : line_said (codes "240 auto") ≡ codes "single"
unfolding field_at
row_single = refl

row_exact : line_said (codes "240 exact") ≡ codes "exactly 12 pt"
unfolding digits field_at
row_exact = refl

row_border : leaf_said Border (val (codes "single") ∷ record { name = codes "sz"; value = codes "4" } ∷ record { name = codes "color"; value = codes "auto" } ∷ [])
    ≡ codes "single 0.5 pt automatic"
unfolding digits val
row_border = refl

row_width : leaf_said Width (record { name = codes "w"; value = codes "2500" } ∷ record { name = codes "type"; value = codes "pct" } ∷ []) ≡ codes "50%"
unfolding digits
row_width = refl

-- ---- what differs

-- `<b/>` and `<b val="1"/>` agree
row_agree : same_value (whole_value Toggle ([] ∷ [])) (whole_value Toggle ((val (codes "1") ∷ []) ∷ [])) ≡ true
unfolding val
row_agree = refl

-- a run made hidden, which was bold and is bold: hidden alone differs
row_changed : changes_between (bare (codes "b") ∷ bare (codes "vanish") ∷ bare (codes "b") ∷ []) 2 ≡ differing (codes "vanish") Absent (Text (codes "on"))
unfolding bare name_of path_of property_at way_of
row_changed = refl

-- of two borders the last one counts
row_last : changes_between (record { path = codes "pBdr/top"; attributes = val (codes "none") ∷ [] } ∷ record { path = codes "pBdr/top"; attributes = val (codes "single") ∷ [] }
    ∷ record { path = codes "pBdr/top"; attributes = val (codes "single") ∷ [] } ∷ []) 2 ≡ []
unfolding name_of path_of property_at val way_of
row_last = refl

-- ---- the line

row_none : line_of [] ≡ codes "no property differs"
row_none = refl

-- a change that says these words
change : List ℕ → List ℕ → Changed
change property said = record { property = property; from = Absent; to = Text (codes "de-DE"); said = said }

row_language : line_of (change (codes "lang") [] ∷ change (codes "lang@bidi") [] ∷ []) ≡ codes "language only"
unfolding change is_of_language name_of path_of property_at way_of
row_language = refl

-- a twin that says the same isn't told again
row_twin : told (change (codes "b") (codes "one") ∷ change (codes "bCs") (codes "two") ∷ change (codes "iCs") (codes "three") ∷ []) ≡ codes "one" ∷ codes "three" ∷ []
unfolding change same_change
row_twin = refl
