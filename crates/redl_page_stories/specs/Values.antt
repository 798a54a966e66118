-- The values of attributes that a page shows: of the properties of paragraphs and cells, of structures of equations, and of drawings.
use Rattle.std.specs.Prelude.{ℕ, Bool, true, false, ◌&&◌, ◌||◌, List, [], Option, Some, None, unwrap_or, bytes_eq, codes, if◌then◌else◌}
use Rattle.std.specs.Option.{option_or}
use Rattle.redl_tree.specs.Model.Nodes.{Tag, Nodes, no_nodes, bytes, element}
use Rattle.redl_tree.specs.Roles.Names.{is, is_m, is_math, is_w}
use Rattle.redl_tree.specs.declared.kinds.Space.{Space}
use Rattle.redl_tree.specs.declared.kinds.Space.TheVariants.{Other}
use Rattle.redl_stamp.specs.Attribute.{written_value}
use Rattle.redl_page_stories.specs.declared.values.Property.{Property}
use Rattle.redl_page_stories.specs.declared.values.Property.TheVariants.{Style, Direction, Span, Merge, OperatorSign, AccentSign, FirstDelimiter, LastDelimiter, Description}

abbrev pub is_other : Space → Bool
is_other Other = true
is_other _ = false

-- the value switches a property off (ECMA-376 Part 1, 17.17.4)
abbrev pub is_off : Option (List ℕ) → Bool
is_off None = false
is_off (Some value) = bytes_eq value (codes "0") || bytes_eq value (codes "false") || bytes_eq value (codes "off")

-- the name of a property
abbrev pub property_name : Property → List ℕ
property_name Style = codes "pStyle"
property_name Direction = codes "bidi"
property_name Span = codes "gridSpan"
property_name Merge = codes "vMerge"
property_name OperatorSign = codes "chr"
property_name AccentSign = codes "chr"
property_name FirstDelimiter = codes "begChr"
property_name LastDelimiter = codes "endChr"
property_name Description = codes "docPr"

-- whether it is one of W, of mathematics, or of drawings
abbrev pub is_in : Property → Space → Bool
is_in Style space = is_w space
is_in Direction space = is_w space
is_in Span space = is_w space
is_in Merge space = is_w space
is_in OperatorSign space = is_m space
is_in AccentSign space = is_m space
is_in FirstDelimiter space = is_m space
is_in LastDelimiter space = is_m space
is_in Description space = is_other space

-- what a property with this tail gives: its value as it is written; without one most give nothing
abbrev pub given : Property → List ℕ → Option (List ℕ)
given Style tail = written_value tail (codes "val")
given Direction tail = Some (unwrap_or (written_value tail (codes "val")) [])
given Span tail = written_value tail (codes "val")
given Merge tail = Some (unwrap_or (written_value tail (codes "val")) [])
given OperatorSign tail = written_value tail (codes "val")
given AccentSign tail = written_value tail (codes "val")
given FirstDelimiter tail = written_value tail (codes "val")
given LastDelimiter tail = written_value tail (codes "val")
given Description tail = written_value tail (codes "descr")

-- what an element gives as this property (17.3.1.27, 17.3.1.6, 17.4.17, 17.4.84, 22.1.2.20, 22.1.2.10, 22.1.2.33 and 20.4.2.5)
abbrev pub given_by : Property → Tag → Option (List ℕ)
given_by property tag = if is_in property tag.space && bytes_eq tag.local (property_name property) then given property tag.tail else None

-- the first value of a property that is given among these
abbrev pub value_in : Property → Nodes → Option (List ℕ)
value_in property no_nodes = None
value_in property (bytes b rest) = value_in property rest
value_in property (element tag kids rest) = option_or (given_by property tag) (value_in property rest)

-- the relationship that leads to a picture: of DrawingML's or of VML's sort (20.1.8.13; Part 4, 19.1.2.11)
abbrev pub embed_by : Tag → Option (List ℕ)
embed_by tag =
    if is_other tag.space && bytes_eq tag.local (codes "blip") then written_value tag.tail (codes "embed")
    else if is_other tag.space && bytes_eq tag.local (codes "imagedata") then written_value tag.tail (codes "id")
    else None

-- the first one that is given among nodes, at every depth
abbrev pub embed_in : Nodes → Option (List ℕ)
embed_in no_nodes = None
embed_in (bytes b rest) = embed_in rest
embed_in (element tag kids rest) = option_or (option_or (embed_by tag) (embed_in kids)) (embed_in rest)

-- an element that holds properties of this sort: those of a paragraph, of a cell, of a structure of an equation, or of a drawing
abbrev pub holds : Property → Tag → Bool
holds Style tag = is "pPr" tag
holds Direction tag = is "pPr" tag
holds Span tag = is "tcPr" tag
holds Merge tag = is "tcPr" tag
holds OperatorSign tag = is_math "naryPr" tag
holds AccentSign tag = is_math "accPr" tag
holds FirstDelimiter tag = is_math "dPr" tag
holds LastDelimiter tag = is_math "dPr" tag
holds Description tag = is_other tag.space

-- the value of a property of an element with these kids
abbrev pub value_of : Property → Nodes → Option (List ℕ)
value_of property no_nodes = None
value_of property (bytes b rest) = value_of property rest
value_of property (element tag kids rest) = option_or (if holds property tag then value_in property kids else None) (value_of property rest)
