-- Nodes one after the other, and what idle nodes in front don't have.
use Prim.Native.String.{String}
use Rattle.std.proofs.Common.{◌≡◌, ◌∙◌, refl, sym, ap, ℕ, List, [], ◌++◌, append_assoc, Bool, true, false, ◌&&◌, ◌||◌, Option, Some, None, codes, bytes_eq, if◌then◌else◌}
use Rattle.std.proofs.Math.Bool.{or_assoc}
use Rattle.std.proofs.lemmas.Bool.{or_from}
use Rattle.std.specs.Option.{option_or}
use Rattle.redl_tree.specs.Model.Nodes.{Tag, Nodes, no_nodes, bytes, element, ◌⊕◌}
use Rattle.redl_tree.specs.Roles.Names.{is, is_m, is_math, is_w}
use Rattle.redl_tree.specs.Roles.Idle.{is_idle_in}
use Rattle.redl_tree.specs.Roles.Kinds.{is_mark}
use Rattle.redl_tree.specs.declared.kinds.Kind.{Kind}
use Rattle.redl_tree.specs.declared.kinds.Space.{Space}
use Rattle.redl_tree.specs.declared.kinds.Space.TheVariants.{W, M, Pkg, Other}
use Rattle.redl_tree.proofs.Idle.Tags.{Idle, idle_parts, has-not}
use Rattle.redl_stamp.specs.Attribute.{written_value}
use Rattle.redl_index.specs.declared.revision.Revision.{Revision}
use Rattle.redl_page_stories.specs.declared.marks.Depth.{Depth}
use Rattle.redl_page_stories.specs.declared.marks.Depth.TheVariants.{Kids, Properties, RunProperties}
use Rattle.redl_page_stories.specs.declared.place.PageSummary.{PageSummary}
use Rattle.redl_page_stories.specs.declared.values.Property.{Property}
use Rattle.redl_page_stories.specs.declared.values.Property.TheVariants.{Style, Direction, Span, Merge, OperatorSign, AccentSign, FirstDelimiter, LastDelimiter, Description}
use Rattle.redl_page_stories.specs.Facts.{Facts}
use Rattle.redl_page_stories.specs.Document.{bytes_pieces, element_pieces, inside, marks_in, nodes_pieces}
use Rattle.redl_page_stories.specs.Shapes.{has_property, holds_blocks, is_block, is_other_form, switched_on, switches}
use Rattle.redl_page_stories.specs.Values.{embed_by, embed_in, given_by, holds, is_other, value_in, value_of}
use Rattle.redl_page_stories.specs.Signs.{member}

-- ---- nodes one after the other

pub pieces-⊕ : (shown : List ℕ → List ℕ) (facts : Facts) (place : PageSummary) (x y : Nodes) →
    nodes_pieces shown facts place (x ⊕ y) ≡ nodes_pieces shown facts place x ++ nodes_pieces shown facts place y
pieces-⊕ shown facts place no_nodes y = refl
pieces-⊕ shown facts place (bytes b rest) y =
    let own = bytes_pieces shown place b in
    ap (λ l. own ++ l) (pieces-⊕ shown facts place rest y)
    ∙ sym (append_assoc own (nodes_pieces shown facts place rest) (nodes_pieces shown facts place y))
pieces-⊕ shown facts place (element tag kids rest) y =
    let own = element_pieces facts place tag kids (nodes_pieces shown facts (inside facts.hidden tag kids place) kids) in
    ap (λ l. own ++ l) (pieces-⊕ shown facts place rest y)
    ∙ sym (append_assoc own (nodes_pieces shown facts place rest) (nodes_pieces shown facts place y))

pub switched_on-⊕ : (name : List ℕ) (x y : Nodes) → switched_on name (x ⊕ y) ≡ (switched_on name x || switched_on name y)
switched_on-⊕ name no_nodes y = refl
switched_on-⊕ name (bytes b rest) y = switched_on-⊕ name rest y
switched_on-⊕ name (element tag kids rest) y =
    ap (λ b. switches name tag || b) (switched_on-⊕ name rest y) ∙ sym (or_assoc (switches name tag) (switched_on name rest) (switched_on name y))

or_later : (a b c : Option (List ℕ)) → option_or (option_or a b) c ≡ option_or a (option_or b c)
or_later None b c = refl
or_later (Some x) b c = refl

pub value_in-⊕ : (property : Property) (x y : Nodes) → value_in property (x ⊕ y) ≡ option_or (value_in property x) (value_in property y)
value_in-⊕ property no_nodes y = refl
value_in-⊕ property (bytes b rest) y = value_in-⊕ property rest y
value_in-⊕ property (element tag kids rest) y =
    ap (option_or (given_by property tag)) (value_in-⊕ property rest y) ∙ sym (or_later (given_by property tag) (value_in property rest) (value_in property y))

-- ---- what idle nodes don't have

pub has_property_past : (name : List ℕ) (x y : Nodes) → is_idle_in false x ≡ true → has_property name (x ⊕ y) ≡ has_property name y
has_property_past name no_nodes y h = refl
has_property_past name (bytes b rest) y h = has_property_past name rest y h
has_property_past name (element tag kids rest) y h =
    let p = idle_parts false tag kids rest h in
    ap (λ b. (b && switched_on name kids) || has_property name (rest ⊕ y)) (has-not "rPr" false tag p.own refl)
    ∙ has_property_past name rest y p.later

pub no_other : (s : Space) → is_w s ≡ true → is_other s ≡ false
no_other W h = refl
no_other M h = absurd cc
no_other Pkg h = refl
no_other Other h = absurd cc

pub no_math : (s : Space) → is_w s ≡ true → is_m s ≡ false
no_math W h = refl
no_math M h = absurd cc
no_math Pkg h = refl
no_math Other h = refl

pub math_none : (name : String) (in_run : Bool) (tag : Tag) → Idle in_run tag → is_math name tag ≡ false
math_none name in_run tag i = ap (λ m. m && bytes_eq tag.local (codes name)) (no_math tag.space i.space)

holds_none : (property : Property) (in_run : Bool) (tag : Tag) → Idle in_run tag → holds property tag ≡ false
holds_none Style in_run tag i = has-not "pPr" in_run tag i refl
holds_none Direction in_run tag i = has-not "pPr" in_run tag i refl
holds_none Span in_run tag i = has-not "tcPr" in_run tag i refl
holds_none Merge in_run tag i = has-not "tcPr" in_run tag i refl
holds_none OperatorSign in_run tag i = math_none "naryPr" in_run tag i
holds_none AccentSign in_run tag i = math_none "accPr" in_run tag i
holds_none FirstDelimiter in_run tag i = math_none "dPr" in_run tag i
holds_none LastDelimiter in_run tag i = math_none "dPr" in_run tag i
holds_none Description in_run tag i = no_other tag.space i.space

pub value_of_past : (property : Property) (x y : Nodes) → is_idle_in false x ≡ true → value_of property (x ⊕ y) ≡ value_of property y
value_of_past property no_nodes y h = refl
value_of_past property (bytes b rest) y h = value_of_past property rest y h
value_of_past property (element tag kids rest) y h =
    let p = idle_parts false tag kids rest h in
    ap (λ b. option_or (if b then value_in property kids else None) (value_of property (rest ⊕ y))) (holds_none property false tag p.own)
    ∙ value_of_past property rest y p.later

-- and so they give no value
pub idle_none : (property : Property) (in_run : Bool) (x : Nodes) → is_idle_in in_run x ≡ true → value_of property x ≡ None
idle_none property in_run no_nodes h = refl
idle_none property in_run (bytes b rest) h = idle_none property in_run rest h
idle_none property in_run (element tag kids rest) h =
    let p = idle_parts in_run tag kids rest h in
    ap (λ b. option_or (if b then value_in property kids else None) (value_of property rest)) (holds_none property in_run tag p.own)
    ∙ idle_none property in_run rest p.later

embed_none-by : (in_run : Bool) (tag : Tag) → Idle in_run tag → embed_by tag ≡ None
embed_none-by in_run tag i =
    ap (λ o. if o && bytes_eq tag.local (codes "blip") then written_value tag.tail (codes "embed")
    else if o && bytes_eq tag.local (codes "imagedata") then written_value tag.tail (codes "id")
    else None) (no_other tag.space i.space)

-- and lead to no picture
pub embed_none : (in_run : Bool) (x : Nodes) → is_idle_in in_run x ≡ true → embed_in x ≡ None
embed_none in_run no_nodes h = refl
embed_none in_run (bytes b rest) h = embed_none in_run rest h
embed_none in_run (element tag kids rest) h =
    let p = idle_parts in_run tag kids rest h in
    ap (λ (o : Option (List ℕ)). option_or (option_or o (embed_in kids)) (embed_in rest)) (embed_none-by in_run tag p.own)
    ∙ ap (λ (o : Option (List ℕ)). option_or o (embed_in rest)) (embed_none (is "r" tag) kids p.below)
    ∙ embed_none in_run rest p.later

pub embed_past : (x y : Nodes) → is_idle_in false x ≡ true → embed_in (x ⊕ y) ≡ embed_in y
embed_past no_nodes y h = refl
embed_past (bytes b rest) y h = embed_past rest y h
embed_past (element tag kids rest) y h =
    let p = idle_parts false tag kids rest h in
    ap (λ (o : Option (List ℕ)). option_or (option_or o (embed_in kids)) (embed_in (rest ⊕ y))) (embed_none-by false tag p.own)
    ∙ ap (λ (o : Option (List ℕ)). option_or o (embed_in (rest ⊕ y))) (embed_none (is "r" tag) kids p.below)
    ∙ embed_past rest y p.later

pub marks_past : (revisions : List Revision) (depth : Depth) (x y : Nodes) → is_idle_in false x ≡ true → marks_in revisions depth (x ⊕ y) ≡ marks_in revisions depth y
marks_past revisions depth no_nodes y h = refl
marks_past revisions depth (bytes b rest) y h = marks_past revisions depth rest y h
marks_past revisions Kids (element tag kids rest) y h =
    let p = idle_parts false tag kids rest h in
    ap (λ b. (if b then marks_in revisions Properties kids else []) ++ marks_in revisions Kids (rest ⊕ y)) (has-not "pPr" false tag p.own refl)
    ∙ marks_past revisions Kids rest y p.later
marks_past revisions Properties (element tag kids rest) y h =
    let p = idle_parts false tag kids rest h in
    ap (λ b. (if b then marks_in revisions RunProperties kids else []) ++ marks_in revisions Properties (rest ⊕ y)) (has-not "rPr" false tag p.own refl)
    ∙ marks_past revisions Properties rest y p.later
marks_past revisions RunProperties (element tag kids rest) y h =
    let p = idle_parts false tag kids rest h in
    ap (λ (k : Kind). (if is_mark k then member revisions k tag.rev else []) ++ marks_in revisions RunProperties (rest ⊕ y)) p.own.kind
    ∙ marks_past revisions RunProperties rest y p.later

pub other_none : (in_run : Bool) (tag : Tag) → Idle in_run tag → is_other_form tag ≡ false
other_none in_run tag i = ap (λ o. o && bytes_eq tag.local (codes "Fallback")) (no_other tag.space i.space)

block_none : (in_run : Bool) (tag : Tag) → Idle in_run tag → is_block tag ≡ false
block_none in_run tag i =
    or_from (is "p" tag || is "tbl" tag) (is_other_form tag)
    (or_from (is "p" tag) (is "tbl" tag) (has-not "p" in_run tag i refl) (has-not "tbl" in_run tag i refl)) (other_none in_run tag i)

blocks_none : (in_run : Bool) (x : Nodes) → is_idle_in in_run x ≡ true → holds_blocks x ≡ false
blocks_none in_run no_nodes h = refl
blocks_none in_run (bytes b rest) h = blocks_none in_run rest h
blocks_none in_run (element tag kids rest) h =
    let p = idle_parts in_run tag kids rest h in
    or_from (is_block tag || holds_blocks kids) (holds_blocks rest)
    (or_from (is_block tag) (holds_blocks kids) (block_none in_run tag p.own) (blocks_none (is "r" tag) kids p.below)) (blocks_none in_run rest p.later)

pub holds_past : (x y : Nodes) → is_idle_in false x ≡ true → holds_blocks (x ⊕ y) ≡ holds_blocks y
holds_past no_nodes y h = refl
holds_past (bytes b rest) y h = holds_past rest y h
holds_past (element tag kids rest) y h =
    let p = idle_parts false tag kids rest h in
    ap (λ b. b || holds_blocks (rest ⊕ y))
    (or_from (is_block tag) (holds_blocks kids) (block_none false tag p.own) (blocks_none (is "r" tag) kids p.below))
    ∙ holds_past rest y p.later
