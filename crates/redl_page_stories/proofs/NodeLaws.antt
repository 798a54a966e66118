-- What is written of a story: of signs, and of the nodes of a list one after the other.
use Prim.Native.String.{String}
use Rattle.std.proofs.Common.{◌≡◌, ℕ, List, [], ◌∷◌, ◌++◌, Bool, true, false, ◌||◌, ◌+◌, ◌<◌, length, drop, slice_get, None, Some, option_map, refl, sym, ap, ◌∙◌, append-nil, codes, if◌then◌else◌}
use Rattle.std.specs.Prelude.{decimal, unwrap_or}
use Rattle.std.specs.Option.{option_or}
use Rattle.redl_tree.specs.Model.IdleTexts.{idle_nodes}
use Rattle.redl_tree.specs.Model.Nodes.{Tag, Nodes, Item, bytes_item, element_item, idle_item, in_front}
use Rattle.redl_tree.specs.Roles.Names.{is}
use Rattle.redl_tree.proofs.Idle.Items.{nodes_are_idle}
use Rattle.redl_opc.specs.Elements.{Element}
use Rattle.redl_opc.specs.Parts.{name_in, story}
use Rattle.redl_opc.specs.Shape.{parts_of, story_of}
use Rattle.redl_opc.proofs.WalkLaws.{part-at}
use Rattle.redl_index.specs.declared.revision.Revision.{Revision}
use Rattle.redl_hidden.specs.Styles.{HiddenStyles, package_hidden}
use Rattle.redl_places.specs.Places.{Signs, package_signs}
use Rattle.redl_page_stories.specs.Facts.{Facts, package_facts}
use Rattle.redl_page_stories.specs.declared.marks.Depth.{Depth}
use Rattle.redl_page_stories.specs.declared.marks.Depth.TheVariants.{Kids, Properties, RunProperties}
use Rattle.redl_page_stories.specs.declared.place.PageSummary.{PageSummary}
use Rattle.redl_page_stories.specs.declared.values.Property.{Property}
use Rattle.redl_html.specs.Escaping.{escaped}
use Rattle.redl_html.specs.Pieces.{HtmlPiece, own, piece_text, pieces_text}
use Rattle.redl_html.proofs.PieceLaws.{pieces_text-append}
use Rattle.redl_page_stories.specs.Shapes.{before_closing, closing, has_property, holds_blocks, is_paragraph, shape_of, switched_on}
use Rattle.redl_page_stories.specs.Values.{embed_in, value_in, value_of}
use Rattle.redl_page_stories.specs.declared.shape.Shape.{Shape}
use Rattle.redl_page_stories.specs.Signs.{author_at, sign, sign_text, edge}
use Rattle.redl_page_stories.specs.Document.{heading_piece, in_story, is_sort, section_heading, section_start, section, shape_end, start_as, end_as, element_pieces, marks_in, nodes_pieces, section_in, sections, section_at, name_at, is_first_after}
use Rattle.redl_page_stories.specs.Inside.Items.{item_embed, item_has_property, item_holds, item_marks, item_pieces, item_switches, item_value, item_value_in}
use Rattle.redl_page_stories.proofs.PastLaws.{embed_past, has_property_past, holds_past, marks_past, pieces-⊕, switched_on-⊕, value_in-⊕, value_of_past}

-- ---- signs

pub sign-text : (revisions : List Revision) (before : String) (rev : ℕ) (after : String) → pieces_text (sign revisions before rev after) ≡ sign_text revisions (codes before) rev (codes after)
sign-text revisions before rev after =
    ap (λ l. codes before ++ (decimal rev ++ (codes "\" data-author=\"" ++ (escaped (author_at revisions rev) ++ l)))) (append-nil (codes after))

pub edge-from : (revisions : List Revision) (tag : Tag) → is "moveFromRangeStart" tag ≡ true → pieces_text (edge revisions tag)
    ≡ codes "<a id=\"from-" ++ (decimal tag.rev ++ (codes "\" href=\"#to-" ++ (decimal tag.rev ++ sign_text revisions (codes "\" data-revision=\"") tag.rev (codes "\">moved away</a>"))))
edge-from revisions tag e = rw e refl

pub edge-to : (revisions : List Revision) (tag : Tag) → is "moveFromRangeStart" tag ≡ false → is "moveToRangeStart" tag ≡ true → pieces_text (edge revisions tag)
    ≡ codes "<a id=\"to-" ++ (decimal tag.rev ++ (codes "\" href=\"#from-" ++ (decimal tag.rev ++ sign_text revisions (codes "\" data-revision=\"") tag.rev (codes "\">moved here</a>"))))
edge-to revisions tag e f = rw (e, f) refl

pub edge-none : (revisions : List Revision) (tag : Tag) → is "moveFromRangeStart" tag ≡ false → is "moveToRangeStart" tag ≡ false → pieces_text (edge revisions tag) ≡ []
edge-none revisions tag e f = rw (e, f) refl

-- ---- a node in front of a list

marks_in-front : (revisions : List Revision) (depth : Depth) (x : Item) (rest : Nodes) → marks_in revisions depth (in_front x rest) ≡ item_marks revisions depth x ++ marks_in revisions depth rest
marks_in-front revisions depth (bytes_item b) rest = refl
marks_in-front revisions Kids (element_item tag kids) rest = refl
marks_in-front revisions Properties (element_item tag kids) rest = refl
marks_in-front revisions RunProperties (element_item tag kids) rest = refl
marks_in-front revisions depth (idle_item t) rest = marks_past revisions depth (idle_nodes t) rest (nodes_are_idle t)

pub marks_text : (revisions : List Revision) (depth : Depth) (nodes : Nodes) (x : Item) (rest : Nodes) → nodes ≡ in_front x rest →
    pieces_text (marks_in revisions depth nodes) ≡ pieces_text (item_marks revisions depth x) ++ pieces_text (marks_in revisions depth rest)
marks_text revisions depth nodes x rest e =
    ap (λ n. pieces_text (marks_in revisions depth n)) e ∙ ap pieces_text (marks_in-front revisions depth x rest)
    ∙ pieces_text-append (item_marks revisions depth x) (marks_in revisions depth rest)

nodes_pieces-front : (shown : List ℕ → List ℕ) (facts : Facts) (place : PageSummary) (x : Item) (rest : Nodes) →
    nodes_pieces shown facts place (in_front x rest) ≡ item_pieces shown facts place x ++ nodes_pieces shown facts place rest
nodes_pieces-front shown facts place (bytes_item b) rest = refl
nodes_pieces-front shown facts place (element_item tag kids) rest = refl
nodes_pieces-front shown facts place (idle_item t) rest = pieces-⊕ shown facts place (idle_nodes t) rest

pub nodes_text : (shown : List ℕ → List ℕ) (facts : Facts) (place : PageSummary) (nodes : Nodes) (x : Item) (rest : Nodes) → nodes ≡ in_front x rest →
    pieces_text (nodes_pieces shown facts place nodes) ≡ pieces_text (item_pieces shown facts place x) ++ pieces_text (nodes_pieces shown facts place rest)
nodes_text shown facts place nodes x rest e =
    ap (λ n. pieces_text (nodes_pieces shown facts place n)) e ∙ ap pieces_text (nodes_pieces-front shown facts place x rest)
    ∙ pieces_text-append (item_pieces shown facts place x) (nodes_pieces shown facts place rest)

-- an element with this shape
pub element_text-by : (facts : Facts) (place : PageSummary) (tag : Tag) (kids : Nodes) (inner : List HtmlPiece) (shape : Shape) → shape ≡ shape_of facts.hidden place tag kids →
    pieces_text (element_pieces facts place tag kids inner)
    ≡ pieces_text (start_as facts shape tag kids tag.kind) ++ (pieces_text inner ++ pieces_text (end_as facts.revisions shape kids tag.kind))
element_text-by facts place tag kids inner shape e =
    let start = start_as facts (shape_of facts.hidden place tag kids) tag kids tag.kind in
    let end = end_as facts.revisions (shape_of facts.hidden place tag kids) kids tag.kind in
    pieces_text-append start (inner ++ end)
    ∙ ap (λ l. pieces_text start ++ l) (pieces_text-append inner end)
    ∙ ap (λ s. pieces_text (start_as facts s tag kids tag.kind) ++ (pieces_text inner ++ pieces_text (end_as facts.revisions s kids tag.kind))) (sym e)

holds_blocks-front : (x : Item) (rest : Nodes) → holds_blocks (in_front x rest) ≡ (item_holds x || holds_blocks rest)
holds_blocks-front (bytes_item b) rest = refl
holds_blocks-front (element_item tag kids) rest = refl
holds_blocks-front (idle_item t) rest = holds_past (idle_nodes t) rest (nodes_are_idle t)

-- whether the nodes hold a block, where the first one is or holds none, and where it does
pub holds-later : (nodes : Nodes) (x : Item) (rest : Nodes) → nodes ≡ in_front x rest → item_holds x ≡ false → holds_blocks rest ≡ holds_blocks nodes
holds-later nodes x rest e h = sym (ap holds_blocks e ∙ holds_blocks-front x rest ∙ ap (λ b. b || holds_blocks rest) h)

pub holds-here : (nodes : Nodes) (x : Item) (rest : Nodes) → nodes ≡ in_front x rest → item_holds x ≡ true → holds_blocks nodes ≡ true
holds-here nodes x rest e h = ap holds_blocks e ∙ holds_blocks-front x rest ∙ ap (λ b. b || holds_blocks rest) h

-- ---- properties

switched_on-front : (name : List ℕ) (x : Item) (rest : Nodes) → switched_on name (in_front x rest) ≡ (item_switches name x || switched_on name rest)
switched_on-front name (bytes_item b) rest = refl
switched_on-front name (element_item tag kids) rest = refl
switched_on-front name (idle_item t) rest = switched_on-⊕ name (idle_nodes t) rest

pub switched_on-next : (name : List ℕ) (nodes : Nodes) (x : Item) (rest : Nodes) → nodes ≡ in_front x rest → switched_on name nodes ≡ (item_switches name x || switched_on name rest)
switched_on-next name nodes x rest e = ap (switched_on name) e ∙ switched_on-front name x rest

has_property-front : (name : List ℕ) (x : Item) (rest : Nodes) → has_property name (in_front x rest) ≡ (item_has_property name x || has_property name rest)
has_property-front name (bytes_item b) rest = refl
has_property-front name (element_item tag kids) rest = refl
has_property-front name (idle_item t) rest = has_property_past name (idle_nodes t) rest (nodes_are_idle t)

pub has_property-next : (name : List ℕ) (nodes : Nodes) (x : Item) (rest : Nodes) → nodes ≡ in_front x rest → has_property name nodes ≡ (item_has_property name x || has_property name rest)
has_property-next name nodes x rest e = ap (has_property name) e ∙ has_property-front name x rest

value_in-front : (property : Property) (x : Item) (rest : Nodes) → value_in property (in_front x rest) ≡ option_or (item_value_in property x) (value_in property rest)
value_in-front property (bytes_item b) rest = refl
value_in-front property (element_item tag kids) rest = refl
value_in-front property (idle_item t) rest = value_in-⊕ property (idle_nodes t) rest

pub value_in-later : (property : Property) (nodes : Nodes) (x : Item) (rest : Nodes) → nodes ≡ in_front x rest → item_value_in property x ≡ None → value_in property rest ≡ value_in property nodes
value_in-later property nodes x rest e h = sym (ap (value_in property) e ∙ value_in-front property x rest ∙ ap (λ o. option_or o (value_in property rest)) h)

pub value_in-here : (property : Property) (nodes : Nodes) (x : Item) (rest : Nodes) (value : List ℕ) → nodes ≡ in_front x rest → item_value_in property x ≡ Some value → value_in property nodes ≡ Some value
value_in-here property nodes x rest value e h = ap (value_in property) e ∙ value_in-front property x rest ∙ ap (λ o. option_or o (value_in property rest)) h

value_of-front : (property : Property) (x : Item) (rest : Nodes) → value_of property (in_front x rest) ≡ option_or (item_value property x) (value_of property rest)
value_of-front property (bytes_item b) rest = refl
value_of-front property (element_item tag kids) rest = refl
value_of-front property (idle_item t) rest = value_of_past property (idle_nodes t) rest (nodes_are_idle t)

pub value_of-later : (property : Property) (nodes : Nodes) (x : Item) (rest : Nodes) → nodes ≡ in_front x rest → item_value property x ≡ None → value_of property rest ≡ value_of property nodes
value_of-later property nodes x rest e h = sym (ap (value_of property) e ∙ value_of-front property x rest ∙ ap (λ o. option_or o (value_of property rest)) h)

pub value_of-here : (property : Property) (nodes : Nodes) (x : Item) (rest : Nodes) (value : List ℕ) → nodes ≡ in_front x rest → item_value property x ≡ Some value → value_of property nodes ≡ Some value
value_of-here property nodes x rest value e h = ap (value_of property) e ∙ value_of-front property x rest ∙ ap (λ o. option_or o (value_of property rest)) h

pub shape_end-text : (revisions : List Revision) (shape : Shape) (kids : Nodes) → pieces_text (shape_end revisions shape kids)
    ≡ pieces_text (if is_paragraph shape then marks_in revisions Kids kids else []) ++ (pieces_text (before_closing shape kids) ++ codes (closing shape))
shape_end-text revisions shape kids =
    let marks : List HtmlPiece = if is_paragraph shape then marks_in revisions Kids kids else [] in
    let end : List HtmlPiece = own (closing shape) ∷ [] in
    pieces_text-append marks (before_closing shape kids ++ end)
    ∙ ap (λ l. pieces_text marks ++ l)
    (pieces_text-append (before_closing shape kids) end ∙ ap (λ l. pieces_text (before_closing shape kids) ++ l) (append-nil (codes (closing shape))))

-- ---- pictures

embed-front : (x : Item) (rest : Nodes) → embed_in (in_front x rest) ≡ option_or (item_embed x) (embed_in rest)
embed-front (bytes_item b) rest = refl
embed-front (element_item tag kids) rest = refl
embed-front (idle_item t) rest = embed_past (idle_nodes t) rest (nodes_are_idle t)

pub embed-later : (nodes : Nodes) (x : Item) (rest : Nodes) → nodes ≡ in_front x rest → item_embed x ≡ None → embed_in rest ≡ embed_in nodes
embed-later nodes x rest e h = sym (ap embed_in e ∙ embed-front x rest ∙ ap (λ o. option_or o (embed_in rest)) h)

pub embed-here : (nodes : Nodes) (x : Item) (rest : Nodes) (id : List ℕ) → nodes ≡ in_front x rest → item_embed x ≡ Some id → embed_in nodes ≡ Some id
embed-here nodes x rest id e h = ap embed_in e ∙ embed-front x rest ∙ ap (λ o. option_or o (embed_in rest)) h

-- ---- parts

pub heading-named : (first : Bool) (name sort : List ℕ) → first ≡ false → pieces_text (section_heading first name sort) ≡ codes "<h2>" ++ (piece_text (heading_piece name sort) ++ codes "</h2>\n")
heading-named first name sort e = rw e refl

pub heading-none : (first : Bool) (name sort : List ℕ) → first ≡ true → pieces_text (section_heading first name sort) ≡ []
heading-none first name sort e = rw e refl

pub section-text : (shown : List ℕ → List ℕ) (facts : Facts) (first : Bool) (name sort : List ℕ) (kids : Nodes) → pieces_text (section shown facts first name sort kids)
    ≡ pieces_text (section_start name sort) ++ (pieces_text (section_heading first name sort) ++ (pieces_text (nodes_pieces shown facts in_story kids) ++ codes "</section>\n"))
section-text shown facts first name sort kids =
    let held = nodes_pieces shown facts in_story kids in
    let end : List HtmlPiece = own "</section>\n" ∷ [] in
    pieces_text-append (section_start name sort) (section_heading first name sort ++ (held ++ end))
    ∙ ap (λ l. pieces_text (section_start name sort) ++ l) (pieces_text-append (section_heading first name sort) (held ++ end)
    ∙ ap (λ l. pieces_text (section_heading first name sort) ++ l) (pieces_text-append held end))

-- a story of the sort that is asked for
pub section_in-sort : (shown : List ℕ → List ℕ) (facts : Facts) (documents first : Bool) (name : List ℕ) (root : Element) (is_one : Bool) → is_one ≡ is_sort documents root → is_one ≡ true →
    pieces_text (section_in shown facts documents first name (Some root)) ≡ pieces_text (section shown facts first name root.tag.local root.kids)
section_in-sort shown facts documents first name root true e h =
    ap (λ (b : Bool). pieces_text (if b then section shown facts first name root.tag.local root.kids else [])) (sym e)
section_in-sort shown facts documents first name root false e h = cc

pub sections-step : (shown : List ℕ → List ℕ) (facts : Facts) (documents first : Bool) (nodes : Nodes) (number : ℕ) → number < length (parts_of nodes) →
    pieces_text (sections shown facts documents first (drop number (parts_of nodes)))
    ≡ pieces_text (section_at shown facts nodes documents first number)
    ++ pieces_text (sections shown facts documents (is_first_after documents first (story nodes number)) (drop (number + 1) (parts_of nodes)))
sections-step shown facts documents first nodes number within =
    let found = part-at nodes number within in
    let later = drop (number + 1) (parts_of nodes) in
    ap (λ parts. pieces_text (sections shown facts documents first parts)) found.1.front
    ∙ pieces_text-append (section_in shown facts documents first (name_in found.0.tag) (story_of found.0)) (sections shown facts documents (is_first_after documents first (story_of found.0)) later)
    ∙ ap (λ name. pieces_text (section_in shown facts documents first name (story_of found.0)) ++ pieces_text (sections shown facts documents (is_first_after documents first (story_of found.0)) later)) (sym (name found.0 found.1.at))
    ∙ ap (λ root. pieces_text (section_in shown facts documents first (name_at nodes number) root) ++ pieces_text (sections shown facts documents (is_first_after documents first root) later)) (sym found.1.root)
  where
    name : (part : Element) → slice_get (parts_of nodes) number ≡ Some part → name_at nodes number ≡ name_in part.tag
    name part e = ap (λ o. unwrap_or (option_map (λ p. name_in p.tag) o) []) e

-- the facts in code are those of the package
pub facts-same : (facts : Facts) (nodes : Nodes) → facts.signs ≡ package_signs nodes → facts.hidden ≡ package_hidden nodes → facts ≡ package_facts facts.revisions nodes
facts-same facts nodes signs hidden =
    ap (λ (s : Signs). record { revisions = facts.revisions; signs = s; hidden = facts.hidden }) signs
    ∙ ap (λ (h : HiddenStyles). record { revisions = facts.revisions; signs = package_signs nodes; hidden = h }) hidden
