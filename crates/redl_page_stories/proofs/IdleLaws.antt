-- What the page shows of idle nodes is what they show by themselves.
use Rattle.std.proofs.Common.{◌≡◌, ◌∙◌, refl, sym, ap, ℕ, List, [], ◌∷◌, ◌++◌, Bool, true, false, ◌&&◌, ◌||◌, not, None, codes, bytes_eq, if◌then◌else◌}
use Rattle.std.proofs.Math.Bool.{or-false}
use Rattle.redl_tree.specs.Model.Nodes.{Tag, Nodes, no_nodes, bytes, element}
use Rattle.redl_tree.specs.Model.IdleTexts.{idle_nodes}
use Rattle.redl_tree.specs.Roles.Names.{is, is_m, is_math, of_w}
use Rattle.redl_tree.specs.Roles.Idle.{is_idle_in}
use Rattle.redl_tree.proofs.Idle.Tags.{Idle, idle_parts, has-not}
use Rattle.redl_tree.proofs.Idle.Items.{nodes_are_idle}
use Rattle.redl_idle.specs.Shows.{shows, element_shows}
use Rattle.redl_idle.proofs.RoleLaws.{by_local, name_same, quiet_same}
use Rattle.redl_index.specs.declared.revision.Revision.{Revision}
use Rattle.redl_shown.specs.Shown.{shown}
use Rattle.redl_hidden.specs.Runs.{paragraph_hides, run_hides}
use Rattle.redl_hidden.specs.Styles.{HiddenStyles}
use Rattle.redl_places.specs.Places.{Signs}
use Rattle.redl_page_stories.specs.Facts.{Facts}
use Rattle.redl_page_stories.specs.declared.idle.Within.{Within}
use Rattle.redl_page_stories.specs.declared.marks.Depth.TheVariants.{Kids}
use Rattle.redl_page_stories.specs.declared.place.PageSummary.{PageSummary}
use Rattle.redl_page_stories.specs.declared.shape.Shape.{Shape}
use Rattle.redl_page_stories.specs.declared.values.Property.TheVariants.{Description}
use Rattle.redl_page_stories.specs.declared.shape.Shape.TheVariants as shape
use Rattle.redl_page_stories.specs.Document.{bytes_pieces, element_pieces, end_as, inside, marks_in, nodes_pieces, start_as}
use Rattle.redl_page_stories.specs.Inside.Idle.{facts_in, idle_named, idle_place, idle_shape, idle_start, idle_text, idle_within, page_rule}
use Rattle.redl_html.specs.Pieces.{HtmlPiece, own, pieces_text}
use Rattle.redl_page_stories.specs.Shapes.{before_closing, behind_alone, behind_opening, closing, has_property, hidden_shape, holds_blocks, holds_list, inline_named, inline_shape, is_foreign, is_other_form, is_paragraph, list_shape, math_shape, opening, reference_shape, run_shape, set_shape, shape_named, shape_of}
use Rattle.redl_page_stories.specs.Starts.{picture_pieces}
use Rattle.redl_page_stories.specs.Values.{embed_in, is_other, value_of}
use Rattle.redl_page_stories.proofs.PastLaws.{embed_none, idle_none, math_none, no_math, no_other, other_none}
use Rattle.redl_html.proofs.PieceLaws.{pieces_text-append}
use Rattle.redl_page_stories.proofs.NodeLaws.{element_text-by, shape_end-text}

-- ---- one idle element

reference_same : (in_run : Bool) (tag : Tag) → Idle in_run tag → reference_shape tag ≡ reference_shape (of_w tag.local)
reference_same in_run tag i =
    by_local (λ w local. if w && bytes_eq local (codes "footnoteReference") then shape.FootnoteReference
    else if w && bytes_eq local (codes "endnoteReference") then shape.EndnoteReference
    else if w && bytes_eq local (codes "commentRangeStart") then shape.RemarkStart
    else if w && bytes_eq local (codes "commentRangeEnd") then shape.RemarkEnd
    else if w && bytes_eq local (codes "commentReference") then shape.RemarkReference
    else shape.Nothing) in_run tag i

-- it holds no list of blocks, and is not foreign
list_none : (in_run : Bool) (tag : Tag) → Idle in_run tag → holds_list tag ≡ false
list_none in_run tag i =
    ap (λ b. b || is "customXml" tag || is "footnote" tag || is "endnote" tag || is "comment" tag) (has-not "sdt" in_run tag i refl)
    ∙ ap (λ b. b || is "footnote" tag || is "endnote" tag || is "comment" tag) (has-not "customXml" in_run tag i refl)
    ∙ ap (λ b. b || is "endnote" tag || is "comment" tag) (has-not "footnote" in_run tag i refl)
    ∙ ap (λ b. b || is "comment" tag) (has-not "endnote" in_run tag i refl)
    ∙ has-not "comment" in_run tag i refl

foreign_none : (in_run : Bool) (tag : Tag) → Idle in_run tag → is_foreign tag ≡ false
foreign_none in_run tag i = ap (λ b. b || is_other tag.space) (has-not "altChunk" in_run tag i refl) ∙ no_other tag.space i.space

inline_same : (reference : Shape) (in_run : Bool) (tag : Tag) → Idle in_run tag → inline_shape reference tag ≡ inline_shape reference (of_w tag.local)
inline_same reference in_run tag i =
    by_local (λ w local. if (w && bytes_eq local (codes "tab")) then shape.Tab
    else if ((w && bytes_eq local (codes "br")) || (w && bytes_eq local (codes "cr"))) then shape.Break
    else if (w && bytes_eq local (codes "noBreakHyphen")) then shape.Hyphen
    else if (w && bytes_eq local (codes "softHyphen")) then shape.SoftHyphen
    else if (w && bytes_eq local (codes "sym")) then shape.Symbol
    else if ((w && bytes_eq local (codes "drawing")) || (w && bytes_eq local (codes "pict")) || (w && bytes_eq local (codes "object"))) then shape.Picture
    else reference) in_run tag i

-- it is shown as its local name says
named_same : (hidden : HiddenStyles) (paragraph : Bool) (in_run : Bool) (tag : Tag) (kids : Nodes) → Idle in_run tag → shape_named hidden paragraph tag kids ≡ idle_named hidden paragraph tag.local kids
named_same hidden paragraph in_run tag kids i =
    let run = run_shape hidden paragraph kids in
    let para = if holds_blocks kids then shape.Division else shape.Paragraph in
    let inline = inline_named tag in
    let after_foreign = λ (f : Bool). if f then shape.Foreign else if is_m tag.space then math_shape tag else inline in
    let after_list = λ (l : Bool). if l then list_shape tag else after_foreign (is_foreign tag) in
    let after_form = λ (o : Bool). if o then shape.OtherForm else after_list (holds_list tag) in
    let after_box = λ (x : Bool). if x then shape.TextBox else after_form (is_other_form tag) in
    let after_cell = λ (c : Bool). if c then shape.Cell else after_box (is "txbxContent" tag) in
    let after_row = λ (r : Bool). if r then shape.Row else after_cell (is "tc" tag) in
    let after_table = λ (t : Bool). if t then shape.Table else after_row (is "tr" tag) in
    let after_run = λ (r : Bool). if r then run else after_table (is "tbl" tag) in
    let others : after_table (is "tbl" tag) ≡ inline_shape (reference_shape (of_w tag.local)) (of_w tag.local) =
    ap after_table (has-not "tbl" in_run tag i refl) ∙ ap after_row (has-not "tr" in_run tag i refl) ∙ ap after_cell (has-not "tc" in_run tag i refl)
    ∙ ap after_box (has-not "txbxContent" in_run tag i refl) ∙ ap after_form (other_none in_run tag i)
    ∙ ap after_list (list_none in_run tag i) ∙ ap after_foreign (foreign_none in_run tag i)
    ∙ ap (λ (m : Bool). if m then math_shape tag else inline) (no_math tag.space i.space)
    ∙ ap (λ n. inline_shape n tag) (reference_same in_run tag i) ∙ inline_same (reference_shape (of_w tag.local)) in_run tag i in
    ap (λ p. if p then para else after_run (is "r" tag)) (has-not "p" in_run tag i refl)
    ∙ ap after_run (name_same in_run tag i (codes "r"))
    ∙ ap (λ o. if is "r" (of_w tag.local) then run else o) others

shape_same : (hidden : HiddenStyles) (place : PageSummary) (in_run : Bool) (tag : Tag) (kids : Nodes) → Idle in_run tag → shape_of hidden place tag kids ≡ idle_shape hidden place tag.local kids
shape_same hidden place in_run tag kids i = ap (λ s. if place.loud then s else shape.Nothing) (named_same hidden place.hides in_run tag kids i)

-- the shapes of which something of the kids comes behind the opening or before the closing
abbrev tells_kids : Shape → Bool
tells_kids shape.Paragraph = true
tells_kids shape.Division = true
tells_kids shape.Cell = true
tells_kids shape.Operator = true
tells_kids shape.Accent = true
tells_kids shape.Delimiters = true
tells_kids _ = false

-- that is none of them
reference_none : (footnote endnote start end comment : Bool) →
    tells_kids (if footnote then shape.FootnoteReference else if endnote then shape.EndnoteReference else if start then shape.RemarkStart else if end then shape.RemarkEnd else if comment then shape.RemarkReference else shape.Nothing) ≡ false
reference_none true endnote start end comment = refl
reference_none false true start end comment = refl
reference_none false false true end comment = refl
reference_none false false false true comment = refl
reference_none false false false false true = refl
reference_none false false false false false = refl

inline_none : (tab line hyphen soft symbol picture : Bool) (reference : Shape) → tells_kids reference ≡ false →
    tells_kids (if tab then shape.Tab else if line then shape.Break else if hyphen then shape.Hyphen else if soft then shape.SoftHyphen else if symbol then shape.Symbol else if picture then shape.Picture else reference) ≡ false
inline_none true line hyphen soft symbol picture reference h = refl
inline_none false true hyphen soft symbol picture reference h = refl
inline_none false false true soft symbol picture reference h = refl
inline_none false false false true symbol picture reference h = refl
inline_none false false false false true picture reference h = refl
inline_none false false false false false true reference h = refl
inline_none false false false false false false reference h = h

set_none : (hidden bold italic : Bool) → tells_kids (if hidden then hidden_shape bold italic else set_shape bold italic) ≡ false
set_none false false false = refl
set_none false true false = refl
set_none false false true = refl
set_none false true true = refl
set_none true false false = refl
set_none true true false = refl
set_none true false true = refl
set_none true true true = refl

run_none : (hidden : HiddenStyles) (paragraph : Bool) (kids : Nodes) → tells_kids (run_shape hidden paragraph kids) ≡ false
run_none hidden paragraph kids = set_none (run_hides hidden paragraph kids) (has_property (codes "b") kids) (has_property (codes "i") kids)

kids_none : (hidden : HiddenStyles) (place : PageSummary) (local : List ℕ) (kids : Nodes) → tells_kids (idle_shape hidden place local kids) ≡ false
kids_none hidden place local kids = by place.loud (is "r" (of_w local)) where
  by : (loud run : Bool) →
      tells_kids (if loud then (if run then run_shape hidden place.hides kids else inline_shape (reference_shape (of_w local)) (of_w local)) else shape.Nothing) ≡ false
  by false run = refl
  by true true = run_none hidden place.hides kids
  by true false =
      inline_none (is "tab" (of_w local)) (is "br" (of_w local) || is "cr" (of_w local)) (is "noBreakHyphen" (of_w local)) (is "softHyphen" (of_w local)) (is "sym" (of_w local))
      (is "drawing" (of_w local) || is "pict" (of_w local) || is "object" (of_w local)) (reference_shape (of_w local))
      (reference_none (is "footnoteReference" (of_w local)) (is "endnoteReference" (of_w local)) (is "commentRangeStart" (of_w local)) (is "commentRangeEnd" (of_w local)) (is "commentReference" (of_w local)))

-- and so no paragraph
no_paragraph : (s : Shape) → tells_kids s ≡ false → is_paragraph s ≡ false
no_paragraph shape.Paragraph h = absurd cc
no_paragraph shape.Division h = absurd cc
no_paragraph _ h = refl

behind_same : (signs : Signs) (s : Shape) (tag : Tag) (kids : Nodes) → tells_kids s ≡ false → embed_in kids ≡ None → value_of Description kids ≡ None →
    behind_opening signs s tag kids ≡ behind_alone signs s tag.tail
behind_same signs shape.Paragraph tag kids h e d = absurd cc
behind_same signs shape.Division tag kids h e d = absurd cc
behind_same signs shape.Cell tag kids h e d = absurd cc
behind_same signs shape.Operator tag kids h e d = absurd cc
behind_same signs shape.Accent tag kids h e d = absurd cc
behind_same signs shape.Delimiters tag kids h e d = absurd cc
behind_same signs shape.Picture tag kids h e d = ap (λ o. picture_pieces o (value_of Description kids)) e ∙ ap (picture_pieces None) d
behind_same signs _ tag kids h e d = refl

ending_none : (s : Shape) (kids : Nodes) → tells_kids s ≡ false → before_closing s kids ≡ []
ending_none shape.Delimiters kids h = absurd cc
ending_none _ kids h = refl

-- what comes before its kids, and after them
start_same : (facts : Facts) (s : Shape) (in_run : Bool) (tag : Tag) (kids : Nodes) → Idle in_run tag → tells_kids s ≡ false → embed_in kids ≡ None → value_of Description kids ≡ None →
    start_as facts s tag kids tag.kind ≡ idle_start facts.signs s tag.tail
start_same facts s in_run tag kids i h e d =
    ap (start_as facts s tag kids) i.kind ∙ ap (λ l. own (opening s) ∷ l) (behind_same facts.signs s tag kids h e d)

end_same : (revisions : List Revision) (s : Shape) (in_run : Bool) (tag : Tag) (kids : Nodes) → Idle in_run tag → tells_kids s ≡ false →
    pieces_text (end_as revisions s kids tag.kind) ≡ codes (closing s)
end_same revisions s in_run tag kids i h =
    ap (λ k. pieces_text (end_as revisions s kids k)) i.kind ∙ shape_end-text revisions s kids
    ∙ ap (λ p. pieces_text (if p then marks_in revisions Kids kids else []) ++ (pieces_text (before_closing s kids) ++ codes (closing s))) (no_paragraph s h)
    ∙ ap (λ (l : List HtmlPiece). pieces_text l ++ codes (closing s)) (ending_none s kids h)

place_same : (hidden : HiddenStyles) (place : PageSummary) (in_run : Bool) (tag : Tag) (kids : Nodes) → Idle in_run tag → inside hidden tag kids place ≡ idle_place place tag.local
place_same hidden place in_run tag kids i =
    ap (λ (q : Bool). record { loud = place.loud && not q; shows = place.loud && (is "t" tag || is "delText" tag || is_math "t" tag); hides = if is "p" tag then paragraph_hides hidden kids else place.hides }) (quiet_same in_run tag i)
    ∙ ap (λ (t : Bool). record { loud = place.loud && not (is "rPr" (of_w tag.local)); shows = place.loud && t; hides = if is "p" tag then paragraph_hides hidden kids else place.hides })
    (ap (λ m. is "t" tag || is "delText" tag || m) (math_none "t" in_run tag i) ∙ or-false (is "t" tag || is "delText" tag)
    ∙ ap (λ d. is "t" tag || d) (has-not "delText" in_run tag i refl) ∙ or-false (is "t" tag) ∙ name_same in_run tag i (codes "t"))
    ∙ ap (λ (p : Bool). record { loud = place.loud && not (is "rPr" (of_w tag.local)); shows = place.loud && is "t" (of_w tag.local); hides = if p then paragraph_hides hidden kids else place.hides })
    (has-not "p" in_run tag i refl)

-- ---- what is shown

pub page_of : (around : Within) (in_run : Bool) (x : Nodes) → is_idle_in in_run x ≡ true →
    pieces_text (nodes_pieces shown (facts_in around) around.place x) ≡ shows page_rule around x
page_of around in_run no_nodes h = refl
page_of around in_run (bytes b rest) h =
    let later = nodes_pieces shown (facts_in around) around.place rest in
    pieces_text-append (bytes_pieces shown around.place b) later
    ∙ ap (λ l. pieces_text (bytes_pieces shown around.place b) ++ l) (page_of around in_run rest h)
page_of around in_run (element tag kids rest) h =
    let p = idle_parts in_run tag kids rest h in
    let facts = facts_in around in
    let s = idle_shape facts.hidden around.place tag.local kids in
    let within = idle_within around tag.local kids in
    let none = kids_none facts.hidden around.place tag.local kids in
    let later = nodes_pieces shown facts around.place rest in
    let held = nodes_pieces shown facts (inside facts.hidden tag kids around.place) kids in
    let inner : pieces_text held ≡ shows page_rule within kids =
    ap (λ q. pieces_text (nodes_pieces shown facts q kids)) (place_same facts.hidden around.place in_run tag kids p.own) ∙ page_of within (is "r" tag) kids p.below in
    pieces_text-append (element_pieces facts around.place tag kids held) later
    ∙ ap (λ l. l ++ pieces_text later)
    (element_text-by facts around.place tag kids held s (sym (shape_same facts.hidden around.place in_run tag kids p.own))
    ∙ ap (λ l. pieces_text l ++ (pieces_text held ++ pieces_text (end_as facts.revisions s kids tag.kind)))
    (start_same facts s in_run tag kids p.own none (embed_none (is "r" tag) kids p.below) (idle_none Description (is "r" tag) kids p.below))
    ∙ ap (λ l. pieces_text (idle_start facts.signs s tag.tail) ++ (l ++ pieces_text (end_as facts.revisions s kids tag.kind))) inner
    ∙ ap (λ l. pieces_text (idle_start facts.signs s tag.tail) ++ (shows page_rule within kids ++ l)) (end_same facts.revisions s in_run tag kids p.own none))
    ∙ ap (λ l. element_shows page_rule around tag.local tag.tail kids ++ l) (page_of around in_run rest p.later)

-- ---- a text of idle elements

pub page_idle : (around : Within) (t : List ℕ) → pieces_text (nodes_pieces shown (facts_in around) around.place (idle_nodes t)) ≡ idle_text around (idle_nodes t)
page_idle around t = page_of around false (idle_nodes t) (nodes_are_idle t)
