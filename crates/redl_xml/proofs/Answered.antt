-- The answer for a text that is read: its nodes, or that it goes too deep or has too many of them.
use Rattle.std.proofs.Common.{◌≡◌, ℕ, ◌<◌, ◌≤◌, true, false, List, [], ◌∷◌, ◌++◌, Option, Some, None, Result, Err, refl, sym, ap, subst, ◌∙◌, arith, inl, inr, ◌⊎◌}
use Rattle.std.specs.Prelude.{IsErrOf, ◌^◌}
use Rattle.std.specs.List.{list_all}
use Rattle.std.specs.Str.{IsUtf8, chars, is_utf8}
use Rattle.std.proofs.lemmas.Option.{same_Some}
use Rattle.std.proofs.lemmas.Str.{IsUtf8-from_is_utf8, is_utf8-from_IsUtf8}
use Rattle.redl_tree.specs.Model.Nodes.{Tag, Nodes, no_nodes, bytes, element, ◌⊕◌}
use Rattle.redl_tree.specs.Model.Text.{text}
use Rattle.redl_tree.specs.Model.Count.{count}
use Rattle.redl_tree.specs.Model.Tree.{HasUtf8Tails, IsTree}
use Rattle.redl_tree.specs.Model.Nodes.{Close, Empty, End}
use Rattle.redl_markup.specs.declared.error.MarkupError.{MarkupError}
use Rattle.redl_markup.specs.declared.error.MarkupError.TheVariants as markup
use Rattle.redl_grammar.specs.declared.section.Section.TheVariants.{BeforeRoot, InElement, AfterRoot}
use Rattle.redl_grammar.specs.Characters.{is_character, IsText}
use Rattle.redl_grammar.specs.Names.{name_text}
use Rattle.redl_grammar.specs.Stretches.{IsStretch, ends_stretch}
use Rattle.redl_grammar.specs.Pieces.{start_tag, empty_tag, end_tag, stretch}
use Rattle.redl_markup.proofs.Characters.{text_is_utf8, tests_text}
use Rattle.redl_grammar.proofs.Pieces.{start_ends_stretch, end_ends_stretch}
use Rattle.std.proofs.lemmas.Bool.{cases_Bool, both_ways}
use Rattle.redl_markup.proofs.Utf8.{piece_is_utf8}
use Rattle.redl_xml.specs.declared.error.XmlError.{XmlError}
use Rattle.redl_xml.specs.declared.error.XmlError.TheVariants.{Unreadable}
use Rattle.redl_xml.specs.Shapes.{depth_of}
use Rattle.redl_xml.specs.Scopes.{Scope, scope_in}
use Rattle.redl_xml.specs.Readings.{name_of, IsTag, ClosesBy, AreLegal, IsReading, HasReading, HasNoReading, HaveLegalTails}
use Rattle.redl_xml.specs.Errors.{error_of}
use Rattle.redl_xml.specs.Inside.Documents.{bytes_or_none, document_at}
use Rattle.redl_tree.proofs.Model.TreeTexts.{close_then, tree_then}
use Rattle.redl_xml.proofs.Complete.{nodes_end_stretch}
use Rattle.redl_xml.proofs.Documents.{HasSizes, has_bytes, whole_then, reading_of_document, document_of_reading, no_document}

-- ---- limits

pub too_deep : (limit bound : ℕ) (bs : List ℕ) (x : ℕ × ℕ) → HasSizes limit bs x → bound < x.0 → HasReading bs (λ nodes. bound < depth_of nodes)
too_deep limit bound bs x h lt = record { nodes = h.read; reading = h.reading; fits = omega (arith, h.deepest) }

pub too_many : (limit bound : ℕ) (bs : List ℕ) (x : ℕ × ℕ) → HasSizes limit bs x → x.0 ≤ bound → limit < x.1 → HasReading bs (λ nodes. (depth_of nodes ≤ bound) × (limit < count nodes))
too_many limit bound bs x h le lt = record { nodes = h.read; reading = h.reading; fits = (omega (arith, h.deepest), omega (arith, h.nodes)) }

pub is_within : (limit bound : ℕ) (bs : List ℕ) (x : ℕ × ℕ) (u : Nodes) → HasSizes limit bs x → x.0 ≤ bound → x.1 ≤ limit → document_at bs ≡ Some u → (depth_of u ≤ bound) × (count u ≤ limit)
is_within limit bound bs x u h le few e =
    let same = same_Some h.read u (sym (document_of_reading bs h.read h.reading) ∙ e) in
    (omega (arith, h.deepest, ap depth_of same), omega (arith, h.nodes, ap count same))

-- what is no text has no reading
pub no_text : (bs : List ℕ) → (IsText bs → ⊥) → HasNoReading bs
no_text bs h u reading = h reading.characters

-- an error that is handed on
pub error_was : {T : Type 0} (r : Result T XmlError) (x : XmlError) (f : MarkupError) → r ≡ Err x → x ≡ error_of f → IsErrOf r Unreadable → f ≡ markup.Unreadable
error_was r x markup.Unreadable e g h = refl
error_was r x markup.NoMemory e g h = absurd cc

-- ---- it can be decided whether there is a tree

text_or_none : (bs : List ℕ) → IsText bs ⊎ (IsText bs → ⊥)
text_or_none bs =
    elim (cases_Bool (is_utf8 bs)) [
      | inl utf8 ↦ by_characters (IsUtf8-from_is_utf8 bs utf8) (cases_Bool (list_all is_character (chars bs)))
      | inr other ↦ inr (λ t. both_ways _ other (is_utf8-from_IsUtf8 bs (text_is_utf8 bs t)))
    ] where
      by_characters : IsUtf8 bs → ((list_all is_character (chars bs) ≡ true) ⊎ (list_all is_character (chars bs) ≡ false)) → IsText bs ⊎ (IsText bs → ⊥)
      by_characters u (inl all) = inl ((tests_text bs true u (sym all)).0 refl)
      by_characters u (inr other) = inr (λ t. let e = (tests_text bs false u (sym other)).1 t in absurd cc)

tree_by : (bs : List ℕ) → IsText bs → (o : Option Nodes) → document_at bs ≡ o → ((u : Nodes) × IsReading bs u) ⊎ HasNoReading bs
tree_by bs t (Some u) e = inl (u, reading_of_document bs u t e)
tree_by bs t None e = inr (no_document bs e)

-- either some nodes are the reading of the bytes, or none are
pub tree_or_none : (bs : List ℕ) → ((u : Nodes) × IsReading bs u) ⊎ HasNoReading bs
tree_or_none bs = of (text_or_none bs) where
  of : IsText bs ⊎ (IsText bs → ⊥) → ((u : Nodes) × IsReading bs u) ⊎ HasNoReading bs
  of (inl t) = tree_by bs t (document_at bs) refl
  of (inr h) = inr (no_text bs h)

-- ---- tails

-- an element, of whose kids this is known
element_tails : (scope : Scope) (tag : Tag) (kids : Nodes) (close : Close) (y : List ℕ) → IsTag scope tag → ClosesBy close kids → HaveLegalTails no_nodes
    → ((z : List ℕ) → ends_stretch z ≡ true → IsUtf8 (tree_then kids z) → HaveLegalTails kids × IsUtf8 z)
    → IsUtf8 (60 ∷ (name_text (name_of tag) ++ (tag.tail ++ close_then tag close (tree_then kids) y))) → IsUtf8 tag.tail × HaveLegalTails kids × IsUtf8 y
element_tails scope tag kids Empty y h fits none inside_tails u =
    let p = piece_is_utf8 InElement _ (empty_tag (name_of tag) tag.tail) y (record { whole = refl; legal = (h.name, h.tail); follows = tt }) u in
    let P : Nodes → Type 0 = HaveLegalTails in
    (p.1, subst P (sym fits) none, p.0)
element_tails scope tag kids (End space) y h fits none inside_tails u =
    let behind : List ℕ = 60 ∷ 47 ∷ (name_text (name_of tag) ++ (space ++ (62 ∷ y))) in
    let p = piece_is_utf8 InElement _ (start_tag (name_of tag) tag.tail) (tree_then kids behind) (record { whole = refl; legal = (h.name, h.tail); follows = tt }) u in
    let k = inside_tails behind (end_ends_stretch (name_text (name_of tag) ++ (space ++ (62 ∷ y)))) p.0 in
    let e = piece_is_utf8 InElement behind (end_tag (name_of tag) space) y (record { whole = refl; legal = (h.name, fits); follows = tt }) k.1 in
    (p.1, k.0, e.0)

nodes_tails : (scope : Scope) (x : Nodes) (y : List ℕ) → AreLegal scope x → ends_stretch y ≡ true → IsUtf8 (tree_then x y) → HaveLegalTails x × IsUtf8 y
nodes_tails scope no_nodes y h end u = (tt, u)
nodes_tails scope (bytes b rest) y h end u =
    let p = piece_is_utf8 InElement _ (stretch b) (tree_then rest y) (record { whole = refl; legal = h.0; follows = nodes_end_stretch scope rest y h.2 h.1 end }) u in
    nodes_tails scope rest y h.2 end p.0
nodes_tails scope (element tag kids rest) y h end u =
    let e = element_tails scope tag kids tag.close (tree_then rest y) h.0 h.1 tt (λ z. nodes_tails (scope_in tag.tail scope) kids z h.2) u in
    let more = nodes_tails scope rest y h.3 end e.2 in
    ((h.0.tail, e.0, e.1, more.0), more.1)

root_tails : (tag : Tag) (kids : Nodes) (y : List ℕ) → AreLegal [] (element tag kids no_nodes) → IsUtf8 (tree_then (element tag kids no_nodes) y) → HaveLegalTails (element tag kids no_nodes)
root_tails tag kids y h u =
    let e = element_tails [] tag kids tag.close y h.0 h.1 tt (λ z. nodes_tails (scope_in tag.tail []) kids z h.2) u in
    (h.0.tail, e.0, e.1, tt)

tails-⊕ : (x y : Nodes) → HaveLegalTails x → HaveLegalTails y → HaveLegalTails (x ⊕ y)
tails-⊕ no_nodes y hx hy = hy
tails-⊕ (bytes b rest) y hx hy = tails-⊕ rest y hx hy
tails-⊕ (element tag kids rest) y hx hy = (hx.0, hx.1, hx.2, tails-⊕ rest y hx.3 hy)

bytes_tails : (b : List ℕ) → HaveLegalTails (bytes_or_none b)
bytes_tails [] = tt
bytes_tails (c ∷ cs) = tt

behind_stretch : (b : List ℕ) (rest : List ℕ) → ((b ≡ []) ⊎ IsStretch BeforeRoot b) → ends_stretch rest ≡ true → IsUtf8 (b ++ rest) → IsUtf8 rest
behind_stretch b rest (inl none) end u = let P : List ℕ → Type 0 = λ z. IsUtf8 (z ++ rest) in subst P none u
behind_stretch b rest (inr h) end u = (piece_is_utf8 BeforeRoot (b ++ rest) (stretch b) rest (record { whole = refl; legal = h; follows = end }) u).0

-- each tail of a tree that is read is that of a legal tag, in UTF-8
pub tails_are_legal : (bs : List ℕ) (u : Nodes) → IsReading bs u → HaveLegalTails u
tails_are_legal bs u h =
    let d = h.document in
    let b = has_bytes BeforeRoot d.before d.is_before in
    let a = has_bytes AfterRoot d.after d.is_after in
    let r : Nodes = element d.root d.kids no_nodes in
    let parts : u ≡ bytes_or_none b.bytes_of ⊕ (r ⊕ bytes_or_none a.bytes_of) = d.whole ∙ ap (λ (x : Nodes). x ⊕ element d.root d.kids d.after) b.is ∙ ap (λ (x : Nodes). bytes_or_none b.bytes_of ⊕ element d.root d.kids x) a.is in
    let whole : bs ≡ b.bytes_of ++ tree_then r a.bytes_of = sym (sym (whole_then b.bytes_of a.bytes_of r) ∙ ap text (sym parts) ∙ h.text) in
    let P : List ℕ → Type 0 = IsUtf8 in
    let utf8 = subst P whole (text_is_utf8 bs h.characters) in
    let end = start_ends_stretch (name_of d.root) (d.root.tail ++ close_then d.root d.root.close (tree_then d.kids) a.bytes_of) d.is_root.0.name in
    let root = root_tails d.root d.kids a.bytes_of d.is_root (behind_stretch b.bytes_of (tree_then r a.bytes_of) b.legal end utf8) in
    let Q : Nodes → Type 0 = HaveLegalTails in
    subst Q (sym parts) (tails-⊕ (bytes_or_none b.bytes_of) (r ⊕ bytes_or_none a.bytes_of) (bytes_tails b.bytes_of) (tails-⊕ r (bytes_or_none a.bytes_of) root (bytes_tails a.bytes_of)))

utf8_tails : (u : Nodes) → HaveLegalTails u → HasUtf8Tails u
utf8_tails no_nodes h = tt
utf8_tails (bytes b rest) h = utf8_tails rest h
utf8_tails (element tag kids rest) h = (h.1, utf8_tails kids h.2, utf8_tails rest h.3)

-- what is read is a tree that may be a package
pub is_tree : (bs : List ℕ) (u : Nodes) → IsReading bs u → count u < 2 ^ 32 → IsTree u
is_tree bs u h few = record { tails = utf8_tails u (tails_are_legal bs u h); few = few }
