-- What is known of each tag and each stretch that was read.
use Rattle.std.proofs.Common.{◌≡◌, ◌∙◌, refl, sym, ap, subst, ℕ, List, [], ◌∷◌, ◌++◌, append-nil, true}
use Rattle.std.specs.Str.{IsUtf8}
use Rattle.std.proofs.lemmas.Str.{IsUtf8-append}
use Rattle.redl_tree.specs.Model.Nodes.{Tag, Nodes, no_nodes, bytes, element, ◌⊕◌, Close, Empty, End}
use Rattle.redl_tree.specs.Model.Text.{text}
use Rattle.redl_tree.proofs.Model.TreeTexts.{close_then, tree_then}
use Rattle.redl_grammar.specs.Characters.{IsText}
use Rattle.redl_grammar.specs.Names.{name_text, IsName}
use Rattle.redl_grammar.specs.Pieces.{start_tag, empty_tag, end_tag}
use Rattle.redl_grammar.specs.Stretches.{IsStretch, ends_stretch}
use Rattle.redl_grammar.specs.Tails.{IsSpace}
use Rattle.redl_grammar.specs.declared.section.Section.TheVariants.{BeforeRoot, InElement, AfterRoot}
use Rattle.redl_grammar.proofs.Pieces.{start_ends_stretch, end_ends_stretch}
use Rattle.redl_markup.proofs.Characters.{text_is_utf8}
use Rattle.redl_markup.proofs.Utf8.{piece_is_utf8}
use Rattle.redl_xml.specs.Scopes.{Scope, scope_in}
use Rattle.redl_xml.specs.Readings.{name_of, IsTag, ClosesBy, AreLegal, IsReading, IsStretchOrNone}
use Rattle.redl_xml.specs.Inside.Documents.{bytes_or_none}
use Rattle.redl_xml.proofs.Complete.{nodes_end_stretch}
use Rattle.redl_xml.proofs.Documents.{has_bytes, whole_then}
use Rattle.redl_reread_sound.specs.Each.{EachIn}
use Rattle.redl_reread_sound.specs.Scopes.{IsScoped}
use Rattle.redl_reread_sound.proofs.Texts.{text-parts, greater, ends_empty, begins_end, space-text, name-utf8, front-utf8, rest-utf8, start-parts}

-- a tag: its name, what holds of it in its scope, and that it is written in allowed characters
pub record IsReadTag (scope : Scope) (tag : Tag) : Type 0 where
  pub name : IsName (name_of tag)
  pub named : IsText (name_text (name_of tag))
  pub scoped : IsScoped scope tag
  pub written : IsText tag.tail

pub record IsReadStretch (b : List ℕ) : Type 0 where
  pub stretch : IsStretch InElement b
  pub characters : IsText b

-- so are these nodes of an element
abbrev pub AreRead : Scope → Nodes → Type 0
AreRead scope nodes = EachIn scope_in IsReadTag IsReadStretch ClosesBy scope nodes

-- ---- from the left

is-scoped : (scope : Scope) (tag : Tag) → IsTag scope tag → IsUtf8 tag.tail → IsScoped scope tag
is-scoped scope tag h u = record { tail = h.tail; utf8 = u; declarations = h.declarations; prefix = h.prefix; prefixes = h.prefixes; space = h.space }

behind-end : (name space y : List ℕ) → IsUtf8 name → IsSpace space → IsUtf8 y → IsText (60 ∷ 47 ∷ (name ++ (space ++ (62 ∷ y)))) → IsText y
behind-end name space y n s u t =
    let white = text_is_utf8 space (space-text space s) in
    let last = IsUtf8-append (62 ∷ []) y (text_is_utf8 (62 ∷ []) greater) u in
    let inner = IsUtf8-append space (62 ∷ y) white last in
    let first = text-parts (60 ∷ 47 ∷ []) (name ++ (space ++ (62 ∷ y))) (text_is_utf8 (60 ∷ 47 ∷ []) begins_end) (IsUtf8-append name (space ++ (62 ∷ y)) n inner) t in
    let second = text-parts name (space ++ (62 ∷ y)) n inner first.1 in
    let third = text-parts space (62 ∷ y) white last second.1 in
    (text-parts (62 ∷ []) y (text_is_utf8 (62 ∷ []) greater) u third.1).1

-- an element, of whose kids this is known
pub record ElementRead (scope : Scope) (tag : Tag) (kids : Nodes) (y : List ℕ) : Type 0 where
  pub tag_read : IsReadTag scope tag
  pub kids_read : AreRead (scope_in tag.tail scope) kids
  pub behind : IsText y

element-read : (scope : Scope) (tag : Tag) (kids : Nodes) (close : Close) (y : List ℕ) → IsTag scope tag → ClosesBy close kids
    → ((z : List ℕ) → ends_stretch z ≡ true → IsText (tree_then kids z) → AreRead (scope_in tag.tail scope) kids × IsText z)
    → IsText (60 ∷ (name_text (name_of tag) ++ (tag.tail ++ close_then tag close (tree_then kids) y))) → ElementRead scope tag kids y
element-read scope tag kids Empty y h fits inside t =
    let p = piece_is_utf8 InElement _ (empty_tag (name_of tag) tag.tail) y (record { whole = refl; legal = (h.name, h.tail); follows = tt }) (text_is_utf8 _ t) in
    let ends = text_is_utf8 (47 ∷ 62 ∷ []) ends_empty in
    let parts = start-parts (name_text (name_of tag)) tag.tail (47 ∷ 62 ∷ y) (name-utf8 (name_of tag) h.name) p.1 (IsUtf8-append (47 ∷ 62 ∷ []) y ends p.0) t in
    let P : Nodes → Type 0 = λ x. AreRead (scope_in tag.tail scope) x in
    record {
      tag_read = record { name = h.name; named = parts.named; scoped = is-scoped scope tag h p.1; written = parts.written };
      kids_read = subst P (sym fits) tt;
      behind = (text-parts (47 ∷ 62 ∷ []) y ends p.0 parts.behind).1;
    }
element-read scope tag kids (End space) y h fits inside t =
    let last : List ℕ = 60 ∷ 47 ∷ (name_text (name_of tag) ++ (space ++ (62 ∷ y))) in
    let p = piece_is_utf8 InElement _ (start_tag (name_of tag) tag.tail) (tree_then kids last) (record { whole = refl; legal = (h.name, h.tail); follows = tt }) (text_is_utf8 _ t) in
    let ends = text_is_utf8 (62 ∷ []) greater in
    let n = name-utf8 (name_of tag) h.name in
    let parts = start-parts (name_text (name_of tag)) tag.tail (62 ∷ tree_then kids last) n p.1 (IsUtf8-append (62 ∷ []) (tree_then kids last) ends p.0) t in
    let k = inside last (end_ends_stretch (name_text (name_of tag) ++ (space ++ (62 ∷ y)))) (text-parts (62 ∷ []) (tree_then kids last) ends p.0 parts.behind).1 in
    let e = piece_is_utf8 InElement last (end_tag (name_of tag) space) y (record { whole = refl; legal = (h.name, fits); follows = tt }) (text_is_utf8 last k.1) in
    record {
      tag_read = record { name = h.name; named = parts.named; scoped = is-scoped scope tag h p.1; written = parts.written };
      kids_read = k.0;
      behind = behind-end (name_text (name_of tag)) space y n fits e.0 k.1;
    }

nodes-read : (scope : Scope) (x : Nodes) (y : List ℕ) → AreLegal scope x → ends_stretch y ≡ true → IsText (tree_then x y) → AreRead scope x × IsText y
nodes-read scope no_nodes y h end t = (tt, t)
nodes-read scope (bytes b rest) y h end t =
    let follows = nodes_end_stretch scope rest y h.2 h.1 end in
    let u = text_is_utf8 (b ++ tree_then rest y) t in
    let parts = text-parts b (tree_then rest y) (front-utf8 b (tree_then rest y) follows u) (rest-utf8 b (tree_then rest y) follows u) t in
    let more = nodes-read scope rest y h.2 end parts.1 in
    ((record { stretch = h.0; characters = parts.0 }, more.0), more.1)
nodes-read scope (element tag kids rest) y h end t =
    let e = element-read scope tag kids tag.close (tree_then rest y) h.0 h.1 (λ z. nodes-read (scope_in tag.tail scope) kids z h.2) t in
    let more = nodes-read scope rest y h.3 end e.behind in
    ((e.tag_read, h.1, e.kids_read, more.0), more.1)

-- ---- documents

text-stretch : (b : List ℕ) → text (bytes_or_none b) ≡ b
text-stretch [] = refl
text-stretch (c ∷ cs) = append-nil (c ∷ cs)

-- a document that was read: what stands before the root, the root, and what stands after it
pub record IsReadDocument (nodes : Nodes) : Type 0 where
  pub before : Nodes
  pub root : Tag
  pub kids : Nodes
  pub after : Nodes
  pub whole : nodes ≡ before ⊕ element root kids after
  pub is_before : IsStretchOrNone BeforeRoot before
  pub is_after : IsStretchOrNone AfterRoot after
  pub before_text : IsText (text before)
  pub after_text : IsText (text after)
  pub root_read : IsReadTag [] root
  pub closed : ClosesBy root.close kids
  pub kids_read : AreRead (scope_in root.tail []) kids

pub document-read : (bs : List ℕ) (nodes : Nodes) → IsReading bs nodes → IsReadDocument nodes
document-read bs nodes h =
    let d = h.document in
    let b = has_bytes BeforeRoot d.before d.is_before in
    let a = has_bytes AfterRoot d.after d.is_after in
    let r : Nodes = element d.root d.kids no_nodes in
    let parts : nodes ≡ bytes_or_none b.bytes_of ⊕ (r ⊕ bytes_or_none a.bytes_of) =
    d.whole ∙ ap (λ (x : Nodes). x ⊕ element d.root d.kids d.after) b.is ∙ ap (λ (x : Nodes). bytes_or_none b.bytes_of ⊕ element d.root d.kids x) a.is in
    let rest : List ℕ = tree_then r a.bytes_of in
    let whole : bs ≡ b.bytes_of ++ rest = sym (sym (whole_then b.bytes_of a.bytes_of r) ∙ ap text (sym parts) ∙ h.text) in
    let P : List ℕ → Type 0 = IsText in
    let t = subst P whole h.characters in
    let u = text_is_utf8 (b.bytes_of ++ rest) t in
    let end = start_ends_stretch (name_of d.root) (d.root.tail ++ close_then d.root d.root.close (tree_then d.kids) a.bytes_of) d.is_root.0.name in
    let split = text-parts b.bytes_of rest (front-utf8 b.bytes_of rest end u) (rest-utf8 b.bytes_of rest end u) t in
    let e = element-read [] d.root d.kids d.root.close a.bytes_of d.is_root.0 d.is_root.1 (λ z. nodes-read (scope_in d.root.tail []) d.kids z d.is_root.2) split.1 in
    record {
      before = d.before;
      root = d.root;
      kids = d.kids;
      after = d.after;
      whole = d.whole;
      is_before = d.is_before;
      is_after = d.is_after;
      before_text = subst P (sym (ap text b.is ∙ text-stretch b.bytes_of)) split.0;
      after_text = subst P (sym (ap text a.is ∙ text-stretch a.bytes_of)) e.behind;
      root_read = e.tag_read;
      closed = d.is_root.1;
      kids_read = e.kids_read;
    }
