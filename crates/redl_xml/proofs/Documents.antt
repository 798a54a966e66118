-- A document that is read is a reading of the bytes, and each reading is read.
use Rattle.std.proofs.Common.{◌≡◌, ◌≢◌, ℕ, Bool, true, false, cond, List, [], ◌∷◌, ◌++◌, Option, Some, None, refl, sym, ap, subst, ◌∙◌, arith, inl, inr, ◌⊎◌}
use Rattle.std.proofs.lemmas.List.{append-nil}
use Rattle.std.proofs.lemmas.Option.{same_Some, none-some}
use Rattle.redl_reading.proofs.Options.{map_some, map_none}
use Rattle.redl_tree.specs.Model.Nodes.{Tag, Nodes, no_nodes, bytes, element, ◌⊕◌}
use Rattle.redl_tree.specs.Model.Text.{text}
use Rattle.redl_tree.specs.Model.Count.{count}
use Rattle.redl_tree.specs.Model.Nodes.{Close, Empty, End}
use Rattle.redl_grammar.specs.declared.section.Section.{Section}
use Rattle.redl_grammar.specs.declared.section.Section.TheVariants.{BeforeRoot, AfterRoot}
use Rattle.redl_reading.specs.Lists.{is_filled}
use Rattle.redl_grammar.specs.Characters.{IsText}
use Rattle.redl_grammar.specs.Names.{name_text}
use Rattle.redl_grammar.specs.Stretches.{IsStretch, ends_stretch}
use Rattle.redl_grammar.specs.Pieces.{Piece, start_tag, empty_tag, end_tag, stretch}
use Rattle.redl_grammar.specs.ScanPieces.{piece_at}
use Rattle.redl_reading.proofs.Steps.{bind_some}
use Rattle.redl_grammar.proofs.Pieces.{piece_takes, piece_again, piece_shorter, start_ends_stretch}
use Rattle.redl_xml.specs.Shapes.{depth_of}
use Rattle.redl_xml.specs.Readings.{name_of, AreLegal, IsStretchOrNone, IsReading}
use Rattle.redl_xml.specs.Inside.Elements.{element_at}
use Rattle.redl_xml.specs.Inside.Documents.{stretch_or_none, stretch_in, bytes_or_none, whole_nodes, document_from, document_at, sizes_at}
use Rattle.redl_tree.proofs.Model.TreeTexts.{close_then, tree_then, tree-then, tree_then-⊕}
use Rattle.redl_xml.proofs.Sound.{element_sound}
use Rattle.redl_xml.proofs.Complete.{element_again}
use Rattle.redl_xml.specs.Inside.Sizes.{capped, sizes_of}
use Rattle.redl_xml.proofs.Parts.{document_is}

-- ---- an optional stretch

stretch_of : (place : Section) (bs : List ℕ) (o : Option (Piece × List ℕ)) → piece_at place bs ≡ o → stretch_in place bs ≡ stretch_or_none bs o
unfolding stretch_in
stretch_of place bs o e = ap (stretch_or_none bs) e

filled_or_none : (place : Section) (b : List ℕ) → IsStretch place b → IsStretchOrNone place (bytes_or_none b)
filled_or_none place [] h = tt
filled_or_none place (b ∷ bs) h = h

-- the bytes begin with what is read as an optional stretch
record TakesStretch (place : Section) (bs : List ℕ) (x : List ℕ × List ℕ) : Type 0 where
  whole : bs ≡ x.0 ++ x.1
  legal : IsStretchOrNone place (bytes_or_none x.0)

takes_none : (place : Section) (bs : List ℕ) → TakesStretch place bs ([], bs)
takes_none place bs = record { whole = refl; legal = tt }

stretch_takes : (place : Section) (bs : List ℕ) → TakesStretch place bs (stretch_in place bs)
stretch_takes place bs = of (piece_at place bs) refl where
  of_piece : (p : Piece) (rest : List ℕ) → piece_at place bs ≡ Some (p, rest) → TakesStretch place bs (stretch_or_none bs (Some (p, rest)))
  of_piece (stretch b) rest e = let t = piece_takes place bs (stretch b, rest) e in record { whole = t.whole; legal = filled_or_none place b t.legal }
  of_piece (start_tag name tail) rest e = takes_none place bs
  of_piece (empty_tag name tail) rest e = takes_none place bs
  of_piece (end_tag name space) rest e = takes_none place bs

  of : (o : Option (Piece × List ℕ)) → piece_at place bs ≡ o → TakesStretch place bs (stretch_in place bs)
  of None e = let P : List ℕ × List ℕ → Type 0 = TakesStretch place bs in subst P (sym (stretch_of place bs None e)) (takes_none place bs)
  of (Some x) e = let P : List ℕ × List ℕ → Type 0 = TakesStretch place bs in subst P (sym (stretch_of place bs (Some x) e)) (of_piece x.0 x.1 e)

stretch_in_nothing : (place : Section) → stretch_in place [] ≡ ([], [])
stretch_in_nothing place = of (piece_at place []) refl where
  of : (o : Option (Piece × List ℕ)) → piece_at place [] ≡ o → stretch_in place [] ≡ ([], [])
  of None e = stretch_of place [] None e
  of (Some x) e = let less = piece_shorter place [] x e in absurd (omega arith)

-- the bytes of an optional stretch
pub record HasBytes (place : Section) (x : Nodes) : Type 0 where
  pub bytes_of : List ℕ
  pub is : x ≡ bytes_or_none bytes_of
  pub legal : (bytes_of ≡ []) ⊎ IsStretch place bytes_of

-- a stretch of text, or none, as bytes
pub has_bytes : (place : Section) (x : Nodes) → IsStretchOrNone place x → HasBytes place x
has_bytes place no_nodes h = record { bytes_of = []; is = refl; legal = inl refl }
has_bytes place (bytes b no_nodes) h = record { bytes_of = b; is = filled b h.filled; legal = inr h } where
  filled : (b : List ℕ) → (b ≢ []) → bytes b no_nodes ≡ bytes_or_none b
  filled [] f = absurd (f refl)
  filled (c ∷ cs) f = refl
has_bytes place (bytes b (bytes c rest)) h = absurd h
has_bytes place (bytes b (element tag kids rest)) h = absurd h
has_bytes place (element tag kids rest) h = absurd h

-- if the rest begins with no stretch, the bytes before it are read
stretch_again : (place : Section) (b rest : List ℕ) → ((b ≡ []) ⊎ IsStretch place b) → ends_stretch rest ≡ true → stretch_in place rest ≡ ([], rest) → stretch_in place (b ++ rest) ≡ (b, rest)
stretch_again place b rest (inl none) end e = ap (λ (x : List ℕ). stretch_in place (x ++ rest)) none ∙ e ∙ ap (λ (x : List ℕ). (x, rest)) (sym none)
stretch_again place b rest (inr h) end e = stretch_of place (b ++ rest) (Some (stretch b, rest)) (piece_again place (stretch b) rest h end)

-- an element begins with no stretch
root_is_no_stretch : (place : Section) (tag : Tag) (kids : Nodes) (y : List ℕ) → AreLegal [] (element tag kids no_nodes) → stretch_in place (tree_then (element tag kids no_nodes) y) ≡ ([], tree_then (element tag kids no_nodes) y)
root_is_no_stretch place tag kids y h = of tag.close where
  of : (close : Close) → (let bs : List ℕ = 60 ∷ (name_text (name_of tag) ++ (tag.tail ++ close_then tag close (tree_then kids) y)) in stretch_in place bs ≡ ([], bs))
  of Empty = stretch_of place _ _ (piece_again place (empty_tag (name_of tag) tag.tail) y (h.0.name, h.0.tail) tt)
  of (End space) = stretch_of place _ _ (piece_again place (start_tag (name_of tag) tag.tail) (tree_then kids (60 ∷ 47 ∷ (name_text (name_of tag) ++ (space ++ (62 ∷ y))))) (h.0.name, h.0.tail) tt)

-- ---- the text of the parts

bytes_then : (b y : List ℕ) → tree_then (bytes_or_none b) y ≡ b ++ y
bytes_then [] y = refl
bytes_then (c ∷ cs) y = refl

-- the text of a document: what stands before its root, the root, and what stands behind
pub whole_then : (b a : List ℕ) (u : Nodes) → text (bytes_or_none b ⊕ (u ⊕ bytes_or_none a)) ≡ b ++ tree_then u a
whole_then b a u =
    let whole : Nodes = bytes_or_none b ⊕ (u ⊕ bytes_or_none a) in
    sym (append-nil (text whole)) ∙ tree-then whole [] ∙ tree_then-⊕ (bytes_or_none b) (u ⊕ bytes_or_none a) [] ∙ bytes_then b (tree_then (u ⊕ bytes_or_none a) [])
    ∙ ap (λ (z : List ℕ). b ++ z) (tree_then-⊕ u (bytes_or_none a) [] ∙ ap (tree_then u) (bytes_then a [] ∙ append-nil a))

-- ---- what is read is a reading

unfilled : (bs : List ℕ) → is_filled bs ≡ false → bs ≡ []
unfilled [] e = refl
unfilled (b ∷ bs) e = absurd cc

cond_none : {A : Type 0} (t : Bool) (x y : A) → cond t None (Some x) ≡ Some y → (t ≡ false) × (x ≡ y)
cond_none true x y e = absurd (none-some y e)
cond_none false x y e = (refl, same_Some x y e)

document_sound : (bs : List ℕ) (u : Nodes) (rest : List ℕ) (b a : List ℕ × List ℕ) → IsText bs → TakesStretch BeforeRoot bs b → element_at b.1 ≡ Some (u, rest) → TakesStretch AfterRoot rest a → a.1 ≡ [] → IsReading bs (whole_nodes b.0 u a.0)
document_sound bs u rest b a t tb e ta none =
    let s = element_sound b.1 u rest e in
    let behind : rest ≡ a.0 = ta.whole ∙ ap (λ (z : List ℕ). a.0 ++ z) none ∙ append-nil a.0 in
    let whole : text (bytes_or_none b.0 ⊕ (u ⊕ bytes_or_none a.0)) ≡ bs = whole_then b.0 a.0 u ∙ ap (λ (z : List ℕ). b.0 ++ tree_then u z) (sym behind) ∙ ap (λ (z : List ℕ). b.0 ++ z) s.whole ∙ sym tb.whole in
    let P : Nodes → Type 0 = λ x. AreLegal [] x in
    record {
      text = whole;
      characters = t;
      document = record {
        before = bytes_or_none b.0;
        root = s.one.tag;
        kids = s.one.kids;
        after = bytes_or_none a.0;
        whole = ap (λ (x : Nodes). bytes_or_none b.0 ⊕ (x ⊕ bytes_or_none a.0)) s.one.whole;
        is_before = tb.legal;
        is_root = subst P s.one.whole s.legal;
        is_after = ta.legal;
      };
    }

-- the nodes of a document are a reading of it
pub reading_of_document : (bs : List ℕ) (u : Nodes) → IsText bs → document_at bs ≡ Some u → IsReading bs u
unfolding document_at
reading_of_document bs u t e =
    let b = stretch_in BeforeRoot bs in
    let m = bind_some (element_at b.1) (document_from b.0) u e in
    let a = stretch_in AfterRoot m.0.1 in
    let c = cond_none (is_filled a.1) (whole_nodes b.0 m.0.0 a.0) u m.2 in
    let P : Nodes → Type 0 = IsReading bs in
    subst P c.1 (document_sound bs m.0.0 m.0.1 b a t (stretch_takes BeforeRoot bs) m.1 (stretch_takes AfterRoot m.0.1) (unfilled a.1 c.0))

-- ---- each reading is read

document_again : (tag : Tag) (kids : Nodes) (b a : List ℕ) → AreLegal [] (element tag kids no_nodes) → ((b ≡ []) ⊎ IsStretch BeforeRoot b) → ((a ≡ []) ⊎ IsStretch AfterRoot a)
    → document_at (b ++ tree_then (element tag kids no_nodes) a) ≡ Some (bytes_or_none b ⊕ (element tag kids no_nodes ⊕ bytes_or_none a))
document_again tag kids b a h hb ha =
    let r : Nodes = element tag kids no_nodes in
    let root : List ℕ = tree_then r a in
    let before : Some (stretch_in BeforeRoot (b ++ root)) ≡ Some (b, root) = ap (λ (x : List ℕ × List ℕ). Some x) (stretch_again BeforeRoot b root hb (start_ends_stretch (name_of tag) (tag.tail ++ close_then tag tag.close (tree_then kids) a) h.0.name) (root_is_no_stretch BeforeRoot tag kids a h)) in
    let after : Some (stretch_in AfterRoot a) ≡ Some (a, []) = ap (λ (x : List ℕ). Some (stretch_in AfterRoot x)) (sym (append-nil a)) ∙ ap (λ (x : List ℕ × List ℕ). Some x) (stretch_again AfterRoot a [] ha refl (stretch_in_nothing AfterRoot)) in
    document_is (b ++ root) b root r a a [] before (element_again tag kids a h) after refl

pub document_of_reading : (bs : List ℕ) (u : Nodes) → IsReading bs u → document_at bs ≡ Some u
document_of_reading bs u h =
    let d = h.document in
    let b = has_bytes BeforeRoot d.before d.is_before in
    let a = has_bytes AfterRoot d.after d.is_after in
    let r : Nodes = element d.root d.kids no_nodes in
    let parts : u ≡ bytes_or_none b.bytes_of ⊕ (r ⊕ bytes_or_none a.bytes_of) = d.whole ∙ ap (λ (x : Nodes). x ⊕ element d.root d.kids d.after) b.is ∙ ap (λ (x : Nodes). bytes_or_none b.bytes_of ⊕ element d.root d.kids x) a.is in
    let whole : b.bytes_of ++ tree_then r a.bytes_of ≡ bs = sym (whole_then b.bytes_of a.bytes_of r) ∙ ap text (sym parts) ∙ h.text in
    ap document_at (sym whole) ∙ document_again d.root d.kids b.bytes_of a.bytes_of d.is_root b.legal a.legal ∙ ap (λ (x : Nodes). Some x) (sym parts)

-- a text has at most one tree
pub one_tree : (bs : List ℕ) (u v : Nodes) → IsReading bs u → IsReading bs v → u ≡ v
one_tree bs u v hu hv = same_Some u v (sym (document_of_reading bs u hu) ∙ document_of_reading bs v hv)

-- what is no document has no reading
pub no_document : (bs : List ℕ) → document_at bs ≡ None → (u : Nodes) → IsReading bs u → ⊥
no_document bs e u h = none-some u (sym e ∙ document_of_reading bs u h)

-- ---- sizes

pub no_sizes : (limit : ℕ) (bs : List ℕ) → sizes_at limit bs ≡ None → document_at bs ≡ None
no_sizes limit bs e = map_none (sizes_of limit) (document_at bs) e

-- the sizes are those of a reading
pub record HasSizes (limit : ℕ) (bs : List ℕ) (x : ℕ × ℕ) : Type 0 where
  pub read : Nodes
  pub reading : IsReading bs read
  pub deepest : x.0 ≡ depth_of read
  pub nodes : x.1 ≡ capped limit (count read)

pub has_sizes : (limit : ℕ) (bs : List ℕ) (x : ℕ × ℕ) → IsText bs → sizes_at limit bs ≡ Some x → HasSizes limit bs x
has_sizes limit bs x t e =
    let m = map_some (sizes_of limit) (document_at bs) x e in
    record {
      read = m.0;
      reading = reading_of_document bs m.0 t m.1;
      deepest = ap (λ (y : ℕ × ℕ). y.0) (sym m.2);
      nodes = ap (λ (y : ℕ × ℕ). y.1) (sym m.2);
    }
