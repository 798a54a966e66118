-- What comes first in a text of one space: the node that its first piece begins, the text of its kids, and the rest.
use Rattle.std.proofs.Common.{◌≡◌, ℕ, true, List, [], Option, Some, None, refl, sym, ap, subst, ◌∙◌, arith}
use Rattle.std.proofs.lemmas.Option.{same_Some}
use Rattle.redl_tree.specs.Model.Nodes.{Tag, Nodes, no_nodes, bytes, element, Close, Empty, End}
use Rattle.redl_tree.specs.declared.kinds.Space.{Space}
use Rattle.redl_grammar.specs.declared.section.Section.TheVariants.{InElement}
use Rattle.redl_reading.specs.Steps.{or_same}
use Rattle.redl_grammar.specs.References.{is_there}
use Rattle.redl_grammar.specs.Pieces.{Piece, start_tag, empty_tag, end_tag, stretch, piece_then}
use Rattle.redl_grammar.specs.ScanPieces.{piece_at}
use Rattle.redl_grammar.proofs.Pieces.{piece_again, piece_shorter}
use Rattle.redl_tree.specs.Model.Text.{text}
use Rattle.redl_tree.specs.Model.Folds.{plain_tag, nodes_in, Reads}
use Rattle.redl_laid.specs.Inside.Fronts.{IsFront}
use Rattle.redl_tree.specs.Model.Laid.{name_of, ClosesBy, IsLaidTag, AreLaid}
use Rattle.redl_tree.proofs.Model.TreeTexts.{tree_then, tree-then}
use Rattle.redl_tree.proofs.Reading.FoldLaws.{laid_end_stretch, nodes_again, nodes_are_laid, text_of_nodes_in, tag_is, tree-text}

-- the rest of a text and the nodes in it
pub record IsRest (space : Space) (rest : List ℕ) (later : Nodes) : Type 0 where
  pub reads : Reads space rest
  pub nodes : nodes_in space rest ≡ later

rest_of : (space : Space) (u : Nodes) → AreLaid space u → IsRest space (tree_then u []) u
rest_of space u h =
    let e = nodes_again space u h in
    record { reads = ap is_there e; nodes = ap (λ (o : Option Nodes). or_same o no_nodes) e }

-- the first piece of the text of some nodes, and what follows it
abbrev close_first : Tag → Close → Nodes → Nodes → Piece × List ℕ
close_first tag Empty kids more = (empty_tag (name_of tag) tag.tail, tree_then more [])
close_first tag (End white) kids more = (start_tag (name_of tag) tag.tail, tree_then kids (piece_then (end_tag (name_of tag) white) (tree_then more [])))

abbrev first_piece : Nodes → Option (Piece × List ℕ)
first_piece no_nodes = None
first_piece (bytes b more) = Some (stretch b, tree_then more [])
first_piece (element tag kids more) = Some (close_first tag tag.close kids more)

no_piece : (o : Option (Piece × List ℕ)) → piece_at InElement [] ≡ o → o ≡ None
no_piece None e = refl
no_piece (Some x) e = let h = piece_shorter InElement [] x e in absurd (omega (arith, h))

close_read : (space : Space) (tag : Tag) (kids more : Nodes) (close : Close) → tag.close ≡ close → IsLaidTag space tag → ClosesBy close kids → piece_at InElement (tree_then (element (record tag { close = close }) kids more) []) ≡ Some (close_first tag close kids more)
close_read space tag kids more Empty e h fits = piece_again InElement (empty_tag (name_of tag) tag.tail) (tree_then more []) (h.name, h.tail) tt
close_read space tag kids more (End white) e h fits = piece_again InElement (start_tag (name_of tag) tag.tail) (tree_then kids (piece_then (end_tag (name_of tag) white) (tree_then more []))) (h.name, h.tail) tt

first_read : (space : Space) (u : Nodes) → AreLaid space u → piece_at InElement (tree_then u []) ≡ first_piece u
first_read space no_nodes h = no_piece (piece_at InElement []) refl
first_read space (bytes b more) h = piece_again InElement (stretch b) (tree_then more []) h.0 (laid_end_stretch space more [] h.2 h.1 (λ e. refl))
first_read space (element tag kids more) h = close_read space tag kids more tag.close refl h.0 h.1

-- ---- what it tells of the nodes

-- the text of some nodes is read as them
text_reads : (space : Space) (u : Nodes) → AreLaid space u → IsRest space (text u) u
text_reads space u h = let P : List ℕ → Type 0 = λ t. IsRest space t u in subst P (sym (tree-text u)) (rest_of space u h)

close_front : (space : Space) (tag : Tag) (kids more : Nodes) (close : Close) → tag.close ≡ close → IsLaidTag space tag → ClosesBy close kids → AreLaid space kids → AreLaid space more
    → IsFront space (element tag kids more) (close_first tag close kids more).0 (close_first tag close kids more).1
close_front space tag kids more Empty e h none k m =
    let r = rest_of space more m in (
      r.reads,
      ap (λ (t : Tag). element t kids more) (tag_is space tag Empty h e)
          ∙ ap (λ (x : Nodes). element (plain_tag (name_of tag) space tag.tail Empty) x more) none
          ∙ ap (element (plain_tag (name_of tag) space tag.tail Empty) no_nodes) (sym r.nodes),
    )
close_front space tag kids more (End white) e h fits k m =
    let r = rest_of space more m in
    let inside = text_reads space kids k in
    let own = plain_tag (name_of tag) space tag.tail (End white) in
    record {
      kids = record {
        name = name_of tag;
        inner = text kids;
        white = white;
        rest = tree_then more [];
        whole = sym (tree-then kids (piece_then (end_tag (name_of tag) white) (tree_then more [])));
        legal = (h.name, fits);
        inner_reads = inside.reads;
        rest_reads = r.reads;
      };
      parts = ap (λ (t : Tag). element t kids more) (tag_is space tag (End white) h e) ∙ ap (λ (x : Nodes). element own x more) (sym inside.nodes) ∙ ap (element own (nodes_in space (text kids))) (sym r.nodes);
    }

front_of : (space : Space) (u : Nodes) → AreLaid space u → (x : Piece × List ℕ) → first_piece u ≡ Some x → IsFront space u x.0 x.1
front_of space no_nodes h x e = absurd cc
front_of space (bytes b more) h x e =
    let r = rest_of space more h.2 in
    let P : Piece × List ℕ → Type 0 = λ y. IsFront space (bytes b more) y.0 y.1 in
    subst P (same_Some (stretch b, tree_then more []) x e) (r.reads, ap (bytes b) (sym r.nodes))
front_of space (element tag kids more) h x e =
    let P : Piece × List ℕ → Type 0 = λ y. IsFront space (element tag kids more) y.0 y.1 in
    subst P (same_Some (close_first tag tag.close kids more) x e) (close_front space tag kids more tag.close refl h.0 h.1 h.2 h.3)

whole_text : (space : Space) (t : List ℕ) → Reads space t → tree_then (nodes_in space t) [] ≡ t
whole_text space t r = sym (tree-text (nodes_in space t)) ∙ text_of_nodes_in space t r

-- the first piece of a text that is read to its end tells its first node
pub front : (space : Space) (t : List ℕ) (x : Piece × List ℕ) → Reads space t → piece_at InElement t ≡ Some x → IsFront space (nodes_in space t) x.0 x.1
front space t x r e =
    front_of space (nodes_in space t) (nodes_are_laid space t r) x
    (sym (first_read space (nodes_in space t) (nodes_are_laid space t r)) ∙ ap (piece_at InElement) (whole_text space t r) ∙ e)

nodes_there : (u : Nodes) → (tree_then u [] ≡ [] → ⊥) → is_there (first_piece u) ≡ true
nodes_there no_nodes some = absurd (some refl)
nodes_there (bytes b more) some = refl
nodes_there (element tag kids more) some = refl

-- there is one, unless the text is empty
pub front_there : (space : Space) (t : List ℕ) → Reads space t → (t ≡ [] → ⊥) → is_there (piece_at InElement t) ≡ true
front_there space t r some =
    let w = whole_text space t r in
    ap is_there (ap (piece_at InElement) (sym w) ∙ first_read space (nodes_in space t) (nodes_are_laid space t r))
    ∙ nodes_there (nodes_in space t) (λ e. some (sym w ∙ e))
