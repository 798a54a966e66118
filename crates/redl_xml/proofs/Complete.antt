-- A legal element with which the bytes begin is read.
use Rattle.std.proofs.Common.{◌≡◌, ℕ, suc, true, false, List, [], ◌∷◌, ◌++◌, length, drop, Some, None, refl, sym, ap, subst, ◌∙◌, arith}
use Rattle.redl_tree.specs.Model.Nodes.{Tag, Nodes, no_nodes, bytes, element, ◌⊕◌}
use Rattle.redl_tree.specs.declared.kinds.Space.{Space}
use Rattle.redl_tree.specs.declared.kinds.Kind.{Kind}
use Rattle.redl_tree.specs.declared.kinds.Kind.TheVariants.{Plain}
use Rattle.redl_tree.specs.Model.Nodes.{Close, Empty, End}
use Rattle.redl_tree.proofs.Model.Laws.{⊕-no_nodes, ⊕_assoc}
use Rattle.redl_grammar.specs.declared.section.Section.TheVariants.{InElement}
use Rattle.redl_reading.specs.Steps.{turns}
use Rattle.redl_grammar.specs.Names.{Name, name_text, name_eq}
use Rattle.redl_grammar.specs.Stretches.{ends_stretch}
use Rattle.redl_grammar.specs.Pieces.{Piece, start_tag, empty_tag, end_tag, stretch, piece_then, IsPiece, Follows}
use Rattle.std.proofs.lemmas.Bool.{and_from}
use Rattle.redl_reading.proofs.Turns.{enough}
use Rattle.redl_grammar.proofs.Pieces.{piece_again, start_ends_stretch, end_ends_stretch}
use Rattle.redl_xml.specs.Shapes.{begins_with_bytes}
use Rattle.redl_xml.specs.Scopes.{Scope, scope_in, space_of}
use Rattle.redl_xml.specs.Readings.{name_of, IsTag, ClosesBy, AreLegal}
use Rattle.redl_xml.specs.Inside.Elements.{declared_in, Frame, State, plain_tag, placed, finished, nothing_yet, Point, element_step, element_at}
use Rattle.redl_xml.proofs.Scoping.{MayEnter, entered_again, left_again}
use Rattle.redl_xml.proofs.Buildings.{state}
use Rattle.redl_xml.proofs.Loops.{size, shrinks, step_goes, step_ends}
use Rattle.redl_tree.proofs.Model.TreeTexts.{close_then, tree_then}
use Rattle.redl_tree.proofs.Reading.SameBytes.{bytes_same}

-- the turns from a point give this, in some number
record Gets (p : Point) (u : Nodes) (rest : List ℕ) : Type 0 where
  turns_taken : ℕ
  gets : turns element_step turns_taken p ≡ Some (u, rest)

-- a piece with which the bytes begin is placed, and an element is still open
one_piece : (p : Piece) (y : List ℕ) (s s' : State) (u : Nodes) (rest : List ℕ) → IsPiece InElement p → Follows p y → placed p s ≡ Some s' → finished s' ≡ None → Gets (y, s') u rest → Gets (piece_then p y, s) u rest
one_piece p y s s' u rest h f e none g = record {
  turns_taken = suc g.turns_taken;
  gets = rw (step_goes (piece_then p y) s s' (p, y) (piece_again InElement p y h f) e none) g.gets;
}

-- the piece that finishes the element
last_piece : (p : Piece) (y : List ℕ) (s s' : State) (u : Nodes) → IsPiece InElement p → Follows p y → placed p s ≡ Some s' → finished s' ≡ Some u → Gets (piece_then p y, s) u y
last_piece p y s s' u h f e some = record {
  turns_taken = 1;
  gets = rw (step_ends (piece_then p y) s s' (p, y) u (piece_again InElement p y h f) e some) refl;
}

-- ---- one element

pub name_same : (n : Name) → name_eq n n ≡ true
name_same n = and_from _ _ (bytes_same n.prefix) (bytes_same n.local)

may_enter : (scope : Scope) (tag : Tag) → IsTag scope tag → MayEnter scope (name_of tag) tag.tail
may_enter scope tag h = record { declarations = h.declarations; prefix = h.prefix; prefixes = h.prefixes }

abbrev tag_with : Tag → Space → Kind → ℕ → Close → Tag
tag_with tag space kind rev close = record {
  prefix = tag.prefix;
  local = tag.local;
  space = space;
  tail = tag.tail;
  close = close;
  kind = kind;
  rev = rev;
}

abbrev tag_in : Scope → Tag → Close → Tag
tag_in scope tag close = plain_tag (name_of tag) (space_of (scope_in tag.tail scope) tag.prefix) tag.tail close

-- a legal tag is known by its name, its tail and its close
tag_is : (scope : Scope) (tag : Tag) (close : Close) → IsTag scope tag → tag.close ≡ close → tag ≡ tag_in scope tag close
tag_is scope tag close h e =
    let space : Space = space_of (scope_in tag.tail scope) tag.prefix in
    ap (λ (s : Space). tag_with tag s tag.kind tag.rev tag.close) h.space ∙ ap (λ (k : Kind). tag_with tag space k tag.rev tag.close) h.kind ∙ ap (λ (r : ℕ). tag_with tag space Plain r tag.close) h.rev ∙ ap (tag_with tag space Plain 0) e

abbrev pub opens : Tag → Scope → Nodes → Frame
opens tag scope before = record { name = name_of tag; tail = tag.tail; declared = declared_in tag.tail; space = space_of (scope_in tag.tail scope) tag.prefix; before = before }

pub start_placed : (scope : Scope) (tag : Tag) (fs : List Frame) (before : Nodes) → IsTag scope tag → placed (start_tag (name_of tag) tag.tail) (state fs before scope) ≡ Some (state (opens tag scope before ∷ fs) no_nodes (scope_in tag.tail scope))
start_placed scope tag fs before h = rw (entered_again scope (name_of tag) tag.tail (may_enter scope tag h)) refl

pub empty_placed : (scope : Scope) (tag : Tag) (kids : Nodes) (fs : List Frame) (before : Nodes) → IsTag scope tag → tag.close ≡ Empty → kids ≡ no_nodes → placed (empty_tag (name_of tag) tag.tail) (state fs before scope) ≡ Some (state fs (before ⊕ element tag kids no_nodes) scope)
empty_placed scope tag kids fs before h e none =
    let same : element tag kids no_nodes ≡ element (tag_in scope tag Empty) no_nodes no_nodes = ap (λ (t : Tag). element t kids no_nodes) (tag_is scope tag Empty h e) ∙ ap (λ (x : Nodes). element (tag_in scope tag Empty) x no_nodes) none in
    rw (entered_again scope (name_of tag) tag.tail (may_enter scope tag h)) (ap (λ (x : Nodes). Some (state fs (before ⊕ x) scope)) (sym same))

pub end_placed : (scope : Scope) (tag : Tag) (kids : Nodes) (space : List ℕ) (fs : List Frame) (before : Nodes) → IsTag scope tag → tag.close ≡ End space → placed (end_tag (name_of tag) space) (state (opens tag scope before ∷ fs) kids (scope_in tag.tail scope)) ≡ Some (state fs (before ⊕ element tag kids no_nodes) scope)
end_placed scope tag kids space fs before h e =
    let same : element tag kids no_nodes ≡ element (tag_in scope tag (End space)) kids no_nodes = ap (λ (t : Tag). element t kids no_nodes) (tag_is scope tag (End space) h e) in
    rw (name_same (name_of tag)) (ap (λ (x : Nodes). Some (state fs (before ⊕ x) (drop (declared_in tag.tail) (scope_in tag.tail scope)))) (sym same) ∙ ap (λ (sc : Scope). Some (state fs (before ⊕ element tag kids no_nodes) sc)) (left_again tag.tail scope))

-- before nodes that begin with an element a stretch of text ends
pub nodes_end_stretch : (scope : Scope) (x : Nodes) (y : List ℕ) → AreLegal scope x → begins_with_bytes x ≡ false → ends_stretch y ≡ true → ends_stretch (tree_then x y) ≡ true
nodes_end_stretch scope no_nodes y h first end = end
nodes_end_stretch scope (bytes b rest) y h first end = absurd cc
nodes_end_stretch scope (element tag kids rest) y h first end = start_ends_stretch (name_of tag) (tag.tail ++ close_then tag tag.close (tree_then kids) (tree_then rest y)) h.0.name

-- an element in another one, of whose kids and of whose rest this is known
element_gets : (scope : Scope) (tag : Tag) (kids : Nodes) (z : List ℕ) (f : Frame) (fs : List Frame) (before u : Nodes) (rest : List ℕ) (close : Close) → tag.close ≡ close → IsTag scope tag → ClosesBy close kids
    → ((y : List ℕ) (g : Frame) (gs : List Frame) → ends_stretch y ≡ true → Gets (y, state (g ∷ gs) kids (scope_in tag.tail scope)) u rest → Gets (tree_then kids y, state (g ∷ gs) no_nodes (scope_in tag.tail scope)) u rest)
    → Gets (z, state (f ∷ fs) (before ⊕ element tag kids no_nodes) scope) u rest
    → Gets (60 ∷ (name_text (name_of tag) ++ (tag.tail ++ close_then tag close (tree_then kids) z)), state (f ∷ fs) before scope) u rest
element_gets scope tag kids z f fs before u rest Empty e h fits inside_gets more =
    one_piece (empty_tag (name_of tag) tag.tail) z (state (f ∷ fs) before scope) (state (f ∷ fs) (before ⊕ element tag kids no_nodes) scope) u rest (h.name, h.tail) tt (empty_placed scope tag kids (f ∷ fs) before h e fits) refl more
element_gets scope tag kids z f fs before u rest (End space) e h fits inside_gets more =
    let frame = opens tag scope before in
    let inner = scope_in tag.tail scope in
    let behind : List ℕ = piece_then (end_tag (name_of tag) space) z in
    let ended = one_piece (end_tag (name_of tag) space) z (state (frame ∷ f ∷ fs) kids inner) (state (f ∷ fs) (before ⊕ element tag kids no_nodes) scope) u rest (h.name, fits) tt (end_placed scope tag kids space (f ∷ fs) before h e) refl more in
    let kids_got = inside_gets behind frame (f ∷ fs) (end_ends_stretch (name_text (name_of tag) ++ (space ++ (62 ∷ z)))) ended in
    one_piece (start_tag (name_of tag) tag.tail) (tree_then kids behind) (state (f ∷ fs) before scope) (state (frame ∷ f ∷ fs) no_nodes inner) u rest (h.name, h.tail) tt (start_placed scope tag (f ∷ fs) before h) refl kids_got

nodes_get : (scope : Scope) (x : Nodes) (y : List ℕ) (f : Frame) (fs : List Frame) (before u : Nodes) (rest : List ℕ) → AreLegal scope x → ends_stretch y ≡ true → Gets (y, state (f ∷ fs) (before ⊕ x) scope) u rest → Gets (tree_then x y, state (f ∷ fs) before scope) u rest
nodes_get scope no_nodes y f fs before u rest h end g = let P : Nodes → Type 0 = λ k. Gets (y, state (f ∷ fs) k scope) u rest in subst P (⊕-no_nodes before) g
nodes_get scope (bytes b more) y f fs before u rest h end g =
    let P : Nodes → Type 0 = λ k. Gets (y, state (f ∷ fs) k scope) u rest in
    let next_gets = nodes_get scope more y f fs (before ⊕ bytes b no_nodes) u rest h.2 end (subst P (sym (⊕_assoc before (bytes b no_nodes) more)) g) in
    one_piece (stretch b) (tree_then more y) (state (f ∷ fs) before scope) (state (f ∷ fs) (before ⊕ bytes b no_nodes) scope) u rest h.0 (nodes_end_stretch scope more y h.2 h.1 end) refl refl next_gets
nodes_get scope (element tag kids more) y f fs before u rest h end g =
    let P : Nodes → Type 0 = λ k. Gets (y, state (f ∷ fs) k scope) u rest in
    let next_gets = nodes_get scope more y f fs (before ⊕ element tag kids no_nodes) u rest h.3 end (subst P (sym (⊕_assoc before (element tag kids no_nodes) more)) g) in
    element_gets scope tag kids (tree_then more y) f fs before u rest tag.close refl h.0 h.1 (λ z g gs. nodes_get (scope_in tag.tail scope) kids z g gs no_nodes u rest h.2) next_gets

-- ---- the root

root_gets : (tag : Tag) (kids : Nodes) (y : List ℕ) (close : Close) → tag.close ≡ close → IsTag [] tag → ClosesBy close kids → AreLegal (scope_in tag.tail []) kids
    → Gets (60 ∷ (name_text (name_of tag) ++ (tag.tail ++ close_then tag close (tree_then kids) y)), nothing_yet) (element tag kids no_nodes) y
root_gets tag kids y Empty e h fits k =
    last_piece (empty_tag (name_of tag) tag.tail) y nothing_yet (state [] (element tag kids no_nodes) []) (element tag kids no_nodes) (h.name, h.tail) tt (empty_placed [] tag kids [] no_nodes h e fits) refl
root_gets tag kids y (End space) e h fits k =
    let frame = opens tag [] no_nodes in
    let inner = scope_in tag.tail [] in
    let u : Nodes = element tag kids no_nodes in
    let behind : List ℕ = piece_then (end_tag (name_of tag) space) y in
    let ended = last_piece (end_tag (name_of tag) space) y (state (frame ∷ []) kids inner) (state [] u []) u (h.name, fits) tt (end_placed [] tag kids space [] no_nodes h e) refl in
    let kids_got = nodes_get inner kids behind frame [] no_nodes u y k (end_ends_stretch (name_text (name_of tag) ++ (space ++ (62 ∷ y)))) ended in
    one_piece (start_tag (name_of tag) tag.tail) (tree_then kids behind) nothing_yet (state (frame ∷ []) no_nodes inner) u y (h.name, h.tail) tt (start_placed [] tag [] no_nodes h) refl kids_got

-- an element with which the bytes begin is read, and all that follows it is left
pub element_again : (tag : Tag) (kids : Nodes) (y : List ℕ) → AreLegal [] (element tag kids no_nodes) → element_at (tree_then (element tag kids no_nodes) y) ≡ Some (element tag kids no_nodes, y)
unfolding element_at
element_again tag kids y h =
    let g = root_gets tag kids y tag.close refl h.0 h.1 h.2 in
    enough element_step size shrinks g.turns_taken (suc (length (tree_then (element tag kids no_nodes) y))) (tree_then (element tag kids no_nodes) y, nothing_yet) (element tag kids no_nodes, y) g.gets (omega arith)
