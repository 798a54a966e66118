-- Where the prefixes of a text's elements have its space and nothing is declared, the turns of a reading add its nodes, and leave the rest of the state.
use Rattle.std.proofs.Common.{◌≡◌, ℕ, false, List, ◌∷◌, ◌++◌, Some, None, refl, sym, ap, subst, ◌∙◌}
use Rattle.redl_tree.specs.Model.Nodes.{Tag, Nodes, no_nodes, bytes, element, ◌⊕◌}
use Rattle.redl_tree.specs.Model.Nodes.{Close, Empty, End}
use Rattle.redl_tree.specs.declared.kinds.Space.{Space}
use Rattle.redl_tree.proofs.Model.Laws.{⊕-no_nodes, ⊕_assoc}
use Rattle.redl_grammar.specs.declared.section.Section.TheVariants.{InElement}
use Rattle.redl_grammar.specs.Names.{name_text}
use Rattle.redl_grammar.specs.Pieces.{Piece, start_tag, empty_tag, end_tag, stretch, piece_then, IsPiece, Follows}
use Rattle.redl_grammar.specs.ScanPieces.{piece_at}
use Rattle.redl_grammar.proofs.Pieces.{piece_again, end_ends_stretch}
use Rattle.redl_xml.specs.Shapes.{begins_with_bytes}
use Rattle.redl_xml.specs.Scopes.{Scope, scope_in}
use Rattle.redl_xml.specs.Readings.{name_of, IsTag, ClosesBy, AreLegal}
use Rattle.redl_xml.specs.Inside.Elements.{Frame, State, entered, known, placed, finished, Point}
use Rattle.redl_tree.specs.Model.Folds.{nodes_in, Reads}
use Rattle.redl_xml.specs.Inside.Passing.{IsPlainIn, ArePlainIn}
use Rattle.redl_tree.specs.Model.Laid.{Fits, IsLaidTag, AreLaid}
use Rattle.redl_xml.proofs.Scoping.{entered_takes, plain_entered}
use Rattle.redl_xml.proofs.Buildings.{state}
use Rattle.redl_xml.proofs.Loops.{Loop, loop_goes}
use Rattle.redl_tree.proofs.Model.TreeTexts.{close_then, tree_then, tree-then}
use Rattle.redl_xml.proofs.Complete.{opens, start_placed, empty_placed, end_placed}
use Rattle.redl_tree.proofs.Reading.FoldLaws.{laid_end_stretch, text_of_nodes_in, nodes_are_laid}

-- ---- tags in a scope in which they have this space and declare nothing

plain_known : (scope : Scope) (space : Space) (tag : Tag) → IsPlainIn scope space tag → entered scope (name_of tag) tag.tail ≡ Some (space, scope)
unfolding known
plain_known scope space tag h =
    plain_entered scope (name_of tag) tag.tail h.names ∙ rw h.prefix (ap (λ (x : Space). Some (x, scope)) h.bound)

record Stays (scope : Scope) (space : Space) (tag : Tag) : Type 0 where
  scope_stays : scope_in tag.tail scope ≡ scope
  is_tag : IsTag scope tag

stays : (scope : Scope) (space : Space) (tag : Tag) → IsLaidTag space tag → IsPlainIn scope space tag → Stays scope space tag
stays scope space tag l h =
    let t = entered_takes scope (name_of tag) tag.tail (space, scope) (plain_known scope space tag h) in
    let m = t.0 in
    record {
      scope_stays = ap (λ (x : Space × Scope). x.1) t.1;
      is_tag = record {
        name = l.name;
        tail = l.tail;
        declarations = m.declarations;
        prefix = m.prefix;
        prefixes = m.prefixes;
        space = l.of_space ∙ ap (λ (x : Space × Scope). x.0) (sym t.1);
        kind = l.kind;
        rev = l.rev;
      };
    }

pub laid_legal : (scope : Scope) (space : Space) (x : Nodes) → AreLaid space x → ArePlainIn scope space x → AreLegal scope x
laid_legal scope space no_nodes l h = tt
laid_legal scope space (bytes b rest) l h = (l.0, l.1, laid_legal scope space rest l.2 h)
laid_legal scope space (element tag kids rest) l h =
    let s = stays scope space tag l.0 h.0 in
    let P : Scope → Type 0 = λ sc. AreLegal sc kids in
    (s.is_tag, l.1, subst P (sym s.scope_stays) (laid_legal scope space kids l.2 h.1), laid_legal scope space rest l.3 h.2)

-- ---- the turns

-- what holds at a point holds after a turn that goes on
abbrev pub GoesOn : (Point → Type 0) → Type 0
GoesOn P = (bs : List ℕ) (s s' : State) (x : Piece × List ℕ) → P (bs, s) → piece_at InElement bs ≡ Some x → placed x.0 s ≡ Some s' → finished s' ≡ None → P (x.1, s')

past : (P : Point → Type 0) → GoesOn P → (p : Piece) (y : List ℕ) (s s' : State) → IsPiece InElement p → Follows p y → placed p s ≡ Some s' → finished s' ≡ None → P (piece_then p y, s) → P (y, s')
past P go p y s s' h f e none g = go (piece_then p y) s s' (p, y) g (piece_again InElement p y h f) e none

element_goes : (P : Point → Type 0) → GoesOn P → (scope : Scope) (tag : Tag) (kids : Nodes) (z : List ℕ) (f : Frame) (fs : List Frame) (before : Nodes) (close : Close) → tag.close ≡ close → IsTag scope tag → ClosesBy close kids
    → ((y : List ℕ) (g : Frame) (gs : List Frame) → Fits kids y → P (tree_then kids y, state (g ∷ gs) no_nodes (scope_in tag.tail scope)) → P (y, state (g ∷ gs) kids (scope_in tag.tail scope)))
    → P (60 ∷ (name_text (name_of tag) ++ (tag.tail ++ close_then tag close (tree_then kids) z)), state (f ∷ fs) before scope)
    → P (z, state (f ∷ fs) (before ⊕ element tag kids no_nodes) scope)
element_goes P go scope tag kids z f fs before Empty e h fits through g =
    past P go (empty_tag (name_of tag) tag.tail) z (state (f ∷ fs) before scope) (state (f ∷ fs) (before ⊕ element tag kids no_nodes) scope) (h.name, h.tail) tt (empty_placed scope tag kids (f ∷ fs) before h e fits) refl g
element_goes P go scope tag kids z f fs before (End space) e h fits through g =
    let frame = opens tag scope before in
    let inner = scope_in tag.tail scope in
    let behind : List ℕ = piece_then (end_tag (name_of tag) space) z in
    let begun = past P go (start_tag (name_of tag) tag.tail) (tree_then kids behind) (state (f ∷ fs) before scope) (state (frame ∷ f ∷ fs) no_nodes inner) (h.name, h.tail) tt (start_placed scope tag (f ∷ fs) before h) refl g in
    let got = through behind frame (f ∷ fs) (λ yes. end_ends_stretch (name_text (name_of tag) ++ (space ++ (62 ∷ z)))) begun in
    past P go (end_tag (name_of tag) space) z (state (frame ∷ f ∷ fs) kids inner) (state (f ∷ fs) (before ⊕ element tag kids no_nodes) scope) (h.name, fits) tt (end_placed scope tag kids space (f ∷ fs) before h e) refl got

nodes_go : (P : Point → Type 0) → GoesOn P → (scope : Scope) (space : Space) (x : Nodes) (y : List ℕ) (f : Frame) (fs : List Frame) (before : Nodes) → AreLaid space x → ArePlainIn scope space x → Fits x y
    → P (tree_then x y, state (f ∷ fs) before scope) → P (y, state (f ∷ fs) (before ⊕ x) scope)
nodes_go P go scope space no_nodes y f fs before l h end g = let Q : Nodes → Type 0 = λ k. P (y, state (f ∷ fs) k scope) in subst Q (sym (⊕-no_nodes before)) g
nodes_go P go scope space (bytes b more) y f fs before l h end g =
    let Q : Nodes → Type 0 = λ k. P (y, state (f ∷ fs) k scope) in
    let step = past P go (stretch b) (tree_then more y) (state (f ∷ fs) before scope) (state (f ∷ fs) (before ⊕ bytes b no_nodes) scope) l.0 (laid_end_stretch space more y l.2 l.1 end) refl refl g in
    subst Q (⊕_assoc before (bytes b no_nodes) more) (nodes_go P go scope space more y f fs (before ⊕ bytes b no_nodes) l.2 h (later more l.1 end) step) where
      later : (more : Nodes) → begins_with_bytes more ≡ false → Fits (bytes b more) y → Fits more y
      later no_nodes first end = λ no. end refl
      later (bytes c rest) first end = absurd cc
      later (element tag kids rest) first end = end
nodes_go P go scope space (element tag kids more) y f fs before l h end g =
    let Q : Nodes → Type 0 = λ k. P (y, state (f ∷ fs) k scope) in
    let s = stays scope space tag l.0 h.0 in
    let R : Scope → Type 0 = λ sc. (z : List ℕ) (e : Frame) (es : List Frame) → Fits kids z → P (tree_then kids z, state (e ∷ es) no_nodes sc) → P (z, state (e ∷ es) kids sc) in
    let through = subst R (sym s.scope_stays) (λ z e es fits got. nodes_go P go scope space kids z e es no_nodes l.2 h.1 fits got) in
    let step = element_goes P go scope tag kids (tree_then more y) f fs before tag.close refl s.is_tag l.1 through g in
    subst Q (⊕_assoc before (element tag kids no_nodes) more) (nodes_go P go scope space more y f fs (before ⊕ element tag kids no_nodes) l.3 h.2 end step)

-- the law for a reader: what holds at a point before such a text holds behind it, with its nodes among the kids; the open elements and the scope are as they were
pub nodes_are_added : (P : Point → Type 0) → GoesOn P → (scope : Scope) (space : Space) (t rest : List ℕ) (f : Frame) (fs : List Frame) (before : Nodes) → Reads space t → ArePlainIn scope space (nodes_in space t) → Fits (nodes_in space t) rest
    → P (t ++ rest, state (f ∷ fs) before scope) → P (rest, state (f ∷ fs) (before ⊕ nodes_in space t) scope)
nodes_are_added P go scope space t rest f fs before r h fits g =
    let Q : List ℕ → Type 0 = λ bs. P (bs, state (f ∷ fs) before scope) in
    let whole : t ++ rest ≡ tree_then (nodes_in space t) rest = ap (λ (z : List ℕ). z ++ rest) (sym (text_of_nodes_in space t r)) ∙ tree-then (nodes_in space t) rest in
    nodes_go P go scope space (nodes_in space t) rest f fs before (nodes_are_laid space t r) h fits (subst Q whole g)

-- the same of the loop that reads an element
pub loop_passes : (bs : List ℕ) (scope : Scope) (space : Space) (t rest : List ℕ) (f : Frame) (fs : List Frame) (before : Nodes) → Reads space t → ArePlainIn scope space (nodes_in space t) → Fits (nodes_in space t) rest
    → Loop (t ++ rest, state (f ∷ fs) before scope) bs → Loop (rest, state (f ∷ fs) (before ⊕ nodes_in space t) scope) bs
loop_passes bs scope space t rest f fs before r h fits g =
    nodes_are_added (λ p. Loop p bs) (λ cs s s' x l e p none. loop_goes cs s s' bs x l e p none) scope space t rest f fs before r h fits g
