-- States that are alike but for their nodes: a piece does the same to both.
use Rattle.std.proofs.Common.{◌≡◌, Bool, true, false, cond, List, [], ◌∷◌, length, drop, map, ℕ, Option, Some, None, refl, sym, ap, ◌∙◌}
use Rattle.std.specs.Option.{option_map}
use Rattle.std.proofs.lemmas.List.{length-map}
use Rattle.redl_reading.proofs.Options.{map_some, map_none}
use Rattle.redl_tree.specs.Model.Nodes.{Nodes, no_nodes, Empty, End, ◌⊕◌}
use Rattle.redl_reading.specs.Steps.{◌>>=◌}
use Rattle.redl_grammar.specs.Names.{Name, name_eq}
use Rattle.redl_grammar.specs.Pieces.{Piece, start_tag, empty_tag, end_tag, stretch}
use Rattle.redl_xml.specs.Scopes.{Scope}
use Rattle.redl_xml.specs.Inside.Elements.{Frame, State, bare, without_nodes, one_element, entered, declared_in, added, opened, closed, stretched, placed}
use Rattle.redl_xml.proofs.Buildings.{state}

bare-again : (fs : List Frame) → map bare (map bare fs) ≡ map bare fs
bare-again [] = refl
bare-again (f ∷ fs) = ap (λ (gs : List Frame). bare f ∷ gs) (bare-again fs)

without-again : (s : State) → without_nodes (without_nodes s) ≡ without_nodes s
without-again s = ap (λ (fs : List Frame). state fs no_nodes s.scope) (bare-again s.open_elements)

-- ---- one piece, with the nodes and without them

same_map : {A B C : Type 0} (f : B → C) (o : Option A) (g h : A → B) → ((x : A) → f (g x) ≡ f (h x)) → option_map f (o >>= λ x. Some (g x)) ≡ option_map f (o >>= λ x. Some (h x))
same_map f None g h e = refl
same_map f (Some x) g h e = ap (λ y. Some y) (e x)

bare_stretch : (fs : List Frame) (s : State) (b : List ℕ) → option_map without_nodes (stretched (map bare fs) (without_nodes s) b) ≡ option_map without_nodes (stretched fs s b)
bare_stretch [] s b = refl
bare_stretch (f ∷ fs) s b = ap (λ (t : State). Some t) (without-again s)

bare_end : (fs : List Frame) (kids : Nodes) (scope : Scope) (name : Name) (space : List ℕ) → option_map without_nodes (closed (map bare fs) no_nodes scope name space) ≡ option_map without_nodes (closed fs kids scope name space)
bare_end [] kids scope name space = refl
bare_end (f ∷ fs) kids scope name space = of (name_eq f.name name) where
  without : State
  without = state (map bare fs) (one_element f.name f.space f.tail (End space) no_nodes) (drop f.declared scope)

  with_nodes : State
  with_nodes = state fs (f.before ⊕ one_element f.name f.space f.tail (End space) kids) (drop f.declared scope)

  of : (t : Bool) → option_map without_nodes (cond t (Some without) None) ≡ option_map without_nodes (cond t (Some with_nodes) None)
  of true = ap (λ (gs : List Frame). Some (state gs no_nodes (drop f.declared scope))) (bare-again fs)
  of false = refl

placed_bare : (p : Piece) (s : State) → option_map without_nodes (placed p (without_nodes s)) ≡ option_map without_nodes (placed p s)
placed_bare (start_tag name tail) s =
    same_map without_nodes (entered s.scope name tail) (opened name tail (without_nodes s)) (opened name tail s)
    (λ x. ap (λ (fs : List Frame). state (record { name = name; tail = tail; declared = declared_in tail; space = x.0; before = no_nodes } ∷ fs) no_nodes x.1) (bare-again s.open_elements))
placed_bare (empty_tag name tail) s =
    same_map without_nodes (entered s.scope name tail) (λ x. added (without_nodes s) (one_element name x.0 tail Empty no_nodes)) (λ x. added s (one_element name x.0 tail Empty no_nodes)) (λ x. without-again s)
placed_bare (stretch b) s = bare_stretch s.open_elements s b
placed_bare (end_tag name space) s = bare_end s.open_elements s.kids s.scope name space

placed_alike : (p : Piece) (s t : State) → without_nodes s ≡ without_nodes t → option_map without_nodes (placed p s) ≡ option_map without_nodes (placed p t)
placed_alike p s t e = sym (placed_bare p s) ∙ ap (λ (r : State). option_map without_nodes (placed p r)) e ∙ placed_bare p t

-- ---- states that are alike

-- what a piece makes of the one, it makes of the other
pub next_alike : (p : Piece) (s t s' : State) → without_nodes s ≡ without_nodes t → placed p s ≡ Some s' → (t' : State) × (placed p t ≡ Some t') × (without_nodes t' ≡ without_nodes s')
next_alike p s t s' e h = map_some without_nodes (placed p t) (without_nodes s') (sym (placed_alike p s t e) ∙ ap (option_map without_nodes) h)

pub refused_alike : (p : Piece) (s t : State) → without_nodes s ≡ without_nodes t → placed p s ≡ None → placed p t ≡ None
refused_alike p s t e h = map_none without_nodes (placed p t) (sym (placed_alike p s t e) ∙ ap (option_map without_nodes) h)

pub open_alike : (s t : State) → without_nodes s ≡ without_nodes t → length s.open_elements ≡ length t.open_elements
open_alike s t e = sym (length-map s.open_elements bare) ∙ ap (λ (r : State). length r.open_elements) e ∙ length-map t.open_elements bare
