-- The loop that reads an element, over a text that was passed over: its nodes are added, and its sizes.
use Rattle.std.proofs.Common.{◌≡◌, ◌≢◌, ◌≤◌, ◌+◌, ℕ, max, List, [], ◌∷◌, ◌++◌, length, refl, sym, ap, subst, ◌∙◌, arith, inl, inr}
use Rattle.redl_tree.specs.Model.Nodes.{Nodes, ◌⊕◌}
use Rattle.redl_tree.specs.Model.Count.{count}
use Rattle.redl_tree.specs.declared.kinds.Space.{Space}
use Rattle.redl_tree.specs.declared.kinds.Space.TheVariants.{W}
use Rattle.redl_xml.specs.declared.sizes.Limits.{Limits}
use Rattle.redl_xml.specs.declared.sizes.Sizes.{Sizes}
use Rattle.redl_xml.specs.Shapes.{depth_of}
use Rattle.redl_xml.specs.Scopes.{Scope}
use Rattle.redl_xml.specs.Inside.Elements.{Frame, State, added, without_nodes}
use Rattle.redl_xml.specs.Inside.Sizes.{capped}
use Rattle.redl_tree.specs.Model.Folds.{nodes_in, Reads}
use Rattle.redl_tree.specs.Model.Laid.{Fits}
use Rattle.redl_xml.specs.Inside.Passing.{ArePlainIn, AddsText, GoesAhead}
use Rattle.redl_xml.proofs.Bare.{open_alike}
use Rattle.redl_xml.proofs.Buildings.{state}
use Rattle.redl_xml.proofs.Loops.{Loop}
use Rattle.redl_xml.proofs.Measures.{Measures, depth-⊕, count-⊕}
use Rattle.redl_xml.proofs.Progress.{IsRead}
use Rattle.redl_xml.proofs.FoldTurns.{loop_passes}

-- the sizes with these nodes in the innermost element
pub record AddsNodes (limit : ℕ) (u : Nodes) (depth : ℕ) (old new : Sizes) : Type 0 where
  pub deepest : new.deepest ≡ max old.deepest (depth + depth_of u)
  pub nodes : new.nodes ≡ capped limit (old.nodes + count u)

measures_nodes : (limit : ℕ) (u : Nodes) (s : State) (old new : Sizes) → Measures limit s old → AddsNodes limit u (length s.open_elements) old new → Measures limit (added s u) new
measures_nodes limit u s old new m a = record {
  deepest = omega (arith, a.deepest, m.deepest, depth-⊕ s.kids u);
  nodes = omega (arith, a.nodes, m.nodes, count-⊕ s.kids u);
}

passes_in : (bs : List ℕ) (s : State) (space : Space) (t rest : List ℕ) → (length s.open_elements ≢ 0) → Reads space t → ArePlainIn s.scope space (nodes_in space t) → Fits (nodes_in space t) rest → Loop (t ++ rest, s) bs → Loop (rest, added s (nodes_in space t)) bs
passes_in bs s space t rest some r h fits g = by_frames s.open_elements some g where
  by_frames : (fs : List Frame) → (length fs ≢ 0) → Loop (t ++ rest, state fs s.kids s.scope) bs → Loop (rest, state fs (s.kids ⊕ nodes_in space t) s.scope) bs
  by_frames [] some g = absurd (some refl)
  by_frames (f ∷ fs) some g = loop_passes bs s.scope space t rest f fs s.kids r h fits g

pub reading_passes : (limits : Limits) (space : Space) (t rest : List ℕ) (s : State) (old new : Sizes) (bs : List ℕ) → IsRead limits (t ++ rest) s old bs → (length s.open_elements ≢ 0) → Reads space t → ArePlainIn s.scope space (nodes_in space t) → Fits (nodes_in space t) rest
    → AddsNodes limits.nodes (nodes_in space t) (length s.open_elements) old new → IsRead limits rest (added s (nodes_in space t)) new bs
reading_passes limits space t rest s old new bs g some r h fits a =
    let u = nodes_in space t in
    let open_same = open_alike s g.whole g.alike in
    let scope_same : s.scope ≡ g.whole.scope = ap (λ (x : State). x.scope) g.alike in
    let P : Scope → Type 0 = λ sc. ArePlainIn sc space u in
    let Q : ℕ → Type 0 = λ n. AddsNodes limits.nodes u n old new in
    record {
      whole = added g.whole u;
      reads = passes_in bs g.whole space t rest (λ e. some (open_same ∙ e)) r (subst P scope_same h) fits g.reads;
      measures = measures_nodes limits.nodes u g.whole old new g.measures (subst Q open_same a);
      alike = g.alike;
      kept = λ deep few.
          let shallow : old.deepest ≤ limits.depth = omega (arith, deep, a.deepest) in
          let fewer : old.nodes ≤ limits.nodes = omega (arith, few, a.nodes, g.measures.nodes) in
          ap (λ (x : State). added x u) (g.kept shallow fewer);
    }

-- the same, given what passing over tells
pub reading_adds : (limits : Limits) (bs rest behind : List ℕ) (s s' : State) (nodes deepest depth : ℕ) (old new : Sizes) → IsRead limits rest s old bs → AddsText s s' rest behind nodes deepest → depth ≡ length s.open_elements → new.deepest ≡ max old.deepest (depth + deepest) → new.nodes ≡ capped limits.nodes (old.nodes + nodes)
    → IsRead limits behind s' new bs
reading_adds limits bs rest behind s s' nodes deepest depth old new g a d deep many =
    let P : List ℕ → Type 0 = λ t. IsRead limits t s old bs in
    let Q : State → Type 0 = λ x. IsRead limits behind x new bs in
    let u = nodes_in W a.text in
    let adds : AddsNodes limits.nodes u (length s.open_elements) old new = record {
      deepest = deep ∙ ap (λ (n : ℕ). max old.deepest (n + deepest)) d ∙ ap (λ (n : ℕ). max old.deepest (length s.open_elements + n)) (sym a.is.deep);
      nodes = many ∙ ap (λ (n : ℕ). capped limits.nodes (old.nodes + n)) (sym a.is.counted);
    } in
    subst Q (sym a.added) (reading_passes limits W a.text behind s old new bs (subst P a.is.whole g) a.below a.is.reads a.is.all_plain a.is.fits adds)

-- what is read stays so where the code keeps less of it past the limits
pub reading_keeps : (limits : Limits) (rest : List ℕ) (s s' : State) (sizes : Sizes) (bs : List ℕ) → IsRead limits rest s sizes bs → without_nodes s' ≡ without_nodes s → (sizes.deepest ≤ limits.depth → sizes.nodes ≤ limits.nodes → s' ≡ s) → IsRead limits rest s' sizes bs
reading_keeps limits rest s s' sizes bs g alike kept = record {
  whole = g.whole;
  reads = g.reads;
  measures = g.measures;
  alike = alike ∙ g.alike;
  kept = λ deep few. kept deep few ∙ g.kept deep few;
}

-- what passing over and counting tell together
pub reading_ahead : (limits : Limits) (bs rest behind : List ℕ) (s s' : State) (old new : Sizes) → IsRead limits rest s old bs → GoesAhead limits s s' old new rest behind → IsRead limits behind s' new bs
reading_ahead limits bs rest behind s s' old new g (inl a) =
    reading_keeps limits behind a.made s' new bs (reading_adds limits bs rest behind s a.made a.nodes a.deepest (length s.open_elements) old new g a.adds refl a.deep a.many) a.alike a.kept
reading_ahead limits bs rest behind s s' old new g (inr e) = rw (e.0, e.1, e.2) g

-- no bytes come ahead
pub ahead_shorter : (limits : Limits) (rest behind : List ℕ) (s s' : State) (old new : Sizes) → GoesAhead limits s s' old new rest behind → length behind ≤ length rest
ahead_shorter limits rest behind s s' old new (inl a) = omega (arith, a.adds.is.shorter)
ahead_shorter limits rest behind s s' old new (inr e) = omega (arith, ap length e.2)
