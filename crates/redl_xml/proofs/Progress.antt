-- The loop that reads one element: what it has read, and what a turn adds to that.
use Rattle.std.proofs.Common.{◌≡◌, ◌≢◌, ℕ, ◌≤◌, ◌+◌, List, [], ◌∷◌, length, Option, Some, None, refl, sym, ap, subst, ◌∙◌, arith}
use Rattle.std.specs.Option.{option_map}
use Rattle.std.proofs.lemmas.Option.{same_Some}
use Rattle.redl_tree.specs.Model.Nodes.{Nodes}
use Rattle.redl_tree.specs.Model.Count.{count}
use Rattle.redl_markup.specs.declared.error.MarkupError.{MarkupError}
use Rattle.redl_markup.specs.declared.error.MarkupError.TheVariants.{Unreadable, NoMemory}
use Rattle.redl_grammar.specs.declared.section.Section.TheVariants.{InElement}
use Rattle.redl_markup.specs.Reading.{Fails}
use Rattle.redl_grammar.specs.Pieces.{Piece}
use Rattle.redl_grammar.specs.ScanPieces.{piece_at}
use Rattle.redl_xml.specs.Shapes.{depth_of}
use Rattle.redl_xml.specs.Inside.Elements.{Frame, State, without_nodes, placed, finished_by, nothing_yet, element_at}
use Rattle.redl_xml.specs.Inside.Sizes.{capped, found_sizes, element_sizes}
use Rattle.redl_xml.specs.declared.sizes.Limits.{Limits}
use Rattle.redl_xml.specs.declared.sizes.Sizes.{Sizes}
use Rattle.redl_xml.proofs.Bare.{next_alike, refused_alike, open_alike}
use Rattle.redl_xml.proofs.Loops.{Loop, loop_begins, loop_goes, loop_ends, fails_through, refuses_through}
use Rattle.redl_xml.proofs.Measures.{Measures, Adds, measures_more, deepest_grows, nodes_grow, closed_depth, closed_count}

-- So far the bytes were read as a state with these sizes. The code has that state within the limits, and else at least
-- its open elements and its scope.
pub record IsRead (limits : Limits) (rest : List ℕ) (s : State) (sizes : Sizes) (bs : List ℕ) : Type 0 where
  pub whole : State
  pub reads : Loop (rest, whole) bs
  pub measures : Measures limits.nodes whole sizes
  pub alike : without_nodes s ≡ without_nodes whole
  pub kept : sizes.deepest ≤ limits.depth → sizes.nodes ≤ limits.nodes → s ≡ whole

-- a turn places a piece, counts it, and keeps the nodes only within the limits
pub record IsTurn (limits : Limits) (p : Piece) (s s' : State) (sizes sizes' : Sizes) : Type 0 where
  pub made : State
  pub is : placed p s ≡ Some made
  pub adds : Adds limits.nodes p (length s.open_elements + 1) sizes sizes'
  pub alike : without_nodes s' ≡ without_nodes made
  pub kept : sizes'.deepest ≤ limits.depth → sizes'.nodes ≤ limits.nodes → s' ≡ made

-- what the turn makes of the state with all nodes
record Follows (limits : Limits) (p : Piece) (whole s' : State) (sizes' : Sizes) : Type 0 where
  next : State
  is : placed p whole ≡ Some next
  measures : Measures limits.nodes next sizes'
  alike : without_nodes s' ≡ without_nodes next
  kept : sizes'.deepest ≤ limits.depth → sizes'.nodes ≤ limits.nodes → s' ≡ next

follows : (limits : Limits) (rest : List ℕ) (p : Piece) (s s' : State) (sizes sizes' : Sizes) (bs : List ℕ) (g : IsRead limits rest s sizes bs) → IsTurn limits p s s' sizes sizes' → Follows limits p g.whole s' sizes'
follows limits rest p s s' sizes sizes' bs g t =
    let n = next_alike p s g.whole t.made g.alike t.is in
    let P : ℕ → Type 0 = λ depth. Adds limits.nodes p (depth + 1) sizes sizes' in
    record {
      next = n.0;
      is = n.1;
      measures = measures_more limits.nodes p g.whole n.0 sizes sizes' n.1 g.measures (subst P (open_alike s g.whole g.alike) t.adds);
      alike = t.alike ∙ sym n.2;
      kept = λ deep few.
          let shallow : sizes.deepest ≤ limits.depth = omega (arith, deep, t.adds.deepest, deepest_grows p (length s.open_elements + 1) sizes.deepest) in
          let fewer : sizes.nodes ≤ limits.nodes = omega (arith, few, t.adds.nodes, nodes_grow limits.nodes p sizes.nodes) in
          t.kept deep few ∙ same_Some t.made n.0 (sym t.is ∙ ap (placed p) (g.kept shallow fewer) ∙ n.1);
    }

finished_none : (fs : List Frame) (kids : Nodes) → length fs ≡ 0 → finished_by fs kids ≡ Some kids
finished_none [] kids e = refl
finished_none (f ∷ fs) kids e = absurd cc

finished_some : (fs : List Frame) (kids : Nodes) → (length fs ≢ 0) → finished_by fs kids ≡ None
finished_some [] kids e = absurd (e refl)
finished_some (f ∷ fs) kids e = refl

-- ---- the loop

pub reading_begins : (limits : Limits) (bs : List ℕ) (sizes : Sizes) → sizes.deepest ≡ 0 → sizes.nodes ≡ 0 → IsRead limits bs nothing_yet sizes bs
reading_begins limits bs sizes deepest nodes = record {
  whole = nothing_yet;
  reads = loop_begins bs;
  measures = record { deepest = omega (arith, deepest); nodes = omega (arith, nodes) };
  alike = refl;
  kept = λ deep few. refl;
}

pub reading_goes : (limits : Limits) (rest : List ℕ) (x : Piece × List ℕ) (s s' : State) (sizes sizes' : Sizes) (bs : List ℕ) → IsRead limits rest s sizes bs → piece_at InElement rest ≡ Some x → IsTurn limits x.0 s s' sizes sizes' → (length s'.open_elements ≢ 0)
    → IsRead limits x.1 s' sizes' bs
reading_goes limits rest x s s' sizes sizes' bs g e t some =
    let f = follows limits rest x.0 s s' sizes sizes' bs g t in
    let more = finished_some f.next.open_elements f.next.kids (λ h. some (open_alike s' f.next f.alike ∙ h)) in
    record {
      whole = f.next;
      reads = loop_goes rest g.whole f.next bs x g.reads e f.is more;
      measures = f.measures;
      alike = f.alike;
      kept = f.kept;
    }

pub reading_ends : (limits : Limits) (rest : List ℕ) (x : Piece × List ℕ) (s s' : State) (sizes sizes' : Sizes) (bs : List ℕ) → IsRead limits rest s sizes bs → piece_at InElement rest ≡ Some x → IsTurn limits x.0 s s' sizes sizes' → length s'.open_elements ≡ 0
    → (element_sizes limits.nodes bs ≡ Some ((sizes'.deepest, sizes'.nodes), x.1)) × (sizes'.deepest ≤ limits.depth → sizes'.nodes ≤ limits.nodes → element_at bs ≡ Some (s'.kids, x.1))
reading_ends limits rest x s s' sizes sizes' bs g e t none =
    let f = follows limits rest x.0 s s' sizes sizes' bs g t in
    let u = f.next in
    let all : length u.open_elements ≡ 0 = sym (open_alike s' u f.alike) ∙ none in
    let is : element_at bs ≡ Some (u.kids, x.1) = loop_ends rest g.whole u bs x u.kids g.reads e f.is (finished_none u.open_elements u.kids all) in
    let deep : depth_of u.kids ≡ sizes'.deepest = sym (f.measures.deepest ∙ closed_depth u.open_elements u.kids u.scope all) in
    let many : capped limits.nodes (count u.kids) ≡ sizes'.nodes = sym (f.measures.nodes ∙ ap (capped limits.nodes) (closed_count u.open_elements u.kids u.scope all)) in (
      ap (option_map (found_sizes limits.nodes)) is ∙ ap (λ (d : ℕ). Some ((d, capped limits.nodes (count u.kids)), x.1)) deep ∙ ap (λ (n : ℕ). Some ((sizes'.deepest, n), x.1)) many,
      λ deep few. is ∙ ap (λ (r : State). Some (r.kids, x.1)) (sym (f.kept deep few)),
    )

-- ---- where it fails

fails_mapped : {A B : Type 0} (f : A → B) (e : MarkupError) (o : Option A) → Fails e o → Fails e (option_map f o)
fails_mapped f Unreadable o h = ap (option_map f) h
fails_mapped f NoMemory o h = tt

pub reading_fails : (limits : Limits) (rest : List ℕ) (s : State) (sizes : Sizes) (bs : List ℕ) (e : MarkupError) → IsRead limits rest s sizes bs → Fails e (piece_at InElement rest) → Fails e (element_sizes limits.nodes bs)
reading_fails limits rest s sizes bs e g h = fails_mapped (found_sizes limits.nodes) e (element_at bs) (fails_through rest g.whole bs e g.reads h)

pub reading_refuses : (limits : Limits) (rest : List ℕ) (x : Piece × List ℕ) (s : State) (sizes : Sizes) (bs : List ℕ) (e : MarkupError) → IsRead limits rest s sizes bs → piece_at InElement rest ≡ Some x → (e ≡ Unreadable → placed x.0 s ≡ None) → Fails e (element_sizes limits.nodes bs)
reading_refuses limits rest x s sizes bs e g is h =
    fails_mapped (found_sizes limits.nodes) e (element_at bs) (refuses_through rest g.whole bs x e g.reads is (λ u. refused_alike x.0 s g.whole g.alike (h u)))
