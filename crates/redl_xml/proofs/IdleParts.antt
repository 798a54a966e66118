-- What was passed over, as the slice that it is: its nodes are idle, and of this number.
use Rattle.std.proofs.Common.{◌≡◌, ◌≢◌, ◌≤◌, ◌<◌, ◌-◌, ◌+◌, refl, [], ◌∷◌, ℕ, Bool, true, false, List, ◌++◌, take, length, Some, sym, ap, subst, ◌∙◌, arith, length-append}
use Rattle.std.proofs.Math.Seq.{take-append_seam}
use Rattle.redl_tree.specs.Model.Nodes.{Nodes, no_nodes, bytes, element}
use Rattle.redl_tree.specs.Model.Count.{count}
use Rattle.redl_tree.specs.Model.Folds.{nodes_in, Reads}
use Rattle.redl_tree.specs.Roles.Idle.{is_idle, AllTags}
use Rattle.redl_tree.specs.Model.Elements.{elements}
use Rattle.redl_tree.specs.Model.IdleTexts.{is_idle_text, idle_nodes}
use Rattle.redl_tree.specs.Model.Laid.{Fits}
use Rattle.redl_tree.specs.declared.kinds.Space.TheVariants.{W}
use Rattle.redl_tree.specs.Roles.Names.{is}
use Rattle.redl_tree.proofs.Idle.Texts.{each_is_idle, all_mapped}
use Rattle.redl_tree.proofs.Idle.Items.{idle_text}
use Rattle.redl_tree.proofs.Reading.FoldLaws.{nothing_in}
use Rattle.redl_grammar.specs.References.{is_there}
use Rattle.redl_reading.specs.Steps.{or_same}
use Rattle.redl_xml.specs.Shapes.{depth_of}
use Rattle.redl_xml.specs.Scopes.{Scope}
use Rattle.redl_markup.specs.declared.name.Name as code
use Rattle.redl_grammar.specs.declared.section.Section.TheVariants.{InElement}
use Rattle.redl_grammar.specs.Pieces.{Piece}
use Rattle.redl_grammar.specs.ScanPieces.{piece_at}
use Rattle.redl_xml.specs.declared.idle.Idle.{Idle}
use Rattle.redl_xml.specs.Inside.Passing.{HoldsIn, ArePlainIn, IsIdleIn, IsPassed, IsIdleText, PassesPiece, PassesOn, piece_count, piece_elements, is_run_open, names_view}
use Rattle.redl_xml.proofs.FoldLoop.{IsTurn, IsPassing, passing_turns}

plain_in : (scope : Scope) (in_run : Bool) (nodes : Nodes) → AllTags (IsIdleIn scope) in_run nodes → ArePlainIn scope W nodes
plain_in scope in_run no_nodes h = tt
plain_in scope in_run (bytes b rest) h = plain_in scope in_run rest h
plain_in scope in_run (element tag kids rest) h = (h.0.plain, plain_in scope (is "r" tag) kids h.1, plain_in scope in_run rest h.2)

pub record IsIdlePart (scope : Scope) (bs t rest : List ℕ) (nodes elems deepest : ℕ) : Type 0 where
  pub reads : Reads W t
  pub idle : is_idle (nodes_in W t) ≡ true
  pub counted : count (nodes_in W t) ≡ nodes
  pub among : elements (nodes_in W t) ≡ elems
  pub deep : depth_of (nodes_in W t) ≡ deepest
  pub whole : bs ≡ t ++ rest
  pub all_plain : ArePlainIn scope W (nodes_in W t)
  pub fits : Fits (nodes_in W t) rest

part_of : (scope : Scope) (bs rest : List ℕ) (nodes elems deepest : ℕ) (g : IsPassed (IsIdleIn scope) W bs rest nodes elems deepest) → IsIdlePart scope bs g.front rest nodes elems deepest
part_of scope bs rest nodes elems deepest g =
    let made : g.made ≡ nodes_in W g.front = sym (ap (λ o. or_same o no_nodes) g.reads) in
    let P : Nodes → Type 0 = λ u. AllTags (IsIdleIn scope) false u in
    let all = subst P made g.all_tags in
    let Q : Nodes → Type 0 = λ u. Fits u rest in
    record {
      reads = ap is_there g.reads;
      idle = each_is_idle false (nodes_in W g.front) (all_mapped (λ in_run tag h. h.idle) false (nodes_in W g.front) all);
      counted = ap count (sym made) ∙ g.counted;
      among = ap elements (sym made) ∙ g.among;
      deep = ap depth_of (sym made) ∙ g.deep;
      whole = g.whole;
      all_plain = plain_in scope false (nodes_in W g.front) all;
      fits = subst Q made g.fits;
    }

front_is : (bs front rest : List ℕ) → bs ≡ front ++ rest → take (length bs - length rest) bs ≡ front
front_is bs front rest e =
    let long : length bs - length rest ≡ length front = omega (arith, ap length e, length-append front rest) in
    ap (λ (n : ℕ). take n bs) long ∙ ap (take (length front)) e ∙ take-append_seam front rest

pub slice_is : (scope : Scope) (bs rest : List ℕ) (nodes elems deepest : ℕ) → IsPassed (IsIdleIn scope) W bs rest nodes elems deepest → IsIdlePart scope bs (take (length bs - length rest) bs) rest nodes elems deepest
slice_is scope bs rest nodes elems deepest g =
    let P : List ℕ → Type 0 = λ t. IsIdlePart scope bs t rest nodes elems deepest in
    subst P (sym (front_is bs g.front rest g.whole)) (part_of scope bs rest nodes elems deepest g)

-- where there is an element, it is a text that a list of nodes may keep
pub record IsPlainPart (t : List ℕ) (nodes elems : ℕ) : Type 0 where
  pub idle : is_idle_text t ≡ true
  pub counted : count (idle_nodes t) ≡ nodes
  pub among : elements (idle_nodes t) ≡ elems

pub plain_part : (scope : Scope) (bs rest : List ℕ) (nodes elems deepest : ℕ) → IsPassed (IsIdleIn scope) W bs rest nodes elems deepest → elems ≢ 0 → IsPlainPart (take (length bs - length rest) bs) nodes elems
plain_part scope bs rest nodes elems deepest g some =
    let part = slice_is scope bs rest nodes elems deepest g in
    let text = idle_text (take (length bs - length rest) bs) part.reads part.idle (λ none. some (sym part.among ∙ none)) in
    record { idle = text.is; counted = ap count text.nodes ∙ part.counted; among = ap elements text.nodes ∙ part.among }

-- nodes go no deeper than they are many
depth_few : (u : Nodes) → depth_of u ≤ count u
depth_few no_nodes = omega arith
depth_few (bytes b rest) = omega (arith, depth_few rest)
depth_few (element tag kids rest) = omega (arith, depth_few kids, depth_few rest)

-- a text with an element has some bytes
some_bytes : (t : List ℕ) → (elements (nodes_in W t) ≢ 0) → 0 < length t
some_bytes [] some = absurd (some (ap elements (nothing_in [] refl)))
some_bytes (b ∷ bs) some = omega arith

pub idle_text_there : (scope : Scope) (bs rest : List ℕ) (nodes elems deepest : ℕ) → IsPassed (IsIdleIn scope) W bs rest nodes elems deepest → elems ≢ 0 → nodes < 4294967296 → IsIdleText scope bs (take (length bs - length rest) bs) rest nodes deepest
idle_text_there scope bs rest nodes elems deepest g some small =
    let t : List ℕ = take (length bs - length rest) bs in
    let part = slice_is scope bs rest nodes elems deepest g in
    let there : elements (nodes_in W t) ≢ 0 = λ none. some (sym part.among ∙ none) in
    let text = idle_text t part.reads part.idle there in
    record {
      whole = part.whole;
      reads = part.reads;
      kept = text.nodes;
      all_plain = part.all_plain;
      fits = part.fits;
      counted = part.counted;
      deep = part.deep;
      shallow = omega (arith, small, part.counted, part.deep, depth_few (nodes_in W t));
      shorter = omega (arith, ap length part.whole, length-append t rest, some_bytes t there);
    }

-- what the calls of a turn tell
pub idle_turn : (scope now : Scope) (rest behind : List ℕ) (ns ns' : List code.Name) (p : Piece) → now ≡ scope → piece_at InElement rest ≡ Some (p, behind) → PassesPiece now ns ns' p → IsTurn (IsIdleIn scope) W rest behind ns ns' p
idle_turn scope now rest behind ns ns' p same read passes =
    let Q : Scope → Type 0 = λ s. HoldsIn (IsIdleIn s) (is_run_open W (names_view ns)) W p in
    record { read = read; taken = passes.taken; holds = subst Q same passes.holds }

-- a turn of the loop, with what was passed over before and with it
pub passing_on : (scope now : Scope) (bs rest behind : List ℕ) (before after : List code.Name) (p : Piece) (old more : Idle) → now ≡ scope → IsPassing (IsIdleIn scope) W bs rest (names_view before) old.nodes old.elems old.deepest → piece_at InElement rest ≡ Some (p, behind) → PassesOn now before after p old more → IsPassing (IsIdleIn scope) W bs behind (names_view after) more.nodes more.elems more.deepest
passing_on scope now bs rest behind before after p old more same g read on =
    let turn = idle_turn scope now rest behind before after p same read on.passes in
    let turned = passing_turns (IsIdleIn scope) W bs rest behind before after old.nodes (piece_count p) old.elems (piece_elements p) old.deepest more.deepest (length before) p g turn refl refl refl on.deep in
    let P : ℕ → Type 0 = λ n. IsPassing (IsIdleIn scope) W bs behind (names_view after) n (old.elems + piece_elements p) more.deepest in
    let Q : ℕ → Type 0 = λ n. IsPassing (IsIdleIn scope) W bs behind (names_view after) more.nodes n more.deepest in
    subst Q (sym on.elems) (subst P (sym on.nodes) turned)
