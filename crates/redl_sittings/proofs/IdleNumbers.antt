-- Idle elements are in no revision, and no parts with a story.
use Rattle.std.proofs.Common.{Bor, Bool, true, false, Vec, Global, ◌≡◌, ◌∙◌, ◌<◌, ◌+◌, ℕ, suc, length, get_or, drop, List, [], ◌∷◌, ◌++◌, map, replicate, refl, sym, ap, arith, append_assoc}
use Rattle.std.proofs.lemmas.List.{replicate-append-replicate}
use Rattle.redl_tree.specs.Model.Nodes.{Nodes, no_nodes, bytes, element, in_front, ◌⊕◌}
use Rattle.redl_tree.specs.Model.Elements.{elements}
use Rattle.redl_tree.specs.Model.IdleTexts.{idle_nodes}
use Rattle.redl_tree.specs.Model.View.{item_of, nodes_of, tag_of, kids_of}
use Rattle.redl_tree.specs.Roles.Names.{is}
use Rattle.redl_tree.specs.Roles.Idle.{is_idle_in}
use Rattle.redl_tree.specs.declared.node.Node.{Node}
use Rattle.redl_tree.specs.declared.node.Node as node
use Rattle.redl_tree.specs.declared.node.Elem.{Elem}
use Rattle.redl_tree.proofs.Model.Laws.{item_of-Elem, item_of-Bytes, item_of-Plain, nodes_here}
use Rattle.redl_tree.proofs.Idle.Items.{nodes_are_idle}
use Rattle.redl_tree.proofs.Idle.Tags.{idle_parts}
use Rattle.redl_opc.specs.Elements.{Element, element_of, elements_of}
use Rattle.redl_opc.specs.Shape.{story_of}
use Rattle.redl_opc.proofs.UnnamedLaws.{no_story_inside}
use Rattle.redl_sittings.specs.SecondNumbers.{numbers_along, numbers_below}

-- ---- numbers along idle elements

along_idle : (in_run : Bool) (x : Nodes) → is_idle_in in_run x ≡ true → numbers_along x ≡ replicate (elements x) 0
along_idle in_run no_nodes h = refl
along_idle in_run (bytes b rest) h = along_idle in_run rest h
along_idle in_run (element tag kids rest) h =
    let p = idle_parts in_run tag kids rest h in
    ap (λ n. n ∷ (numbers_along kids ++ numbers_along rest)) p.own.rev
    ∙ ap (λ (ns : List ℕ). 0 ∷ (ns ++ numbers_along rest)) (along_idle (is "r" tag) kids p.below)
    ∙ ap (λ (ns : List ℕ). 0 ∷ (replicate (elements kids) 0 ++ ns)) (along_idle in_run rest p.later)
    ∙ ap (λ (ns : List ℕ). 0 ∷ ns) (replicate-append-replicate (elements kids) (elements rest) 0)
    ∙ ap (λ n. replicate n 0) (one_more (elements kids) (elements rest))
  where
    one_more : (k r : ℕ) → suc (k + r) ≡ 1 + k + r
    one_more k r = omega arith

along-⊕ : (x y : Nodes) → numbers_along (x ⊕ y) ≡ numbers_along x ++ numbers_along y
along-⊕ no_nodes y = refl
along-⊕ (bytes b rest) y = along-⊕ rest y
along-⊕ (element tag kids rest) y =
    ap (λ (ns : List ℕ). tag.rev ∷ (numbers_along kids ++ ns)) (along-⊕ rest y)
    ∙ ap (λ (ns : List ℕ). tag.rev ∷ ns) (sym (append_assoc (numbers_along kids) (numbers_along rest) (numbers_along y)))

pub along_past : (t : List ℕ) (rest : Nodes) → numbers_along (idle_nodes t ⊕ rest) ≡ replicate (elements (idle_nodes t)) 0 ++ numbers_along rest
along_past t rest =
    along-⊕ (idle_nodes t) rest ∙ ap (λ (ns : List ℕ). ns ++ numbers_along rest) (along_idle false (idle_nodes t) (nodes_are_idle t))

-- ---- of a list of nodes, from the first one on

pub along-elem : (nodes : List Node) (i : ℕ) (x : Node) (e : Elem) → i < length nodes → x ≡ get_or nodes i x → x ≡ node.Elem e
    → numbers_along (nodes_of (drop i nodes)) ≡ ((tag_of e).rev ∷ numbers_along (kids_of e)) ++ numbers_along (nodes_of (drop (i + 1) nodes))
along-elem nodes i x e within is elem =
    ap numbers_along (nodes_here nodes i x within is ∙ ap (λ y. in_front y (nodes_of (drop (i + 1) nodes))) (ap item_of elem ∙ item_of-Elem e))

pub along-bytes : (nodes : List Node) (i : ℕ) (x : Node) (b : Bor (List ℕ)) → i < length nodes → x ≡ get_or nodes i x → x ≡ node.Bytes b
    → numbers_along (nodes_of (drop i nodes)) ≡ numbers_along (nodes_of (drop (i + 1) nodes))
along-bytes nodes i x b within is text =
    ap numbers_along (nodes_here nodes i x within is ∙ ap (λ y. in_front y (nodes_of (drop (i + 1) nodes))) (ap item_of text ∙ item_of-Bytes b))

pub along-text : (nodes : List Node) (i : ℕ) (x : Node) (t : List ℕ) → i < length nodes → x ≡ get_or nodes i x → x ≡ node.Plain t
    → numbers_along (nodes_of (drop i nodes)) ≡ replicate (elements (idle_nodes t)) 0 ++ numbers_along (nodes_of (drop (i + 1) nodes))
along-text nodes i x t within is text =
    ap numbers_along (nodes_here nodes i x within is ∙ ap (λ y. in_front y (nodes_of (drop (i + 1) nodes))) (ap item_of text ∙ item_of-Plain t))
    ∙ along_past t (nodes_of (drop (i + 1) nodes))

-- ---- parts

abbrev pub items_of_vec : Vec ℕ Global → List ℕ
items_of_vec part = part.items

abbrev pub below : Element → List ℕ
below part = numbers_below (story_of part)

pub below_past : (x y : Nodes) → is_idle_in false x ≡ true → map below (elements_of (x ⊕ y)) ≡ map (λ part. []) (elements_of x) ++ map below (elements_of y)
below_past no_nodes y h = refl
below_past (bytes b rest) y h = below_past rest y h
below_past (element tag kids rest) y h =
    let p = idle_parts false tag kids rest h in
    ap (λ o. numbers_below o ∷ map below (elements_of (rest ⊕ y))) (no_story_inside (is "r" tag) tag kids p.below)
    ∙ ap (λ (ns : List (List ℕ)). [] ∷ ns) (below_past rest y p.later)

pub below-elem : (nodes : List Node) (i : ℕ) (x : Node) (e : Elem) → i < length nodes → x ≡ get_or nodes i x → x ≡ node.Elem e
    → map below (elements_of (nodes_of (drop i nodes))) ≡ (below (element_of e) ∷ []) ++ map below (elements_of (nodes_of (drop (i + 1) nodes)))
below-elem nodes i x e within is elem =
    ap (λ ns. map below (elements_of ns)) (nodes_here nodes i x within is ∙ ap (λ y. in_front y (nodes_of (drop (i + 1) nodes))) (ap item_of elem ∙ item_of-Elem e))

pub below-bytes : (nodes : List Node) (i : ℕ) (x : Node) (b : Bor (List ℕ)) → i < length nodes → x ≡ get_or nodes i x → x ≡ node.Bytes b
    → map below (elements_of (nodes_of (drop i nodes))) ≡ map below (elements_of (nodes_of (drop (i + 1) nodes)))
below-bytes nodes i x b within is text =
    ap (λ ns. map below (elements_of ns)) (nodes_here nodes i x within is ∙ ap (λ y. in_front y (nodes_of (drop (i + 1) nodes))) (ap item_of text ∙ item_of-Bytes b))

pub below-text : (nodes : List Node) (i : ℕ) (x : Node) (t : List ℕ) → i < length nodes → x ≡ get_or nodes i x → x ≡ node.Plain t
    → map below (elements_of (nodes_of (drop i nodes))) ≡ map (λ part. []) (elements_of (idle_nodes t)) ++ map below (elements_of (nodes_of (drop (i + 1) nodes)))
below-text nodes i x t within is text =
    ap (λ ns. map below (elements_of ns)) (nodes_here nodes i x within is ∙ ap (λ y. in_front y (nodes_of (drop (i + 1) nodes))) (ap item_of text ∙ item_of-Plain t))
    ∙ below_past (idle_nodes t) (nodes_of (drop (i + 1) nodes)) (nodes_are_idle t)

-- ---- a list that grows by what comes first in the rest

pub moved : {X : Type 0} (done more here later whole : List X) → more ≡ done ++ here → done ++ (here ++ later) ≡ whole → more ++ later ≡ whole
moved done more here later whole is h = ap (λ (xs : List _). xs ++ later) is ∙ append_assoc done here later ∙ h
