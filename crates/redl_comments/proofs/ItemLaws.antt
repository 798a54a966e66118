-- What is read of nodes one after the other, and that nothing is of idle elements.
use Rattle.std.proofs.Common.{◌≡◌, ◌∙◌, refl, ap, ℕ, List, [], ◌∷◌, ◌++◌, Bool, true, false, map, filter, codes, if◌then◌else◌, ◌&&◌, bytes_eq}
use Rattle.std.proofs.lemmas.List.Elements.{filter-append}
use Rattle.std.proofs.lemmas.List.{map-append}
use Rattle.std.specs.List.{flat_map}
use Rattle.std.proofs.lemmas.List.Concat.{flat_map-append}
use Rattle.redl_opc.specs.Elements.{elements_of}
use Rattle.redl_relations.specs.Relations.{is_unknown}
use Rattle.redl_relations.specs.Values.{value_in}
use Rattle.redl_tree.proofs.Idle.Items.{nodes_are_idle}
use Rattle.redl_tree.proofs.Idle.Tags.{Idle, idle_parts, has-not}
use Rattle.redl_tree.specs.Model.IdleTexts.{idle_nodes}
use Rattle.redl_tree.specs.Model.Nodes.{Tag, Nodes, no_nodes, bytes, element, Item, bytes_item, element_item, idle_item, in_front, ◌⊕◌}
use Rattle.redl_tree.specs.Model.View.{Element}
use Rattle.redl_tree.specs.Roles.Idle.{is_idle_in}
use Rattle.redl_tree.specs.Roles.Names.{is, is_w}
use Rattle.redl_tree.specs.declared.kinds.Space.{Space}
use Rattle.redl_tree.specs.declared.kinds.Space.TheVariants as space
use Rattle.redl_comments.specs.Comments.{comment_of, comments_among, is_comment, is_state, last_paragraph_or, root_states, state_of, states_among}
use Rattle.redl_comments.specs.Inside.Items.{item_comments, item_last_paragraph, item_root_states, item_states}
use Rattle.redl_comments.specs.declared.comment.Comment.{Comment}
use Rattle.redl_comments.specs.declared.state.State.{State}

-- ---- elements among nodes one after the other

elements-⊕ : (x y : Nodes) → elements_of (x ⊕ y) ≡ elements_of x ++ elements_of y
elements-⊕ no_nodes y = refl
elements-⊕ (bytes b rest) y = elements-⊕ rest y
elements-⊕ (element tag kids rest) y = ap (λ (es : List Element). record { tag = tag; kids = kids } ∷ es) (elements-⊕ rest y)

-- those that pass a test, as they read
module _ {X : Type 0} (test : Element → Bool) (read : Element → X) where
  abbrev pub passing : Nodes → List X
  passing x = map read (filter test (elements_of x))

  pub passing-⊕ : (x y : Nodes) → passing (x ⊕ y) ≡ passing x ++ passing y
  passing-⊕ x y =
      ap (λ (es : List Element). map read (filter test es)) (elements-⊕ x y)
      ∙ ap (map read) (filter-append test (elements_of x) (elements_of y))
      ∙ map-append read (filter test (elements_of x)) (filter test (elements_of y))

  pub passing-first : (tag : Tag) (kids rest : Nodes) → passing (element tag kids rest) ≡ map read (filter test (record { tag = tag; kids = kids } ∷ [])) ++ passing rest
  passing-first tag kids rest = by (test (record { tag = tag; kids = kids }))
    where
      by : (b : Bool) → map read (if b then record { tag = tag; kids = kids } ∷ filter test (elements_of rest) else filter test (elements_of rest))
          ≡ map read (if b then record { tag = tag; kids = kids } ∷ [] else []) ++ passing rest
      by true = refl
      by false = refl

  -- none of idle elements, where none of them passes
  pub passing-idle : ((in_run : Bool) (tag : Tag) (kids : Nodes) → Idle in_run tag → test (record { tag = tag; kids = kids }) ≡ false)
      → (in_run : Bool) (x : Nodes) → is_idle_in in_run x ≡ true → passing x ≡ []
  passing-idle none in_run no_nodes h = refl
  passing-idle none in_run (bytes b rest) h = passing-idle none in_run rest h
  passing-idle none in_run (element tag kids rest) h =
      let p = idle_parts in_run tag kids rest h in
      ap (λ (b : Bool). map read (if b then record { tag = tag; kids = kids } ∷ filter test (elements_of rest) else filter test (elements_of rest))) (none in_run tag kids p.own)
      ∙ passing-idle none in_run rest p.later

-- ---- comments

no_comment : (in_run : Bool) (tag : Tag) (kids : Nodes) → Idle in_run tag → is_comment (record { tag = tag; kids = kids }) ≡ false
no_comment in_run tag kids i = has-not "comment" in_run tag i refl

pub comments-in_front : (x : Item) (rest : Nodes) → comments_among (in_front x rest) ≡ item_comments x ++ comments_among rest
comments-in_front (bytes_item b) rest = refl
comments-in_front (element_item tag kids) rest = passing-first is_comment comment_of tag kids rest
comments-in_front (idle_item t) rest =
    passing-⊕ is_comment comment_of (idle_nodes t) rest
    ∙ ap (λ (cs : List Comment). cs ++ comments_among rest) (passing-idle is_comment comment_of no_comment false (idle_nodes t) (nodes_are_idle t))

-- ---- states

known : (s : Space) → is_w s ≡ true → is_unknown s ≡ false
known space.W h = refl
known space.M h = cc
known space.Pkg h = cc
known space.Other h = cc

no_state : (in_run : Bool) (tag : Tag) (kids : Nodes) → Idle in_run tag → is_state (record { tag = tag; kids = kids }) ≡ false
no_state in_run tag kids i = ap (λ b. b && bytes_eq tag.local (codes "commentEx")) (known tag.space i.space)

idle_states : (in_run : Bool) (x : Nodes) → is_idle_in in_run x ≡ true → states_among x ≡ []
idle_states in_run x h = passing-idle is_state state_of no_state in_run x h

pub states-in_front : (x : Item) (rest : Nodes) → states_among (in_front x rest) ≡ item_states x ++ states_among rest
states-in_front (bytes_item b) rest = refl
states-in_front (element_item tag kids) rest = passing-first is_state state_of tag kids rest
states-in_front (idle_item t) rest =
    passing-⊕ is_state state_of (idle_nodes t) rest
    ∙ ap (λ (ss : List State). ss ++ states_among rest) (idle_states false (idle_nodes t) (nodes_are_idle t))

root_states-⊕ : (x y : Nodes) → root_states (x ⊕ y) ≡ root_states x ++ root_states y
root_states-⊕ x y =
    ap (λ (es : List Element). flat_map (λ root. states_among root.kids) es) (elements-⊕ x y)
    ∙ flat_map-append (λ root. states_among root.kids) (elements_of x) (elements_of y)

idle_root_states : (in_run : Bool) (x : Nodes) → is_idle_in in_run x ≡ true → root_states x ≡ []
idle_root_states in_run no_nodes h = refl
idle_root_states in_run (bytes b rest) h = idle_root_states in_run rest h
idle_root_states in_run (element tag kids rest) h =
    let p = idle_parts in_run tag kids rest h in
    ap (λ (ss : List State). ss ++ root_states rest) (idle_states (is "r" tag) kids p.below) ∙ idle_root_states in_run rest p.later

pub root_states-in_front : (x : Item) (rest : Nodes) → root_states (in_front x rest) ≡ item_root_states x ++ root_states rest
root_states-in_front (bytes_item b) rest = refl
root_states-in_front (element_item tag kids) rest = refl
root_states-in_front (idle_item t) rest =
    root_states-⊕ (idle_nodes t) rest ∙ ap (λ (ss : List State). ss ++ root_states rest) (idle_root_states false (idle_nodes t) (nodes_are_idle t))

-- ---- the last paragraph

last-⊕ : (id : List ℕ) (x y : Nodes) → last_paragraph_or id (x ⊕ y) ≡ last_paragraph_or (last_paragraph_or id x) y
last-⊕ id no_nodes y = refl
last-⊕ id (bytes b rest) y = last-⊕ id rest y
last-⊕ id (element tag kids rest) y = last-⊕ (if is "p" tag then value_in tag.tail (codes "paraId") else id) rest y

idle_last : (in_run : Bool) (id : List ℕ) (x : Nodes) → is_idle_in in_run x ≡ true → last_paragraph_or id x ≡ id
idle_last in_run id no_nodes h = refl
idle_last in_run id (bytes b rest) h = idle_last in_run id rest h
idle_last in_run id (element tag kids rest) h =
    let p = idle_parts in_run tag kids rest h in
    ap (λ (b : Bool). last_paragraph_or (if b then value_in tag.tail (codes "paraId") else id) rest) (has-not "p" in_run tag p.own refl)
    ∙ idle_last in_run id rest p.later

pub last-in_front : (id : List ℕ) (x : Item) (rest : Nodes) → last_paragraph_or id (in_front x rest) ≡ last_paragraph_or (item_last_paragraph id x) rest
last-in_front id (bytes_item b) rest = refl
last-in_front id (element_item tag kids) rest = refl
last-in_front id (idle_item t) rest =
    last-⊕ id (idle_nodes t) rest ∙ ap (λ (i : List ℕ). last_paragraph_or i rest) (idle_last false id (idle_nodes t) (nodes_are_idle t))
