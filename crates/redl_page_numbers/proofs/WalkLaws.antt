-- The walk over nodes one after the other, and over idle elements, which change nothing.
use Rattle.std.proofs.Common.{◌≡◌, ◌∙◌, refl, ap, Bool, true, false, if◌then◌else◌}
use Rattle.redl_lists.specs.declared.table.Tables.{Tables}
use Rattle.redl_numbering.specs.Counts.{Counts, nothing_counted}
use Rattle.redl_tree.specs.Model.Nodes.{Tag, Nodes, no_nodes, bytes, element, Item, bytes_item, element_item, idle_item, in_front, ◌⊕◌}
use Rattle.redl_tree.specs.Model.IdleTexts.{idle_nodes}
use Rattle.redl_tree.specs.Roles.Names.{is}
use Rattle.redl_tree.specs.Roles.Idle.{is_idle_in}
use Rattle.redl_tree.proofs.Idle.Tags.{Idle, idle_parts, has-not}
use Rattle.redl_tree.proofs.Idle.Items.{nodes_are_idle}
use Rattle.redl_page_numbers.specs.Inside.Items.{item_walked}
use Rattle.redl_page_numbers.specs.Walks.{Walk, begun, element_walked, left, loud_inside, paragraph_begun, walked}

module _ (tables : Tables) where
  walked-⊕ : (loud : Bool) (x y : Nodes) (w : Walk) → walked tables loud (x ⊕ y) w ≡ walked tables loud y (walked tables loud x w)
  walked-⊕ loud no_nodes y w = refl
  walked-⊕ loud (bytes b rest) y w = walked-⊕ loud rest y w
  walked-⊕ loud (element tag kids rest) y w = walked-⊕ loud rest y (element_walked tables loud tag kids w)

  -- ---- an idle element

  begins_nothing : (loud in_run : Bool) (tag : Tag) (kids : Nodes) (w : Walk) → Idle in_run tag → begun tables loud tag kids w ≡ w
  begins_nothing loud in_run tag kids w i =
      ap (λ b. if b then paragraph_begun tables loud kids w else if is "txbxContent" tag then record w { counts = nothing_counted } else w) (has-not "p" in_run tag i refl)
      ∙ ap (λ b. if b then record w { counts = nothing_counted } else w) (has-not "txbxContent" in_run tag i refl)

  leaves_nothing : (in_run : Bool) (tag : Tag) (outer : Counts) (w : Walk) → Idle in_run tag → left tag outer w ≡ w
  leaves_nothing in_run tag outer w i = ap (λ b. if b then record w { counts = outer } else w) (has-not "txbxContent" in_run tag i refl)

  idle_walked : (loud in_run : Bool) (x : Nodes) (w : Walk) → is_idle_in in_run x ≡ true → walked tables loud x w ≡ w
  idle_walked loud in_run no_nodes w h = refl
  idle_walked loud in_run (bytes b rest) w h = idle_walked loud in_run rest w h
  idle_walked loud in_run (element tag kids rest) w h =
      let p = idle_parts in_run tag kids rest h in
      ap (λ v. walked tables loud rest (left tag w.counts (walked tables (loud_inside loud tag) kids v))) (begins_nothing loud in_run tag kids w p.own)
      ∙ ap (λ v. walked tables loud rest (left tag w.counts v)) (idle_walked (loud_inside loud tag) (is "r" tag) kids w p.below)
      ∙ ap (walked tables loud rest) (leaves_nothing in_run tag w.counts w p.own)
      ∙ idle_walked loud in_run rest w p.later

  -- ---- the nodes behind one node

  pub walked-in_front : (loud : Bool) (x : Item) (rest : Nodes) (w : Walk) → walked tables loud (in_front x rest) w ≡ walked tables loud rest (item_walked tables loud x w)
  walked-in_front loud (bytes_item b) rest w = refl
  walked-in_front loud (element_item tag kids) rest w = refl
  walked-in_front loud (idle_item t) rest w =
      walked-⊕ loud (idle_nodes t) rest w ∙ ap (walked tables loud rest) (idle_walked loud false (idle_nodes t) w (nodes_are_idle t))
