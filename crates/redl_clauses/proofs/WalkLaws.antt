-- The walk over nodes one after the other, and over idle elements, which change nothing.
use Rattle.std.proofs.Common.{◌≡◌, ◌∙◌, refl, ap, Bool, true, false, if◌then◌else◌}
use Rattle.redl_lists.specs.declared.table.Tables.{Tables}
use Rattle.redl_numbering.specs.Counts.{Counts, before, nothing_counted, passed}
use Rattle.redl_tree.specs.Model.Nodes.{Tag, Nodes, no_nodes, bytes, element, Item, bytes_item, element_item, idle_item, in_front, ◌⊕◌}
use Rattle.redl_tree.specs.Model.IdleTexts.{idle_nodes}
use Rattle.redl_tree.specs.Roles.Names.{is}
use Rattle.redl_tree.specs.Roles.Idle.{is_idle_in}
use Rattle.redl_tree.proofs.Idle.Tags.{Idle, idle_parts, has-not}
use Rattle.redl_tree.proofs.Idle.Items.{nodes_are_idle}
use Rattle.redl_clauses.specs.Inside.Items.{item_walked}
use Rattle.redl_clauses.specs.Walks.{Walk, begun, element_walked, entered, left, noted, paragraph_begun, settled, walked}

module _ (tables : Tables) where
  walked-⊕ : (x y : Nodes) (w : Walk) → walked tables (x ⊕ y) w ≡ walked tables y (walked tables x w)
  walked-⊕ no_nodes y w = refl
  walked-⊕ (bytes b rest) y w = walked-⊕ rest y w
  walked-⊕ (element tag kids rest) y w = walked-⊕ rest y (element_walked tables tag kids w)

  -- ---- an idle element

  begins_nothing : (in_run : Bool) (tag : Tag) (kids : Nodes) (w : Walk) → Idle in_run tag → begun tables tag kids w ≡ w
  begins_nothing in_run tag kids w i =
      ap (λ b. if b then paragraph_begun tables kids w else if is "txbxContent" tag then record w { counts = nothing_counted } else w) (has-not "p" in_run tag i refl)
      ∙ ap (λ b. if b then record w { counts = nothing_counted } else w) (has-not "txbxContent" in_run tag i refl)

  enters_nothing : (in_run : Bool) (tag : Tag) (kids : Nodes) (w : Walk) → Idle in_run tag → entered tables tag kids w ≡ w
  enters_nothing in_run tag kids w i = ap (λ k. begun tables tag kids (noted k tag.rev w)) i.kind ∙ begins_nothing in_run tag kids w i

  leaves_nothing : (in_run : Bool) (tag : Tag) (outer : Counts) (w : Walk) → Idle in_run tag → left tag outer w ≡ w
  leaves_nothing in_run tag outer w i =
      ap (λ b. if b then record w { counts = passed w.counts } else if is "txbxContent" tag then record w { counts = outer } else if is "tbl" tag then settled (before w.counts.last) w else w) (has-not "p" in_run tag i refl)
      ∙ ap (λ b. if b then record w { counts = outer } else if is "tbl" tag then settled (before w.counts.last) w else w) (has-not "txbxContent" in_run tag i refl)
      ∙ ap (λ b. if b then settled (before w.counts.last) w else w) (has-not "tbl" in_run tag i refl)

  idle_walked : (in_run : Bool) (x : Nodes) (w : Walk) → is_idle_in in_run x ≡ true → walked tables x w ≡ w
  idle_walked in_run no_nodes w h = refl
  idle_walked in_run (bytes b rest) w h = idle_walked in_run rest w h
  idle_walked in_run (element tag kids rest) w h =
      let p = idle_parts in_run tag kids rest h in
      ap (λ v. walked tables rest (left tag w.counts (walked tables kids v))) (enters_nothing in_run tag kids w p.own)
      ∙ ap (λ v. walked tables rest (left tag w.counts v)) (idle_walked (is "r" tag) kids w p.below)
      ∙ ap (walked tables rest) (leaves_nothing in_run tag w.counts w p.own)
      ∙ idle_walked in_run rest w p.later

  -- ---- the nodes behind one node

  pub walked-in_front : (x : Item) (rest : Nodes) (w : Walk) → walked tables (in_front x rest) w ≡ walked tables rest (item_walked tables x w)
  walked-in_front (bytes_item b) rest w = refl
  walked-in_front (element_item tag kids) rest w = refl
  walked-in_front (idle_item t) rest w = walked-⊕ (idle_nodes t) rest w ∙ ap (walked tables rest) (idle_walked false (idle_nodes t) w (nodes_are_idle t))
