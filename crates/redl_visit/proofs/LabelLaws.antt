-- Labelled nodes, a node at a time.
use Rattle.std.proofs.Common.{◌≡◌, ◌∙◌, refl, sym, ap, Bool, true, false, true≢false, ◌&&◌, None}
use Rattle.std.proofs.lemmas.Bool.{and_parts}
use Rattle.redl_tree.specs.Model.Nodes.{Tag, Nodes, no_nodes, bytes, element, Item, bytes_item, element_item, idle_item, in_front, ◌⊕◌}
use Rattle.redl_tree.specs.Model.IdleTexts.{idle_nodes}
use Rattle.redl_tree.specs.Model.Kids.{has_element}
use Rattle.redl_tree.specs.Roles.Names.{is}
use Rattle.redl_tree.specs.Roles.Idle.{is_idle_tag, is_idle_in}
use Rattle.redl_tree.proofs.Model.Laws.{⊕-no_nodes}
use Rattle.redl_tree.proofs.Idle.Items.{nodes_are_idle}
use Rattle.redl_visit.specs.Visits.{visited, visited_element, visited_item, inner_of}
use Rattle.redl_visit.proofs.VisitLaws.{no_inner}
use Rattle.redl_visit.specs.Labelling.{LabelRule, LeavesIdle, visit_of, relabelled, relabelled_kids, relabelled_item}

-- idle elements keep their label
module _ {H O S : Type 0} (inside : Tag → H → H) (rule : LabelRule H O S) (leaves : LeavesIdle rule) where
  relabelled-idle : (here : H) (own : O) (in_run : Bool) (nodes : Nodes) (s : S) → is_idle_in in_run nodes ≡ true → relabelled inside rule here own nodes s ≡ nodes
  relabelled-idle here own in_run no_nodes s h = refl
  relabelled-idle here own in_run (bytes b rest) s h = ap (bytes b) (relabelled-idle here own in_run rest s h)
  relabelled-idle here own in_run (element tag kids rest) s h =
      let one = and_parts (is_idle_tag in_run tag) (is_idle_in (is "r" tag) kids && is_idle_in in_run rest) h in
      let two = and_parts (is_idle_in (is "r" tag) kids) (is_idle_in in_run rest) one.1 in
      let later = visited_element inside (visit_of rule) here own tag kids s in
      ap (λ (t : Tag). element t (relabelled_kids inside rule here own tag kids s) (relabelled inside rule here own rest later)) (leaves here own in_run tag kids s one.0)
      ∙ ap (λ (k : Nodes). element tag k (relabelled inside rule here own rest later)) (relabelled-idle (inside tag here) (rule.below here own tag kids s) (is "r" tag) kids (rule.enter here own tag kids s) two.0)
      ∙ ap (element tag kids) (relabelled-idle here own in_run rest later two.1)

  relabelled-past : (here : H) (own : O) (in_run : Bool) (xs ys : Nodes) (s : S) → is_idle_in in_run xs ≡ true → relabelled inside rule here own (xs ⊕ ys) s ≡ xs ⊕ relabelled inside rule here own ys (visited inside (visit_of rule) here own xs s)
  relabelled-past here own in_run no_nodes ys s h = refl
  relabelled-past here own in_run (bytes b rest) ys s h = ap (bytes b) (relabelled-past here own in_run rest ys s h)
  relabelled-past here own in_run (element tag kids rest) ys s h =
      let one = and_parts (is_idle_tag in_run tag) (is_idle_in (is "r" tag) kids && is_idle_in in_run rest) h in
      let two = and_parts (is_idle_in (is "r" tag) kids) (is_idle_in in_run rest) one.1 in
      let later = visited_element inside (visit_of rule) here own tag kids s in
      ap (λ (t : Tag). element t (relabelled_kids inside rule here own tag kids s) (relabelled inside rule here own (rest ⊕ ys) later)) (leaves here own in_run tag kids s one.0)
      ∙ ap (λ (k : Nodes). element tag k (relabelled inside rule here own (rest ⊕ ys) later)) (relabelled-idle (inside tag here) (rule.below here own tag kids s) (is "r" tag) kids (rule.enter here own tag kids s) two.0)
      ∙ ap (element tag kids) (relabelled-past here own in_run rest ys later two.1)

module _ {H O S : Type 0} (inside : Tag → H → H) (rule : LabelRule H O S) (here : H) (own : O) where
  pub relabelled-in_front : LeavesIdle rule → (x : Item) (rest : Nodes) (s : S) → relabelled inside rule here own (in_front x rest) s
      ≡ in_front (relabelled_item inside rule here own x s) no_nodes ⊕ relabelled inside rule here own rest (visited_item inside (visit_of rule) here own x s)
  relabelled-in_front leaves (bytes_item b) rest s = refl
  relabelled-in_front leaves (element_item tag kids) rest s = refl
  relabelled-in_front leaves (idle_item t) rest s =
      relabelled-past inside rule leaves here own false (idle_nodes t) rest s (nodes_are_idle t)
      ∙ ap (λ (ns : Nodes). ns ⊕ relabelled inside rule here own rest (visited inside (visit_of rule) here own (idle_nodes t) s)) (sym (⊕-no_nodes (idle_nodes t)))

  pub relabelled-none : (nodes : Nodes) (s : S) → has_element nodes ≡ false → relabelled inside rule here own nodes s ≡ nodes
  relabelled-none no_nodes s none = refl
  relabelled-none (bytes b rest) s none = ap (bytes b) (relabelled-none rest s none)
  relabelled-none (element tag kids rest) s none = absurd (true≢false none)

pub none_relabelled : {H O S : Type 0} (inside : Tag → H → H) (rule : LabelRule H O S) (tag : Tag) (kids : Nodes) (here : H) (own : O) (s : S) → None ≡ inner_of inside tag kids here
    → relabelled inside rule (inside tag here) own kids s ≡ kids
none_relabelled inside rule tag kids here own s is = relabelled-none inside rule (inside tag here) own kids s (no_inner inside tag kids here is)
