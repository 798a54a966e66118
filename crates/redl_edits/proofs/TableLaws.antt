-- Tables among nodes one after the other, and that no idle element is one or is in a revision.
use Rattle.std.proofs.Common.{◌≡◌, ◌∙◌, refl, sym, ap, ℕ, List, [], ◌∷◌, ◌++◌, append_assoc, Bool, true, false, if◌then◌else◌}
use Rattle.redl_classes.specs.declared.pair.Pair.{Pair}
use Rattle.redl_index.specs.declared.revision.Revision.{Revision}
use Rattle.redl_tree.specs.Model.IdleTexts.{idle_nodes}
use Rattle.redl_tree.specs.Model.Nodes.{Nodes, no_nodes, bytes, element, Item, bytes_item, element_item, idle_item, in_front, ◌⊕◌}
use Rattle.redl_tree.specs.Model.View.{Element}
use Rattle.redl_tree.specs.Roles.Idle.{is_idle_in, is_plain_kind}
use Rattle.redl_tree.specs.Roles.Names.{is}
use Rattle.redl_tree.proofs.Idle.Items.{nodes_are_idle}
use Rattle.redl_tree.proofs.Idle.Tags.{has-not, idle_parts}
use Rattle.redl_edits.specs.Inside.Items.{item_table_revisions, item_tabled}
use Rattle.redl_edits.specs.Tabled.{own_tabled, table_pairs, tabled_in, tabled_pairs}
use Rattle.redl_edits.specs.Tables.{in_table, own_revision, table_revisions}

-- ---- revisions of a table

table_revisions-⊕ : (x y : Nodes) → table_revisions (x ⊕ y) ≡ table_revisions x ++ table_revisions y
table_revisions-⊕ no_nodes y = refl
table_revisions-⊕ (bytes b rest) y = table_revisions-⊕ rest y
table_revisions-⊕ (element tag kids rest) y =
    ap (λ (vs : List ℕ). in_table tag (table_revisions kids) ++ vs) (table_revisions-⊕ rest y)
    ∙ sym (append_assoc (in_table tag (table_revisions kids)) (table_revisions rest) (table_revisions y))

idle_revisions : (in_run : Bool) (x : Nodes) → is_idle_in in_run x ≡ true → table_revisions x ≡ []
idle_revisions in_run no_nodes h = refl
idle_revisions in_run (bytes b rest) h = idle_revisions in_run rest h
idle_revisions in_run (element tag kids rest) h =
    let p = idle_parts in_run tag kids rest h in
    ap (λ b. (if b then [] else own_revision tag ++ table_revisions kids) ++ table_revisions rest) (has-not "tbl" in_run tag p.own refl)
    ∙ ap (λ k. ((if is_plain_kind k then [] else tag.rev ∷ []) ++ table_revisions kids) ++ table_revisions rest) p.own.kind
    ∙ ap (λ (vs : List ℕ). vs ++ table_revisions rest) (idle_revisions (is "r" tag) kids p.below)
    ∙ idle_revisions in_run rest p.later

pub table_revisions-in_front : (x : Item) (rest : Nodes) → table_revisions (in_front x rest) ≡ item_table_revisions x ++ table_revisions rest
table_revisions-in_front (bytes_item b) rest = refl
table_revisions-in_front (element_item tag kids) rest = refl
table_revisions-in_front (idle_item t) rest =
    table_revisions-⊕ (idle_nodes t) rest ∙ ap (λ (vs : List ℕ). vs ++ table_revisions rest) (idle_revisions false (idle_nodes t) (nodes_are_idle t))

-- ---- pairs of tables

module _ (revisions : List Revision) where
  tabled_in-⊕ : (x y : Nodes) → tabled_in revisions (x ⊕ y) ≡ tabled_in revisions x ++ tabled_in revisions y
  tabled_in-⊕ no_nodes y = refl
  tabled_in-⊕ (bytes b rest) y = tabled_in-⊕ rest y
  tabled_in-⊕ (element tag kids rest) y =
      ap (λ (ps : List Pair). (own_tabled revisions tag kids ++ tabled_in revisions kids) ++ ps) (tabled_in-⊕ rest y)
      ∙ sym (append_assoc (own_tabled revisions tag kids ++ tabled_in revisions kids) (tabled_in revisions rest) (tabled_in revisions y))

  idle_tabled : (in_run : Bool) (x : Nodes) → is_idle_in in_run x ≡ true → tabled_in revisions x ≡ []
  idle_tabled in_run no_nodes h = refl
  idle_tabled in_run (bytes b rest) h = idle_tabled in_run rest h
  idle_tabled in_run (element tag kids rest) h =
      let p = idle_parts in_run tag kids rest h in
      ap (λ b. ((if b then table_pairs revisions (table_revisions kids) else []) ++ tabled_in revisions kids) ++ tabled_in revisions rest) (has-not "tbl" in_run tag p.own refl)
      ∙ ap (λ (ps : List Pair). ps ++ tabled_in revisions rest) (idle_tabled (is "r" tag) kids p.below)
      ∙ idle_tabled in_run rest p.later

  pub tabled_in-in_front : (x : Item) (rest : Nodes) → tabled_in revisions (in_front x rest) ≡ item_tabled revisions x ++ tabled_in revisions rest
  tabled_in-in_front (bytes_item b) rest = refl
  tabled_in-in_front (element_item tag kids) rest = refl
  tabled_in-in_front (idle_item t) rest =
      tabled_in-⊕ (idle_nodes t) rest ∙ ap (λ (ps : List Pair). ps ++ tabled_in revisions rest) (idle_tabled false (idle_nodes t) (nodes_are_idle t))

  pub tabled_pairs-append : (xs ys : List Element) → tabled_pairs revisions (xs ++ ys) ≡ tabled_pairs revisions xs ++ tabled_pairs revisions ys
  tabled_pairs-append [] ys = refl
  tabled_pairs-append (x ∷ xs) ys =
      ap (λ (ps : List Pair). tabled_in revisions x.kids ++ ps) (tabled_pairs-append xs ys)
      ∙ sym (append_assoc (tabled_in revisions x.kids) (tabled_pairs revisions xs) (tabled_pairs revisions ys))
