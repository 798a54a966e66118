use Rattle.std.proofs.Common.{◌≡◌, ◌∙◌, ap, arith}
use Rattle.redl_tree.specs.Model.Nodes.{Nodes, Item, no_nodes, in_front, ◌⊕◌}
use Rattle.redl_tree.specs.Model.IdleTexts.{idle_nodes}
use Rattle.redl_tree.specs.Model.Folds.{nodes_in}
use Rattle.redl_tree.specs.Model.View.{nodes_of}
use Rattle.redl_tree.specs.declared.kinds.Space.TheVariants.{W}
use Rattle.redl_tree.proofs.Model.Laws.{item_of-Plain, ⊕-no_nodes}
use Rattle.redl_xml.specs.Scopes.{Scope}
use Rattle.redl_xml.specs.Inside.Buildings.{building_view}
use Rattle.redl_xml.specs.Inside.Passing.{IsIdleText}
use Rattle.redl_xml.proofs.Buildings.{length-open, state}
use Rattle.redl_xml.proofs.building.Building.pass_over.Goals as goal

pub returns-clause-passed : goal.returns-clause-passed
returns-clause-passed c =
    let old = c.args.self.now in
    let fs = (building_view old).open_elements in
    let t = c.in-Some.plain in
    let idle = c.in-Some.idle in
    let text : IsIdleText old.scopes c.args.bytes.now t idle.rest.now idle.nodes idle.deepest = rw c.in-Some.is at c.in_ok-text.ensures.text in
    let kids : nodes_of c.push_node.new.nodes.items ≡ nodes_of old.kids.items ⊕ nodes_in W t =
    c.in_ok-push_node.ensures ∙ ap (λ (i : Item). nodes_of old.kids.items ⊕ in_front i no_nodes) (item_of-Plain t)
    ∙ ap (λ (ns : Nodes). nodes_of old.kids.items ⊕ ns) (⊕-no_nodes (idle_nodes t) ∙ text.kept)
    in
    record {
      text = t;
      is = text;
      below = λ none. grind (arith, c.len.ensures, c.if-len-lt-UPPER_LEVELS.false, old.open.ok.0, length-open old.open.items old.before.items, none);
      added =
          ap (λ (k : Nodes). state fs k c.skip_plain.new.scopes) kids
          ∙ ap (λ (s : Scope). state fs (nodes_of old.kids.items ⊕ nodes_in W t) s) c.in_ok-text.ensures.same;
    }
