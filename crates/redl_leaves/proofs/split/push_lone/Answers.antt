use Rattle.std.proofs.Common.{◌≡◌, OnOk, sym, ap, ◌∙◌, subst}
use Rattle.redl_tree.specs.Model.Folds.{nodes_in}
use Rattle.redl_tree.specs.Model.IdleTexts.{idle_nodes}
use Rattle.redl_tree.specs.Model.Nodes.{no_nodes, in_front}
use Rattle.redl_tree.specs.Model.View.{item_of}
use Rattle.redl_tree.specs.declared.kinds.Space.TheVariants.{W}
use Rattle.redl_tree.proofs.Model.Laws.{item_of-Plain, ⊕-no_nodes}
use Rattle.redl_leaves.specs.Inside.Splits.{AddsLone}
use Rattle.redl_leaves.proofs.split.push_lone.Goals as goal

pub returns-in-Plain : goal.returns-in-Plain
returns-in-Plain c =
    let t = c.in-Plain.plain in
    let same : nodes_in W c.of.result ≡ in_front (item_of c.args.node) no_nodes =
    c.of.ensures ∙ sym (⊕-no_nodes (idle_nodes t)) ∙ sym (ap (λ x. in_front x no_nodes) (ap item_of c.in-Plain.is ∙ item_of-Plain t)) in
    subst (λ nodes. OnOk c.push_kept.result (AddsLone c.args.among_blocks nodes c.args.slots.now.items c.push_kept.new.slots.items)) same c.push_kept.ensures
