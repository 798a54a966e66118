use Rattle.std.proofs.Common.{◌≡◌, false, sym, ap, ◌∙◌}
use Rattle.redl_laws.proofs.Leaves.Undecided.{pass_leaf-undecided}
use Rattle.redl_tree.specs.Leaves.Settings.{has_member, is_decided}
use Rattle.redl_tree.specs.Model.View.{nodes_of}
use Rattle.redl_leaves.specs.View.{leaf_model}
use Rattle.redl_leaves.proofs.setting.put_leaf.Goals as goal

pub returns-else-has_decided-clause-present : goal.returns-else-has_decided-clause-present
returns-else-has_decided-clause-present c = λ _.
    let none : has_member (is_decided c.args.says.now) (nodes_of c.args.leaf.now.original.items) ≡ false =
    ap (λ xs. has_member (is_decided c.args.says.now) (nodes_of xs)) (sym c.deref.ensures.value) ∙ sym c.has_decided.ensures ∙ c.if-has_decided.false in
    sym (pass_leaf-undecided c.args.says.now (leaf_model c.args.leaf.now) none)
