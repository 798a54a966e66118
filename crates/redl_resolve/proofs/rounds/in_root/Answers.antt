use Rattle.std.proofs.Common.{[], false, ap, ◌∙◌}
use Rattle.redl_resolve.specs.Inside.Rounds.{pass_round_inside}
use Rattle.redl_tables.specs.Asked.{asked}
use Rattle.redl_tables.specs.declared.decided_ancestors.DecidedAncestors.{DecidedAncestors}
use Rattle.redl_tree.specs.Model.View.{tag_of}
use Rattle.redl_resolve.proofs.rounds.in_root.Goals as goal

pub returns : goal.returns
returns c =
    let says = c.args.says.now in
    let tag = tag_of c.args.root.now in
    c.inside.ensures says c.fate_of.ensures
    ∙ ap (pass_round_inside says tag) c.beginning.ensures
    ∙ ap (λ (known : DecidedAncestors). pass_round_inside says tag (record { ancestors = known; para = false; para_props = false; asked = asked [] })) (c.none.ensures says)
