use Rattle.std.proofs.Common.{◌∙◌, ap, []}
use Rattle.redl_tree.specs.Model.View.{tag_of, kids_of}
use Rattle.redl_tree.specs.Roles.Arounds.{around_inside, role_in}
use Rattle.redl_visit.specs.declared.ancestors.Ancestors.{Ancestors}
use Rattle.redl_rules.specs.Rounds.{round_of}
use Rattle.redl_rules.specs.Visiting.{kept_by_round}
use Rattle.redl_rules.proofs.KeeperLaws.{here-kept}
use Rattle.redl_rules.proofs.keeper.Keeper.at_root.Goals as goal

pub returns-clause-kept : goal.returns-clause-kept
returns-clause-kept g c =
    let tag = tag_of c.args.root.now in
    let kids = kids_of c.args.root.now in
    let here = c.none-here.result in
    c.kept_here.ensures
    ∙ ap (λ k. kept_by_round here.around c.inside-inner.result.around c.top-round.result k tag kids) c.role-kind.ensures.by_answers
    ∙ ap (λ (a : Ancestors). kept_by_round here.around a.around c.top-round.result (role_in here.around tag) tag kids) c.inside-inner.ensures
    ∙ ap (λ r. kept_by_round here.around (around_inside tag here.around) r (role_in here.around tag) tag kids) c.top-round.ensures
    ∙ ap (λ (a : Ancestors). kept_by_round a.around (around_inside tag a.around) (round_of []) (role_in a.around tag) tag kids) c.none-here.ensures
    ∙ here-kept [] tag kids
