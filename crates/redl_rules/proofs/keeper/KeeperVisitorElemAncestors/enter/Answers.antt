use Rattle.std.proofs.Common.{◌≡◌, ◌∙◌, ap, sym}
use Rattle.redl_tree.specs.Model.View.{tag_of, kids_of}
use Rattle.redl_tree.specs.Roles.Arounds.{role_in}
use Rattle.redl_tree.specs.declared.around.Around.{Around}
use Rattle.redl_rules.specs.declared.keeper.Keeper.{Keeper}
use Rattle.redl_rules.specs.declared.kept.Kept.{Kept}
use Rattle.redl_rules.specs.Keeping.{in_both}
use Rattle.redl_rules.specs.Visiting.{kept_by_round}
use Rattle.redl_rules.proofs.KeptLaws.{where_all_hold}
use Rattle.redl_rules.proofs.keeper.KeeperVisitorElemAncestors.enter.Goals as goal
use Rattle.redl_rules.proofs.keeper.KeeperVisitorElemAncestors.enter.Goals.{then-not-keeps_all, else-not-keeps_all}

pub returns-clause-state : goal.returns-clause-state
returns-clause-state g c =
    let tag = tag_of c.args.elem.now in
    let kids = kids_of c.args.elem.now in
    let here = c.args.here.now.around in
    let old : Kept = c.args.self.now.kept in
    let told : Kept = kept_by_round here c.around_inside-around.result c.args.own.now c.role-kind.result tag kids in
    let now : c.if-not-keeps_all.self.kept ≡ in_both old told = elim c.if-not-keeps_all.branch [
      | then-not-keeps_all w ↦ ap (λ (k : Keeper g.row.X.Denot). k.kept) w.self-is ∙ w.and-self.ensures ∙ ap (in_both old) w.kept_here.ensures
      | else-not-keeps_all w ↦
          ap (λ (k : Keeper g.row.X.Denot). k.kept) w.self-is ∙ sym (where_all_hold old told (sym c.keeps_all.ensures ∙ w.if-not-keeps_all.false))
    ] in
    now
    ∙ ap (λ k. in_both old (kept_by_round here c.around_inside-around.result c.args.own.now k tag kids)) c.role-kind.ensures.by_answers
    ∙ ap (λ (a : Around). in_both old (kept_by_round here a c.args.own.now (role_in here tag) tag kids)) c.around_inside-around.ensures
