use Rattle.std.proofs.Common.{◌≤◌, ◌+◌, subst, sym}
use Rattle.redl_tree.specs.Model.View.{item_of}
use Rattle.redl_views.proofs.WayLaws.{holds-past, passed-most}
use Rattle.redl_views.proofs.known.Known.passed_after.Goals as goal

pub returns-in-Some-Nothing : goal.returns-in-Some-Nothing
returns-in-Some-Nothing c = record {
  holds = λ says rest h. holds-past says c.args.self c.args.passed c.passed_node.result (item_of c.args.node.now) rest c.passed_node.ensures h;
  most = subst (λ n. n ≤ c.args.passed + 1) (sym c.passed_node.ensures) (passed-most (item_of c.args.node.now) c.args.passed);
}
