use Rattle.std.proofs.Common.{arith}
use Rattle.redl_resolve.proofs.PassLaws.{visits-few}
use Rattle.redl_tree.specs.Model.View.{nodes_of}
use Rattle.redl_resolve.proofs.story.pass_story.Goals as goal

pub returns-in_err-passed-clause-entered : goal.returns-in_err-passed-clause-entered
returns-in_err-passed-clause-entered g c = omega (arith, visits-few c.args.says.now (nodes_of c.args.kids.items))

pub returns-clause-entered : goal.returns-clause-entered
returns-clause-entered g c = omega (arith, visits-few c.args.says.now (nodes_of c.args.kids.items))
