use Rattle.std.proofs.Common.{◌∙◌, ap}
use Rattle.std.specs.Prelude.{not}
use Rattle.redl_tree.specs.Model.View.{nodes_of}
use Rattle.redl_again.proofs.DepthLaws.{passes-depth}
use Rattle.redl_again.proofs.MeetingLaws.{join-meet}
use Rattle.redl_again.proofs.obstacles.Obstacles.of.Goals as goal

pub returns-clause-too_deep : goal.returns-clause-too_deep
returns-clause-too_deep c = c.see_nodes.ensures.deeper ∙ passes-depth c.args.depth (nodes_of c.args.nodes.now)

pub returns-clause-meets_badly : goal.returns-clause-meets_badly
returns-clause-meets_badly c = ap not (c.see_nodes.ensures.well ∙ join-meet (nodes_of c.args.nodes.now))
