use Rattle.std.proofs.Common.{◌≡◌, Ok, ap, subst, ◌∙◌}
use Rattle.redl_io.specs.Sink.{Puts}
use Rattle.redl_session.specs.Sessions.{says}
use Rattle.redl_tree.specs.Decisions.Packages.{pass_package}
use Rattle.redl_tree.specs.Model.Nodes.{Nodes}
use Rattle.redl_tree.specs.Model.Text.{text}
use Rattle.redl_tree.specs.Model.View.{nodes_of}
use Rattle.redl_session.proofs.session.Session.write.Goals as goal

pub returns-in-Ok-write_nodes : goal.returns-in-Ok-write_nodes
returns-in-Ok-write_nodes g c =
    let whole : nodes_of c.deref.result.now ≡ pass_package (says c.args.self.now) c.args.self.now.nodes =
    ap nodes_of c.deref.ensures.value ∙ c.in-Ok.ensures in
    subst (λ (ns : Nodes). Puts {T = Unit {0}} g.K.Sink.told g.K.Sink.faults g.K.Sink.settled g.K.Sink.lenders c.args.out.now c.write_nodes.new.out (text ns) (Ok tt))
    whole c.in-Ok-write_nodes.ensures
