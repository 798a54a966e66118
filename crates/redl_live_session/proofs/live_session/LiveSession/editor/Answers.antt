use Rattle.std.proofs.Common.{List, ap, ◌∙◌}
use Rattle.redl_editor.specs.Documents.{Document}
use Rattle.redl_session.specs.Sessions.{SessionState, says}
use Rattle.redl_tree.specs.Model.Nodes.{Nodes}
use Rattle.redl_tree.specs.declared.kinds.Say.{Say}
use Rattle.redl_live_session.proofs.live_session.LiveSession.editor.Goals as goal

abbrev document : Nodes → List Say → Document
document nodes said = record { nodes = nodes; says = said }

pub returns : goal.returns
returns c =
    ap (λ (said : List Say). document c.self.inside.editor.nodes said) c.self.invariant.decided
    ∙ ap (λ (state : SessionState). document state.nodes (says state)) c.self.view_is
