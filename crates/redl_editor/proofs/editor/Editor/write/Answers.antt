use Rattle.std.proofs.Common.{◌≡◌, ◌∙◌, List, map, ap}
use Rattle.redl_tree.specs.Decisions.Packages.{changed_package, pass_package}
use Rattle.redl_tree.specs.Leaves.Shown.{shown_rule}
use Rattle.redl_tree.specs.Model.View.{nodes_of}
use Rattle.redl_tree.specs.declared.node.Node.{Node}
use Rattle.redl_editor.proofs.DocumentLaws.{kept-written}
use Rattle.redl_editor.specs.Documents.{Document}
use Rattle.redl_editor.specs.Stories.{states_kept}
use Rattle.redl_editor.specs.declared.story.Story.{Story}
use Rattle.redl_editor.proofs.editor.Editor.write.Goals as goal

pub returns : goal.returns
returns g c =
    let whole : changed_package shown_rule (map states_kept c.deref-2.result.now) (nodes_of c.deref.result.now) ≡ pass_package c.args.self.now.says c.args.self.now.nodes =
    ap (λ (kept : List Story). changed_package shown_rule (map states_kept kept) (nodes_of c.deref.result.now)) c.deref-2.ensures.value
    ∙ ap (λ (nodes : List Node). changed_package shown_rule (map states_kept c.self.inside.stories.items) (nodes_of nodes)) c.deref.ensures.value
    ∙ kept-written c.self.inside.nodes.items c.self.inside.stories.items c.self.inside.tables.items c.self.inside.says.items c.self.invariant
    ∙ ap (λ (document : Document). pass_package document.says document.nodes) c.self.view_is in
    rw (← whole) c.write_package.ensures
