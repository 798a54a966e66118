use Rattle.std.proofs.Common.{◌∙◌, ap}
use Rattle.redl_tree.specs.Decisions.Packages.{stories}
use Rattle.redl_editor.proofs.DocumentLaws.{kept-lent}
use Rattle.redl_editor.specs.Documents.{Document, present_at}
use Rattle.redl_editor.specs.Stories.{original_package}
use Rattle.redl_editor.proofs.editor.Editor.leaf.Goals as goal

pub returns : goal.returns
returns c =
    let nodes = c.self.inside.nodes.items in
    let kept = c.self.inside.stories.items in
    let tables = c.self.inside.tables.items in
    let says = c.self.inside.says.items in
    let found = rw (c.deref.ensures.value, c.deref-2.ensures.value) at c.find_present.ensures in
    found says (stories (original_package nodes kept)) c.self.invariant.kept
    ∙ kept-lent nodes kept tables says c.self.invariant c.args.story c.args.place
    ∙ ap (λ (document : Document). present_at document c.args.story c.args.place) c.self.view_is
