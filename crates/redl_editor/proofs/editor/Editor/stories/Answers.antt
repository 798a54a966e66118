use Rattle.std.proofs.Common.{◌≡◌, ◌∙◌, length, ap, arith}
use Rattle.redl_tree.specs.Decisions.Packages.{stories}
use Rattle.redl_editor.proofs.KeptLaws.{kept-parts}
use Rattle.redl_editor.specs.Documents.{Document}
use Rattle.redl_editor.specs.Stories.{original_package}
use Rattle.redl_editor.proofs.editor.Editor.stories.Goals as goal

pub returns : goal.returns
returns c =
    let whole = original_package c.self.inside.nodes.items c.self.inside.stories.items in
    let many = kept-parts c.self.inside.says.items (stories whole) c.self.inside.stories.items c.self.inside.tables.items c.self.invariant.kept in
    let here : c.len.result ≡ length (stories whole) = omega (arith, c.len.ensures, many) in
    here ∙ ap (λ (document : Document). length (stories document.nodes)) c.self.view_is
