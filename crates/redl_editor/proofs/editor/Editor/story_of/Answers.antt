use Rattle.std.proofs.Common.{◌≡◌, ◌∙◌, None, sym, ap}
use Rattle.redl_editor.proofs.PartLaws.{part-counts, part-leaves}
use Rattle.redl_editor.specs.Documents.{Document}
use Rattle.redl_editor.specs.Parts.{story_number}
use Rattle.redl_editor.specs.Stories.{original_package}
use Rattle.redl_opc.specs.Shape.{refusal}
use Rattle.redl_editor.proofs.editor.Editor.story_of.Goals as goal

pub returns-clause-value : goal.returns-clause-value
returns-clause-value c =
    c.find_part.ensures (original_package c.self.inside.nodes.items c.self.inside.stories.items) (c.deref.ensures.value ∙ c.self.invariant.parts)
    ∙ ap (λ (document : Document). story_number document.nodes c.args.part) c.self.view_is

pub returns-clause-leaves : goal.returns-clause-leaves
returns-clause-leaves c =
    let value : c.find_part.result ≡ story_number c.args.self.now.nodes c.args.part =
    c.find_part.ensures (original_package c.self.inside.nodes.items c.self.inside.stories.items) (c.deref.ensures.value ∙ c.self.invariant.parts)
    ∙ ap (λ (document : Document). story_number document.nodes c.args.part) c.self.view_is in
    let shape : refusal c.args.self.now.nodes ≡ None = sym (ap (λ (document : Document). refusal document.nodes) c.self.view_is) ∙ c.self.invariant.shape in
    part-counts c.args.self.now c.args.part c.find_part.result shape value

pub returns-clause-leaf : goal.returns-clause-leaf
returns-clause-leaf c =
    let value : c.find_part.result ≡ story_number c.args.self.now.nodes c.args.part =
    c.find_part.ensures (original_package c.self.inside.nodes.items c.self.inside.stories.items) (c.deref.ensures.value ∙ c.self.invariant.parts)
    ∙ ap (λ (document : Document). story_number document.nodes c.args.part) c.self.view_is in
    let shape : refusal c.args.self.now.nodes ≡ None = sym (ap (λ (document : Document). refusal document.nodes) c.self.view_is) ∙ c.self.invariant.shape in
    part-leaves c.args.self.now c.args.part c.find_part.result shape value
