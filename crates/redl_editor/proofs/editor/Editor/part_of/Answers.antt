use Rattle.std.proofs.Common.{◌≡◌, ◌∙◌, ℕ, List, None, is_some, slice_get, sym, ap}
use Rattle.redl_editor.proofs.PartLaws.{parts-tied, part-there-if}
use Rattle.redl_editor.specs.Documents.{Document}
use Rattle.redl_editor.specs.Parts.{story_parts}
use Rattle.redl_opc.specs.Shape.{refusal}
use Rattle.redl_editor.proofs.editor.Editor.part_of.Goals as goal

pub returns-clause-part : goal.returns-clause-part
returns-clause-part c = λ part.
    let nodes = c.args.self.now.nodes in
    let parts : c.deref.result.now ≡ story_parts nodes =
    c.deref.ensures.value ∙ c.self.invariant.parts ∙ ap (λ (document : Document). story_parts document.nodes) c.self.view_is in
    let found : c.part_at.result ≡ slice_get (story_parts nodes) c.args.story =
    c.part_at.ensures ∙ ap (λ (xs : List ℕ). slice_get xs c.args.story) parts in
    let tied = parts-tied nodes c.args.story part in
    (λ is. tied.0 (sym found ∙ is), λ is. found ∙ tied.1 is)

pub returns-clause-some : goal.returns-clause-some
returns-clause-some c =
    let nodes = c.args.self.now.nodes in
    let parts : c.deref.result.now ≡ story_parts nodes =
    c.deref.ensures.value ∙ c.self.invariant.parts ∙ ap (λ (document : Document). story_parts document.nodes) c.self.view_is in
    let shape : refusal nodes ≡ None = sym (ap (λ (document : Document). refusal document.nodes) c.self.view_is) ∙ c.self.invariant.shape in
    ap is_some (c.part_at.ensures ∙ ap (λ (xs : List ℕ). slice_get xs c.args.story) parts) ∙ part-there-if nodes c.args.story shape
