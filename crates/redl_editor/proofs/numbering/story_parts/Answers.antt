use Rattle.std.proofs.Common.{◌∙◌, ◌+◌, ◌++◌, ◌∷◌, [], true, false, take, take_all, append-nil, ap, sym, refl, arith}
use Rattle.redl_editor.proofs.PartLaws.{found-story, parts-more}
use Rattle.redl_editor.specs.Parts.{numbers_from}
use Rattle.redl_opc.specs.Elements.{element_of}
use Rattle.redl_opc.specs.Parts.{story}
use Rattle.redl_opc.specs.Shape.{parts_of}
use Rattle.redl_editor.proofs.numbering.story_parts.Goals as goal
use Rattle.redl_editor.proofs.numbering.story_parts.Goals.{then-is_some+in_ok-push, else-is_some}

pub loop-part-preserved : goal.loop-part-preserved
loop-part-preserved c =
    let nodes = c.args.pkg.now in
    let part = c.loop-part.part in
    let known = found-story (λ root. element_of root.now) c.story.result (story nodes part) c.is_some.result c.story.ensures.value c.is_some.ensures in
    elim c.if-is_some.branch [
      | then-is_some+in_ok-push w ↦
          ap (λ parts. parts.items) w.parts-is ∙ w.in_ok-push.ensures.items ∙ ap (λ xs. xs ++ part ∷ []) c.loop-part.invariant
          ∙ sym (parts-more nodes part (part + 1) true refl (known ∙ w.if-is_some.true))
      | else-is_some w ↦
          ap (λ parts. parts.items) w.parts-is ∙ c.loop-part.invariant ∙ sym (append-nil (numbers_from 0 (take part (parts_of nodes))))
          ∙ sym (parts-more nodes part (part + 1) false refl (known ∙ w.if-is_some.false))
    ]

pub returns : goal.returns
returns c =
    let nodes = c.args.pkg.now in
    c.loop-part.invariant ∙ ap (numbers_from 0) (take_all c.loop-part.part (parts_of nodes) (omega arith))
