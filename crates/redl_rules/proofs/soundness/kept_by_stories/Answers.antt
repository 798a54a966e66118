use Rattle.std.proofs.Common.{◌∙◌, ◌+◌, ◌<◌, ◌≤◌, ap, sym, length, subst, arith}
use Rattle.redl_opc.specs.Elements.{element_of}
use Rattle.redl_opc.specs.Shape.{parts_of}
use Rattle.redl_rules.specs.Keeping.{in_both}
use Rattle.redl_rules.proofs.StoryLaws.{IsKeptBelow, kept-first, kept-story, kept-other, kept-last}
use Rattle.redl_rules.proofs.soundness.kept_by_stories.Goals as goal
use Rattle.redl_rules.proofs.soundness.kept_by_stories.Goals.{in-Some, in_default}

pub loop-part-init : goal.loop-part-init
loop-part-init c = kept-first c.args.pkg.now c.all-kept.result c.parts-part-end.ensures.shape c.all-kept.ensures

pub loop-part-preserved : goal.loop-part-preserved
loop-part-preserved c =
    let pkg = c.args.pkg.now in
    let part = c.loop-part.part in
    let kept = c.loop-part.kept in
    let within : part < length (parts_of pkg) = omega (arith, c.parts-part-end.ensures.value) in
    elim c.match-story.branch [
      | in-Some w ↦
          kept-story pkg part kept within c.loop-part.invariant c.match-story.kept (element_of w.in-Some.root.now) w.in-Some.ensures.value
          (w.kept-is ∙ w.and-kept.ensures ∙ ap (in_both kept) w.kept_by_story.ensures)
      | in_default w ↦
          subst (IsKeptBelow (part + 1) pkg) (sym w.kept-is) (kept-other pkg part kept within c.loop-part.invariant w.in_default.ensures.value)
    ]

pub returns : goal.returns
returns c =
    let past : length (parts_of c.args.pkg.now) ≤ c.loop-part.part = omega (arith, c.parts-part-end.ensures.value, c.loop-part-test.false) in
    kept-last c.args.pkg.now c.loop-part.part c.loop-part.kept past c.loop-part.invariant
