-- What is known of the stories so far, part by part; a part that is no story adds nothing.
use Rattle.std.proofs.Common.{◌∙◌, ◌<◌, ◌≤◌, length, ap, arith}
use Rattle.redl_opc.specs.Elements.{element_of}
use Rattle.redl_opc.specs.Shape.{parts_of}
use Rattle.redl_opc.proofs.WalkLaws.{count_from-start, count_from-part, count_from-story}
use Rattle.redl_rules.specs.Keeping.{in_both}
use Rattle.redl_rules.proofs.StoryLaws.{kept-first, kept-story, kept-other, kept-last}
use Rattle.redl_index.proofs.StoryFactLaws.{known-first, known-story, known-other, known-last}
use Rattle.redl_index.proofs.survey.survey_stories.Goals as goal

pub survey_story-requires : goal.survey_story-requires
survey_story-requires c =
    let pkg = c.args.pkg.now in
    let part = c.loop-part.part in
    let within : part < length (parts_of pkg) = omega (arith, c.parts-part-end.ensures.value, c.loop-part-test.true) in
    record {
      few = omega (arith, count_from-story pkg part (element_of c.in-Some.root.now) within c.in-Some.ensures.value, c.loop-part.invariant.at_most, c.parts-part-end.ensures.few);
    }

pub loop-part-init : goal.loop-part-init
loop-part-init c = record {
  at_most = count_from-start c.args.pkg.now;
  rules = kept-first c.args.pkg.now c.all-kept.result c.parts-part-end.ensures.shape c.all-kept.ensures;
  known = known-first c.args.pkg.now c.new-known.result.items c.parts-part-end.ensures.shape c.new-known.ensures.items;
}

pub loop-part-preserved-in_default : goal.loop-part-preserved-in_default
loop-part-preserved-in_default c =
    let pkg = c.args.pkg.now in
    let part = c.loop-part.part in
    let within : part < length (parts_of pkg) = omega (arith, c.parts-part-end.ensures.value, c.loop-part-test.true) in
    record {
      at_most = omega (arith, count_from-part pkg part within, c.loop-part.invariant.at_most);
      rules = kept-other pkg part c.loop-part.kept within c.loop-part.invariant.rules c.in_default.ensures.value;
      known = known-other pkg part c.loop-part.known.items within c.loop-part.invariant.known c.in_default.ensures.value;
    }

pub loop-part-preserved : goal.loop-part-preserved
loop-part-preserved c =
    let pkg = c.args.pkg.now in
    let part = c.loop-part.part in
    let root = element_of c.in-Some.root.now in
    let is_story = c.in-Some.ensures.value in
    let within : part < length (parts_of pkg) = omega (arith, c.parts-part-end.ensures.value, c.loop-part-test.true) in
    record {
      at_most = omega (arith, count_from-part pkg part within, c.loop-part.invariant.at_most);
      rules = kept-story pkg part c.loop-part.kept within c.loop-part.invariant.rules c.and-kept.result root is_story
          (c.and-kept.ensures ∙ ap (in_both c.loop-part.kept) c.in_ok-rules.ensures.rules);
      known = known-story pkg part c.loop-part.known.items within c.loop-part.invariant.known c.push.new.self.items c.in_ok-rules.story root is_story
          c.in_ok-push.ensures.items c.in_ok-rules.ensures.known;
    }

pub returns-clause-rules : goal.returns-clause-rules
returns-clause-rules c =
    let past : length (parts_of c.args.pkg.now) ≤ c.loop-part.part = omega (arith, c.parts-part-end.ensures.value, c.loop-part-test.false) in
    kept-last c.args.pkg.now c.loop-part.part c.loop-part.kept past c.loop-part.invariant.rules

pub returns-clause-known : goal.returns-clause-known
returns-clause-known c =
    let past : length (parts_of c.args.pkg.now) ≤ c.loop-part.part = omega (arith, c.parts-part-end.ensures.value, c.loop-part-test.false) in
    known-last c.args.pkg.now c.loop-part.part c.loop-part.known.items past c.loop-part.invariant.known
