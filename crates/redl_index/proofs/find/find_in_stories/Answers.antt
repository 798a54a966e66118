-- The revisions found in the stories so far are those of the index so far. It is long because a part is a story or not.
use Rattle.std.proofs.Common.{◌≡◌, ◌∙◌, ◌+◌, ◌++◌, ◌∷◌, ◌<◌, ◌≤◌, ap, sym, List, length, map, Some, None, option_to_list, get_or, arith, rules}
use Rattle.std.proofs.lemmas.List.{append-nil}
use Rattle.std.proofs.lemmas.Option.{slice_get-get_or}
use Rattle.redl_opc.specs.Elements.{element_of}
use Rattle.redl_opc.specs.Parts.{story}
use Rattle.redl_opc.specs.Shape.{parts_of}
use Rattle.redl_opc.specs.Stories.{stories_from}
use Rattle.redl_opc.proofs.WalkLaws.{count_from-start, count_from-part, count_from-story, parts-end, stories_from-start, stories_from-part}
use Rattle.redl_index.specs.StoryFacts.{facts_in}
use Rattle.redl_index.specs.Revisions.{numbered, revisions_in, revisions_from}
use Rattle.redl_index.specs.declared.revision.Revision.{Revision}
use Rattle.redl_index.proofs.RevisionLaws.{found-part}
use Rattle.redl_index.proofs.StoryFactLaws.{known-at}
use Rattle.redl_index.proofs.find.find_in_stories.Goals as goal

pub loop-part-init : goal.loop-part-init
loop-part-init c =
    let pkg = c.args.pkg.now in
    record {
      at_most = omega (arith, ap (λ (rs : List Revision). length rs) c.nothing-found.ensures, count_from-start pkg);
      found = ap (λ (rs : List Revision). rs ++ numbered (1 + length rs) (revisions_from 0 (parts_of pkg))) c.nothing-found.ensures;
      known = c.requires.known ∙ ap (map facts_in) (sym (stories_from-start pkg c.parts-part-end.ensures.shape));
    }

pub loop-part-preserved : goal.loop-part-preserved
loop-part-preserved c =
    let pkg = c.args.pkg.now in
    let part = c.loop-part.part in
    let old = c.loop-part.found.index in
    let root = element_of c.in-Some.root.now in
    let is_story : story pkg part ≡ Some root = c.in-Some.ensures.value in
    let within : part < length (parts_of pkg) = omega (arith, c.parts-part-end.ensures.value, c.loop-part-test.true) in
    let now = c.in_ok-found.found.index in
    let now_is : now ≡ old ++ numbered (1 + length old) (revisions_in part (story pkg part)) =
    c.in_ok-found.ensures.index ∙ ap (λ o. old ++ numbered (1 + length old) (revisions_in part o)) (sym is_story) in
    let here : stories_from part pkg ≡ root ∷ stories_from (part + 1) pkg =
    stories_from-part pkg part within ∙ ap (λ o. option_to_list o ++ stories_from (part + 1) pkg) is_story in
    record {
      at_most = omega (arith, c.in_ok-found.ensures.at_most, count_from-story pkg part root within is_story, c.loop-part.invariant.at_most);
      found = found-part pkg part within old now now_is ∙ c.loop-part.invariant.found;
      known = (known-at c.args.known.now c.loop-part.place (facts_in root) (map facts_in (stories_from (part + 1) pkg)) (c.loop-part.invariant.known ∙ ap (map facts_in) here)).later;
    }

pub loop-part-preserved-in_default : goal.loop-part-preserved-in_default
loop-part-preserved-in_default c =
    let pkg = c.args.pkg.now in
    let part = c.loop-part.part in
    let old = c.loop-part.found.index in
    let none : story pkg part ≡ None = c.in_default.ensures.value in
    let within : part < length (parts_of pkg) = omega (arith, c.parts-part-end.ensures.value, c.loop-part-test.true) in
    let found_is : old ≡ old ++ numbered (1 + length old) (revisions_in part (story pkg part)) =
    sym (append-nil old) ∙ ap (λ o. old ++ numbered (1 + length old) (revisions_in part o)) (sym none) in
    let here : stories_from part pkg ≡ stories_from (part + 1) pkg =
    stories_from-part pkg part within ∙ ap (λ o. option_to_list o ++ stories_from (part + 1) pkg) none in
    record {
      at_most = omega (arith, count_from-part pkg part within, c.loop-part.invariant.at_most);
      found = found-part pkg part within old old found_is ∙ c.loop-part.invariant.found;
      known = c.loop-part.invariant.known ∙ ap (map facts_in) here;
    }

pub loop-part-preserved-in_default-get : goal.loop-part-preserved-in_default-get
loop-part-preserved-in_default-get c =
    let pkg = c.args.pkg.now in
    let part = c.loop-part.part in
    let known = c.args.known.now in
    let root = element_of c.in-Some.root.now in
    let within : part < length (parts_of pkg) = omega (arith, c.parts-part-end.ensures.value, c.loop-part-test.true) in
    let here : stories_from part pkg ≡ root ∷ stories_from (part + 1) pkg =
    stories_from-part pkg part within ∙ ap (λ o. option_to_list o ++ stories_from (part + 1) pkg) c.in-Some.ensures.value in
    let at = known-at known c.loop-part.place (facts_in root) (map facts_in (stories_from (part + 1) pkg)) (c.loop-part.invariant.known ∙ ap (map facts_in) here) in
    let past : length known ≤ c.loop-part.place = search rules in
    absurd (omega (arith, at.within, past))

pub find_in_story-requires-clause-few : goal.find_in_story-requires-clause-few
find_in_story-requires-clause-few c =
    let pkg = c.args.pkg.now in
    let part = c.loop-part.part in
    let within : part < length (parts_of pkg) = omega (arith, c.parts-part-end.ensures.value, c.loop-part-test.true) in
    let left = count_from-story pkg part (element_of c.in-Some.root.now) within c.in-Some.ensures.value in
    omega (arith, left, c.loop-part.invariant.at_most, c.parts-part-end.ensures.few)

pub find_in_story-requires-clause-known : goal.find_in_story-requires-clause-known
find_in_story-requires-clause-known c =
    let pkg = c.args.pkg.now in
    let part = c.loop-part.part in
    let root = element_of c.in-Some.root.now in
    let within : part < length (parts_of pkg) = omega (arith, c.parts-part-end.ensures.value, c.loop-part-test.true) in
    let here : stories_from part pkg ≡ root ∷ stories_from (part + 1) pkg =
    stories_from-part pkg part within ∙ ap (λ o. option_to_list o ++ stories_from (part + 1) pkg) c.in-Some.ensures.value in
    let known = c.args.known.now in
    let next = c.in-Some-get.next.now in
    let at = known-at known c.loop-part.place (facts_in root) (map facts_in (stories_from (part + 1) pkg)) (c.loop-part.invariant.known ∙ ap (map facts_in) here) in
    let same : get_or known c.loop-part.place next ≡ next = search rules in
    at.here next (slice_get-get_or known c.loop-part.place next at.within ∙ ap Some same)

pub returns : goal.returns
returns c =
    let pkg = c.args.pkg.now in
    let part = c.loop-part.part in
    let old = c.loop-part.found.index in
    let past : length (parts_of pkg) ≤ part = omega (arith, c.parts-part-end.ensures.value, c.loop-part-test.false) in
    sym (append-nil old) ∙ ap (λ parts. old ++ numbered (1 + length old) (revisions_from part parts)) (sym (parts-end pkg part past)) ∙ c.loop-part.invariant.found
