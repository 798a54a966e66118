-- The stories of the parts are those of the package.
use Rattle.std.proofs.Common.{◌+◌, ◌<◌, ◌≤◌, ℕ, length, ap, ◌∙◌, arith}
use Rattle.std.specs.List.{flat_map}
use Rattle.std.proofs.lemmas.List.Concat.{flat_map-append}
use Rattle.redl_opc.specs.Shape.{parts_of}
use Rattle.redl_opc.specs.Stories.{stories_of_part, stories_from}
use Rattle.redl_opc.proofs.WalkLaws.{stories_from-start, stories_from-part, stories_from-end}
use Rattle.redl_tree.specs.Model.View.{Element}
use Rattle.redl_excerpts.specs.Excerpts.{is_moved, package_mentions}
use Rattle.redl_excerpts.specs.Mentions.{mentions, outside}
use Rattle.redl_excerpts.proofs.MemberLaws.{tells-begins-at, tells-goes_on, tells-ends}
use Rattle.redl_excerpts.proofs.package.tell_stories.Goals as goal

pub loop-part-init : goal.loop-part-init
loop-part-init c =
    let one = λ (v : ℕ) (story : Element). mentions (is_moved c.args.revisions.now v) v outside story.kids in
    tells-begins-at c.args.excerpts.now.items (λ v. package_mentions (is_moved c.args.revisions.now v) v c.args.pkg.now) (λ v. flat_map (one v) (stories_from 0 c.args.pkg.now))
    (λ v. ap (flat_map (one v)) (stories_from-start c.args.pkg.now c.parts-part-end.ensures.shape))

pub loop-part-preserved : goal.loop-part-preserved
loop-part-preserved c =
    let one = λ (v : ℕ) (story : Element). mentions (is_moved c.args.revisions.now v) v outside story.kids in
    let part = c.loop-part.part in
    let within : part < length (parts_of c.args.pkg.now) = omega (arith, c.parts-part-end.ensures.value, c.loop-part-test.true) in
    tells-goes_on c.args.excerpts.now.items c.loop-part.excerpts.items c.tell_part.new.excerpts.items _ (λ v. flat_map (one v) (stories_from part c.args.pkg.now))
    (λ v. flat_map (one v) (stories_of_part c.args.pkg.now part)) (λ v. flat_map (one v) (stories_from (part + 1) c.args.pkg.now))
    c.loop-part.invariant c.in_ok-tell_part.ensures
    (λ v. ap (flat_map (one v)) (stories_from-part c.args.pkg.now part within) ∙ flat_map-append (one v) (stories_of_part c.args.pkg.now part) (stories_from (part + 1) c.args.pkg.now))

pub returns : goal.returns
returns c =
    let one = λ (v : ℕ) (story : Element). mentions (is_moved c.args.revisions.now v) v outside story.kids in
    let part = c.loop-part.part in
    let past : length (parts_of c.args.pkg.now) ≤ part = omega (arith, c.parts-part-end.ensures.value, c.loop-part-test.false) in
    tells-ends c.args.excerpts.now.items c.loop-part.excerpts.items _ (λ v. flat_map (one v) (stories_from part c.args.pkg.now)) c.loop-part.invariant
    (λ v. ap (flat_map (one v)) (stories_from-end c.args.pkg.now part past))
