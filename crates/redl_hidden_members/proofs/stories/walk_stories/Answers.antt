-- The stories of the parts are those of the package.
use Rattle.std.proofs.Common.{◌+◌, ◌<◌, ◌≤◌, length, ap, sym, ◌∙◌, arith}
use Rattle.redl_opc.specs.Shape.{parts_of}
use Rattle.redl_opc.specs.Stories.{stories_from, stories_of_part}
use Rattle.redl_opc.proofs.WalkLaws.{stories_from-start, stories_from-part, stories_from-end}
use Rattle.redl_hidden_members.specs.Members.{stories_members}
use Rattle.redl_hidden_members.proofs.WalkLaws.{stories_members-append}
use Rattle.redl_hidden_members.proofs.stories.walk_stories.Goals as goal

pub loop-part-init : goal.loop-part-init
loop-part-init c =
    ap (λ roots. stories_members c.args.styles.now roots c.args.none.items) (stories_from-start c.args.pkg.now c.parts-part-end.ensures.shape)

pub loop-part-preserved : goal.loop-part-preserved
loop-part-preserved c =
    let styles = c.args.styles.now in
    let pkg = c.args.pkg.now in
    let part = c.loop-part.part in
    let hidden = c.loop-part.hidden.items in
    let within : part < length (parts_of pkg) = omega (arith, c.parts-part-end.ensures.value, c.loop-part-test.true) in
    ap (stories_members styles (stories_from (part + 1) pkg)) c.in_ok-hidden.ensures
    ∙ sym (ap (λ roots. stories_members styles roots hidden) (stories_from-part pkg part within) ∙ stories_members-append styles (stories_of_part pkg part) (stories_from (part + 1) pkg) hidden)
    ∙ c.loop-part.invariant

pub returns : goal.returns
returns c =
    let styles = c.args.styles.now in
    let pkg = c.args.pkg.now in
    let part = c.loop-part.part in
    let past : length (parts_of pkg) ≤ part = omega (arith, c.parts-part-end.ensures.value, c.loop-part-test.false) in
    sym (ap (λ roots. stories_members styles roots c.loop-part.hidden.items) (stories_from-end pkg part past)) ∙ c.loop-part.invariant
