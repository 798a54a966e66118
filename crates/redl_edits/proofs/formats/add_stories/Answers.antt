-- The stories of the parts are those of the package.
use Rattle.std.proofs.Common.{◌+◌, ◌<◌, ◌++◌, List, length, ap, append_assoc, sym, ◌∙◌, arith}
use Rattle.redl_opc.specs.Shape.{parts_of}
use Rattle.redl_opc.specs.Stories.{stories_from, stories_of_part}
use Rattle.redl_opc.proofs.WalkLaws.{stories_from-start, stories_from-part}
use Rattle.redl_edits.specs.Formats.{stories_formats}
use Rattle.redl_edits.specs.declared.formats.Format.{Format}
use Rattle.redl_edits.proofs.FormatLaws.{stories_formats-append}
use Rattle.redl_edits.proofs.formats.add_stories.Goals as goal

pub loop-part-init : goal.loop-part-init
loop-part-init c =
    ap (λ roots. c.args.found.now.items ++ stories_formats roots) (stories_from-start c.args.pkg.now c.parts-part-end.ensures.shape)

pub loop-part-preserved : goal.loop-part-preserved
loop-part-preserved c =
    let pkg = c.args.pkg.now in
    let part = c.loop-part.part in
    let old = c.loop-part.found.items in
    let within : part < length (parts_of pkg) = omega (arith, c.parts-part-end.ensures.value, c.loop-part-test.true) in
    ap (λ (fs : List Format). fs ++ stories_formats (stories_from (part + 1) pkg)) c.in_ok-add_part.ensures
    ∙ append_assoc old (stories_formats (stories_of_part pkg part)) (stories_formats (stories_from (part + 1) pkg))
    ∙ ap (λ (fs : List Format). old ++ fs)
    (sym (ap stories_formats (stories_from-part pkg part within)
    ∙ stories_formats-append (stories_of_part pkg part) (stories_from (part + 1) pkg)))
    ∙ c.loop-part.invariant
