-- The stories of the parts are those of the package.
use Rattle.std.proofs.Common.{◌+◌, ◌<◌, ◌++◌, List, length, ap, append_assoc, sym, ◌∙◌, arith}
use Rattle.redl_classes.specs.declared.pair.Pair.{Pair}
use Rattle.redl_opc.specs.Shape.{parts_of}
use Rattle.redl_opc.specs.Stories.{stories_from, stories_of_part}
use Rattle.redl_opc.proofs.WalkLaws.{stories_from-start, stories_from-part}
use Rattle.redl_edits.specs.Tabled.{tabled_pairs}
use Rattle.redl_edits.proofs.TableLaws.{tabled_pairs-append}
use Rattle.redl_edits.proofs.tabled.add_tabled.Goals as goal

pub loop-part-init : goal.loop-part-init
loop-part-init c =
    ap (λ roots. c.args.pairs.now.items ++ tabled_pairs c.args.index.now roots) (stories_from-start c.args.pkg.now c.parts-part-end.ensures.shape)

pub loop-part-preserved : goal.loop-part-preserved
loop-part-preserved c =
    let pkg = c.args.pkg.now in
    let part = c.loop-part.part in
    let revisions = c.args.index.now in
    let old = c.loop-part.pairs.items in
    let within : part < length (parts_of pkg) = omega (arith, c.parts-part-end.ensures.value, c.loop-part-test.true) in
    ap (λ (ps : List Pair). ps ++ tabled_pairs revisions (stories_from (part + 1) pkg)) c.in_ok-add_part.ensures
    ∙ append_assoc old (tabled_pairs revisions (stories_of_part pkg part)) (tabled_pairs revisions (stories_from (part + 1) pkg))
    ∙ ap (λ (ps : List Pair). old ++ ps)
    (sym (ap (tabled_pairs revisions) (stories_from-part pkg part within)
    ∙ tabled_pairs-append revisions (stories_of_part pkg part) (stories_from (part + 1) pkg)))
    ∙ c.loop-part.invariant
