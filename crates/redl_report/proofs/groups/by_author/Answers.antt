-- A revision more is in the group of its author.
use Rattle.std.proofs.Common.{◌≡◌, ◌∙◌, ◌<◌, ◌+◌, ℕ, List, [], ◌∷◌, ◌++◌, length, take, refl, sym, ap, arith, add-one}
use Rattle.std.proofs.Math.Seq.{take-suc}
use Rattle.redl_index.specs.declared.revision.Revision.{Revision}
use Rattle.redl_report.specs.Groups.{Group, grouped, with_item}
use Rattle.redl_report.specs.Reports.{author_of}
use Rattle.redl_report.proofs.GroupLaws.{grouped-more}
use Rattle.redl_report.proofs.groups.by_author.Goals as goal

pub loop-revision-preserved : goal.loop-revision-preserved
loop-revision-preserved c =
    let place = c.loop-revision.revision-index in
    let revisions = c.args.revisions.now in
    let revision = c.revision-item.result in
    let inside : place < length revisions = omega (arith, c.loop-revision-test.true) in
    let more : take (place + 1) revisions ≡ take place revisions ++ revision ∷ [] = rw (add-one, take-suc revisions place revision inside, ← c.revision-item.is) refl in
    c.in_ok-add_item.ensures
    ∙ ap (λ (groups : List (Group Revision)). with_item groups c.as_bytes.result.now revision) c.loop-revision.invariant
    ∙ ap (λ (name : List ℕ). with_item (grouped author_of (take place revisions)) name revision) c.as_bytes.ensures
    ∙ grouped-more author_of (take place revisions) revision
    ∙ ap (grouped author_of) (sym more)
