use Rattle.std.proofs.Common.{◌≡◌, ap, sym, subst, List, length, All, ◌∙◌}
use Rattle.redl_index.specs.Numbers.{numbered_package}
use Rattle.redl_index.specs.Revisions.{IsInStory, revisions_of}
use Rattle.redl_index.specs.declared.revision.Revision.{Revision}
use Rattle.redl_index.proofs.AgainLaws.{revisions-numbered}
use Rattle.redl_index.proofs.RevisionLaws.{length-revisions_of}
use Rattle.redl_index.proofs.PartLaws.{revisions-in_story}
use Rattle.redl_index.proofs.index.Index.of_known.Goals as goal

pub returns-clause-stories : goal.returns-clause-stories
returns-clause-stories c =
    let nodes = c.args.pkg.now in
    let found : revisions_of (numbered_package nodes) ≡ c.in_ok-index.index = revisions-numbered nodes ∙ sym c.in_ok-index.ensures in
    let P : List Revision → Type 0 = All (IsInStory c.label_stories.new.pkg) in
    subst P found (subst (λ pkg. All (IsInStory pkg) (revisions_of (numbered_package nodes))) (sym c.label_stories.ensures.nodes) (revisions-in_story (numbered_package nodes)))

pub returns-clause-count : goal.returns-clause-count
returns-clause-count c = ap (λ (rs : List Revision). length rs) c.in_ok-index.ensures ∙ length-revisions_of c.args.pkg.now c.requires.shape
