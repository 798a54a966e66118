use Rattle.std.proofs.Common.{◌∙◌, ap, arith, length}
use Rattle.redl_tree.specs.Model.View.{tag_of, kids_of}
use Rattle.redl_index.specs.StoryFacts.{facts_of}
use Rattle.redl_index.specs.Inside.Seeking.{Seeking, seeking_of}
use Rattle.redl_index.proofs.SeekerLaws.{story-sought, story-few, story-needs}
use Rattle.redl_index.proofs.find.find_in_story.Goals as goal

pub visit_kids-requires : goal.visit_kids-requires
visit_kids-requires c =
    let root = c.args.root.now in
    record {
      needs = story-needs c.args.part c.args.found.index (tag_of root) (kids_of root) (facts_of c.args.known.now) c.top.result c.inside.result (seeking_of c.begin-seeker.result)
          c.requires.root c.requires.few c.requires.known c.top.ensures c.inside.ensures c.begin-seeker.ensures c.requires.tails;
    }

pub returns-clause-at_most : goal.returns-clause-at_most
returns-clause-at_most c =
    let root = c.args.root.now in
    let few = story-few c.args.part c.args.found.index (tag_of root) (kids_of root) (facts_of c.args.known.now) c.top.result c.inside.result (seeking_of c.begin-seeker.result)
    c.requires.root c.requires.few c.requires.known c.top.ensures c.inside.ensures c.begin-seeker.ensures in
    omega (arith, ap (λ (s : Seeking). length s.found.index) c.in_ok-visit_kids.ensures.state, few)

pub returns-clause-index : goal.returns-clause-index
returns-clause-index c =
    let root = c.args.root.now in
    ap (λ (s : Seeking). s.found.index) c.in_ok-visit_kids.ensures.state
    ∙ story-sought c.args.part c.args.found.index (tag_of root) (kids_of root) (facts_of c.args.known.now) c.top.result c.inside.result (seeking_of c.begin-seeker.result)
    c.requires.root c.requires.few c.requires.known c.top.ensures c.inside.ensures c.begin-seeker.ensures
