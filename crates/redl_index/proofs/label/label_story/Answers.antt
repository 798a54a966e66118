use Rattle.std.proofs.Common.{rules, ◌≡◌, ◌∙◌, ap}
use Rattle.redl_tree.specs.Model.View.{tag_of, kids_of}
use Rattle.redl_index.specs.Inside.Numberers.{NumbererState}
use Rattle.redl_index.specs.StoryFacts.{facts_of}
use Rattle.redl_index.proofs.NumbererLaws.{state_at, begun_with, story-labelled}
use Rattle.redl_index.proofs.label.label_story.Goals as goal

pub label_kids-requires : goal.label_kids-requires
label_kids-requires c =
    let s : NumbererState = state_at c.args.known.now.moves c.begin.result.at c.begin.result.ends.now (record { next = c.args.next; moves = c.replace-moves.result.items }) in
    let is : s ≡ begun_with (facts_of c.args.known.now) c.args.next = search rules in
    record {
      needs = (story-labelled (tag_of c.args.root.now) (kids_of c.args.root.now) c.args.next c.requires.root c.requires.begun c.requires.few
          (facts_of c.args.known.now) c.requires.known c.top.result c.top.ensures c.inside.result c.inside.ensures s is).needs;
    }

pub returns-clause-kids : goal.returns-clause-kids
returns-clause-kids c =
    let s : NumbererState = state_at c.args.known.now.moves c.begin.result.at c.begin.result.ends.now (record { next = c.args.next; moves = c.replace-moves.result.items }) in
    let is : s ≡ begun_with (facts_of c.args.known.now) c.args.next = search rules in
    c.label_kids.ensures.kids
    ∙ (story-labelled (tag_of c.args.root.now) (kids_of c.args.root.now) c.args.next c.requires.root c.requires.begun c.requires.few
    (facts_of c.args.known.now) c.requires.known c.top.result c.top.ensures c.inside.result c.inside.ensures s is).labels

pub returns-clause-next : goal.returns-clause-next
returns-clause-next c =
    let s : NumbererState = state_at c.args.known.now.moves c.begin.result.at c.begin.result.ends.now (record { next = c.args.next; moves = c.replace-moves.result.items }) in
    let is : s ≡ begun_with (facts_of c.args.known.now) c.args.next = search rules in
    ap (λ (s : NumbererState). s.numbers.next) c.label_kids.ensures.state
    ∙ (story-labelled (tag_of c.args.root.now) (kids_of c.args.root.now) c.args.next c.requires.root c.requires.begun c.requires.few
    (facts_of c.args.known.now) c.requires.known c.top.result c.top.ensures c.inside.result c.inside.ensures s is).numbering.next
