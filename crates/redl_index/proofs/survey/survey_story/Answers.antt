use Rattle.std.proofs.Common.{◌≡◌, ◌∙◌, ap}
use Rattle.redl_tree.specs.Model.View.{tag_of, kids_of}
use Rattle.redl_visit.specs.Summaries.{ancestors_inside}
use Rattle.redl_visit.specs.Visits.{no_needs}
use Rattle.redl_visit.proofs.VisitLaws.{needs-nothing}
use Rattle.redl_visit.proofs.PairLaws.{both-needs}
use Rattle.redl_index.specs.Inside.Markers.Finding.{Finding, finding_of, all_found, finder_rule, finder_needs}
use Rattle.redl_index.proofs.MarkerLaws.Finder.{story-needs, story-few, story-rises}
use Rattle.redl_rules.specs.Visiting.{keeper_rule}
use Rattle.redl_index.proofs.SurveyLaws.{facts_from, rules-told, markers-told}
use Rattle.redl_index.proofs.survey.survey_story.Goals as goal

pub visit_kids-requires : goal.visit_kids-requires
visit_kids-requires c =
    let kids = kids_of c.args.root.now in
    let inner = c.inside-inner.result in
    let kept = c.at_root.result.0.kept in
    let found = finding_of c.new.result in
    record {
      needs = both-needs ancestors_inside keeper_rule finder_rule no_needs finder_needs inner (c.at_root.result.1, c.of_root-below.result) kids (kept, found)
          (needs-nothing ancestors_inside keeper_rule inner c.at_root.result.1 kids kept)
          (story-needs (tag_of c.args.root.now) kids inner c.of_root-below.result found c.new.ensures c.requires.few);
    }

told : (c : goal.In_ok-visit_kids) → finding_of c.visit_kids.new.visitor.second ≡ all_found (tag_of c.args.root.now) (kids_of c.args.root.now)
told c =
    markers-told (tag_of c.args.root.now) (kids_of c.args.root.now) c.none.result c.inside-inner.result c.at_root.result.1 c.of_root-below.result c.at_root.result.0.kept (finding_of c.new.result)
    (c.visit_kids.new.visitor.first.kept, finding_of c.visit_kids.new.visitor.second) c.none.ensures c.inside-inner.ensures c.in_ok-visit_kids.ensures.state
    c.of_root-below.ensures c.new.ensures

pub of_markers-requires-clause-few : goal.of_markers-requires-clause-few
of_markers-requires-clause-few c =
    story-few (tag_of c.args.root.now) (kids_of c.args.root.now) c.visit_kids.new.visitor.second.found.marks.items (ap (λ (s : Finding). s.marks) (told c)) c.requires.few

pub of_markers-requires-clause-rising : goal.of_markers-requires-clause-rising
of_markers-requires-clause-rising c =
    story-rises (tag_of c.args.root.now) (kids_of c.args.root.now) c.visit_kids.new.visitor.second.found.marks.items (ap (λ (s : Finding). s.marks) (told c))

pub returns-clause-rules : goal.returns-clause-rules
returns-clause-rules c =
    rules-told (tag_of c.args.root.now) (kids_of c.args.root.now) c.none.result c.inside-inner.result c.at_root.result.1 c.of_root-below.result c.at_root.result.0.kept (finding_of c.new.result)
    (c.visit_kids.new.visitor.first.kept, finding_of c.visit_kids.new.visitor.second) c.none.ensures c.inside-inner.ensures c.in_ok-visit_kids.ensures.state
    c.at_root.ensures.round c.at_root.ensures.kept

pub returns-clause-known : goal.returns-clause-known
returns-clause-known c =
    c.in_ok-known.ensures
    ∙ ap facts_from
    (markers-told (tag_of c.args.root.now) (kids_of c.args.root.now) c.none.result c.inside-inner.result c.at_root.result.1 c.of_root-below.result c.at_root.result.0.kept (finding_of c.new.result)
    (c.visit_kids.new.visitor.first.kept, finding_of c.visit_kids.new.visitor.second) c.none.ensures c.inside-inner.ensures c.in_ok-visit_kids.ensures.state
    c.of_root-below.ensures c.new.ensures)
