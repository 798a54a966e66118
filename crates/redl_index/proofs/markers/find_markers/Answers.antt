use Rattle.std.proofs.Common.{◌≡◌, ◌∙◌, ap}
use Rattle.redl_tree.specs.Model.View.{tag_of, kids_of}
use Rattle.redl_index.specs.Inside.Markers.Finding.{Finding, finding_of, all_found}
use Rattle.redl_index.proofs.MarkerLaws.Finder.{story-found, story-needs, story-few, story-rises}
use Rattle.redl_index.proofs.markers.find_markers.Goals as goal

pub visit_kids-requires : goal.visit_kids-requires
visit_kids-requires c =
    record { needs = story-needs (tag_of c.args.root.now) (kids_of c.args.root.now) c.inside-inner.result c.of_root-below.result (finding_of c.new-finder.result) c.new-finder.ensures c.requires.few }

found : (c : goal.In_ok-visit_kids) → finding_of c.visit_kids.new.visitor ≡ all_found (tag_of c.args.root.now) (kids_of c.args.root.now)
found c =
    c.in_ok-visit_kids.ensures.state
    ∙ story-found (tag_of c.args.root.now) (kids_of c.args.root.now) c.none.result c.inside-inner.result c.of_root-below.result (finding_of c.new-finder.result)
    c.none.ensures c.inside-inner.ensures c.of_root-below.ensures c.new-finder.ensures

pub returns-clause-marks : goal.returns-clause-marks
returns-clause-marks c = ap (λ (s : Finding). s.marks) (found c)

pub returns-clause-tails : goal.returns-clause-tails
returns-clause-tails c = ap (λ (s : Finding). s.tails) (found c)

pub returns-clause-ends : goal.returns-clause-ends
returns-clause-ends c = ap (λ (s : Finding). s.ends) (found c)

pub returns-clause-few : goal.returns-clause-few
returns-clause-few c =
    story-few (tag_of c.args.root.now) (kids_of c.args.root.now) c.visit_kids.new.visitor.found.marks.items (ap (λ (s : Finding). s.marks) (found c)) c.requires.few

pub returns-clause-rising : goal.returns-clause-rising
returns-clause-rising c =
    story-rises (tag_of c.args.root.now) (kids_of c.args.root.now) c.visit_kids.new.visitor.found.marks.items (ap (λ (s : Finding). s.marks) (found c))
