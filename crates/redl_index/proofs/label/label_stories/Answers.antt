use Rattle.std.proofs.Common.{◌≡◌, ◌∙◌, ◌+◌, map, ap, refl, arith}
use Rattle.redl_tree.specs.Decisions.Packages.{stories}
use Rattle.redl_index.specs.StoryFacts.{facts_of}
use Rattle.redl_index.specs.Numbers.{package_revisions}
use Rattle.redl_index.specs.ToLabel.{Left}
use Rattle.redl_index.proofs.AgainLaws.{numbered-from}
use Rattle.redl_index.proofs.RevisionLaws.{next-revisions}
use Rattle.redl_index.proofs.ToLabelLaws.{sets-labels, labelled-numbered, next-left, takes-stories}
use Rattle.redl_index.proofs.label.label_stories.Goals as goal

pub change_labels-requires-clause-labels : goal.change_labels-requires-clause-labels
change_labels-requires-clause-labels c = sets-labels

pub change_labels-requires-clause-taken : goal.change_labels-requires-clause-taken
change_labels-requires-clause-taken c = takes-stories (map facts_of c.args.known.items) c.args.pkg.now c.requires.known c.requires.few

pub overflow_sub-result : goal.overflow_sub-result
overflow_sub-result c =
    let nodes = c.args.pkg.now in
    let left : Left = record { next = 1; stories = map facts_of c.args.known.items } in
    let next : c.change_labels.new.state.next ≡ 1 + package_revisions nodes =
    ap (λ (l : Left). l.next) c.change_labels.ensures.left ∙ next-left left (stories nodes) ∙ next-revisions nodes c.requires.shape in
    omega (arith, next)

pub returns-clause-count : goal.returns-clause-count
returns-clause-count c =
    let nodes = c.args.pkg.now in
    let left : Left = record { next = 1; stories = map facts_of c.args.known.items } in
    let next : c.change_labels.new.state.next ≡ 1 + package_revisions nodes =
    ap (λ (l : Left). l.next) c.change_labels.ensures.left ∙ next-left left (stories nodes) ∙ next-revisions nodes c.requires.shape in
    omega (arith, next)

pub returns-clause-nodes : goal.returns-clause-nodes
returns-clause-nodes c =
    c.change_labels.ensures.nodes ∙ labelled-numbered (record { next = 1; stories = map facts_of c.args.known.items }) c.args.pkg.now refl

pub returns-clause-ready : goal.returns-clause-ready
returns-clause-ready c =
    numbered-from c.args.pkg.now _
    (c.change_labels.ensures.nodes ∙ labelled-numbered (record { next = 1; stories = map facts_of c.args.known.items }) c.args.pkg.now refl)
