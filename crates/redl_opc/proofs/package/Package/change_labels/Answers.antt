use Rattle.std.proofs.Common.{◌≡◌, length, ap, map, ◌∙◌, arith}
use Rattle.std.proofs.lemmas.List.{take_at}
use Rattle.redl_tree.specs.Decisions.Packages.{changed_package}
use Rattle.redl_tree.specs.Model.Text.{text}
use Rattle.redl_tree.specs.Model.View.{nodes_of}
use Rattle.redl_tree.specs.Revisions.Labels.{unlabelled}
use Rattle.redl_opc.specs.Inside.PartView.{part_view}
use Rattle.redl_opc.proofs.LabelLaws.{kept-labelled, stories_alone, text-labelled}
use Rattle.redl_opc.proofs.package.Package.change_labels.Goals as goal

pub invariant_of-self : goal.invariant_of-self
invariant_of-self g c =
    let nodes = nodes_of c.self.inside.nodes.items in
    let rule = g.C.StoryChange.rule in
    let given = g.C.StoryChange.given c.args.change.now c.args.state.now in
    let as_long : length c.change_stories.new.nodes ≡ c.self.inside.nodes.len = omega (arith, c.change_stories.auto.nodes, c.deref_mut.ensures.len) in
    kept-labelled nodes _ (map part_view c.self.inside.parts.items)
    (ap (λ xs. unlabelled (nodes_of xs)) (take_at c.change_stories.new.nodes _ _ as_long)
    ∙ ap unlabelled (c.in-Ok.ensures.nodes ∙ ap (λ xs. changed_package rule given (nodes_of xs)) c.deref_mut.ensures.value)
    ∙ stories_alone rule c.requires.labels given nodes) c.self.invariant

pub returns-clause-text : goal.returns-clause-text
returns-clause-text g c =
    let nodes = nodes_of c.self.inside.nodes.items in
    let rule = g.C.StoryChange.rule in
    let given = g.C.StoryChange.given c.args.change.now c.args.state.now in
    let as_long : length c.change_stories.new.nodes ≡ c.self.inside.nodes.len = omega (arith, c.change_stories.auto.nodes, c.deref_mut.ensures.len) in
    text-labelled nodes _
    (ap (λ xs. unlabelled (nodes_of xs)) (take_at c.change_stories.new.nodes _ _ as_long)
    ∙ ap unlabelled (c.in-Ok.ensures.nodes ∙ ap (λ xs. changed_package rule given (nodes_of xs)) c.deref_mut.ensures.value)
    ∙ stories_alone rule c.requires.labels given nodes)
    ∙ ap text c.self.view_is
