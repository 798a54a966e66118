use Rattle.std.proofs.Common.{◌≡◌, length, ap, ◌∙◌, arith}
use Rattle.std.proofs.lemmas.List.{take_at}
use Rattle.redl_resolve.proofs.KeepsLaws.{keeps_text, keeps_rules}
use Rattle.redl_tree.specs.Decisions.Packages.{stories, pass_rule, pass_package}
use Rattle.redl_tree.specs.Model.View.{nodes_of}
use Rattle.redl_tree.proofs.Decisions.TakenLaws.{takes-every}
use Rattle.redl_resolve.proofs.stories.into_passed_counted.Goals as goal

pub change_stories-requires : goal.change_stories-requires
change_stories-requires g c = record { taken = takes-every pass_rule (λ given tag kids. Unit {0}) (λ given tag kids. tt) c.args.says.now (stories (nodes_of c.deref_mut.result.now)) }

pub returns-clause-survival : goal.returns-clause-survival
returns-clause-survival g c =
    let says = c.args.says.now in
    let as_long : length c.change_stories.new.nodes ≡ c.args.nodes.len = omega (arith, c.change_stories.auto.nodes, c.deref_mut.ensures.len) in
    keeps_text says (nodes_of c.args.nodes.items) _
    (ap nodes_of (take_at c.change_stories.new.nodes _ _ as_long) ∙ c.in_ok-change_stories.ensures.nodes
    ∙ ap (λ xs. pass_package says (nodes_of xs)) c.deref_mut.ensures.value)

pub returns-clause-soundness : goal.returns-clause-soundness
returns-clause-soundness g c =
    let says = c.args.says.now in
    let as_long : length c.change_stories.new.nodes ≡ c.args.nodes.len = omega (arith, c.change_stories.auto.nodes, c.deref_mut.ensures.len) in
    keeps_rules says (nodes_of c.args.nodes.items) _
    (ap nodes_of (take_at c.change_stories.new.nodes _ _ as_long) ∙ c.in_ok-change_stories.ensures.nodes
    ∙ ap (λ xs. pass_package says (nodes_of xs)) c.deref_mut.ensures.value)
