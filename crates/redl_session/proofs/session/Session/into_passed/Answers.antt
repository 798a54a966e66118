use Rattle.std.proofs.Common.{◌≡◌, List, Vec, Global, None, map, ap, subst, ◌∙◌}
use Rattle.std.proofs.lemmas.Result.{IfOk-weaker}
use Rattle.redl_index.specs.Numbers.{numbered_package}
use Rattle.redl_rules.specs.Attributes.{broken_rule}
use Rattle.redl_session.proofs.Left.{left_is_sound, left_survives}
use Rattle.redl_session.specs.Sessions.{SessionState, says}
use Rattle.redl_tree.specs.Decisions.Packages.{pass_package, stories}
use Rattle.redl_tree.specs.Decisions.Survivors.{survivors, text_pieces}
use Rattle.redl_tree.specs.Model.Nodes.{Nodes}
use Rattle.redl_tree.specs.Model.View.{nodes_of}
use Rattle.redl_tree.specs.declared.kinds.Say.{Say}
use Rattle.redl_tree.specs.declared.node.Node.{Node}
use Rattle.redl_session.proofs.session.Session.into_passed.Goals as goal

pub returns-clause-survival : goal.returns-clause-survival
returns-clause-survival c =
    let numbered : numbered_package c.args.self.nodes ≡ c.args.self.nodes = subst (λ (s : SessionState). numbered_package s.nodes ≡ s.nodes) c.self.view_is c.self.invariant.numbered in
    let all : pass_package c.deref.result.now (nodes_of c.into_nodes.result.items) ≡ pass_package (says c.args.self) c.args.self.nodes =
    ap (λ (ns : Nodes). pass_package c.deref.result.now ns) c.into_nodes.ensures.nodes
    ∙ ap (λ (ss : List Say). pass_package ss c.self.inside.original) (c.deref.ensures.value ∙ c.in_ok-says.ensures)
    ∙ ap (λ (s : SessionState). pass_package (says c.args.self) s.nodes) c.self.view_is in
    IfOk-weaker c.into_passed.result
    (λ (passed : Vec Node Global). nodes_of passed.items ≡ pass_package c.deref.result.now (nodes_of c.into_nodes.result.items))
    (λ (passed : Vec Node Global). map text_pieces (stories (nodes_of passed.items)) ≡ map (survivors (says c.args.self)) (stories c.args.self.nodes))
    (λ passed is. ap (λ (ns : Nodes). map text_pieces (stories ns)) (is ∙ all) ∙ left_survives (says c.args.self) c.args.self.nodes numbered)
    c.into_passed.ensures.passed

pub returns-clause-soundness : goal.returns-clause-soundness
returns-clause-soundness c =
    let numbered : numbered_package c.args.self.nodes ≡ c.args.self.nodes = subst (λ (s : SessionState). numbered_package s.nodes ≡ s.nodes) c.self.view_is c.self.invariant.numbered in
    let sound : broken_rule c.args.self.nodes ≡ None = subst (λ (s : SessionState). broken_rule s.nodes ≡ None) c.self.view_is c.self.invariant.sound in
    let all : pass_package c.deref.result.now (nodes_of c.into_nodes.result.items) ≡ pass_package (says c.args.self) c.args.self.nodes =
    ap (λ (ns : Nodes). pass_package c.deref.result.now ns) c.into_nodes.ensures.nodes
    ∙ ap (λ (ss : List Say). pass_package ss c.self.inside.original) (c.deref.ensures.value ∙ c.in_ok-says.ensures)
    ∙ ap (λ (s : SessionState). pass_package (says c.args.self) s.nodes) c.self.view_is in
    IfOk-weaker c.into_passed.result
    (λ (passed : Vec Node Global). nodes_of passed.items ≡ pass_package c.deref.result.now (nodes_of c.into_nodes.result.items))
    (λ (passed : Vec Node Global). broken_rule (nodes_of passed.items) ≡ None)
    (λ passed is. ap broken_rule (is ∙ all) ∙ left_is_sound (says c.args.self) c.args.self.nodes numbered sound)
    c.into_passed.ensures.passed
