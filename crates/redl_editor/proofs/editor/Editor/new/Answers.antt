use Rattle.std.proofs.Common.{◌≡◌, ◌∙◌, ◌<◌, ◌^◌, ℕ, List, None, length, replicate, rules, refl, sym, subst, ap, arith}
use Rattle.std.proofs.lemmas.List.{with_items_is}
use Rattle.std.specs.Vec.{vec_len, with_items}
use Rattle.redl_opc.specs.Shape.{refusal}
use Rattle.redl_tree.specs.Decisions.Packages.{stories, changed_package}
use Rattle.redl_tree.specs.Model.Count.{count}
use Rattle.redl_tree.specs.Model.Nodes.{Nodes}
use Rattle.redl_tree.specs.Model.View.{nodes_of}
use Rattle.redl_tree.specs.declared.kinds.Say.{Say}
use Rattle.redl_tree.specs.declared.kinds.Say.TheVariants.{Keep}
use Rattle.redl_tree.specs.declared.node.Node.{Node}
use Rattle.redl_editor.proofs.DocumentLaws.{original-taken, begun-consistent}
use Rattle.redl_editor.specs.Inside.Begun.{AreBegun}
use Rattle.redl_editor.specs.Documents.{Document, IsConsistent}
use Rattle.redl_editor.specs.Kept.{AreTables}
use Rattle.redl_editor.specs.Stories.{empty_rule, original_package}
use Rattle.redl_editor.specs.declared.story.Story.{Story}
use Rattle.redl_editor.proofs.editor.Editor.new.Goals as goal

abbrev document : Nodes → List Say → Document
document nodes says = record { nodes = nodes; says = says }

pub invariant_of-result : goal.invariant_of-result
invariant_of-result c =
    let pkg = c.args.pkg in
    let left = c.take_stories.new.nodes in
    let kept = c.in_ok-stories.stories.items in
    let tables = c.in_ok-tables.tables.items in
    let whole : nodes_of c.deref_mut.result.now ≡ pkg = ap nodes_of c.deref_mut.ensures.value ∙ c.into_nodes-nodes.ensures.nodes in
    let few : count (nodes_of c.deref_mut.result.now) < 2 ^ 32 = omega (arith, ap (λ (nodes : List Node). count (nodes_of nodes)) c.deref_mut.ensures.value, c.into_nodes-nodes.ensures.few) in
    let begun = subst (λ (nodes : Nodes). AreBegun (stories nodes) kept) whole (c.in_ok-stories.ensures.stories few) in
    let taken = c.in_ok-stories.ensures.nodes ∙ ap (changed_package empty_rule tt) whole in
    let is = original-taken pkg (nodes_of left) left kept taken refl begun in
    let known = subst (λ (s : List Story). AreTables s tables) c.deref.ensures.value c.in_ok-tables.ensures in
    let said : c.in_ok-says.says.items ≡ replicate c.args.revisions Keep = search rules in
    let many : length left ≡ vec_len c.into_nodes-nodes.result = omega (arith, c.take_stories.auto.nodes, c.deref_mut.ensures.len) in
    let left_is : (with_items c.into_nodes-nodes.result left).items ≡ left = with_items_is c.into_nodes-nodes.result left many in
    let numbers = c.in_ok-parts.parts.items in
    let shape : refusal pkg ≡ None = ap refusal (sym c.into_nodes-nodes.ensures.nodes) ∙ c.into_nodes-nodes.ensures.shape in
    subst (λ (nodes : List Node). IsConsistent nodes kept tables c.in_ok-says.says.items numbers) (sym left_is)
    (subst (λ (says : List Say). IsConsistent left kept tables says numbers) (sym said)
    (subst (λ (ns : List ℕ). IsConsistent left kept tables (replicate c.args.revisions Keep) ns) (sym c.in_ok-parts.ensures)
    (begun-consistent c.args.revisions pkg left kept tables shape c.requires.numbered c.requires.plain is begun known)))

pub returns : goal.returns
returns c =
    let pkg = c.args.pkg in
    let left = c.take_stories.new.nodes in
    let kept = c.in_ok-stories.stories.items in
    let whole : nodes_of c.deref_mut.result.now ≡ pkg = ap nodes_of c.deref_mut.ensures.value ∙ c.into_nodes-nodes.ensures.nodes in
    let few : count (nodes_of c.deref_mut.result.now) < 2 ^ 32 = omega (arith, ap (λ (nodes : List Node). count (nodes_of nodes)) c.deref_mut.ensures.value, c.into_nodes-nodes.ensures.few) in
    let begun = subst (λ (nodes : Nodes). AreBegun (stories nodes) kept) whole (c.in_ok-stories.ensures.stories few) in
    let taken = c.in_ok-stories.ensures.nodes ∙ ap (changed_package empty_rule tt) whole in
    let is = original-taken pkg (nodes_of left) left kept taken refl begun in
    let said : c.in_ok-says.says.items ≡ replicate c.args.revisions Keep = search rules in
    let many : length left ≡ vec_len c.into_nodes-nodes.result = omega (arith, c.take_stories.auto.nodes, c.deref_mut.ensures.len) in
    let left_is : (with_items c.into_nodes-nodes.result left).items ≡ left = with_items_is c.into_nodes-nodes.result left many in
    ap (λ (nodes : List Node). document (original_package nodes kept) c.in_ok-says.says.items) left_is
    ∙ ap (λ (nodes : Nodes). document nodes c.in_ok-says.says.items) is
    ∙ ap (λ (says : List Say). document pkg says) said
