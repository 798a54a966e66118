use Rattle.std.proofs.Common.{◌≡◌, None, Some, sym, map, subst, IsTrue}
use Rattle.redl_reading.specs.Steps.{Gives}
use Rattle.redl_tree.specs.Model.View.{nodes_of}
use Rattle.redl_opc.specs.Elements.{element_of}
use Rattle.redl_opc.specs.Parts.{story}
use Rattle.redl_opc.specs.Shape.{package_of, story_of}
use Rattle.redl_opc.specs.Inside.PartView.{part_view}
use Rattle.redl_opc.proofs.PartLaws.{gives_none, gives-some, story-listed, story-part}
use Rattle.redl_opc.proofs.WalkLaws.{name-story, tails-story}
use Rattle.redl_tree.specs.Model.Tree.{HasUtf8Tails}
use Rattle.redl_tree.specs.Decisions.Packages.{is_story_root}
use Rattle.redl_tree.specs.declared.node.Elem.{Elem}
use Rattle.std.specs.Borrow.{Bor}
use Rattle.redl_opc.proofs.package.Package.story.Goals as goal

pub returns-in_err-part-clause-value : goal.returns-in_err-part-clause-value
returns-in_err-part-clause-value c =
    gives_none _ _ _ c.from_residual.ensures
    (story-listed (nodes_of c.self.inside.nodes.items) c.args.self.now (map part_view c.self.inside.parts.items) c.args.part _ c.self.view_is c.self.invariant.parts (rw c.deref.ensures.value at c.in_err-part.ensures))

pub returns-in_err-part-2-clause-value : goal.returns-in_err-part-2-clause-value
returns-in_err-part-2-clause-value c =
    let is_root : package_of (nodes_of c.self.inside.nodes.items) ≡ Some (element_of c.in_ok-root.root.now) = rw c.deref-2.ensures.value at c.in_ok-root.ensures in
    gives_none _ _ _ c.from_residual-in_err-part-2.ensures
    (story-part (nodes_of c.self.inside.nodes.items) c.args.self.now (map part_view c.self.inside.parts.items) c.args.part _ (element_of c.in_ok-root.root.now) None c.self.view_is c.self.invariant.parts
    (rw c.deref.ensures.value at c.in_ok-part.ensures) is_root (rw c.kids.ensures.kids at c.in_err-part-2.ensures))

pub returns-clause-value : goal.returns-clause-value
returns-clause-value c =
    let is_root : package_of (nodes_of c.self.inside.nodes.items) ≡ Some (element_of c.in_ok-root.root.now) = rw c.deref-2.ensures.value at c.in_ok-root.ensures in
    let part = element_of c.in_ok-part-2.part.now in
    let is_story : story c.args.self.now c.args.part ≡ story_of part =
    story-part (nodes_of c.self.inside.nodes.items) c.args.self.now (map part_view c.self.inside.parts.items) c.args.part _ (element_of c.in_ok-root.root.now) (Some part) c.self.view_is c.self.invariant.parts
    (rw c.deref.ensures.value at c.in_ok-part.ensures) is_root (rw c.kids.ensures.kids at c.in_ok-part-2.ensures) in
    subst (λ read. Gives (λ root. element_of root.now) c.story_of.result read) (sym is_story) c.story_of.ensures

pub returns-clause-root : goal.returns-clause-root
returns-clause-root c =
    gives-some (λ (root : Bor Elem). element_of root.now) (λ root. IsTrue (is_story_root root.tag)) c.story_of.result (story c.args.self.now c.args.part)
    (returns-clause-value c) (name-story c.args.self.now c.args.part)

pub returns-clause-tails : goal.returns-clause-tails
returns-clause-tails c =
    gives-some (λ (root : Bor Elem). element_of root.now) (λ root. HasUtf8Tails root.kids) c.story_of.result (story c.args.self.now c.args.part)
    (returns-clause-value c) (λ root is. tails-story c.args.self.now c.args.part root is (subst HasUtf8Tails c.self.view_is c.self.invariant.tails))
