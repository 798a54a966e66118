use Rattle.std.proofs.Common.{◌≡◌, ◌∙◌, ◌+◌, sym, ap, arith}
use Rattle.redl_tree.specs.Model.IdleTexts.{idle_nodes}
use Rattle.redl_tree.specs.Model.Seen.{tags}
use Rattle.redl_tree.proofs.Idle.Labels.{tags-elements}
use Rattle.redl_index.specs.Inside.Markers.Finding.{finding_of}
use Rattle.redl_index.proofs.MarkerLaws.Passing.{moved, finder_passed, finder_room}
use Rattle.redl_index.proofs.markers.finder.FinderVisitorElemAncestors.pass.Goals as goal

pub behind-self-requires : goal.behind-self-requires
behind-self-requires c =
    let t = c.args.plain.now in
    record {
      fits = omega (arith, finder_room c.args._here.now c.args._own.now t (finding_of c.args.self.now) c.requires.needs, tags-elements (idle_nodes t), c.elems.ensures);
    }

pub returns : goal.returns
returns c =
    let t = c.args.plain.now in
    let s = finding_of c.args.self.now in
    let at : c.behind-self.result ≡ s.at + tags (idle_nodes t) = omega (arith, c.behind-self.ensures, tags-elements (idle_nodes t), c.elems.ensures) in
    record { state = ap (λ n. moved n s) at ∙ sym (finder_passed c.args._here.now c.args._own.now t s) }
