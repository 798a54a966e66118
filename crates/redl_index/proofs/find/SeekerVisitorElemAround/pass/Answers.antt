use Rattle.std.proofs.Common.{◌≡◌, ◌∙◌, ◌+◌, sym, ap, arith}
use Rattle.redl_tree.specs.Model.IdleTexts.{idle_nodes}
use Rattle.redl_tree.specs.Model.Seen.{tags}
use Rattle.redl_tree.proofs.Idle.Labels.{tags-elements}
use Rattle.redl_index.specs.Inside.Seeking.{seeking_of}
use Rattle.redl_index.proofs.IdleLaws.{sought, seeker_passed, seeker_room}
use Rattle.redl_index.proofs.find.SeekerVisitorElemAround.pass.Goals as goal

pub pass-requires : goal.pass-requires
pass-requires c =
    let t = c.args.plain.now in
    record {
      fits = omega (arith, seeker_room c.args._here.now c.args._para_end.now t (seeking_of c.args.self.now) c.requires.needs, tags-elements (idle_nodes t), c.elems.ensures);
    }

pub returns : goal.returns
returns c =
    let t = c.args.plain.now in
    let s = seeking_of c.args.self.now in
    let at : c.pass.new.self.at ≡ s.at + tags (idle_nodes t) = omega (arith, c.pass.ensures.at, tags-elements (idle_nodes t), c.elems.ensures) in
    record {
      state =
          ap (λ e. record s { at = c.pass.new.self.at; ends = e }) c.pass.ensures.ends ∙ ap (λ n. sought n s) at
          ∙ sym (seeker_passed c.args._here.now c.args._para_end.now t s);
    }
