use Rattle.std.proofs.Common.{◌≡◌, ◌∙◌, ◌+◌, sym, ap, arith}
use Rattle.redl_tree.specs.Model.IdleTexts.{idle_nodes}
use Rattle.redl_tree.specs.Model.Seen.{tags}
use Rattle.redl_tree.proofs.Idle.Labels.{tags-elements}
use Rattle.redl_index.specs.Inside.Numberers.{numberer_state}
use Rattle.redl_index.proofs.IdleLaws.{numbered, numberer_passed, numberer_room}
use Rattle.redl_index.proofs.label.NumbererLabeller.pass.Goals as goal

pub pass-requires : goal.pass-requires
pass-requires c =
    let t = c.args.plain.now in
    record {
      fits = omega (arith, numberer_room c.args._here c.args._para_end t (numberer_state c.args.self.now) c.requires.needs, tags-elements (idle_nodes t), c.elems.ensures);
    }

pub returns : goal.returns
returns c =
    let t = c.args.plain.now in
    let s = numberer_state c.args.self.now in
    let at : c.pass.new.self.at ≡ s.at + tags (idle_nodes t) = omega (arith, c.pass.ensures.at, tags-elements (idle_nodes t), c.elems.ensures) in
    record {
      state =
          ap (λ e. record s { at = c.pass.new.self.at; ends = e }) c.pass.ensures.ends ∙ ap (λ n. numbered n s) at
          ∙ sym (numberer_passed c.args._here c.args._para_end t s);
    }
