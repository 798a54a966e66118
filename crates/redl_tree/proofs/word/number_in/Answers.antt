use Rattle.std.proofs.Common.{ap, sym, ◌∙◌}
use Rattle.redl_tree.proofs.Roles.WordLaws.{by_place}
use Rattle.redl_tree.specs.Roles.Words.{number_in}
use Rattle.redl_tree.specs.declared.kinds.Space.{Space}
use Rattle.redl_tree.proofs.word.number_in.Goals as goal

pub returns-in-W : goal.returns-in-W
returns-in-W c =
    let name = c.args.name.now in
    c.number_of.ensures ∙ by_place name ∙ sym (ap (λ (space : Space). number_in space name) c.in-W.is)
