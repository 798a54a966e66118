use Rattle.std.proofs.Common.{◌≡◌, ◌∙◌, ap, sym, true}
use Rattle.redl_tree.specs.Roles.Idle.{is_idle_name}
use Rattle.redl_grammar.specs.Names.{Name}
use Rattle.redl_xml.proofs.idle.is_idle_start.Goals as goal

pub returns-then-is_idle_name-clause-idle : goal.returns-then-is_idle_name-clause-idle
returns-then-is_idle_name-clause-idle c = λ h close.
    let idle : is_idle_name c.args.in_run c.args.tag.now.name.local ≡ true = ap (λ (n : Name). is_idle_name c.args.in_run n.local) (sym c.name.ensures) ∙ sym c.is_idle_name.ensures ∙ c.if-is_idle_name.true in
    record { plain = c.is_plain_start.ensures.plain h close; idle = idle }
