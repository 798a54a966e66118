use Rattle.std.proofs.Common.{◌≡◌, ◌∙◌, sym, true, false, rules}
use Rattle.redl_tree.specs.Roles.Idle.{is_idle_name}
use Rattle.redl_tree.specs.declared.kinds.Space.TheVariants.{W}
use Rattle.redl_markup.specs.Views.{name_view}
use Rattle.redl_xml.proofs.PlainStarts.{known_is}
use Rattle.redl_xml.proofs.BareTags.{idle_anywhere, no_names_plain}
use Rattle.redl_xml.proofs.letters.is_idle_bare.Goals as goal

pub returns-in-Some-clause-idle : goal.returns-in-Some-clause-idle
returns-in-Some-clause-idle c = λ h in_run close.
    let scope = c.args.scopes.now in
    let name = name_view c.args.name in
    let k = known_is scope name c.in-Some.space c.in-Some.ensures.space in
    let same : c.in-Some.space ≡ W = search rules in
    let idle : is_idle_name false name.local ≡ true = sym c.is_idle_name.ensures ∙ c.if-not-is_idle_name.false in
    record { plain = record { prefix = k.0; bound = k.1 ∙ same; names = no_names_plain scope }; idle = idle_anywhere in_run name.local idle }
