use Rattle.std.proofs.Common.{◌∙◌, sym, ap}
use Rattle.redl_tree.specs.Model.View.{tag_of, kids_of}
use Rattle.redl_tables.specs.Asked.{answer}
use Rattle.redl_tables.specs.Owners.{is_gone}
use Rattle.redl_views.proofs.WayLaws.{shell-known}
use Rattle.redl_views.proofs.known.goes_by.Goals as goal

pub returns-in-Some : goal.returns-in-Some
returns-in-Some c =
    let kids = kids_of c.args.elem.now in
    let asked = c.is_same.ensures c.if-is_same.true ∙ c.asked_of_shell.ensures in
    c.is_gone.ensures ∙ ap is_gone (sym (c.requires.found c.in-Some.found c.in-Some.is) ∙ ap (λ q. answer c.args.says.now q kids) asked)
    ∙ sym (shell-known c.args.says.now c.args.place (tag_of c.args.elem.now) kids (sym c.is_shell.ensures ∙ c.if-is_shell.true))
