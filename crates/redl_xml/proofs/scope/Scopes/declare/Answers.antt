use Rattle.std.proofs.Common.{◌∙◌, ap, sym, subst, List}
use Rattle.redl_xml.specs.declared.scope.Declaration.{Declaration}
use Rattle.redl_xml.specs.Stacks.{Agrees}
use Rattle.redl_xml.specs.Scopes.{nearest}
use Rattle.redl_xml.proofs.Nearest.{declared_agrees}
use Rattle.redl_xml.proofs.scope.Scopes.declare.Goals as goal

pub invariant_of-self-in-Ok : goal.invariant_of-self-in-Ok
invariant_of-self-in-Ok c =
    let P : List Declaration → Type 0 = λ ds. Agrees c.insert.new.self ds in
    let d : Declaration = record { prefix = c.args.prefix; space = c.args.space; former = c.space-former.result } in
    subst P (sym c.in_ok-push.ensures.items) (declared_agrees c.self.inside.spaces c.insert.new.self c.self.inside.declarations.items d c.self.invariant (c.space-former.ensures ∙ ap (nearest c.args.prefix.now) (sym c.self.view_is)) c.in-Ok.ensures.updates)
