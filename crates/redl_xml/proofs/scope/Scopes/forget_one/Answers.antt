use Rattle.std.proofs.Common.{subst, List, rules}
use Rattle.redl_xml.specs.declared.scope.Declaration.{Declaration}
use Rattle.redl_xml.specs.Stacks.{Agrees}
use Rattle.redl_xml.proofs.Nearest.{forgotten_agrees, declared_is_found}
use Rattle.redl_xml.proofs.scope.Scopes.forget_one.Goals as goal

pub invariant_of-self : goal.invariant_of-self
invariant_of-self c =
    let P : List Declaration → Type 0 = λ ds. Agrees c.self.inside.spaces ds in
    let was = subst P c.in-Some.ensures.items c.self.invariant in
    forgotten_agrees c.self.inside.spaces _ c.pop.new.self.items c.in-Some.nearest was ((c.get_mut.follows.holds c.in-Some.nearest.former).3 (search rules))

pub invariant_of-self-in_default-get_mut : goal.invariant_of-self-in_default-get_mut
invariant_of-self-in_default-get_mut c =
    let P : List Declaration → Type 0 = λ ds. Agrees c.self.inside.spaces ds in
    let was = subst P c.in-Some.ensures.items c.self.invariant in
    absurd (declared_is_found c.self.inside.spaces c.pop.new.self.items c.in-Some.nearest was (search rules))
