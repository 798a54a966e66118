use Rattle.std.proofs.Common.{ℕ, Option, sym, ap, ◌∙◌}
use Rattle.std.specs.Option.{option_or}
use Rattle.redl_marked.specs.declared.idle.Last.{Last}
use Rattle.redl_marked.proofs.LastLaws.{last_or-of}
use Rattle.redl_marked.proofs.idle.Last.go_on.Goals as goal

pub returns : goal.returns
returns c = λ text e.
    let ends_in : Option ℕ → Last = λ byte. record { byte = byte } in
    ap ends_in (c.or-self.ensures ∙ ap (λ last. option_or last c.args.self.now.byte) e ∙ sym (last_or-of c.args.self.now.byte text))
