-- What the walk over the text says is what the nodes say.
use Rattle.std.proofs.Common.{◌≡◌, List, ℕ, OnOk, subst, sym}
use Rattle.redl_said.proofs.IdleLaws.{said_idle}
use Rattle.redl_said.proofs.idle.tell_plain.Goals as goal

pub returns : goal.returns
returns g c = λ in_line.
    subst (λ (text : List ℕ). OnOk c.show.result (c.show.new.out ≡ g.E.Ear.heard c.args.ear.now text)) (sym (said_idle in_line c.args.in_text c.args.plain.now)) c.show.ensures
