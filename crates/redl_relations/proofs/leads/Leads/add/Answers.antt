-- What the table gets.
use Rattle.std.proofs.Common.{◌≡◌, ◌∙◌, Bor, Option, Some, None, false, is_some, ap, sym, refl}
use Rattle.std.specs.Option.{option_copied}
use Rattle.std.proofs.lemmas.Map.Text.{btree_map_updates_str}
use Rattle.redl_relations.specs.Leads.{lead_at}
use Rattle.redl_relations.proofs.Laws.{gets}
use Rattle.redl_relations.proofs.leads.Leads.add.Goals as goal

copied : {A : Type 0} (found : Option (Bor A)) → is_some (option_copied found) ≡ is_some found
copied None = refl
copied (Some x) = refl

pub returns : goal.returns
returns c = λ other.
    let none : is_some (lead_at c.args.self.now c.args.id.now) ≡ false =
    ap is_some (sym c.get.ensures.value) ∙ copied c.get.result ∙ sym c.is_some.ensures ∙ c.if-is_some.false in
    btree_map_updates_str c.args.id.now c.args.self.now.places c.insert.new.self (Some c.args.lead) c.in_ok-insert.ensures.updates other
    ∙ gets (lead_at c.args.self.now) c.args.id.now other c.args.lead none
