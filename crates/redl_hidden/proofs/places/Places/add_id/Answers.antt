-- What the table gets.
use Rattle.std.proofs.Common.{◌≡◌, ◌∙◌, Bor, Option, Some, None, false, is_some, ap, sym, refl}
use Rattle.std.specs.Option.{option_copied}
use Rattle.std.proofs.lemmas.Map.Text.{btree_map_updates_str}
use Rattle.redl_relations.proofs.Laws.{gets}
use Rattle.redl_hidden.specs.Inside.Known.{place_in}
use Rattle.redl_hidden.proofs.places.Places.add_id.Goals as goal

copied : {A : Type 0} (found : Option (Bor A)) → is_some (option_copied found) ≡ is_some found
copied None = refl
copied (Some x) = refl

pub returns : goal.returns
returns c = λ other.
    let none : is_some (place_in c.args.self.now c.args.id.now) ≡ false =
    ap is_some (sym c.get.ensures.value) ∙ copied c.get.result ∙ sym c.is_some.ensures ∙ c.if-is_some.false in
    btree_map_updates_str c.args.id.now c.args.self.now.by_id c.insert.new.self (Some c.args.place) c.in_ok-insert.ensures.updates other
    ∙ gets (place_in c.args.self.now) c.args.id.now other c.args.place none
