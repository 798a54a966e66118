-- The id has a sign already, or it has none.
use Rattle.std.proofs.Common.{◌∙◌, ap, bytes_eq, cond, List, ℕ, sym, Some}
use Rattle.redl_places.specs.Views.{sign_at}
use Rattle.redl_places.proofs.SignLaws.{none_there, sign_kept, sign_more, updated}
use Rattle.redl_places.proofs.sign.KindSigns.add_new.Goals as goal

pub returns-then-contains_key : goal.returns-then-contains_key
returns-then-contains_key c = λ other. sign_kept c.args.id.now other (sign_at c.args.self.now) c.args.sign (sym c.contains_key.ensures ∙ c.if-contains_key.true)

pub returns : goal.returns
returns c = λ other.
    sign_more c.args.id.now other (sign_at c.args.self.now) c.args.sign _ (none_there _ (sym c.contains_key.ensures ∙ c.if-contains_key.false))
    (updated c.in_ok-id.id.items c.args.self.now (record { by_id = c.insert.new.self }) (Some c.args.sign) c.in_ok-insert.ensures.updates other
    ∙ ap (λ (id : List ℕ). cond (bytes_eq id other) (Some c.args.sign) (sign_at c.args.self.now other)) c.in_ok-id.ensures.items)
