-- The key has a place already, or it has none.
use Rattle.std.proofs.Common.{◌∙◌, sym, Some}
use Rattle.std.proofs.lemmas.Map.Text.{btree_map_updates_str}
use Rattle.redl_comments.specs.Firsts.{place_at}
use Rattle.redl_comments.proofs.FirstLaws.{none_there, place_kept, place_more}
use Rattle.redl_comments.proofs.firsts.Firsts.add.Goals as goal

pub returns-then-contains_key : goal.returns-then-contains_key
returns-then-contains_key c = λ other. place_kept c.args.key.now other (place_at c.args.self.now) c.args.place (sym c.contains_key.ensures ∙ c.if-contains_key.true)

pub returns : goal.returns
returns c = λ other.
    place_more c.args.key.now other (place_at c.args.self.now) c.args.place _ (none_there _ (sym c.contains_key.ensures ∙ c.if-contains_key.false))
    (btree_map_updates_str c.args.key.now c.args.self.now.places c.insert.new.self (Some c.args.place) c.in_ok-insert.ensures.updates other)
