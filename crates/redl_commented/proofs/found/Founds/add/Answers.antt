-- One comment has a place more.
use Rattle.std.proofs.Common.{◌∙◌, ap, bytes_eq, cond, List, ℕ, Option, Some}
use Rattle.std.proofs.lemmas.Map.Text.{btree_map_updates_str}
use Rattle.redl_commented.specs.Inside.Founds.{found_at}
use Rattle.redl_commented.specs.Ranges.{with_place}
use Rattle.redl_commented.specs.declared.found.Found.{Found}
use Rattle.redl_commented.proofs.FoundLaws.{found_more}
use Rattle.redl_commented.proofs.found.Founds.add.Goals as goal

pub returns : goal.returns
returns c = λ id.
    let place = c.args.place.now in
    let old = found_at c.args.self.now in
    let put = Some c.with_place-found.result in
    found_more place id old put _
    (ap Some (c.with_place-found.ensures ∙ ap (λ (f : Option Found). with_place f place) (c.at.ensures ∙ ap old c.as_bytes-id.ensures)))
    (btree_map_updates_str c.as_bytes-id.result.now c.args.self.now.by_id c.insert.new.self put c.in_ok-insert.ensures.updates id
    ∙ ap (λ (key : List ℕ). cond (bytes_eq key id) put (old id)) c.as_bytes-id.ensures)
