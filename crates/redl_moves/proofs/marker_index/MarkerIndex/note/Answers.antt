use Rattle.std.proofs.Common.{◌∙◌}
use Rattle.std.proofs.lemmas.Map.Text.{hash_map_updates_str}
use Rattle.redl_moves.specs.Inside.MarkerIndexes.{at_key}
use Rattle.redl_moves.proofs.MarkerIndexLaws.{noted-updated}
use Rattle.redl_moves.proofs.marker_index.MarkerIndex.note.Goals as goal

pub returns : goal.returns
returns c = λ other.
    hash_map_updates_str c.args.key.now c.args.self.now.places c.insert.new.self _ c.in_ok-insert.ensures.updates other
    ∙ noted-updated (at_key c.args.self.now) c.args.key.now other c.args.place c.only_with-only.result c.only_with-only.ensures
