use Rattle.std.proofs.Common.{ap, ◌∙◌, bytes_eq, is_some}
use Rattle.std.proofs.lemmas.Map.Text.{btree_map_updates_str}
use Rattle.redl_left.proofs.NameLaws.{some_added}
use Rattle.redl_left.proofs.named.put.Goals as goal

pub returns : goal.returns
returns c = λ other.
    ap is_some (btree_map_updates_str c.args.value.now c.args.values.now c.insert.new.self _ c.in_ok-insert.ensures.updates other)
    ∙ some_added (bytes_eq c.args.value.now other) _ _
