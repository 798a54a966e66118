use Rattle.std.proofs.Common.{ap, ◌∙◌}
use Rattle.redl_index.specs.Numbers.{numbered_package}
use Rattle.redl_tree.specs.Model.View.{nodes_of}
use Rattle.redl_live.proofs.OpenLaws.{has-numbers, has-plain-roots}
use Rattle.redl_live.proofs.open.open.Goals as goal

pub new-requires-clause-numbered : goal.new-requires-clause-numbered
new-requires-clause-numbered c = has-numbers c.number.new.pkg c.in-Ok-make.pkg c.in_ok-count.ensures.nodes

pub new-requires-clause-plain : goal.new-requires-clause-plain
new-requires-clause-plain c =
    has-plain-roots c.args.text.now c.number.new.pkg (nodes_of c.in-Ok.nodes.items)
    (c.in_ok-count.ensures.nodes ∙ ap numbered_package c.in-Ok-make.ensures.nodes) c.in-Ok.ensures.found
