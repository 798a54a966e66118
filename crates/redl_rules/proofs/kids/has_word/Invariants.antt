use Rattle.std.proofs.Common.{◌≡◌, drop}
use Rattle.redl_tree.specs.Model.View.{nodes_of}
use Rattle.redl_tree.specs.Roles.Names.{named}
use Rattle.redl_tree.specs.Roles.Words.{name_of}
use Rattle.redl_tree.specs.Model.Kids.{some_element}
use Rattle.redl_rules.proofs.kids.has_word.Given as goal

abbrev pub invariant-loop-node : goal.invariant-loop-node
invariant-loop-node l = some_element (named (name_of l.word)) (nodes_of (drop l.node-index l.nodes)) ≡ some_element (named (name_of l.word)) (nodes_of l.nodes)
