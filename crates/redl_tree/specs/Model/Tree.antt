-- What nodes are that were read from a text, and what is required of those that may be a package.
use Rattle.std.specs.Prelude.{◌<◌, ◌^◌}
use Rattle.std.specs.Str.{IsUtf8}
use Rattle.redl_tree.specs.Model.Nodes.{Nodes, no_nodes, bytes, element}
use Rattle.redl_tree.specs.Model.Count.{count}

-- the tail of each element is in UTF-8
abbrev pub HasUtf8Tails : Nodes → Type 0
HasUtf8Tails no_nodes = Unit {0}
HasUtf8Tails (bytes b rest) = HasUtf8Tails rest
HasUtf8Tails (element tag kids rest) = IsUtf8 tag.tail × HasUtf8Tails kids × HasUtf8Tails rest

-- the tails are in UTF-8, and there are fewer than 2^32 nodes
pub record IsTree (nodes : Nodes) : Type 0 where
  pub tails : HasUtf8Tails nodes
  pub few : count nodes < 2 ^ 32
