-- The package of a text, or the first cause why it has none.
use Rattle.std.specs.Prelude.{ℕ, List, nat_lt, Option, None, Some, Result, Ok, Err, if◌then◌else◌}
use Rattle.redl_inputs.specs.Readers.{Reader}
use Rattle.redl_inputs.specs.Steps.{file, ◌>>=◌}
use Rattle.redl_io.specs.Limits.{package_bytes, depth as depth_limit, nodes as node_limit}
use Rattle.redl_io.specs.Shelf.{Files}
use Rattle.redl_lines.specs.Causes.{shape_failure}
use Rattle.redl_lines.specs.Failures.{Failure, caused, no_package, over}
use Rattle.redl_lines.specs.declared.failure.Limit.TheVariants.{PackageBytes, Depth, Nodes as TooManyNodes}
use Rattle.redl_lines.specs.declared.failure.PackageFault.TheVariants.{NotReadable, Rule}
use Rattle.redl_opc.specs.Shape.{refusal}
use Rattle.redl_opc.specs.declared.error.OpcError.{OpcError}
use Rattle.redl_rules.specs.Attributes.{broken_rule}
use Rattle.redl_tree.specs.Model.Count.{count}
use Rattle.redl_tree.specs.Model.Nodes.{Nodes}
use Rattle.redl_xml.specs.Shapes.{depth_of}

-- the text of the package of this name
abbrev pub package_file : Files → List ℕ → Result (List ℕ) Failure
package_file files name = file files name package_bytes PackageBytes

-- a tree within the limits
abbrev pub limited : Nodes → Result Nodes Failure
limited nodes =
    if nat_lt depth_limit (depth_of nodes) then Err (caused (over Depth))
    else if nat_lt node_limit (count nodes) then Err (caused (over TooManyNodes))
    else Ok nodes

-- the tree of a text
abbrev pub tree_in : Option Nodes → Result Nodes Failure
tree_in None = Err (caused (no_package NotReadable))
tree_in (Some nodes) = limited nodes

-- the nodes, unless their shape was refused
abbrev pub shaped_unless : Option OpcError → Nodes → Result Nodes Failure
shaped_unless None nodes = Ok nodes
shaped_unless (Some error) nodes = Err (shape_failure error)

-- nodes that have the shape of a package
abbrev pub shaped : Nodes → Result Nodes Failure
shaped nodes = shaped_unless (refusal nodes) nodes

-- the nodes, unless they break a rule of structure
abbrev pub sound_unless : Option ℕ → Nodes → Result Nodes Failure
sound_unless None nodes = Ok nodes
sound_unless (Some rule) nodes = Err (caused (no_package (Rule rule)))

-- a package that keeps the nine rules of structure
abbrev pub sound : Nodes → Result Nodes Failure
sound nodes = sound_unless (broken_rule nodes) nodes

-- the nodes of the package with this text
abbrev pub package_in : Reader → List ℕ → Result Nodes Failure
package_in reader whole = do
  tree ← tree_in (reader.tree whole)
  nodes ← shaped tree
  sound nodes
