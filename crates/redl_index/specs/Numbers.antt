-- The kinds and numbers of the elements of a package, and how many revisions it has: the definitions of redl_tree, where
-- attributes are read as redl_stamp reads them (ECMA-376 Part 1, 17.13.5; the numbers are our own rule).
use Rattle.std.specs.Prelude.{ℕ}
use Rattle.redl_tree.specs.Model.Nodes.{Nodes}
use Rattle.redl_tree.specs.Revisions.Numbers as numbers
use Rattle.redl_stamp.specs.Attribute.{attribute_value}

-- how many revisions a package has
abbrev pub package_revisions : Nodes → ℕ
package_revisions nodes = numbers.package_revisions_by attribute_value nodes

-- a package with the kinds and numbers of its members, and of the markers of paired moves
abbrev pub numbered_package : Nodes → Nodes
numbered_package nodes = numbers.numbered_package_by attribute_value nodes
