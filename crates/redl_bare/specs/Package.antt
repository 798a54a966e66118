-- The units of a package: those of its stories, in the order in which a reader meets them.
use Rattle.std.specs.Prelude.{List}
use Rattle.std.specs.List.{flat_map}
use Rattle.redl_tree.specs.Model.Nodes.{Nodes}
use Rattle.redl_tree.specs.Model.View.{Element}
use Rattle.redl_order.specs.Order.{ordered}
use Rattle.redl_bare.specs.Fields.{no_field, uncounted}
use Rattle.redl_bare.specs.Units.{BareUnit, story_units}

-- the units of stories, one after another
abbrev pub stories_units : List Element → List BareUnit
stories_units roots = uncounted no_field (flat_map story_units roots)

-- the units of a package, story by story, in the order in which a reader meets them
abbrev pub package_units : Nodes → List BareUnit
package_units nodes = stories_units (ordered nodes)
