-- The walk over the stories of a package, one after the other (our own rule).
use Rattle.std.specs.Prelude.{false, List, [], ◌∷◌}
use Rattle.redl_tree.specs.Decisions.Packages.{stories}
use Rattle.redl_tree.specs.Model.Nodes.{Nodes}
use Rattle.redl_tree.specs.Model.View.{Element}
use Rattle.redl_spans.specs.Walks.{Walk, parted, walked}

-- Before each story comes a unit that no member holds: so nothing reaches from one story into the next.
abbrev pub story_begun : Walk → Walk
story_begun w = record w { here = parted w.here; story = (parted w.here).count }

abbrev pub story_walked : Element → Walk → Walk
story_walked root w = walked false root.kids (story_begun w)

abbrev pub stories_walked : List Element → Walk → Walk
stories_walked [] w = w
stories_walked (root ∷ roots) w = stories_walked roots (story_walked root w)

-- nothing is passed
abbrev pub nothing_walked : Walk
nothing_walked = record { here = record { count = 0; near = false }; story = 0; places = []; spans = [] }

abbrev pub package_walked : Nodes → Walk
package_walked nodes = stories_walked (stories nodes) nothing_walked
