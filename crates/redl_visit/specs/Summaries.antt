-- The summary of the ancestors of an element, which code that goes down a story carries in place of them.
use Rattle.std.specs.Prelude.{List, ◌||◌}
use Rattle.redl_tree.specs.Model.Nodes.{Tag}
use Rattle.redl_tree.specs.Roles.Places.{is_quiet}
use Rattle.redl_tree.specs.Roles.Arounds.{around_of, around_inside}
use Rattle.redl_tree.specs.Roles.Lists.{place}
use Rattle.redl_tree.specs.Roles.Sites.{place_below}
use Rattle.redl_visit.specs.declared.ancestors.Ancestors.{Ancestors}

-- of these ancestors, the nearest first
abbrev pub ancestors_of : List Tag → Ancestors
ancestors_of tags = record { around = around_of tags; place = place tags }

-- the same with this one as the nearest
abbrev pub ancestors_inside : Tag → Ancestors → Ancestors
ancestors_inside tag here = record {
  around = around_inside tag here.around;
  place = place_below tag (is_quiet tag || here.around.quiet) here.place;
}
