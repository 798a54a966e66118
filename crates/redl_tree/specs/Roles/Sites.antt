-- What a list of nodes is to the document. `ancestors` is the list of their ancestors' tags, the nearest first.
use Rattle.std.specs.Prelude.{List, Bool, ◌||◌, not, if◌then◌else◌}
use Rattle.std.specs.List.{list_any}
use Rattle.redl_tree.specs.Model.Nodes.{Tag}
use Rattle.redl_tree.specs.Roles.Lists.{place, inside, nowhere}
use Rattle.redl_tree.specs.Roles.Places.{is_quiet}
use Rattle.redl_tree.specs.declared.lists.Place.{Place}
use Rattle.redl_tree.specs.declared.lists.Site.{Site}

-- whether some ancestor holds properties, and what the list consists of
abbrev pub site_of : List Tag → Site
site_of ancestors = record { quiet = list_any is_quiet ancestors; place = place ancestors }

-- the place of the kids of an element that stands at this place, where the element or an ancestor of it is quiet, or none is
abbrev pub place_below : Tag → Bool → Place → Place
place_below tag quiet here = if not quiet then inside tag here else nowhere

-- the site of the kids of an element, from its own
abbrev pub site_inside : Tag → Site → Site
site_inside tag site = record {
  quiet = is_quiet tag || site.quiet;
  place = place_below tag (is_quiet tag || site.quiet) site.place;
}
