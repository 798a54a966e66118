-- What code knows of the revisions of a package, as the definitions see it.
use Rattle.redl_commands_shown.specs.Page as page
use Rattle.redl_places.specs.Views.{place_at}
use Rattle.redl_commands_show.specs.declared.items.Known.{Known}

abbrev pub known_view : Known → page.Known
known_view known = record {
  clauses = known.clauses.items;
  place_on = place_at known.places;
  lines = known.lines.items;
  edits = known.edits.items;
  ids = known.ids.items;
}
