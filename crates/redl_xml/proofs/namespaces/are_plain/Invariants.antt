use Rattle.std.proofs.Common.{◌≡◌, length, map, true}
use Rattle.std.specs.List.{list_all}
use Rattle.redl_markup.specs.Views.{name_view}
use Rattle.redl_xml.specs.Scopes.{is_element_prefix, is_plain_name}
use Rattle.redl_xml.proofs.namespaces.are_plain.Given as goal

abbrev pub invariant-loop-name : goal.invariant-loop-name
invariant-loop-name l =
    (is_element_prefix l.scopes l.other ≡ true) × (list_all (is_plain_name l.scopes) (map name_view l.left.rest.now) ≡ list_all (is_plain_name l.scopes) (map name_view l.names))

abbrev pub decreases-loop-name : goal.decreases-loop-name
decreases-loop-name l = length l.left.rest.now
