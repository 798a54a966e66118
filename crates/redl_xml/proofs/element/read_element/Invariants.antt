use Rattle.std.proofs.Common.{length}
use Rattle.redl_xml.specs.Inside.Buildings.{building_view}
use Rattle.redl_xml.proofs.Progress.{IsRead}
use Rattle.redl_xml.proofs.element.read_element.Given as goal

abbrev pub invariant-loop-tries : goal.invariant-loop-tries
invariant-loop-tries l = IsRead l.limits l.rest (building_view l.building) l.sizes l.bytes

abbrev pub decreases-loop-tries : goal.decreases-loop-tries
decreases-loop-tries l = length l.rest
