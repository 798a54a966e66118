use Rattle.std.proofs.Common.{◌≡◌, length}
use Rattle.std.specs.List.{list_all}
use Rattle.redl_markup.specs.Attributes.{attributes_of}
use Rattle.redl_xml.specs.Scopes.{is_known_attribute}
use Rattle.redl_xml.proofs.namespaces.are_known.Given as goal

abbrev pub invariant-loop-attribute : goal.invariant-loop-attribute
invariant-loop-attribute l = list_all (is_known_attribute l.scopes) (attributes_of l.rest) ≡ list_all (is_known_attribute l.scopes) (attributes_of l.tail)

abbrev pub decreases-loop-attribute : goal.decreases-loop-attribute
decreases-loop-attribute l = length l.rest
