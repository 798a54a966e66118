use Rattle.std.proofs.Common.{◌≡◌, length}
use Rattle.redl_markup.specs.Attributes.{attributes_of}
use Rattle.redl_xml.specs.Inside.Elements.{with_attributes}
use Rattle.redl_xml.proofs.namespaces.declare_attributes.Given as goal

abbrev pub invariant-loop-attribute : goal.invariant-loop-attribute
invariant-loop-attribute l = with_attributes (attributes_of l.rest) l.scopes ≡ with_attributes (attributes_of l.tail) l.fn.scopes

abbrev pub decreases-loop-attribute : goal.decreases-loop-attribute
decreases-loop-attribute l = length l.rest
