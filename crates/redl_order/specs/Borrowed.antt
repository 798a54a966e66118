-- Borrowed elements as plain data.
use Rattle.std.specs.Prelude.{List, map}
use denote.Ref.{Bor}
use Rattle.redl_tree.specs.Model.View.{Element}
use Rattle.redl_tree.specs.declared.node.Elem.{Elem}
use Rattle.redl_opc.specs.Elements.{element_of}

abbrev pub borrowed : Bor Elem → Element
borrowed e = element_of e.now

abbrev pub all_borrowed : List (Bor Elem) → List Element
all_borrowed es = map borrowed es
