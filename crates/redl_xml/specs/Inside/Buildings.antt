-- The code's open elements as plain data.
use Rattle.std.specs.Prelude.{List, [], ◌∷◌, reverse}
use Rattle.std.specs.Global.{Vec}
use Rattle.redl_tree.specs.Model.Nodes.{Nodes, no_nodes}
use Rattle.redl_tree.specs.Model.View.{nodes_of}
use Rattle.redl_tree.specs.declared.node.Node.{Node}
use Rattle.redl_xml.specs.declared.open_element.OpenElement.{OpenElement}
use Rattle.redl_xml.specs.declared.building.Building.{Building}
use Rattle.redl_xml.specs.Inside.Elements.{Frame, State}

-- an open element with these nodes before it
abbrev pub frame_view : OpenElement → Nodes → Frame
frame_view f before = record {
  name = record { prefix = f.start.prefix; local = f.start.local };
  tail = f.start.tail;
  declared = f.declared;
  space = f.start.space;
  before = before;
}

-- open elements with the nodes before each, the innermost first; one without a list has no nodes before it
abbrev pub frames : List OpenElement → List (Vec Node) → List Frame
frames [] before = []
frames (f ∷ fs) [] = frame_view f no_nodes ∷ frames fs []
frames (f ∷ fs) (b ∷ bs) = frame_view f (nodes_of b.items) ∷ frames fs bs

abbrev pub building_view : Building → State
building_view b = record { open_elements = frames (reverse b.open.items) (reverse b.before.items); kids = nodes_of b.kids.items; scope = b.scopes }
