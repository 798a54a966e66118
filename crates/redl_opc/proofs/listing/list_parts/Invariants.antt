use Rattle.std.proofs.Common.{◌≡◌, ◌++◌, true, map, drop}
use Rattle.std.specs.List.{list_all}
use Rattle.redl_tree.specs.Model.View.{nodes_of}
use Rattle.redl_opc.specs.Elements.{elements_of}
use Rattle.redl_opc.specs.Parts.{places_from}
use Rattle.redl_opc.specs.Shape.{is_part}
use Rattle.redl_opc.specs.Inside.PartView.{part_view}
use Rattle.redl_tree.specs.Model.Tree.{HasUtf8Tails}
use Rattle.redl_opc.proofs.listing.list_parts.Given as goal

abbrev pub invariant-loop-place : goal.invariant-loop-place
invariant-loop-place l = record {
  tails : HasUtf8Tails (nodes_of (drop l.place l.nodes));
  all : list_all is_part (elements_of (nodes_of (drop l.place l.nodes))) ≡ true;
  parts : map part_view l.parts.items ++ places_from l.place (nodes_of (drop l.place l.nodes)) ≡ places_from 0 (nodes_of l.nodes);
}
