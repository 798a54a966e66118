-- Members that cut a row or a cell, a slot at a time.
use Rattle.std.specs.Prelude.{Bool, ◌&&◌, List}
use Rattle.redl_tables.specs.Owners.{test_of, name_of}
use Rattle.redl_tables.specs.declared.cuts.Owner.{Owner}
use Rattle.redl_tree.specs.Decisions.Fates.{fate_of}
use Rattle.redl_tree.specs.Decisions.Tables.{has_cut}
use Rattle.redl_tree.specs.Leaves.Rebuilt.{original}
use Rattle.redl_tree.specs.Leaves.States.{States, slots_of}
use Rattle.redl_tree.specs.Model.Kids.{kids_of_all}
use Rattle.redl_tree.specs.Roles.Kinds.{is_cut}
use Rattle.redl_tree.specs.Roles.Names.{is}
use Rattle.redl_tree.specs.declared.kinds.Say.{Say}
use Rattle.redl_leaves.specs.View.{SlotView, leaf_view, container_view}

-- a member of this sort is cut in the properties among the original nodes
abbrev pub cut_slots : Owner → List Say → States → Bool
cut_slots owner says states = has_cut (test_of owner) says (kids_of_all (name_of owner) (original (slots_of states)))

-- a member of this sort is cut among the original nodes
abbrev pub member_slots : Owner → List Say → States → Bool
member_slots owner says states = has_cut (test_of owner) says (original (slots_of states))

abbrev pub cut_in : Owner → List Say → SlotView → Bool
cut_in owner says (leaf_view leaf present) = has_cut (test_of owner) says (kids_of_all (name_of owner) leaf.nodes)
cut_in owner says (container_view tag tally inner) = is (name_of owner) tag && member_slots owner says inner

abbrev pub member_in : Owner → List Say → SlotView → Bool
member_in owner says (leaf_view leaf present) = has_cut (test_of owner) says leaf.nodes
member_in owner says (container_view tag tally inner) = test_of owner tag.kind && is_cut (fate_of says tag)
