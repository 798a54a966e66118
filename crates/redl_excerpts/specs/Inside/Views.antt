-- What code keeps of where nodes stand, as the definitions see it.
use Rattle.redl_tree.specs.Model.View.{nodes_of}
use Rattle.redl_excerpts.specs.Mentions.{Where}
use Rattle.redl_said.specs.declared.line.LinePlace.{LinePlace}
use Rattle.redl_excerpts.specs.declared.members.Here.{Here}

abbrev pub where_of : Here → LinePlace → Where
where_of here place = record {
  in_text = here.in_text;
  siblings = nodes_of here.siblings.now;
  owner = nodes_of here.owner.now;
  owner_place = here.owner_place;
  place = place;
  whole = here.whole.now;
}
