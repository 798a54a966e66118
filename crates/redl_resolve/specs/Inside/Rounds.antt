-- What the pass knows of a node's ancestors and carries down. `ancestors` is the list of their tags, the nearest first.
use Rattle.std.specs.Prelude.{List, [], ◌∷◌, ◌&&◌, not}
use Rattle.redl_tree.specs.Model.Nodes.{Tag}
use Rattle.redl_tree.specs.Roles.Places.{within, in_para_props}
use Rattle.redl_tree.specs.Roles.Names.{is}
use Rattle.redl_tables.specs.DecidedAncestors.{ancestors_of}
use Rattle.redl_tables.specs.DecidedAncestors as known
use Rattle.redl_tables.specs.Asked.{asked, asked_inside}
use Rattle.redl_tree.specs.declared.kinds.Say.{Say}
use Rattle.redl_resolve.specs.declared.rounds.Round.{Round}

abbrev pub pass_round_of : List Say → List Tag → Round
pass_round_of says ancestors = record {
  ancestors = ancestors_of says ancestors;
  para = within ("p" ∷ []) ancestors;
  para_props = in_para_props ancestors;
  asked = asked ancestors;
}

-- the same for the kids of an element
abbrev pub pass_round_inside : List Say → Tag → Round → Round
pass_round_inside says tag round = record {
  ancestors = known.decided_inside says tag round.ancestors;
  para = is "p" tag && not round.ancestors.site.quiet;
  para_props = is "pPr" tag && round.para;
  asked = asked_inside tag round.asked;
}
