-- How a visit of a story tells which rules hold, element by element.
use Rattle.std.specs.Prelude.{[], ◌∷◌}
use Rattle.redl_tree.specs.Model.Nodes.{Tag, Nodes}
use Rattle.redl_tree.specs.Roles.Arounds.{around_inside, role_in}
use Rattle.redl_tree.specs.declared.around.Around.{Around}
use Rattle.redl_tree.specs.declared.kinds.Kind.{Kind}
use Rattle.redl_visit.specs.declared.ancestors.Ancestors.{Ancestors}
use Rattle.redl_visit.specs.Summaries.{ancestors_inside}
use Rattle.redl_visit.specs.Visits.{VisitRule}
use Rattle.redl_rules.specs.declared.kept.Kept.{Kept}
use Rattle.redl_rules.specs.declared.round.Round.{Round}
use Rattle.redl_rules.specs.Rounds.{round_below}
use Rattle.redl_rules.specs.Keeping.{in_both}
use Rattle.redl_rules.specs.Inside.Rules.{ends_well, has_cells, by_round_3, by_round_4, marks_once, by_round_6, by_round_7, by_round_8, by_round_9}

-- the rules that hold of an element with this role by itself; `here` and `round` sum up its ancestors, and `inner` those of its kids
abbrev pub kept_by_round : Around → Around → Round → Kind → Tag → Nodes → Kept
kept_by_round here inner round kind tag kids = record {
  rules =
      ends_well inner.parent kids ∷ has_cells inner.parent kids ∷ by_round_3 here round kind tag kids ∷ by_round_4 inner kids
      ∷ marks_once inner.parent kids ∷ by_round_6 inner here tag kids ∷ by_round_7 here tag kids ∷ by_round_8 round tag
      ∷ by_round_9 inner.parent kind tag kids ∷ [];
}

-- at each element the rules that don't hold of it are told to be broken, and its kids get their round
abbrev pub keeper_rule : VisitRule Ancestors Round Kept
keeper_rule = record {
  below = λ here own tag kids s. round_below tag kids (role_in here.around tag) (ancestors_inside tag here) own;
  enter = λ here own tag kids s.
      in_both s (kept_by_round here.around (around_inside tag here.around) own (role_in here.around tag) tag kids);
  leave = λ here below tag kids s. s;
}
