use Rattle.std.proofs.Common.{◌≡◌, Bool, true, false, List, [], refl, ap, ◌∙◌}
use Rattle.redl_resolve.specs.Inside.Rounds.{pass_round_of}
use Rattle.redl_resolve.specs.declared.rounds.Round.{Round}
use Rattle.redl_tables.specs.Asked.{asked}
use Rattle.redl_tables.specs.declared.decided_ancestors.DecidedAncestors.{DecidedAncestors}
use Rattle.redl_tree.specs.Leaves.Present.{stand_ins}
use Rattle.redl_tree.specs.Roles.Lists.{place}
use Rattle.redl_tree.specs.declared.lists.Place.{Place}
use Rattle.redl_tree.specs.declared.lists.Site.{Site}
use Rattle.redl_tree.specs.declared.kinds.Say.{Say}
use Rattle.redl_resolve.proofs.rounds.standing.Goals as goal

-- where nothing is asked and no parent is a paragraph
abbrev beginning : DecidedAncestors → Round
beginning known = record { ancestors = known; para = false; para_props = false; asked = asked [] }

abbrev known_at : Place → DecidedAncestors
known_at here = record { site = record { quiet = false; place = here }; freed = false; left = false }

stands : (says : List Say) (among_blocks : Bool) → beginning (known_at (place (stand_ins among_blocks))) ≡ pass_round_of says (stand_ins among_blocks)
stands says true = refl
stands says false = refl

pub returns : goal.returns
returns c = λ says.
    c.beginning.ensures
    ∙ ap (λ (site : Site). beginning (record c.none-2.result { site = record site { place = c.standing_place.result } })) c.none.ensures
    ∙ ap (λ (known : DecidedAncestors). beginning (record known { site = record { quiet = false; place = c.standing_place.result } })) (c.none-2.ensures says)
    ∙ ap (λ (here : Place). beginning (known_at here)) c.standing_place.ensures
    ∙ stands says c.args.among_blocks
