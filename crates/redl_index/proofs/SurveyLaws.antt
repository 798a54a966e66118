-- One walk over a story tells the rules that hold in it, and its markers and ends.
use Rattle.std.proofs.Common.{◌≡◌, ◌∙◌, ap, [], ◌∷◌, length, replicate}
use Rattle.redl_tree.specs.Model.Nodes.{Tag, Nodes}
use Rattle.redl_visit.specs.declared.ancestors.Ancestors.{Ancestors}
use Rattle.redl_visit.specs.Summaries.{ancestors_of, ancestors_inside}
use Rattle.redl_visit.specs.Visits.{visited}
use Rattle.redl_visit.specs.Pairs.{both_rule}
use Rattle.redl_visit.proofs.PairLaws.{both-visited}
use Rattle.redl_index.specs.declared.markers.trail.Below.{Below}
use Rattle.redl_index.specs.Inside.Markers.Trails.{below_root}
use Rattle.redl_index.specs.Inside.Markers.Finding.{Finding, nothing_found, all_found, finder_rule}
use Rattle.redl_index.proofs.MarkerLaws.Finder.{story-found}
use Rattle.redl_rules.specs.declared.kept.Kept.{Kept}
use Rattle.redl_rules.specs.declared.round.Round.{Round}
use Rattle.redl_rules.specs.Rounds.{round_of}
use Rattle.redl_rules.specs.Keeping.{kept_here, element_kept}
use Rattle.redl_rules.specs.Visiting.{keeper_rule}
use Rattle.redl_rules.proofs.KeeperLaws.{story-kept}
use Rattle.redl_index.specs.StoryFacts.{Facts}

-- what is known of a story in which this was found, where no move has a number yet
abbrev pub facts_from : Finding → Facts
facts_from found = record {
  marks = found.marks;
  tails = found.tails;
  ends = found.ends;
  numbers = replicate (length found.marks) 0;
}

module _ (tag : Tag) (kids : Nodes) (here inner : Ancestors) (round : Round) (below : Below) (kept : Kept) (found : Finding) (after : Kept × Finding)
    (is_here : here ≡ ancestors_of []) (is_inner : inner ≡ ancestors_inside tag here)
    (is : after ≡ visited ancestors_inside (both_rule keeper_rule finder_rule) inner (round, below) kids (kept, found)) where
  pub rules-told : round ≡ round_of (tag ∷ []) → kept ≡ kept_here [] tag kids → after.0 ≡ element_kept [] tag kids
  rules-told is_round is_kept =
      ap (λ (s : Kept × Finding). s.0) (is ∙ both-visited ancestors_inside keeper_rule finder_rule inner (round, below) kids (kept, found))
      ∙ story-kept tag kids here inner round kept is_here is_inner is_round is_kept

  pub markers-told : below ≡ below_root tag kids → found ≡ nothing_found → after.1 ≡ all_found tag kids
  markers-told is_below is_found =
      ap (λ (s : Kept × Finding). s.1) (is ∙ both-visited ancestors_inside keeper_rule finder_rule inner (round, below) kids (kept, found))
      ∙ story-found tag kids here inner below found is_here is_inner is_below is_found
