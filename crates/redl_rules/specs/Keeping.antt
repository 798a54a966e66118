-- Which rules hold, of an element, of nodes, and of stories.
use Rattle.std.specs.Prelude.{ℕ, List, [], ◌∷◌, Bool, true, ◌&&◌, not, map, Option}
use Rattle.std.specs.List.{list_all, position_from}
use Rattle.redl_tree.specs.Model.Nodes.{Tag, Nodes}
use Rattle.redl_tree.specs.Model.View.{Element}
use Rattle.redl_tree.specs.Rules.Tests.{Test, everywhere}
use Rattle.redl_tree.specs.Rules.Sound.{holds}
use Rattle.redl_rules.specs.Attributes.{rules}
use Rattle.redl_rules.specs.declared.kept.Kept.{Kept}

-- which rules hold, where each is told by this
abbrev pub kept_by : (Test → Bool) → Kept
kept_by told = record { rules = map told rules }

abbrev pub all_kept : Kept
all_kept = kept_by (λ test. true)

-- both answers, place by place
abbrev pub each_and : List Bool → List Bool → List Bool
each_and [] ys = []
each_and (a ∷ xs) [] = a ∷ xs
each_and (a ∷ xs) (b ∷ ys) = (a && b) ∷ each_and xs ys

-- the rules that hold in both
abbrev pub in_both : Kept → Kept → Kept
in_both a b = record { rules = each_and a.rules b.rules }

-- the rules that hold of an element by itself
abbrev pub kept_here : List Tag → Tag → Nodes → Kept
kept_here ancestors tag kids = kept_by (λ test. test ancestors tag kids)

-- the same of all elements among nodes, at every depth
abbrev pub kept_in : List Tag → Nodes → Kept
kept_in ancestors nodes = kept_by (λ test. everywhere test ancestors nodes)

-- the same of an element and all below it
abbrev pub element_kept : List Tag → Tag → Nodes → Kept
element_kept ancestors tag kids = in_both (kept_here ancestors tag kids) (kept_in (tag ∷ ancestors) kids)

-- the same of stories
abbrev pub kept_among : List Element → Kept
kept_among stories = kept_by (λ test. holds test stories)

-- all rules hold
abbrev pub all_hold : Kept → Bool
all_hold kept = list_all (λ b. b) kept.rules

-- the least rule that doesn't hold, where they count from 1
abbrev pub least_broken : Kept → Option ℕ
least_broken kept = position_from not 1 kept.rules
