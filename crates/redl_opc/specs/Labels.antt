-- Labels: the kind of an element in a revision, and the number of the revision. A label is not written in a text.
use Rattle.std.specs.Prelude.{◌≡◌}
use Rattle.redl_tree.specs.Model.Nodes.{Tag, Nodes}
use Rattle.redl_tree.specs.Decisions.Packages.{StoryRule}
use Rattle.redl_tree.specs.Revisions.Labels.{unlabelled}

-- a rule that sets labels alone: but for labels, each story keeps what is in it
abbrev pub SetsLabels : {S : Type 0} → StoryRule S → Type 0
SetsLabels {S = S} rule = (given : S) (tag : Tag) (kids : Nodes) → unlabelled (rule.kids given tag kids) ≡ unlabelled kids
