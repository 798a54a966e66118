-- What idle elements show: a fold over their nodes, in which each element hands something down to its kids.
use Rattle.std.specs.Prelude.{ℕ, List, [], ◌++◌}
use Rattle.redl_tree.specs.Model.Nodes.{Nodes, no_nodes, bytes, element}

-- What is shown of bytes and of an element, by what was handed down to them. An element is known by its local name, its tail and
-- its kids: it is of W and in no revision.
pub record ShowRule (Below : Type 0) : Type 0 where
  pub bytes : Below → List ℕ → List ℕ
  pub start : Below → List ℕ → List ℕ → Nodes → List ℕ
  -- what it hands down to its kids
  pub inside : Below → List ℕ → List ℕ → Nodes → Below
  -- what is shown after its kids, by what it handed down to them
  pub end : Below → List ℕ

-- what is shown of nodes
abbrev pub shows : {Below : Type 0} → ShowRule Below → Below → Nodes → List ℕ
shows rule below no_nodes = []
shows rule below (bytes b rest) = rule.bytes below b ++ shows rule below rest
shows rule below (element tag kids rest) =
    (rule.start below tag.local tag.tail kids
    ++ (shows rule (rule.inside below tag.local tag.tail kids) kids ++ rule.end (rule.inside below tag.local tag.tail kids)))
    ++ shows rule below rest

-- what is shown of an element
abbrev pub element_shows : {Below : Type 0} → ShowRule Below → Below → List ℕ → List ℕ → Nodes → List ℕ
element_shows rule below local tail kids =
    rule.start below local tail kids
    ++ (shows rule (rule.inside below local tail kids) kids ++ rule.end (rule.inside below local tail kids))
