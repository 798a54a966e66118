-- The marked text as code takes it: it carries a summary of the ancestors in place of their list.
use Rattle.std.specs.Prelude.{ℕ, List, [], ◌∷◌, ◌++◌, ◌&&◌, ◌||◌, not, Option, Some, None, if◌then◌else◌}
use Rattle.std.specs.List.{list_any, last_or}
use Rattle.redl_tree.specs.Model.Nodes.{Tag, Nodes, no_nodes, bytes, element, Item, bytes_item, element_item, idle_item}
use Rattle.redl_tree.specs.Model.IdleTexts.{idle_nodes}
use Rattle.redl_tree.specs.Roles.Names.{is, is_any}
use Rattle.redl_tree.specs.Roles.Places.{is_quiet}
use Rattle.redl_opc.specs.Elements.{Element}
use Rattle.redl_opc.specs.Parts.{part_name, story}
use Rattle.redl_shown.specs.Shown.{shown}
use Rattle.redl_marked.specs.Signs.{start_sign, end_sign, mark_sign, mark_signs, run_signs}
use Rattle.redl_marked.specs.MarkedText.{NamedStory, in_text, open_start, open_end}
use Rattle.redl_marked.specs.declared.summary.MarkedSummary.{MarkedSummary}

abbrev pub summary_of : List Tag → MarkedSummary
summary_of ancestors = record { quiet = list_any is_quiet ancestors; text = in_text ancestors }

-- the summary for the kids of an element
abbrev pub inside : Tag → MarkedSummary → MarkedSummary
inside tag above = record {
  quiet = is_quiet tag || above.quiet;
  text = is_any ("t" ∷ "delText" ∷ []) tag && not above.quiet;
}

-- what an element shows at its start tag and at its end tag
abbrev pub start_of : MarkedSummary → Tag → List ℕ
start_of above tag = start_sign tag.kind tag.rev ++ (if not above.quiet then open_start tag else [])

abbrev pub end_of : MarkedSummary → Tag → Nodes → List ℕ
end_of above tag kids = (if not above.quiet then open_end tag kids else []) ++ end_sign tag.kind

-- the marked text of nodes
abbrev pub marked : MarkedSummary → Nodes → List ℕ
marked above no_nodes = []
marked above (bytes b rest) = (if above.text then shown b else []) ++ marked above rest
marked above (element tag kids rest) =
    (start_of above tag ++ (marked (inside tag above) kids ++ end_of above tag kids)) ++ marked above rest

-- of one node
abbrev pub item_marked : MarkedSummary → Item → List ℕ
item_marked above (bytes_item b) = if above.text then shown b else []
item_marked above (element_item tag kids) = start_of above tag ++ (marked (inside tag above) kids ++ end_of above tag kids)
item_marked above (idle_item t) = marked above (idle_nodes t)

-- the signs of a mark that one node has: as a member, as an `rPr`, and as a `pPr`
abbrev pub item_mark : Item → List ℕ
item_mark (bytes_item b) = []
item_mark (element_item tag kids) = mark_sign tag.kind tag.rev
item_mark (idle_item t) = []

abbrev pub item_run : Item → List ℕ
item_run (bytes_item b) = []
item_run (element_item tag kids) = if is "rPr" tag then mark_signs kids else []
item_run (idle_item t) = []

abbrev pub item_para : Item → List ℕ
item_para (bytes_item b) = []
item_para (element_item tag kids) = if is "pPr" tag then run_signs kids else []
item_para (idle_item t) = []

-- the last byte of a text
abbrev pub last_of : List ℕ → Option ℕ
last_of text = last_or None text

-- the story with this root in a part with this name, in a list of its own, which is empty where one of them is missing
abbrev pub named_of : Option (List ℕ) → Option Element → List NamedStory
named_of (Some name) (Some root) = record { name = name; story = root } ∷ []
named_of _ _ = []

-- the story of the part with this number
abbrev pub named_in : Nodes → ℕ → List NamedStory
named_in nodes number = named_of (part_name nodes number) (story nodes number)
