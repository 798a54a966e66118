-- What nodes say: their text as a reader sees it, deleted text too, with a space for each break (our own rule; ECMA-376 Part 1,
-- 17.3.3 for the elements of a run).
use Rattle.std.specs.Prelude.{ℕ, List, [], ◌∷◌, ◌++◌, Bool, ◌&&◌, ◌||◌, if◌then◌else◌}
use Rattle.redl_shown.specs.Shown.{is_plain, shown}
use Rattle.redl_tree.specs.Model.IdleTexts.{idle_nodes}
use Rattle.redl_tree.specs.Model.Nodes.{Tag, Nodes, no_nodes, bytes, element, Item, bytes_item, element_item, idle_item}
use Rattle.redl_tree.specs.Roles.Names.{is, is_any}
use Rattle.redl_tree.specs.Roles.Places.{is_quiet}

-- whether bytes are shown as they are, each of them (and those before them, `plain`)
abbrev pub all_plain_from : Bool → List ℕ → Bool
all_plain_from plain [] = plain
all_plain_from plain (b ∷ bs) = all_plain_from (plain && is_plain b) bs

-- a tab, a line break, or the beginning of a paragraph
abbrev pub is_break : Tag → Bool
is_break tag = is_any ("tab" ∷ "br" ∷ "cr" ∷ "p" ∷ []) tag

-- what an element says at its start tag: a space, or a hyphen at which no line ends (U+2011)
abbrev pub start_said : Tag → List ℕ
start_said tag =
    if is_break tag then 32 ∷ []
    else if is "noBreakHyphen" tag then 226 ∷ 128 ∷ 145 ∷ []
    else []

-- an element whose bytes are text
abbrev pub holds_text : Tag → Bool
holds_text tag = is_any ("t" ∷ "delText" ∷ []) tag

-- properties say nothing, and in a line (`in_line`) neither do the paragraphs inside it, as those of a text box
abbrev pub is_silent : Bool → Tag → Bool
is_silent in_line tag = is_quiet tag || (in_line && is "p" tag)

-- What nodes say. Bytes are shown where they are kids of an element that holds text (`in_text`).
abbrev pub said : Bool → Bool → Nodes → List ℕ
said in_line in_text no_nodes = []
said in_line in_text (bytes b rest) = (if in_text then shown b else []) ++ said in_line in_text rest
said in_line in_text (element tag kids rest) =
    (if is_silent in_line tag then [] else start_said tag ++ said in_line (holds_text tag) kids) ++ said in_line in_text rest

-- the same of an element, and of one node
abbrev pub element_said : Bool → Tag → Nodes → List ℕ
element_said in_line tag kids = if is_silent in_line tag then [] else start_said tag ++ said in_line (holds_text tag) kids

abbrev pub item_said : Bool → Bool → Item → List ℕ
item_said in_line in_text (bytes_item b) = if in_text then shown b else []
item_said in_line in_text (element_item tag kids) = element_said in_line tag kids
item_said in_line in_text (idle_item t) = said in_line in_text (idle_nodes t)
