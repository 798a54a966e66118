-- The marked text of a document (our own rule): its plain text with a sign where each revision stands. All stories are shown,
-- in the order of parts, and deleted text is shown as text is. Nothing is escaped.
-- `ancestors` is the list of the tags of a node's ancestors in its story, the nearest first.
use Rattle.std.specs.Prelude.{ℕ, List, [], ◌∷◌, ◌++◌, ◌==◌, Bool, false, ◌&&◌, codes, Option, Some, None, filter_map, if◌then◌else◌}
use Rattle.std.specs.Option.{option_map}
use Rattle.std.specs.List.{last_or}
use Rattle.redl_tree.specs.Model.Nodes.{Tag, Nodes, no_nodes, bytes, element}
use Rattle.redl_tree.specs.Roles.Names.{is, is_any}
use Rattle.redl_tree.specs.Roles.Places.{is_open}
use Rattle.redl_opc.specs.Elements.{Element}
use Rattle.redl_opc.specs.Parts.{name_in}
use Rattle.redl_opc.specs.Shape.{parts_of, story_of}
use Rattle.redl_shown.specs.Shown.{shown}
use Rattle.redl_views.specs.PlainText.{start_shown}
use Rattle.redl_marked.specs.Signs.{start_sign, end_sign, para_signs}

-- bytes with these ancestors are shown: the nearest one is a text, live or deleted, and is open
abbrev pub in_text : List Tag → Bool
in_text [] = false
in_text (tag ∷ ancestors) = is_any ("t" ∷ "delText" ∷ []) tag && is_open ancestors

-- what an open element shows at its start tag: a tab, a line break, or a hyphen that doesn't break (U+2011)
abbrev pub open_start : Tag → List ℕ
open_start tag = if is "noBreakHyphen" tag then 226 ∷ 128 ∷ 145 ∷ [] else start_shown tag

-- what an open element shows at its end tag: a paragraph shows the signs of its mark, and ends a line
abbrev pub open_end : Tag → Nodes → List ℕ
open_end tag kids = if is "p" tag then para_signs kids ++ (10 ∷ []) else []

-- what an element shows at its start tag and at its end tag
abbrev pub start_marked : List Tag → Tag → List ℕ
start_marked ancestors tag = start_sign tag.kind tag.rev ++ (if is_open ancestors then open_start tag else [])

abbrev pub end_marked : List Tag → Tag → Nodes → List ℕ
end_marked ancestors tag kids = (if is_open ancestors then open_end tag kids else []) ++ end_sign tag.kind

-- the marked text of nodes
abbrev pub marked_in : List Tag → Nodes → List ℕ
marked_in ancestors no_nodes = []
marked_in ancestors (bytes b rest) = (if in_text ancestors then shown b else []) ++ marked_in ancestors rest
marked_in ancestors (element tag kids rest) =
    (start_marked ancestors tag ++ (marked_in (tag ∷ ancestors) kids ++ end_marked ancestors tag kids))
    ++ marked_in ancestors rest

-- the marked text of a story
abbrev pub story_marked : Element → List ℕ
story_marked story = marked_in (story.tag ∷ []) story.kids

-- a story, with the name of its part
pub record NamedStory : Type 0 where
  pub name : List ℕ
  pub story : Element

-- the story of a part, if the part is one
abbrev pub named_story : Element → Option NamedStory
named_story part = option_map (λ root. record { name = name_in part.tag; story = root }) (story_of part)

-- the stories of a package, in the order of parts
abbrev pub named_stories : Nodes → List NamedStory
named_stories nodes = filter_map named_story (parts_of nodes)

-- the line before a story, where the text before it ends in this byte: none before the first story that shows anything, else
-- a line of its own with the name of the part
abbrev pub heading : Option ℕ → List ℕ → List ℕ
heading None name = []
heading (Some last) name = (if last == 10 then [] else 10 ∷ []) ++ (codes "== " ++ (name ++ (10 ∷ [])))

-- a story with its line
abbrev pub headed : Option ℕ → NamedStory → List ℕ
headed before named = heading before named.name ++ story_marked named.story

-- the marked text of stories, where the text before them ends in this byte
abbrev pub stories_marked : Option ℕ → List NamedStory → List ℕ
stories_marked before [] = []
stories_marked before (named ∷ later) =
    headed before named ++ stories_marked (last_or before (headed before named)) later

-- the marked text of a package
abbrev pub marked_text : Nodes → List ℕ
marked_text nodes = stories_marked None (named_stories nodes)
