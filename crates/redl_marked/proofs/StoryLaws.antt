-- The marked text of a package, part by part.
use Rattle.std.proofs.Common.{◌≡◌, ◌<◌, ◌≤◌, ◌+◌, ℕ, List, [], ◌∷◌, ◌++◌, length, drop, filter_map, Option, Some, None, option_map, refl, sym, ap, ◌∙◌, append_assoc, append-nil}
use Rattle.std.specs.List.{last_or, cons_option}
use Rattle.std.proofs.lemmas.List.{drop_all}
use Rattle.redl_tree.specs.Model.Nodes.{Tag, Nodes}
use Rattle.redl_opc.specs.Elements.{Element}
use Rattle.redl_opc.specs.Parts.{name_in, part_name, story}
use Rattle.redl_opc.specs.Shape.{parts_of, story_of}
use Rattle.redl_opc.proofs.WalkLaws.{part-at}
use Rattle.redl_marked.specs.declared.summary.MarkedSummary.{MarkedSummary}
use Rattle.redl_marked.specs.MarkedText.{NamedStory, named_story, marked_in, heading, headed, stories_marked}
use Rattle.redl_marked.specs.Inside.Walks.{summary_of, marked, named_of, named_in}
use Rattle.redl_marked.proofs.WalkLaws.{marked-summary}
use Rattle.redl_marked.proofs.LastLaws.{last_or-append}

pub stories-append : (before : Option ℕ) (xs ys : List NamedStory)
    → stories_marked before (xs ++ ys) ≡ stories_marked before xs ++ stories_marked (last_or before (stories_marked before xs)) ys
stories-append before [] ys = refl
stories-append before (x ∷ xs) ys =
    let here = headed before x in
    let after = last_or before here in
    ap (λ t. here ++ t) (stories-append after xs ys)
    ∙ sym (append_assoc here (stories_marked after xs) (stories_marked (last_or after (stories_marked after xs)) ys))
    ∙ ap (λ last. (here ++ stories_marked after xs) ++ stories_marked last ys) (sym (last_or-append before here (stories_marked after xs)))

-- the stories of the parts from this number on
abbrev pub named_from : ℕ → Nodes → List NamedStory
named_from number nodes = filter_map named_story (drop number (parts_of nodes))

pub named-part : (nodes : Nodes) (number : ℕ) → number < length (parts_of nodes)
    → named_from number nodes ≡ named_in nodes number ++ named_from (number + 1) nodes
named-part nodes number within =
    let found = part-at nodes number within in
    let later = named_from (number + 1) nodes in
    ap (filter_map named_story) found.1.front
    ∙ onto later (name_in found.0.tag) (story_of found.0)
    ∙ ap (λ name. named_of name (story_of found.0) ++ later) (sym (ap (option_map (λ (part : Element). name_in part.tag)) found.1.at))
    ∙ ap (λ root. named_of (part_name nodes number) root ++ later) (sym found.1.root)
  where
    onto : (later : List NamedStory) (name : List ℕ) (root : Option Element)
        → cons_option (option_map (λ root. record { name = name; story = root }) root) later ≡ named_of (Some name) root ++ later
    onto later name None = refl
    onto later name (Some root) = refl

-- what a part adds to the text
pub marked-part : (before : Option ℕ) (nodes : Nodes) (number : ℕ) → number < length (parts_of nodes)
    → stories_marked before (named_from number nodes)
    ≡ stories_marked before (named_in nodes number) ++ stories_marked (last_or before (stories_marked before (named_in nodes number))) (named_from (number + 1) nodes)
marked-part before nodes number within =
    ap (stories_marked before) (named-part nodes number within) ∙ stories-append before (named_in nodes number) (named_from (number + 1) nodes)

-- the story of a part, with its kids as the code reads them
pub part_text : (before : Option ℕ) (nodes : Nodes) (number : ℕ) (name : List ℕ) (root : Element) (above : MarkedSummary) (read : Nodes)
    → part_name nodes number ≡ Some name → story nodes number ≡ Some root → above ≡ summary_of (root.tag ∷ []) → read ≡ root.kids
    → stories_marked before (named_in nodes number) ≡ heading before name ++ marked above read
part_text before nodes number name root above read e f g h =
    ap (λ n. stories_marked before (named_of n (story nodes number))) e
    ∙ ap (λ r. stories_marked before (named_of (Some name) r)) f
    ∙ append-nil (headed before (record { name = name; story = root }))
    ∙ ap (λ t. heading before name ++ t) (marked-summary (root.tag ∷ []) root.kids ∙ ap (λ a. marked a root.kids) (sym g) ∙ ap (marked above) (sym h))

-- how it ends
pub part_last : (before : Option ℕ) (nodes : Nodes) (number : ℕ) (name : List ℕ) (root : Element) (last : Option ℕ)
    → part_name nodes number ≡ Some name → story nodes number ≡ Some root
    → last ≡ last_or before (headed before (record { name = name; story = root }))
    → last ≡ last_or before (stories_marked before (named_in nodes number))
part_last before nodes number name root last e f h =
    h ∙ ap (last_or before) (sym (append-nil (headed before (record { name = name; story = root }))))
    ∙ ap (λ r. last_or before (stories_marked before (named_of (Some name) r))) (sym f)
    ∙ ap (λ n. last_or before (stories_marked before (named_of n (story nodes number)))) (sym e)

pub named-past : (before : Option ℕ) (nodes : Nodes) (number : ℕ) → length (parts_of nodes) ≤ number → stories_marked before (named_from number nodes) ≡ []
named-past before nodes number past = ap (λ parts. stories_marked before (filter_map named_story parts)) (drop_all number (parts_of nodes) past)

-- the text of a story, from its kids as the code reads them
pub story_text : (tag : Tag) (kids : Nodes) (above : MarkedSummary) (read : Nodes) → above ≡ summary_of (tag ∷ []) → read ≡ kids
    → marked above read ≡ marked_in (tag ∷ []) kids
story_text tag kids above read e f = ap (marked above) f ∙ ap (λ a. marked a kids) e ∙ sym (marked-summary (tag ∷ []) kids)
