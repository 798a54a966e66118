-- The walk as code takes it: it carries a summary of the ancestors in place of their list, and goes below no properties.
use Rattle.std.specs.Prelude.{ℕ, List, [], ◌∷◌, ◌++◌, Bool, true, false, ◌&&◌, ◌||◌, not, Option, Some, None, if◌then◌else◌}
use Rattle.std.specs.List.{flat_map}
use Rattle.std.specs.Option.{option_map}
use Rattle.redl_tree.specs.Model.Nodes.{Tag, Nodes, no_nodes, bytes, element, Item, bytes_item, element_item, idle_item}
use Rattle.redl_tree.specs.Model.IdleTexts.{idle_nodes}
use Rattle.redl_tree.specs.Model.View.{Element}
use Rattle.redl_tree.specs.Roles.Names.{is}
use Rattle.redl_tree.specs.Roles.Places.{is_quiet}
use Rattle.redl_tree.specs.Roles.Kinds.{is_content, is_leave}
use Rattle.redl_tree.specs.Roles.Lists.{is_thick}
use Rattle.redl_tree.specs.Decisions.Fates.{fate_of}
use Rattle.redl_tree.specs.Decisions.Tables.{para_is_cut}
use Rattle.redl_tree.specs.Decisions.Packages.{stories}
use Rattle.redl_tree.specs.declared.kinds.Say.{Say}
use Rattle.redl_tables.specs.DecidedAncestors.{ancestors_of, revives}
use Rattle.redl_tables.specs.DecidedAncestors as known
use Rattle.redl_tables.specs.Places.{goes_at, is_block_para}
use Rattle.redl_views.specs.PlainText.{start_shown, end_shown}
use Rattle.redl_shown.specs.Shown.{shown}
use Rattle.redl_views.specs.Ends.{by_fate_of, has_taken}
use Rattle.redl_views.specs.Views.{is_freed, in_shown}
use Rattle.redl_views.specs.Idle.{idle_shown}
use Rattle.redl_views.specs.declared.summary.ViewSummary.{ViewSummary}
use Rattle.redl_views.specs.declared.next.Next.{Next}
use Rattle.redl_views.specs.declared.next.Next.TheVariants.{Nothing, Paragraph, Other}

-- ---- the ancestors

abbrev pub summary_of : List Say → List Tag → ViewSummary
summary_of says ancestors = record { ancestors = ancestors_of says ancestors; shown = in_shown says ancestors }

-- a `t`, or deleted text that is live again
abbrev pub is_text : ViewSummary → Tag → Bool
is_text above tag = is "t" tag || (revives above.ancestors && is "delText" tag)

-- the summary for the kids of an element
abbrev pub summary_inside : List Say → Tag → ViewSummary → ViewSummary
summary_inside says tag above = record {
  ancestors = known.decided_inside says tag above.ancestors;
  shown = if is_freed says tag then above.shown else is_text above tag;
}

-- a paragraph of a block list that is cut
abbrev pub is_cut_para : List Say → ViewSummary → Tag → Nodes → Bool
is_cut_para says above tag kids = is_block_para says above.ancestors.site.place tag && para_is_cut says kids

-- ---- what follows in a list, and what becomes of ends

-- an element as the next thick node, where it is one
abbrev pub elem_next : List Say → ViewSummary → Tag → Next
elem_next says above tag = if is_block_para says above.ancestors.site.place tag then Paragraph else if is_thick tag then Other else Nothing

abbrev pub item_next : List Say → ViewSummary → Item → Next
item_next says above (bytes_item b) = Nothing
item_next says above (element_item tag kids) = elem_next says above tag
item_next says above (idle_item t) = Nothing

-- the first one of these, or else the other
abbrev pub or_next : Next → Next → Next
or_next Nothing later = later
or_next Paragraph later = Paragraph
or_next Other later = Other

-- the next thick node
abbrev pub next_of : List Say → ViewSummary → Nodes → Next
next_of says above no_nodes = Nothing
next_of says above (bytes b rest) = next_of says above rest
next_of says above (element tag kids rest) = or_next (elem_next says above tag) (next_of says above rest)

abbrev pub is_paragraph : Next → Bool
is_paragraph Paragraph = true
is_paragraph _ = false

-- a cut paragraph loses its end, where this follows and it would hold an element or not
abbrev pub is_lost : Next → Bool → Bool
is_lost Nothing full = false
is_lost Paragraph full = true
is_lost Other full = not full

-- some kid of an element, or the element itself, becomes an element that is no properties of a paragraph
abbrev pub one_gives : List Say → ViewSummary → Tag → Nodes → Bool → Bool
one_gives says above tag kids inside =
    by_fate_of (fate_of says tag) (is_content tag.kind) inside (not (is "pPr" tag) && not (goes_at says above.ancestors.site.place tag kids)) false

abbrev pub gives : List Say → ViewSummary → Nodes → Bool
gives says above no_nodes = false
gives says above (bytes b rest) = gives says above rest
gives says above (element tag kids rest) =
    one_gives says above tag kids (gives says (summary_inside says tag above) kids) || gives says above rest

-- what the next paragraph takes up after an element whose kids give an element or not (`full`)
abbrev pub taken_after : List Say → ViewSummary → Option Bool → Tag → Nodes → Nodes → Bool → Option Bool
taken_after says above taken tag kids rest full =
    if is_cut_para says above tag kids && is_paragraph (next_of says above rest) then Some (has_taken taken || full)
    else if is_thick tag then None
    else option_map (λ b. b || one_gives says above tag kids full) taken

abbrev pub loses_end : List Say → ViewSummary → Option Bool → Tag → Nodes → Nodes → Bool → Bool
loses_end says above taken tag kids rest full =
    is_cut_para says above tag kids && is_lost (next_of says above rest) (has_taken taken || full)

-- ---- the walk

-- an element that stays and may show something: it holds no properties, and is no table, row, cell or shell that goes
abbrev pub is_walked : List Say → ViewSummary → Tag → Nodes → Bool
is_walked says above tag kids = is_leave (fate_of says tag) && not (is_quiet tag) && not (goes_at says above.ancestors.site.place tag kids)

abbrev pub elem_view : List Say → ViewSummary → Tag → Nodes → List ℕ → Bool → List ℕ
elem_view says above tag kids inner loses =
    by_fate_of (fate_of says tag) (is_content tag.kind) inner
    (if is_quiet tag || goes_at says above.ancestors.site.place tag kids then [] else start_shown tag ++ (inner ++ (if loses then [] else end_shown tag)))
    []

abbrev pub view : List Say → ViewSummary → Option Bool → Nodes → List ℕ
view says above taken no_nodes = []
view says above taken (bytes b rest) = (if above.shown then shown b else []) ++ view says above taken rest
view says above taken (element tag kids rest) =
    elem_view says above tag kids (view says (summary_inside says tag above) None kids)
    (loses_end says above taken tag kids rest (gives says (summary_inside says tag above) kids))
    ++ view says above (taken_after says above taken tag kids rest (gives says (summary_inside says tag above) kids)) rest

-- ---- one node of a list, which these follow

-- what a node shows
abbrev pub item_view : List Say → ViewSummary → Option Bool → Item → Nodes → List ℕ
item_view says above taken (bytes_item b) rest = if above.shown then shown b else []
item_view says above taken (element_item tag kids) rest =
    elem_view says above tag kids (view says (summary_inside says tag above) None kids)
    (loses_end says above taken tag kids rest (gives says (summary_inside says tag above) kids))
item_view says above taken (idle_item t) rest = idle_shown above.shown (idle_nodes t)

-- whether it gives an element
abbrev pub item_gives : List Say → ViewSummary → Item → Bool
item_gives says above (bytes_item b) = false
item_gives says above (element_item tag kids) = one_gives says above tag kids (gives says (summary_inside says tag above) kids)
item_gives says above (idle_item t) = true

-- what the next paragraph takes up after it
abbrev pub item_taken : List Say → ViewSummary → Option Bool → Item → Nodes → Option Bool
item_taken says above taken (bytes_item b) rest = taken
item_taken says above taken (element_item tag kids) rest =
    taken_after says above taken tag kids rest (gives says (summary_inside says tag above) kids)
item_taken says above taken (idle_item t) rest = option_map (λ b. b || true) taken

-- a story, where it is the main one
abbrev pub story_walk : List Say → Element → List ℕ
story_walk says story =
    if is "document" story.tag then view says (summary_of says (story.tag ∷ [])) None story.kids else []

-- all of a package
abbrev pub walk_text : List Say → Nodes → List ℕ
walk_text says nodes = flat_map (story_walk says) (stories nodes)
