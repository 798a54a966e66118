-- Which runs are hidden (ECMA-376 Part 1, 17.3.2.41; the order is our own rule: the exclusive-or of toggles of 17.7.3 isn't used).
use Rattle.std.specs.Prelude.{ℕ, Bool, true, false, List, codes, Option, Some, None, unwrap_or}
use Rattle.redl_reading.specs.Steps.{or_else}
use Rattle.redl_tree.specs.Model.Nodes.{Nodes}
use Rattle.redl_hidden.specs.Styles.{Style, HiddenStyles, chain_hides, kid_value, kids_of_first, place_or, vanish_in}

abbrev pub is_of_paragraphs : Style → Bool
is_of_paragraphs style = style.is_of_paragraphs

abbrev pub is_of_runs : Style → Bool
is_of_runs style = style.is_of_runs

-- whether the style of a paragraph with these properties hides, where its chain says so
abbrev pub paragraph_style_hides : HiddenStyles → Nodes → Option Bool
paragraph_style_hides hidden properties = chain_hides hidden.styles (place_or is_of_paragraphs hidden.styles (kid_value (codes "pStyle") properties))

-- whether a paragraph with these kids hides its runs: its style, else the document
abbrev pub paragraph_hides : HiddenStyles → Nodes → Bool
paragraph_hides hidden kids = unwrap_or (paragraph_style_hides hidden (kids_of_first (codes "pPr") kids)) hidden.document

-- whether the style of runs hides that this value of `rStyle` names, or the default one, where its chain says so
abbrev pub value_hides : HiddenStyles → Option (List ℕ) → Option Bool
value_hides hidden value = chain_hides hidden.styles (place_or is_of_runs hidden.styles value)

-- the same of a run with these properties
abbrev pub run_style_hides : HiddenStyles → Nodes → Option Bool
run_style_hides hidden properties = value_hides hidden (kid_value (codes "rStyle") properties)

-- whether a run with these properties is hidden: by itself, else by its style, else by its paragraph, if that hides its runs
abbrev pub properties_hide : HiddenStyles → Bool → Nodes → Bool
properties_hide hidden paragraph properties = unwrap_or (or_else (vanish_in properties) (run_style_hides hidden properties)) paragraph

-- the same of a run with these kids
abbrev pub run_hides : HiddenStyles → Bool → Nodes → Bool
run_hides hidden paragraph kids = properties_hide hidden paragraph (kids_of_first (codes "rPr") kids)

-- and of the mark of a paragraph with these kids
abbrev pub mark_hides : HiddenStyles → Bool → Nodes → Bool
mark_hides hidden paragraph kids = properties_hide hidden paragraph (kids_of_first (codes "rPr") (kids_of_first (codes "pPr") kids))

-- ---- a change of a run's properties

-- two answers are not the same
abbrev pub differ : Option Bool → Option Bool → Bool
differ None None = false
differ (Some true) (Some true) = false
differ (Some false) (Some false) = false
differ _ _ = true

-- whether a change with these kids, which stands among these properties, makes a run hidden or shown, or says so where nothing was said
abbrev pub changes_vanish : Nodes → Nodes → Bool
changes_vanish present kids = differ (vanish_in present) (vanish_in (kids_of_first (codes "rPr") kids))
