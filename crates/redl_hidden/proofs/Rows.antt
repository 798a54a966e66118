-- Worked rows: which runs are hidden, by computing (ECMA-376 Part 1, 17.3.2.41).
use Prim.Native.String.{String}
use Rattle.std.proofs.Common.{◌≡◌, Some, None, true, false, refl}
use Rattle.redl_tree.specs.Model.Nodes.{Nodes, no_nodes, ◌⊕◌}
use Rattle.redl_tree.proofs.Model.Build.{opened, opened_with, closed}
use Rattle.redl_markup.specs.Attributes.{attributes_of}
use Rattle.redl_grammar.specs.Characters.{is_name_start, is_name_character, is_space}
use Rattle.redl_grammar.specs.Names.{may_start, may_follow}
use Rattle.redl_grammar.specs.ScanNames.{name_at, word_at, char_at, name_end, name_step}
use Rattle.redl_grammar.specs.ScanTags.{attribute_in, attribute_at, equated_at, quoted_at, quote_at, is_value}
use Rattle.redl_reading.specs.Lists.{field_at}
use Rattle.redl_hidden.specs.Runs.{paragraph_hides, run_hides, mark_hides, changes_vanish}
use Rattle.redl_hidden.specs.Styles.{HiddenStyles, hidden_styles, longest_chain, nearest}

-- ---- styles: `H` hides, `G` is based on it, and `V` on that shows again; `R` and `S` are based on each other

styles : HiddenStyles
styles = hidden_styles
    (opened_with "style" " w:styleId=\"H\"" (opened "rPr" (closed "vanish" ""))
    ⊕ (opened_with "style" " w:styleId=\"G\"" (closed "basedOn" " w:val=\"H\"" ⊕ opened "rPr" (closed "b" ""))
    ⊕ (opened_with "style" " w:styleId=\"V\"" (closed "basedOn" " w:val=\"G\"" ⊕ opened "rPr" (closed "vanish" " w:val=\"0\""))
    ⊕ (opened_with "style" " w:styleId=\"R\"" (closed "basedOn" " w:val=\"S\"") ⊕ opened_with "style" " w:styleId=\"S\"" (closed "basedOn" " w:val=\"R\"")))))

-- a paragraph of a style, and a run with such properties
of_style : String → Nodes
of_style tail = opened "pPr" (closed "pStyle" tail)

with_properties : Nodes → Nodes
with_properties properties = opened "rPr" properties ⊕ opened "t" no_nodes

-- by a style of a style
behind : paragraph_hides styles (of_style " w:val=\"G\"") ≡ true
unfolding styles of_style longest_chain attributes_of attribute_in attribute_at name_at word_at char_at name_end name_step may_start may_follow is_name_start is_name_character is_space equated_at quoted_at field_at quote_at is_value
behind = refl

-- the nearest counts
nearer : paragraph_hides styles (of_style " w:val=\"V\"") ≡ false
unfolding styles of_style longest_chain attributes_of attribute_in attribute_at name_at word_at char_at name_end name_step may_start may_follow is_name_start is_name_character is_space equated_at quoted_at field_at quote_at is_value
nearer = refl

-- a ring says nothing
ring : nearest styles.styles 100 (Some 3) ≡ None
unfolding styles attributes_of attribute_in attribute_at name_at word_at char_at name_end name_step may_start may_follow is_name_start is_name_character is_space equated_at quoted_at field_at quote_at is_value
ring = refl

-- a run: by itself, by its style, by its paragraph
by_itself : run_hides styles false (with_properties (closed "vanish" " w:val=\"true\"")) ≡ true
unfolding styles with_properties longest_chain attributes_of attribute_in attribute_at name_at word_at char_at name_end name_step may_start may_follow is_name_start is_name_character is_space equated_at quoted_at field_at quote_at is_value
by_itself = refl

shown : run_hides styles true (with_properties (closed "vanish" " w:val=\"off\"" ⊕ closed "rStyle" " w:val=\"H\"")) ≡ false
unfolding styles with_properties longest_chain attributes_of attribute_in attribute_at name_at word_at char_at name_end name_step may_start may_follow is_name_start is_name_character is_space equated_at quoted_at field_at quote_at is_value
shown = refl

by_style : run_hides styles false (with_properties (closed "rStyle" " w:val=\"G\"")) ≡ true
unfolding styles with_properties longest_chain attributes_of attribute_in attribute_at name_at word_at char_at name_end name_step may_start may_follow is_name_start is_name_character is_space equated_at quoted_at field_at quote_at is_value
by_style = refl

by_paragraph : run_hides styles true (with_properties (closed "rStyle" " w:val=\"X\"")) ≡ true
unfolding styles with_properties longest_chain attributes_of attribute_in attribute_at name_at word_at char_at name_end name_step may_start may_follow is_name_start is_name_character is_space equated_at quoted_at field_at quote_at is_value
by_paragraph = refl

-- the mark of a paragraph
by_mark : mark_hides styles false (opened "pPr" (opened "rPr" (closed "vanish" ""))) ≡ true
unfolding styles longest_chain attributes_of attribute_in attribute_at name_at word_at char_at name_end name_step may_start may_follow is_name_start is_name_character is_space equated_at quoted_at field_at quote_at is_value
by_mark = refl

-- ---- defaults: of the document, of paragraphs, and of runs

defaults : Nodes
defaults = opened "docDefaults" (opened "rPrDefault" (opened "rPr" (closed "vanish" "")))

by_document : paragraph_hides (hidden_styles defaults) no_nodes ≡ true
unfolding defaults longest_chain attributes_of attribute_in attribute_at name_at word_at char_at name_end name_step may_start may_follow is_name_start is_name_character is_space equated_at quoted_at field_at quote_at is_value
by_document = refl

by_default_paragraph : paragraph_hides (hidden_styles (defaults ⊕ opened_with "style" " w:type=\"paragraph\" w:default=\"1\"" (opened "rPr" (closed "vanish" " w:val=\"false\"")))) no_nodes ≡ false
unfolding defaults longest_chain attributes_of attribute_in attribute_at name_at word_at char_at name_end name_step may_start may_follow is_name_start is_name_character is_space equated_at quoted_at field_at quote_at is_value
by_default_paragraph = refl

by_default_run : run_hides (hidden_styles (opened_with "style" " w:type=\"character\" w:default=\"1\"" (opened "rPr" (closed "vanish" "")))) false no_nodes ≡ true
unfolding longest_chain attributes_of attribute_in attribute_at name_at word_at char_at name_end name_step may_start may_follow is_name_start is_name_character is_space equated_at quoted_at field_at quote_at is_value
by_default_run = refl

-- ---- changes

made_hidden : changes_vanish (closed "vanish" "") (opened "rPr" (closed "b" "")) ≡ true
unfolding attributes_of attribute_in attribute_at name_at word_at char_at name_end name_step may_start may_follow is_name_start is_name_character is_space equated_at quoted_at field_at quote_at is_value
made_hidden = refl

left_hidden : changes_vanish (closed "vanish" "") (opened "rPr" (closed "vanish" " w:val=\"1\"")) ≡ false
unfolding attributes_of attribute_in attribute_at name_at word_at char_at name_end name_step may_start may_follow is_name_start is_name_character is_space equated_at quoted_at field_at quote_at is_value
left_hidden = refl
