-- Worked rows: which revisions have to do with hidden text in small bodies, by computing.
use Prim.Native.String.{String}
use Rattle.std.proofs.Common.{◌≡◌, ℕ, List, [], ◌∷◌, Bool, true, false, refl, replicate}
use Rattle.redl_tree.specs.Model.Nodes.{Nodes, no_nodes, Empty, End, ◌⊕◌}
use Rattle.redl_tree.specs.declared.kinds.Kind.TheVariants.{Mark, Row, Change}
use Rattle.redl_tree.specs.declared.kinds.Prop.TheVariants.{Run, Para}
use Rattle.redl_tree.specs.declared.kinds.Trace.TheVariants.{Ins, Del}
use Rattle.redl_tree.proofs.Model.Build.{opened, opened_with, closed, member, content, run, words}
use Rattle.redl_markup.specs.Attributes.{attributes_of}
use Rattle.redl_grammar.specs.Characters.{is_name_start, is_name_character, is_space}
use Rattle.redl_grammar.specs.Names.{may_start, may_follow}
use Rattle.redl_grammar.specs.ScanNames.{name_at, word_at, char_at, name_end, name_step}
use Rattle.redl_grammar.specs.ScanTags.{attribute_in, attribute_at, equated_at, quoted_at, quote_at, is_value}
use Rattle.redl_reading.specs.Lists.{field_at}
use Rattle.redl_hidden.specs.Styles.{hidden_styles, longest_chain}
use Rattle.redl_hidden_members.specs.Around.{start}
use Rattle.redl_hidden_members.specs.Members.{begin}
use Rattle.redl_hidden_members.specs.Walks.{walked}

-- without styles, of so many revisions in a body
found_in : ℕ → Nodes → List Bool
found_in count body = (walked (hidden_styles no_nodes) start body body (begin (replicate count false))).hidden

-- a hidden run with this text
hidden_run : String → Nodes
hidden_run characters = opened "r" (opened "rPr" (closed "vanish" "") ⊕ opened "t" (words characters))

inserted : ℕ → Nodes → Nodes
inserted v kids = content Ins v "ins" "" kids

-- content that holds a hidden unit, and such that holds none
in_content : found_in 3 (opened "p" (inserted 1 (run "a" ⊕ hidden_run "b") ⊕ (inserted 2 (run "c") ⊕ inserted 3 (opened "r" (opened "rPr" (closed "vanish" ""))))))
    ≡ true ∷ false ∷ false ∷ []
unfolding found_in hidden_run inserted longest_chain attributes_of attribute_in attribute_at name_at word_at char_at name_end name_step may_start may_follow is_name_start is_name_character is_space equated_at quoted_at field_at quote_at is_value
in_content = refl

-- a change of a run that makes it hidden, one of a hidden run that leaves it so, and one of another run
change_of : ℕ → Nodes → Nodes
change_of v former = member (Change Run) v "rPrChange" "" (End []) (opened "rPr" former)

of_runs : found_in 3 (opened "p" (opened "r" (opened "rPr" (closed "vanish" " w:val=\"0\"" ⊕ change_of 1 (closed "vanish" "")))
    ⊕ (opened "r" (opened "rPr" (closed "vanish" "" ⊕ change_of 2 (closed "vanish" ""))) ⊕ opened "r" (opened "rPr" (closed "b" "" ⊕ change_of 3 no_nodes)))))
    ≡ true ∷ true ∷ false ∷ []
unfolding found_in change_of longest_chain attributes_of attribute_in attribute_at name_at word_at char_at name_end name_step may_start may_follow is_name_start is_name_character is_space equated_at quoted_at field_at quote_at is_value
of_runs = refl

-- the mark of a paragraph that is hidden, and a change of a paragraph that has something hidden in it
mark_of : ℕ → Nodes
mark_of v = member (Mark Del) v "del" "" Empty no_nodes

of_marks : found_in 3 (opened "p" (opened "pPr" (opened "rPr" (mark_of 1 ⊕ closed "vanish" "")))
    ⊕ opened "p" (opened "pPr" (opened "rPr" (mark_of 2) ⊕ member (Change Para) 3 "pPrChange" "" (End []) (opened "pPr" no_nodes)) ⊕ hidden_run "a"))
    ≡ true ∷ false ∷ true ∷ []
unfolding found_in hidden_run mark_of longest_chain attributes_of attribute_in attribute_at name_at word_at char_at name_end name_step may_start may_follow is_name_start is_name_character is_space equated_at quoted_at field_at quote_at is_value
of_marks = refl

-- a row with a hidden unit at any depth, and one without
row : ℕ → Nodes → Nodes
row v kids = opened "tr" (opened "trPr" (member (Row Ins) v "ins" "" Empty no_nodes) ⊕ opened "tc" (opened "p" kids))

of_rows : found_in 2 (opened "tbl" (row 1 (run "a") ⊕ row 2 (hidden_run "b"))) ≡ false ∷ true ∷ []
unfolding found_in hidden_run row longest_chain attributes_of attribute_in attribute_at name_at word_at char_at name_end name_step may_start may_follow is_name_start is_name_character is_space equated_at quoted_at field_at quote_at is_value
of_rows = refl

-- a text box in a hidden run
in_a_box : found_in 1 (opened "p" (opened "r" (opened "rPr" (closed "vanish" "") ⊕ opened "pict" (opened "txbxContent" (opened "p" (inserted 1 (run "a"))))))) ≡ true ∷ []
unfolding found_in inserted longest_chain attributes_of attribute_in attribute_at name_at word_at char_at name_end name_step may_start may_follow is_name_start is_name_character is_space equated_at quoted_at field_at quote_at is_value
in_a_box = refl

-- a change of a shown run that holds a text box with hidden text in it
of_a_box : found_in 1 (opened "p" (opened "r" (opened "rPr" (change_of 1 no_nodes) ⊕ opened "pict" (opened "txbxContent" (opened "p" (hidden_run "a")))))) ≡ true ∷ []
unfolding found_in hidden_run change_of longest_chain attributes_of attribute_in attribute_at name_at word_at char_at name_end name_step may_start may_follow is_name_start is_name_character is_space equated_at quoted_at field_at quote_at is_value
of_a_box = refl

-- by the style of the paragraph
by_style : (let styles = hidden_styles (opened_with "style" " w:styleId=\"H\"" (opened "rPr" (closed "vanish" ""))) in
    let body = opened "p" (opened "pPr" (closed "pStyle" " w:val=\"H\"") ⊕ inserted 1 (run "a")) in
    (walked styles start body body (begin (false ∷ []))).hidden) ≡ true ∷ []
unfolding inserted longest_chain attributes_of attribute_in attribute_at name_at word_at char_at name_end name_step may_start may_follow is_name_start is_name_character is_space equated_at quoted_at field_at quote_at is_value
by_style = refl
