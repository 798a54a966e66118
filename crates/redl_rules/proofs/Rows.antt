-- Worked rows of the rules, with the attributes that they ask of a tag.
use Prim.Native.String.{String}
use Rattle.std.proofs.Common.{◌≡◌, ℕ, [], ◌∷◌, true, false, Option, None, Some, codes, map, refl}
use Rattle.redl_tree.specs.Model.Nodes.{Nodes, no_nodes, ◌⊕◌}
use Rattle.redl_tree.proofs.Model.Build.{opened, opened_with, closed, run, deleted_run, package_of}
use Rattle.redl_markup.specs.Attributes.{attributes_of}
use Rattle.redl_grammar.specs.Characters.{is_name_start, is_name_character, is_space}
use Rattle.redl_grammar.specs.Names.{may_start, may_follow}
use Rattle.redl_grammar.specs.ScanNames.{name_at, word_at, char_at, name_end, name_step}
use Rattle.redl_grammar.specs.ScanTags.{attribute_in, attribute_at, equated_at, quoted_at, quote_at, is_value}
use Rattle.redl_reading.specs.Lists.{field_at}
use Rattle.redl_rules.specs.Attributes.{has_id, declares, broken_rule}

-- The attributes of a tag.

tails_with_an_id :
    map (λ tail. has_id (codes tail)) (" w:id=\"1\"" ∷ " id=''" ∷ " a='1'\n r:id = 'x'" ∷ " xmlns:id='u'" ∷ " w:ids='1' w:Id='1'" ∷ "" ∷ [])
    ≡ true ∷ true ∷ true ∷ false ∷ false ∷ false ∷ []
unfolding attributes_of attribute_in attribute_at name_at word_at char_at name_end name_step may_start may_follow is_name_start is_name_character is_space equated_at quoted_at field_at quote_at is_value
tails_with_an_id = refl

tails_that_declare :
    map (λ tail. declares (codes tail)) (" xmlns:q=\"u\"" ∷ " a='1'\n xmlns = 'u'" ∷ " q:xmlns='u'" ∷ " xml:space='preserve' xmlnsq='u'" ∷ "" ∷ [])
    ≡ true ∷ true ∷ false ∷ false ∷ false ∷ []
unfolding attributes_of attribute_in attribute_at name_at word_at char_at name_end name_step may_start may_follow is_name_start is_name_character is_space equated_at quoted_at field_at quote_at is_value
tails_that_declare = refl

-- The least rules that packages with these bodies break.

abbrev least_rule : Nodes → Option ℕ
least_rule body = broken_rule (package_of body)

abbrev ann : String
ann = " w:id=\"1\" w:author=\"Ann\" w:date=\"2024-05-06T07:08:09Z\""

abbrev bob : String
bob = " w:id=\"2\" w:author=\"Bob\" w:date=\"2024-05-06T09:08:10+02:00\""

abbrev para : Nodes → Nodes
para kids = opened "p" kids

abbrev empty : String → Nodes
empty name = closed name ""

-- a cell that ends with a table
rule_1_broken : least_rule (opened "tbl" (opened "tr" (opened "tc" (empty "p" ⊕ opened "tbl" (opened "tr" (opened "tc" (empty "p"))))))) ≡ Some 1
rule_1_broken = refl

-- a row without cells
rule_2_broken : least_rule (opened "tbl" (opened "tr" no_nodes)) ≡ Some 2
rule_2_broken = refl

-- an inserted paragraph, marked as run content
rule_3_broken : least_rule (para (opened_with "ins" ann (empty "p"))) ≡ Some 3
rule_3_broken = refl

-- a change before the present properties
rule_4_broken : least_rule (para (opened "r" (opened "rPr" (opened_with "rPrChange" ann (empty "rPr") ⊕ empty "b")))) ≡ Some 4
rule_4_broken = refl

-- a mark that is inserted twice
rule_5_broken : least_rule (para (opened "pPr" (opened "rPr" (closed "ins" ann ⊕ closed "ins" bob)))) ≡ Some 5
rule_5_broken = refl

-- properties behind a run
rule_6_broken : least_rule (para (empty "r" ⊕ empty "pPr")) ≡ Some 6
rule_6_broken = refl

-- a run in a marker, and the same where it is none
rule_7_broken : least_rule (para (opened_with "moveFromRangeStart" " w:id=\"1\"" (empty "r"))) ≡ Some 7
unfolding attributes_of attribute_in attribute_at name_at word_at char_at name_end name_step may_start may_follow is_name_start is_name_character is_space equated_at quoted_at field_at quote_at is_value
rule_7_broken = refl

rule_7_kept : least_rule (para (opened_with "moveFromRangeStart" " w:name=\"m\"" (empty "r"))) ≡ None
unfolding attributes_of attribute_in attribute_at name_at word_at char_at name_end name_step may_start may_follow is_name_start is_name_character is_space equated_at quoted_at field_at quote_at is_value
rule_7_kept = refl

-- a change in former properties
rule_8_broken : least_rule (para (opened "pPr" (opened_with "pPrChange" ann (opened "pPr" (opened "rPr" (closed "rPrChange" bob)))))) ≡ Some 8
rule_8_broken = refl

-- a paragraph that declares a namespace, and a run
rule_9_broken : least_rule (closed "p" " xmlns:q=\"u\"") ≡ Some 9
unfolding attributes_of attribute_in attribute_at name_at word_at char_at name_end name_step may_start may_follow is_name_start is_name_character is_space equated_at quoted_at field_at quote_at is_value
rule_9_broken = refl

rule_9_kept : least_rule (para (closed "r" " xmlns:q=\"u\"")) ≡ None
unfolding attributes_of attribute_in attribute_at name_at word_at char_at name_end name_step may_start may_follow is_name_start is_name_character is_space equated_at quoted_at field_at quote_at is_value
rule_9_kept = refl

-- Sound packages.

sound_packages :
    map least_rule (para (opened_with "ins" ann (run "a"))
    ∷ para (opened_with "ins" ann (opened_with "del" bob (deleted_run "c")))
    ∷ (para (opened "pPr" (opened "rPr" (closed "del" ann)) ⊕ run "e") ⊕ empty "p")
    ∷ (opened "tbl" (opened "tr" (opened "trPr" (closed "ins" ann) ⊕ opened "tc" (opened "tcPr" (closed "cellDel" bob) ⊕ empty "p"))) ⊕ empty "p")
    ∷ para (opened "pPr" (empty "keepNext" ⊕ opened "rPr" (closed "ins" ann ⊕ empty "b") ⊕ opened_with "pPrChange" bob (opened "pPr" (closed "jc" " w:val=\"right\""))))
    ∷ para (opened "r" (opened "rPr" (empty "b" ⊕ opened_with "rPrChange" ann (opened "rPr" (empty "i")))))
    ∷ (empty "p" ⊕ opened "sectPr" (closed "pgSz" " w:w=\"1\"" ⊕ opened_with "sectPrChange" ann (opened "sectPr" (closed "pgSz" " w:w=\"2\"")))) ∷ [])
    ≡ None ∷ None ∷ None ∷ None ∷ None ∷ None ∷ None ∷ []
unfolding attributes_of attribute_in attribute_at name_at word_at char_at name_end name_step may_start may_follow is_name_start is_name_character is_space equated_at quoted_at field_at quote_at is_value
sound_packages = refl
