-- Worked rows: the bare text, by computing.
use Prim.Native.String.{String}
use Rattle.std.proofs.Common.{◌≡◌, ℕ, List, [], ◌∷◌, codes, refl}
use Rattle.redl_tree.specs.Model.Nodes.{Nodes, no_nodes, Empty, End, ◌⊕◌}
use Rattle.redl_tree.specs.declared.kinds.Kind.TheVariants.{Mark, Row, Change}
use Rattle.redl_tree.specs.declared.kinds.Trace.TheVariants.{Ins, Del, To}
use Rattle.redl_tree.specs.declared.kinds.Space.TheVariants.{W, Other}
use Rattle.redl_tree.specs.declared.kinds.Prop.TheVariants.{Run}
use Rattle.redl_tree.proofs.Model.Build.{tag_in, one, opened, closed, member, content, words, run, deleted_run}
use Rattle.redl_markup.specs.Attributes.{attributes_of}
use Rattle.redl_grammar.specs.Characters.{is_name_start, is_name_character, is_space}
use Rattle.redl_grammar.specs.Names.{may_start, may_follow}
use Rattle.redl_grammar.specs.References.{reference_at, named_at}
use Rattle.redl_grammar.specs.ScanNames.{name_at, word_at, char_at, name_end, name_step}
use Rattle.redl_grammar.specs.ScanTags.{attribute_in, attribute_at, equated_at, quoted_at, quote_at, is_value}
use Rattle.redl_reading.specs.Lists.{field_at}
use lib.Utf8.{encode}
use Rattle.redl_bare.specs.Package.{stories_units}
use Rattle.redl_bare.specs.BareText.{units_text}

-- the bare text of the document with this body
abbrev bare : Nodes → List ℕ
bare body = units_text (stories_units (record { tag = tag_in W "w" "document" "" (End []); kids = opened "body" body } ∷ []))

-- text without changes, and an element that shows a character
plain : bare (opened "p" (run "a" ⊕ opened "r" (closed "tab" "" ⊕ opened "t" (words "b"))))
    ≡ codes "= document\n|a\\tb\n*paragraph\n"
unfolding attributes_of attribute_in attribute_at name_at word_at char_at name_end name_step may_start may_follow is_name_start is_name_character is_space equated_at quoted_at field_at quote_at is_value
plain = refl

-- one word, inserted in two elements by one author in one minute, is one line; the second that is written is of no account
inserted : bare (opened "p" (content Ins 1 "ins" " w:id=\"1\" w:author=\"Ann Gray\" w:date=\"2026-03-01T10:00:00Z\"" (run "new ") ⊕ content Ins 2 "ins" " w:author=\"Ann Gray\" w:date=\"2026-03-01T10:00:59+01:00\"" (run "words")))
    ≡ codes "= document\nins\tAnn Gray\t2026-03-01T10:00\t|new words\n*paragraph\n"
unfolding attributes_of attribute_in attribute_at name_at word_at char_at name_end name_step may_start may_follow is_name_start is_name_character is_space equated_at quoted_at field_at quote_at is_value
inserted = refl

-- a deletion in an insertion has both marks
nested : bare (opened "p" (content Ins 1 "ins" " w:id=\"1\" w:author=\"Ann Gray\" w:date=\"2026-03-01T10:00:00Z\"" (run "a" ⊕ content Del 2 "del" " w:author=\"Bob\"" (deleted_run "b"))))
    ≡ codes "= document\nins\tAnn Gray\t2026-03-01T10:00\t|a\nins\tAnn Gray\t2026-03-01T10:00\tdel\tBob\t\t|b\n*paragraph\n"
unfolding attributes_of attribute_in attribute_at name_at word_at char_at name_end name_step may_start may_follow is_name_start is_name_character is_space equated_at quoted_at field_at quote_at is_value
nested = refl

-- an insertion in one by another author has both marks, in the order of the authors
two_authors : bare (opened "p" (content Ins 1 "ins" " w:author=\"Bob\"" (run "a" ⊕ content Ins 2 "ins" " w:author=\"Ann\"" (run "b"))))
    ≡ codes "= document\nins\tBob\t\t|a\nins\tAnn\t\tins\tBob\t\t|b\n*paragraph\n"
unfolding attributes_of attribute_in attribute_at name_at word_at char_at name_end name_step may_start may_follow is_name_start is_name_character is_space equated_at quoted_at field_at quote_at is_value
two_authors = refl

-- and one by the same author in the same minute has the mark once, so that its text goes on in the line
one_author : bare (opened "p" (content Ins 1 "ins" " w:author=\"Ann\"" (run "a" ⊕ content Ins 2 "ins" " w:author=\"Ann\"" (run "b"))))
    ≡ codes "= document\nins\tAnn\t\t|ab\n*paragraph\n"
unfolding attributes_of attribute_in attribute_at name_at word_at char_at name_end name_step may_start may_follow is_name_start is_name_character is_space equated_at quoted_at field_at quote_at is_value
one_author = refl

-- the order in which elements are nested is of no account
either_order : bare (opened "p" (content To 1 "moveTo" " w:author=\"Bob\"" (content Ins 2 "ins" " w:author=\"Bob\"" (run "a")) ⊕ content Ins 3 "ins" " w:author=\"Bob\"" (content To 4 "moveTo" " w:author=\"Bob\"" (run "b"))))
    ≡ codes "= document\nins\tBob\t\tmove-to\tBob\t\t|ab\n*paragraph\n"
unfolding attributes_of attribute_in attribute_at name_at word_at char_at name_end name_step may_start may_follow is_name_start is_name_character is_space equated_at quoted_at field_at quote_at is_value
either_order = refl

-- the mark of a paragraph's end has a line at the begin of the paragraph
marked : bare (opened "p" (opened "pPr" (opened "rPr" (member (Mark Del) 1 "del" " w:author=\"Bob\"" Empty no_nodes)) ⊕ run "a"))
    ≡ codes "= document\n+mark-del\tBob\t\n|a\n*paragraph\n"
unfolding attributes_of attribute_in attribute_at name_at word_at char_at name_end name_step may_start may_follow is_name_start is_name_character is_space equated_at quoted_at field_at quote_at is_value
marked = refl

-- a change of a run's properties is a mark of its texts
formatted : bare (opened "p" (opened "r" (opened "rPr" (member (Change Run) 1 "rPrChange" " w:author=\"Bob\"" Empty no_nodes) ⊕ opened "t" (words "a")) ⊕ run "b"))
    ≡ codes "= document\nrun-props\tBob\t\t|a\n|b\n*paragraph\n"
unfolding attributes_of attribute_in attribute_at name_at word_at char_at name_end name_step may_start may_follow is_name_start is_name_character is_space equated_at quoted_at field_at quote_at is_value
formatted = refl

-- a row and a cell
row : bare (opened "tbl" (opened "tr" (opened "trPr" (member (Row Ins) 1 "ins" " w:author=\"Bob\"" Empty no_nodes) ⊕ opened "tc" (opened "p" (run "a")))))
    ≡ codes "= document\n*row\n+row-ins\tBob\t\n*cell\n|a\n*paragraph\n"
unfolding attributes_of attribute_in attribute_at name_at word_at char_at name_end name_step may_start may_follow is_name_start is_name_character is_space equated_at quoted_at field_at quote_at is_value
row = refl

-- a picture and a part of a field
objects : bare (opened "p" (opened "r" (opened "drawing" no_nodes ⊕ closed "fldChar" " w:fldCharType=\"begin\"")))
    ≡ codes "= document\n*picture\n*field begin\n*paragraph\n"
unfolding attributes_of attribute_in attribute_at name_at word_at char_at name_end name_step may_start may_follow is_name_start is_name_character is_space equated_at quoted_at field_at quote_at is_value
objects = refl

-- and one that was deleted
deleted_object : bare (opened "p" (content Del 1 "del" " w:author=\"Bob\"" (opened "r" (opened "drawing" no_nodes))))
    ≡ codes "= document\ndel\tBob\t\t*picture\n*paragraph\n"
unfolding attributes_of attribute_in attribute_at name_at word_at char_at name_end name_step may_start may_follow is_name_start is_name_character is_space equated_at quoted_at field_at quote_at is_value
deleted_object = refl

-- of content that is kept twice the second form is left out, with what it holds
kept_twice : bare (opened "p" (one (tag_in Other "mc" "AlternateContent" "" (End [])) (one (tag_in Other "mc" "Choice" " Requires=\"wps\"" (End [])) (opened "r" (opened "drawing" (opened "p" (run "a")))) ⊕ one (tag_in Other "mc" "Fallback" "" (End [])) (opened "r" (opened "pict" (opened "p" (run "a")))))))
    ≡ codes "= document\n*picture\n|a\n*paragraph\n*paragraph\n"
unfolding attributes_of attribute_in attribute_at name_at word_at char_at name_end name_step may_start may_follow is_name_start is_name_character is_space equated_at quoted_at field_at quote_at is_value
kept_twice = refl

-- a backslash is escaped, and a reference is its character
escapes : bare (opened "p" (run "a\\[b] &lt;|"))
    ≡ codes "= document\n|a\\\\[b] <|\n*paragraph\n"
unfolding attributes_of attribute_in attribute_at name_at word_at char_at name_end name_step may_start may_follow is_name_start is_name_character is_space equated_at quoted_at field_at quote_at is_value reference_at named_at encode
escapes = refl

-- a field in one element reads as one in several
field : bare (opened "p" (one (tag_in W "w" "fldSimple" " w:instr=\" REF a \"" (End [])) (run "3")))
    ≡ codes "= document\n*field begin\n| REF a \n*field separate\n|3\n*field end\n*paragraph\n"
unfolding attributes_of attribute_in attribute_at name_at word_at char_at name_end name_step may_start may_follow is_name_start is_name_character is_space equated_at quoted_at field_at quote_at is_value
field = refl

-- of one that counts pages the result is left out
counted : bare (opened "p" (one (tag_in W "w" "fldSimple" " w:instr=\"Page\\* roman\"" (End [])) (run "3")))
    ≡ codes "= document\n*field begin\n|Page\\\\* roman\n*field separate\n*field end\n*paragraph\n"
unfolding attributes_of attribute_in attribute_at name_at word_at char_at name_end name_step may_start may_follow is_name_start is_name_character is_space equated_at quoted_at field_at quote_at is_value
counted = refl

-- ---- fields in several elements

-- runs with a part of a field, and with a code
abbrev part : String → Nodes
part kind = opened "r" (closed "fldChar" kind)

abbrev begin : Nodes
begin = part " w:fldCharType=\"begin\""

abbrev separate : Nodes
separate = part " w:fldCharType=\"separate\""

abbrev end : Nodes
end = part " w:fldCharType=\"end\""

abbrev code : String → Nodes
code characters = opened "r" (opened "instrText" (words characters))

-- the result of one that counts pages is left out, and what follows it isn't; capitals are of no account
page : bare (opened "p" (begin ⊕ code " pa" ⊕ code "ge \\* roman" ⊕ separate ⊕ run "iii" ⊕ end ⊕ run "b"))
    ≡ codes "= document\n*field begin\n| page \\\\* roman\n*field separate\n*field end\n|b\n*paragraph\n"
unfolding attributes_of attribute_in attribute_at name_at word_at char_at name_end name_step may_start may_follow is_name_start is_name_character is_space equated_at quoted_at field_at quote_at is_value
page = refl

-- that of another field stays, but for that of one in it
in_result : bare (opened "p" (begin ⊕ code "REF a" ⊕ separate ⊕ run "x" ⊕ begin ⊕ code "PAGE" ⊕ separate ⊕ run "3" ⊕ end ⊕ run "y" ⊕ end ⊕ run "z"))
    ≡ codes "= document\n*field begin\n|REF a\n*field separate\n|x\n*field begin\n|PAGE\n*field separate\n*field end\n|y\n*field end\n|z\n*paragraph\n"
unfolding attributes_of attribute_in attribute_at name_at word_at char_at name_end name_step may_start may_follow is_name_start is_name_character is_space equated_at quoted_at field_at quote_at is_value
in_result = refl

-- what is left out ends with its own field, and not with one in it
in_counted : bare (opened "p" (begin ⊕ code "DATE" ⊕ separate ⊕ run "1" ⊕ begin ⊕ code "REF a" ⊕ separate ⊕ run "2" ⊕ end ⊕ run "3" ⊕ end ⊕ run "4"))
    ≡ codes "= document\n*field begin\n|DATE\n*field separate\n*field end\n|4\n*paragraph\n"
unfolding attributes_of attribute_in attribute_at name_at word_at char_at name_end name_step may_start may_follow is_name_start is_name_character is_space equated_at quoted_at field_at quote_at is_value
in_counted = refl

-- it goes over the end of a paragraph, which stays
over_paragraphs : bare (opened "p" (begin ⊕ code "PAGE" ⊕ separate ⊕ run "3") ⊕ opened "p" (run "4" ⊕ end ⊕ run "5"))
    ≡ codes "= document\n*field begin\n|PAGE\n*field separate\n*paragraph\n*field end\n|5\n*paragraph\n"
unfolding attributes_of attribute_in attribute_at name_at word_at char_at name_end name_step may_start may_follow is_name_start is_name_character is_space equated_at quoted_at field_at quote_at is_value
over_paragraphs = refl

-- without a result nothing is left out, and without an end all to the end of the story
unfinished : bare (opened "p" (begin ⊕ code "PAGE" ⊕ end ⊕ run "a") ⊕ opened "p" (begin ⊕ code "PAGE" ⊕ separate ⊕ run "3") ⊕ opened "p" (run "b"))
    ≡ codes "= document\n*field begin\n|PAGE\n*field end\n|a\n*paragraph\n*field begin\n|PAGE\n*field separate\n*paragraph\n*paragraph\n"
unfolding attributes_of attribute_in attribute_at name_at word_at char_at name_end name_step may_start may_follow is_name_start is_name_character is_space equated_at quoted_at field_at quote_at is_value
unfinished = refl
