-- Worked rows: the numbers of small bodies, and what is written of them, by computing (ECMA-376 Part 1, 17.9).
use Rattle.std.proofs.Common.{◌≡◌, ℕ, List, [], ◌∷◌, codes, Option, Some, None, true, false, refl}
use Rattle.std.specs.Fmt.{digits}
use Rattle.redl_tree.specs.Model.Nodes.{Nodes, no_nodes, ◌⊕◌}
use Rattle.redl_tree.specs.declared.kinds.Trace.TheVariants.{Ins, Del}
use Rattle.redl_tree.proofs.Model.Build.{opened, closed, content, run, deleted_run}
use Rattle.redl_markup.specs.Attributes.{attributes_of}
use Rattle.redl_grammar.specs.Characters.{is_name_start, is_name_character, is_space}
use Rattle.redl_grammar.specs.Names.{may_start, may_follow}
use Rattle.redl_grammar.specs.ScanNames.{name_at, word_at, char_at, name_end, name_step}
use Rattle.redl_grammar.specs.ScanTags.{attribute_in, attribute_at, equated_at, quoted_at, quote_at, is_value}
use Rattle.redl_reading.specs.Lists.{field_at}
use Rattle.redl_numerals.specs.declared.format.Format.{Format}
use Rattle.redl_numerals.specs.declared.format.Format.TheVariants.{Decimal, Padded}
use Rattle.redl_numerals.specs.declared.number.Number.{Number}
use Rattle.redl_numerals.specs.declared.number.Number.TheVariants.{Plus, Minus}
use Rattle.redl_lists.specs.declared.level.Level.{Level}
use Rattle.redl_lists.specs.declared.table.Override.{Override}
use Rattle.redl_lists.specs.declared.table.Tables.{Tables}
use Rattle.redl_html.specs.Pieces.{pieces_text}
use Rattle.redl_page_numbers.specs.Levels.{used_levels}
use Rattle.redl_page_numbers.specs.Pieces.{level_pieces, row_pieces, story_list}
use Rattle.redl_page_numbers.specs.Walks.{Walk, begin, walked}
use Rattle.redl_page_numbers.specs.declared.row.LevelRow.{LevelRow}
use Rattle.redl_page_numbers.specs.declared.row.Row.{Row}

-- ---- a list of two levels with a second num, and paragraphs

abbrev level : Format → List ℕ → Option Level
level format text = Some (record { start = Some (Plus 1); restart = None; format = format; is_legal = false; text = text; style = None; has_picture = false })

abbrev again : Option Override
again = Some (record { start = Some (Plus 7); level = None })

abbrev tables : Tables
tables = record {
  lists = record { id = Some (codes "0"); link = None; style = None; levels = level Decimal (codes "%1.") ∷ level (Padded 3) (codes "%1.%2") ∷ [] } ∷ [];
  nums = record { id = Some (codes "1"); list = Some (codes "0"); overrides = [] } ∷ record { id = Some (codes "2"); list = Some (codes "0"); overrides = again ∷ [] } ∷ [];
  styles = [];
}

-- the number of a paragraph at the first or the second level
abbrev first : Nodes
first = opened "numPr" (closed "ilvl" " w:val=\"0\"" ⊕ closed "numId" " w:val=\"1\"")

abbrev second : Nodes
second = opened "numPr" (closed "ilvl" " w:val=\"1\"" ⊕ closed "numId" " w:val=\"1\"")

-- a paragraph with these properties
abbrev paragraph : Nodes → Nodes → Nodes
paragraph properties kids = opened "p" (opened "pPr" properties ⊕ kids)

abbrev inserted : ℕ → Nodes
inserted v = content Ins v "ins" "" (run "a")

-- a row of the first num, behind which no section ends
abbrev row : ℕ → ℕ → List ℕ → Row
row place level text = record { paragraph = place; num = 0; level = level; ends_section = false; text = text }

rows_in : Nodes → List Row
rows_in body = (walked tables true body (begin (false ∷ false ∷ []))).rows

-- ---- paragraphs

-- inserted and deleted ones are counted, and paragraphs without a number have a place
in_paragraphs : rows_in (paragraph first (inserted 1) ⊕ opened "p" (run "b") ⊕ paragraph second (content Del 2 "del" "" (deleted_run "c")) ⊕ paragraph first no_nodes)
    ≡ row 1 0 (codes "1.") ∷ row 3 1 (codes "1.001") ∷ row 4 0 (codes "2.") ∷ []
unfolding rows_in digits attributes_of attribute_in attribute_at name_at word_at char_at name_end name_step may_start may_follow is_name_start is_name_character is_space equated_at quoted_at field_at quote_at is_value
in_paragraphs = refl

-- a text box counts by itself, and the counting round it goes on
in_a_box : rows_in (paragraph first (opened "r" (opened "pict" (opened "txbxContent" (paragraph first (run "a"))))) ⊕ paragraph first (run "b"))
    ≡ row 1 0 (codes "1.") ∷ row 2 0 (codes "1.") ∷ row 3 0 (codes "2.") ∷ []
unfolding rows_in digits attributes_of attribute_in attribute_at name_at word_at char_at name_end name_step may_start may_follow is_name_start is_name_character is_space equated_at quoted_at field_at quote_at is_value
in_a_box = refl

-- a paragraph that only ends a section has a place and no number; with a text it says that a section ends
behind_a_section : rows_in (paragraph (first ⊕ closed "sectPr" "") no_nodes ⊕ paragraph (first ⊕ closed "sectPr" "") (run "a"))
    ≡ record { paragraph = 2; num = 0; level = 0; ends_section = true; text = codes "1." } ∷ []
unfolding rows_in digits attributes_of attribute_in attribute_at name_at word_at char_at name_end name_step may_start may_follow is_name_start is_name_character is_space equated_at quoted_at field_at quote_at is_value
behind_a_section = refl

-- a paragraph among properties is counted, and the page doesn't show it
among_properties : rows_in (opened "sdtPr" (paragraph first (run "a")) ⊕ paragraph first (run "b")) ≡ row 1 0 (codes "2.") ∷ []
unfolding rows_in digits attributes_of attribute_in attribute_at name_at word_at char_at name_end name_step may_start may_follow is_name_start is_name_character is_space equated_at quoted_at field_at quote_at is_value
among_properties = refl

-- ---- levels

abbrev of_second : ℕ → Number → Option Number → Format → List ℕ → LevelRow
of_second k start again format text =
    record { num = 1; list = 0; level = k; start = start; again = again; restart = None; format = format; is_legal = false; has_picture = false; text = text }

-- those of the num that is used alone
of_one_num : used_levels tables (false ∷ true ∷ [])
    ≡ of_second 0 (Plus 7) (Some (Plus 7)) Decimal (codes "%1.") ∷ of_second 1 (Plus 1) None (Padded 3) (codes "%1.%2") ∷ []
unfolding digits
of_one_num = refl

-- ---- what is written

a_row : pieces_text (row_pieces (record { paragraph = 12; num = 3; level = 1; ends_section = true; text = codes "1<" }))
    ≡ codes "<li data-paragraph=\"12\" data-num=\"3\" data-level=\"1\" data-section=\"yes\">1&lt;</li>\n"
unfolding digits
a_row = refl

a_list : pieces_text (story_list (codes "/a") (row 1 0 (codes "1.") ∷ []))
    ≡ codes "<ol class=\"numbers\" data-part=\"/a\" hidden>\n<li data-paragraph=\"1\" data-num=\"0\" data-level=\"0\">1.</li>\n</ol>\n"
unfolding digits
a_list = refl

no_list : pieces_text (story_list (codes "/a") []) ≡ []
no_list = refl

a_level : pieces_text (level_pieces (of_second 1 (Minus 2) (Some (Plus 4)) (Padded 3) (codes "%1.")))
    ≡ codes "<li data-num=\"1\" data-list=\"0\" data-level=\"1\" data-start=\"-2\" data-again=\"4\" data-format=\"padded\" data-width=\"3\">%1.</li>\n"
unfolding digits
a_level = refl

a_bullet : pieces_text (level_pieces (record (of_second 0 (Plus 0) None Decimal []) { restart = Some (Plus 1); is_legal = true; has_picture = true }))
    ≡ codes "<li data-num=\"1\" data-list=\"0\" data-level=\"0\" data-start=\"0\" data-restart=\"1\" data-format=\"decimal\" data-legal=\"yes\" data-picture=\"yes\"></li>\n"
unfolding digits
a_bullet = refl
