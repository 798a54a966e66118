-- Worked rows: what is said of the places of revisions in small bodies, by computing (ECMA-376 Part 1, 17.9).
use Rattle.std.proofs.Common.{◌≡◌, ℕ, List, [], ◌∷◌, codes, Option, Some, None, false, refl}
use Rattle.std.specs.Fmt.{digits}
use Rattle.redl_tree.specs.Model.Nodes.{Nodes, no_nodes, Empty, ◌⊕◌}
use Rattle.redl_tree.specs.declared.kinds.Kind.TheVariants.{Row}
use Rattle.redl_tree.specs.declared.kinds.Trace.TheVariants.{Ins, Del}
use Rattle.redl_tree.proofs.Model.Build.{opened, closed, member, content, run, deleted_run}
use Rattle.redl_markup.specs.Attributes.{attributes_of}
use Rattle.redl_grammar.specs.Characters.{is_name_start, is_name_character, is_space}
use Rattle.redl_grammar.specs.Names.{may_start, may_follow}
use Rattle.redl_grammar.specs.ScanNames.{name_at, word_at, char_at, name_end, name_step}
use Rattle.redl_grammar.specs.ScanTags.{attribute_in, attribute_at, equated_at, quoted_at, quote_at, is_value}
use Rattle.redl_reading.specs.Lists.{field_at}
use Rattle.redl_numerals.specs.declared.format.Format.TheVariants.{Decimal}
use Rattle.redl_numerals.specs.declared.number.Number.TheVariants.{Plus}
use Rattle.redl_lists.specs.declared.level.Level.{Level}
use Rattle.redl_lists.specs.declared.table.Tables.{Tables}
use Rattle.redl_clauses.specs.Clauses.{begin}
use Rattle.redl_clauses.specs.Walks.{walked}

-- ---- a list of two levels, and paragraphs

abbrev level : List ℕ → Option Level
level text = Some (record { start = Some (Plus 1); restart = None; format = Decimal; is_legal = false; text = text; style = None; has_picture = false })

abbrev tables : Tables
tables = record {
  lists = record { id = Some (codes "0"); link = None; style = None; levels = level (codes "%1.") ∷ level (codes "%1.%2") ∷ [] } ∷ [];
  nums = record { id = Some (codes "1"); list = Some (codes "0"); overrides = [] } ∷ [];
  styles = [];
}

-- the number of a paragraph at the first or the second level
abbrev first : Nodes
first = opened "numPr" (closed "ilvl" " w:val=\"0\"" ⊕ closed "numId" " w:val=\"1\"")

abbrev second : Nodes
second = opened "numPr" (closed "ilvl" " w:val=\"1\"" ⊕ closed "numId" " w:val=\"1\"")

-- a paragraph with these properties
abbrev paragraph : Nodes → Nodes → Nodes
paragraph properties kids = opened "p" (opened "pPr" properties ⊕ kids)

abbrev inserted : ℕ → Nodes
inserted v = content Ins v "ins" "" (run "a")

-- what is said of the places of so many revisions in a body
told_in : ℕ → Nodes → List (Option (List ℕ))
told_in count body = (walked tables body (begin count)).told

-- ---- rows

-- each in the number of its paragraph, or behind the last one before
in_paragraphs : told_in 3 (paragraph first (inserted 1) ⊕ paragraph second (content Del 2 "del" "" (deleted_run "b")) ⊕ opened "p" (inserted 3))
    ≡ Some (codes "1.") ∷ Some (codes "1.1") ∷ Some (codes "before 1.1") ∷ []
unfolding told_in digits attributes_of attribute_in attribute_at name_at word_at char_at name_end name_step may_start may_follow is_name_start is_name_character is_space equated_at quoted_at field_at quote_at is_value
in_paragraphs = refl

-- a row is in its first paragraph; one that has none comes behind the last number of its table
abbrev row : ℕ → Nodes → Nodes
row v cells = opened "tr" (opened "trPr" (member (Row Del) v "del" "" Empty no_nodes) ⊕ cells)

in_rows : told_in 2 (opened "tbl" (row 1 (opened "tc" (paragraph first (run "a"))) ⊕ row 2 no_nodes) ⊕ paragraph first (run "b")) ≡ Some (codes "1.") ∷ Some (codes "before 1.") ∷ []
unfolding told_in digits attributes_of attribute_in attribute_at name_at word_at char_at name_end name_step may_start may_follow is_name_start is_name_character is_space equated_at quoted_at field_at quote_at is_value
in_rows = refl

-- a text box counts by itself, and the counting round it goes on
in_a_box : told_in 3 (paragraph first (opened "r" (opened "pict" (opened "txbxContent" (opened "p" (inserted 1) ⊕ paragraph first (inserted 2))))) ⊕ paragraph first (inserted 3))
    ≡ Some [] ∷ Some (codes "1.") ∷ Some (codes "2.") ∷ []
unfolding told_in digits attributes_of attribute_in attribute_at name_at word_at char_at name_end name_step may_start may_follow is_name_start is_name_character is_space equated_at quoted_at field_at quote_at is_value
in_a_box = refl

-- a paragraph that only ends a section is not counted, and one with a sign is
behind_a_section : told_in 1 (paragraph (first ⊕ closed "sectPr" "") no_nodes ⊕ paragraph first (inserted 1)) ≡ Some (codes "1.") ∷ []
unfolding told_in digits attributes_of attribute_in attribute_at name_at word_at char_at name_end name_step may_start may_follow is_name_start is_name_character is_space equated_at quoted_at field_at quote_at is_value
behind_a_section = refl

behind_a_sign : told_in 1 (paragraph (first ⊕ closed "sectPr" "") (opened "r" (closed "sym" "")) ⊕ paragraph first (inserted 1)) ≡ Some (codes "2.") ∷ []
unfolding told_in digits attributes_of attribute_in attribute_at name_at word_at char_at name_end name_step may_start may_follow is_name_start is_name_character is_space equated_at quoted_at field_at quote_at is_value
behind_a_sign = refl
