-- Worked rows: which revisions are one edit, by computing (ECMA-376 Part 1, 17.13.5 for the changes).
use Prim.Native.String.{String}
use Rattle.std.proofs.Common.{◌≡◌, ℕ, List, [], ◌∷◌, Option, Some, None, codes, length, refl}
use Rattle.std.specs.Prelude.{ℤ, pos}
use Rattle.redl_grammar.specs.Characters.{is_space}
use Rattle.redl_index.specs.declared.revision.Revision.{Revision}
use Rattle.redl_kinds.specs.declared.rev_kind.RevKind.{RevKind}
use Rattle.redl_kinds.specs.declared.rev_kind.RevKind.TheVariants as kinds
use Rattle.redl_properties.specs.declared.value.Value.TheVariants.{Absent, Text}
use Rattle.redl_spans.specs.Stories.{nothing_walked, stories_walked}
use Rattle.redl_tree.specs.Model.Nodes.{Nodes, no_nodes, Empty, End, ◌⊕◌}
use Rattle.redl_tree.specs.Model.View.{Element}
use Rattle.redl_tree.specs.declared.kinds.Kind.TheVariants.{Row, Cell, Mark, Change}
use Rattle.redl_tree.specs.declared.kinds.Prop.TheVariants as props
use Rattle.redl_tree.specs.declared.kinds.Space.TheVariants.{W}
use Rattle.redl_tree.specs.declared.kinds.Trace.TheVariants.{Ins, Del}
use Rattle.redl_tree.proofs.Model.Build.{closed, content, deleted_run, member, opened, run, tag_in, words}
use Rattle.redl_edits.specs.Passed.{stories_passed}
use Rattle.redl_edits.specs.Edits.{edits}
use Rattle.redl_edits.specs.Facts.{facts_of}
use Rattle.redl_edits.specs.declared.formats.Format.{Format}

abbrev story : Nodes → Element
story body = record { tag = tag_in W "w" "document" "" (End []); kids = body }

-- a revision by its number, its kind, its author and its seconds
abbrev by : ℕ → RevKind → String → Option ℤ → Revision
by number kind author seconds = record { number = number; kind = kind; author = codes author; seconds = seconds; part = 0; members = 1 }

abbrev ann : ℕ → RevKind → Revision
ann number kind = by number kind "Ann" (Some (pos 0))

-- the edits of a story with these revisions
abbrev edits_in : Nodes → List Revision → List ℕ
edits_in body revisions = edits (facts_of (story body ∷ []) revisions) (story body ∷ [])

abbrev inserted : ℕ → String → Nodes
inserted v text = content Ins v "ins" "" (run text)

abbrev deleted : ℕ → String → Nodes
deleted v text = content Del v "del" "" (deleted_run text)

abbrev marked : ℕ → Nodes
marked v = opened "rPr" (member (Mark Del) v "del" "" Empty no_nodes)

-- ---- texts, marks, rows and cells that touch

-- a replaced word
abbrev replaced : Nodes
replaced = opened "p" (run "a " ⊕ deleted 1 "old" ⊕ inserted 2 "new" ⊕ run " b")

replaced_word : edits_in replaced (ann 1 (kinds.Content Del) ∷ ann 2 (kinds.Content Ins) ∷ []) ≡ 1 ∷ 1 ∷ []
unfolding is_space
replaced_word = refl

two_authors : edits_in replaced (ann 1 (kinds.Content Del) ∷ by 2 (kinds.Content Ins) "Ben" (Some (pos 0)) ∷ []) ≡ 1 ∷ 2 ∷ []
unfolding is_space
two_authors = refl

one_minute : edits_in replaced (ann 1 (kinds.Content Del) ∷ by 2 (kinds.Content Ins) "Ann" (Some (pos 60)) ∷ []) ≡ 1 ∷ 1 ∷ []
unfolding is_space
one_minute = refl

longer : edits_in replaced (by 1 (kinds.Content Del) "Ann" (Some (pos 61)) ∷ ann 2 (kinds.Content Ins) ∷ []) ≡ 1 ∷ 2 ∷ []
unfolding is_space
longer = refl

no_dates : edits_in replaced (by 1 (kinds.Content Del) "" None ∷ by 2 (kinds.Content Ins) "" None ∷ []) ≡ 1 ∷ 1 ∷ []
unfolding is_space
no_dates = refl

one_date : edits_in replaced (by 1 (kinds.Content Del) "Ann" None ∷ ann 2 (kinds.Content Ins) ∷ []) ≡ 1 ∷ 2 ∷ []
unfolding is_space
one_date = refl

-- a unit between them keeps them apart, though it is white space
apart : edits_in (opened "p" (deleted 1 "old" ⊕ run " " ⊕ inserted 2 "new")) (ann 1 (kinds.Content Del) ∷ ann 2 (kinds.Content Ins) ∷ []) ≡ 1 ∷ 2 ∷ []
unfolding is_space
apart = refl

-- near dates are handed on: the first and the last are 100 seconds apart
handed_on : edits_in (opened "p" (inserted 1 "a" ⊕ deleted 2 "b" ⊕ inserted 3 "c"))
    (ann 1 (kinds.Content Ins) ∷ by 2 (kinds.Content Del) "Ann" (Some (pos 50)) ∷ by 3 (kinds.Content Ins) "Ann" (Some (pos 100)) ∷ []) ≡ 1 ∷ 1 ∷ 1 ∷ []
unfolding is_space
handed_on = refl

-- a deleted paragraph, its end, and the change of its style
deleted_paragraph : edits_in (opened "p" (opened "pPr" (marked 1 ⊕ member (Change props.Para) 2 "pPrChange" "" Empty no_nodes) ⊕ deleted 3 "ab") ⊕ opened "p" (run "c"))
    (ann 1 (kinds.Mark Del) ∷ ann 2 (kinds.Change props.Para) ∷ ann 3 (kinds.Content Del) ∷ []) ≡ 1 ∷ 1 ∷ 1 ∷ []
unfolding is_space
deleted_paragraph = refl

-- a deleted row, with its texts and the ends of its paragraphs; a text of another author in it is by itself
deleted_row : edits_in (opened "tbl" (opened "tr" (opened "trPr" (member (Row Del) 1 "del" "" Empty no_nodes)
    ⊕ opened "tc" (opened "p" (opened "pPr" (marked 2) ⊕ deleted 3 "a")) ⊕ opened "tc" (opened "p" (deleted 4 "b") ⊕ opened "p" (inserted 5 "c")))))
    (ann 1 (kinds.Row Del) ∷ ann 2 (kinds.Mark Del) ∷ ann 3 (kinds.Content Del) ∷ ann 4 (kinds.Content Del) ∷ by 5 (kinds.Content Ins) "Ben" (Some (pos 0)) ∷ [])
    ≡ 1 ∷ 1 ∷ 1 ∷ 1 ∷ 5 ∷ []
unfolding is_space
deleted_row = refl

-- nothing reaches from one story into the next
abbrev two_bodies : List Element
two_bodies = story (opened "p" (opened "pPr" (marked 1) ⊕ run "a")) ∷ story (opened "p" (deleted 2 "b")) ∷ []

two_stories : edits (facts_of two_bodies (ann 1 (kinds.Mark Del) ∷ ann 2 (kinds.Content Del) ∷ [])) two_bodies ≡ 1 ∷ 2 ∷ []
unfolding is_space
two_stories = refl

-- ---- changes of properties

-- a run with this change and this text
abbrev formatted : ℕ → String → Nodes
formatted v text = opened "r" (opened "rPr" (member (Change props.Run) v "rPrChange" "" Empty no_nodes) ⊕ opened "t" (words text))

-- what a change changes: bold, which was not set
abbrev bold : ℕ → Format
bold v = record { revision = v; said = record { changes = record { property = codes "b"; from = Absent; to = Text (codes "on"); said = [] } ∷ []; more = Some 0; line = [] } }

-- the same, which was off
abbrev bolder : ℕ → Format
bolder v = record { revision = v; said = record { changes = record { property = codes "b"; from = Text (codes "off"); to = Text (codes "on"); said = [] } ∷ []; more = Some 0; line = [] } }

-- lists that are too large to be compared
abbrev unknown : ℕ → Format
unknown v = record { revision = v; said = record { changes = []; more = None; line = [] } }

-- the edits of a story with these revisions, where changes of properties change this
abbrev edits_with : List Format → Nodes → List Revision → List ℕ
edits_with formats body revisions = edits (record (facts_of (story body ∷ []) revisions) { formats = formats }) (story body ∷ [])

abbrev three : List Revision
three = ann 1 (kinds.Change props.Run) ∷ ann 2 (kinds.Change props.Run) ∷ ann 3 (kinds.Change props.Run) ∷ []

-- a format given to three runs in two paragraphs: white space and the end of a paragraph are between them
one_format : edits_with (bold 1 ∷ bold 2 ∷ bold 3 ∷ []) (opened "p" (formatted 1 "a" ⊕ run " " ⊕ formatted 2 "b") ⊕ opened "p" (opened "r" (closed "tab" "") ⊕ formatted 3 "c")) three ≡ 1 ∷ 1 ∷ 1 ∷ []
unfolding is_space
one_format = refl

-- a text between two of them keeps them apart, and one that their author inserted does not
text_between : edits_with (bold 1 ∷ bold 2 ∷ bold 3 ∷ []) (opened "p" (formatted 1 "a" ⊕ run "x" ⊕ formatted 2 "b" ⊕ inserted 4 "y" ⊕ formatted 3 "c"))
    (ann 1 (kinds.Change props.Run) ∷ ann 2 (kinds.Change props.Run) ∷ ann 3 (kinds.Change props.Run) ∷ ann 4 (kinds.Content Ins) ∷ []) ≡ 1 ∷ 2 ∷ 2 ∷ 4 ∷ []
unfolding is_space
text_between = refl

-- the first and the last change the same, and what is between them is by the same author
other_format : edits_with (bold 1 ∷ bolder 2 ∷ bold 3 ∷ []) (opened "p" (formatted 1 "a" ⊕ formatted 2 "b" ⊕ formatted 3 "c")) three ≡ 1 ∷ 2 ∷ 1 ∷ []
unfolding is_space
other_format = refl

not_compared : edits_with (unknown 1 ∷ unknown 2 ∷ []) (opened "p" (formatted 1 "a" ⊕ formatted 2 "b"))
    (ann 1 (kinds.Change props.Run) ∷ ann 2 (kinds.Change props.Run) ∷ []) ≡ 1 ∷ 2 ∷ []
unfolding is_space
not_compared = refl

-- a change is decided with the text that it is inside, here with the outer of two
inside : edits_with (bold 3 ∷ []) (opened "p" (content Ins 1 "ins" "" (content Del 2 "del" "" (formatted 3 "a") ⊕ run "b")))
    (ann 1 (kinds.Content Ins) ∷ by 2 (kinds.Content Del) "Ann" (Some (pos 120)) ∷ by 3 (kinds.Change props.Run) "Ann" (Some (pos 60)) ∷ []) ≡ 1 ∷ 2 ∷ 1 ∷ []
unfolding is_space
inside = refl

-- and not with what another author inserted
inside_another : edits_with (bold 2 ∷ []) (opened "p" (content Ins 1 "ins" "" (formatted 2 "a")))
    (by 1 (kinds.Content Ins) "Ben" (Some (pos 0)) ∷ ann 2 (kinds.Change props.Run) ∷ []) ≡ 1 ∷ 2 ∷ []
unfolding is_space
inside_another = refl

-- ---- tables

abbrev cell : Nodes → String → Nodes
cell properties text = opened "tc" (properties ⊕ opened "p" (run text))

abbrev deleted_cell : ℕ → String → Nodes
deleted_cell v text = cell (opened "tcPr" (member (Cell Del) v "cellDel" "" Empty no_nodes)) text

abbrev inserted_cell : ℕ → String → Nodes
inserted_cell v text = cell (opened "tcPr" (member (Cell Ins) v "cellIns" "" Empty no_nodes)) text

-- a deleted column
deleted_column : edits_in (opened "tbl" (opened "tr" (deleted_cell 1 "a" ⊕ cell no_nodes "b") ⊕ opened "tr" (deleted_cell 2 "c" ⊕ cell no_nodes "d")))
    (ann 1 (kinds.Cell Del) ∷ ann 2 (kinds.Cell Del) ∷ []) ≡ 1 ∷ 1 ∷ []
unfolding is_space
deleted_column = refl

-- two columns, one of each trace, with text between them
columns : edits_in (opened "tbl" (opened "tr" (deleted_cell 1 "a" ⊕ cell no_nodes "b" ⊕ inserted_cell 2 "c" ⊕ cell no_nodes "d") ⊕ opened "tr" (deleted_cell 3 "a" ⊕ cell no_nodes "b" ⊕ inserted_cell 4 "c" ⊕ cell no_nodes "d")))
    (ann 1 (kinds.Cell Del) ∷ ann 2 (kinds.Cell Ins) ∷ ann 3 (kinds.Cell Del) ∷ ann 4 (kinds.Cell Ins) ∷ []) ≡ 1 ∷ 2 ∷ 1 ∷ 2 ∷ []
unfolding is_space
columns = refl

-- two tables, of which one is in the other
nested_tables : edits_in (opened "tbl" (opened "tr" (deleted_cell 1 "a" ⊕ opened "tc" (opened "tbl" (opened "tr" (cell no_nodes "x" ⊕ deleted_cell 2 "b")) ⊕ opened "p" no_nodes)) ⊕ opened "tr" (deleted_cell 3 "c")))
    (ann 1 (kinds.Cell Del) ∷ ann 2 (kinds.Cell Del) ∷ ann 3 (kinds.Cell Del) ∷ []) ≡ 1 ∷ 2 ∷ 1 ∷ []
unfolding is_space
nested_tables = refl

-- a cell of another author between two keeps them apart
cell_between : edits_in (opened "tbl" (opened "tr" (deleted_cell 1 "a" ⊕ cell no_nodes "b") ⊕ opened "tr" (deleted_cell 2 "c" ⊕ cell no_nodes "d") ⊕ opened "tr" (deleted_cell 3 "e" ⊕ cell no_nodes "f")))
    (ann 1 (kinds.Cell Del) ∷ by 2 (kinds.Cell Del) "Ben" (Some (pos 0)) ∷ ann 3 (kinds.Cell Del) ∷ []) ≡ 1 ∷ 2 ∷ 3 ∷ []
unfolding is_space
cell_between = refl

-- changes of a table, its rows and cells
changed_table : edits_with [] (opened "tbl" (opened "tblPr" (member (Change props.Table) 1 "tblPrChange" "" Empty no_nodes)
    ⊕ opened "tr" (opened "trPr" (member (Change props.Row) 2 "trPrChange" "" Empty no_nodes) ⊕ cell (opened "tcPr" (member (Change props.Cell) 3 "tcPrChange" "" Empty no_nodes)) "a")))
    (ann 1 (kinds.Change props.Table) ∷ ann 2 (kinds.Change props.Row) ∷ ann 3 (kinds.Change props.Cell) ∷ []) ≡ 1 ∷ 1 ∷ 1 ∷ []
unfolding is_space
changed_table = refl

-- ---- what a reader passes

-- there is a byte for each unit that is counted: the begin of the story, an edge, a byte, a space, a tab, a sign, and two ends
abbrev mixed : Element
mixed = story (opened "tr" (opened "trPr" (member (Row Ins) 1 "ins" "" Empty no_nodes) ⊕ opened "tc" (opened "p" (run "a " ⊕ opened "r" (closed "tab" "" ⊕ closed "sym" "")) ⊕ opened "p" no_nodes)))

units_passed : stories_passed (mixed ∷ []) ≡ 45 ∷ 45 ∷ 97 ∷ 32 ∷ 32 ∷ 45 ∷ 10 ∷ 10 ∷ []
units_passed = refl

all_counted : (stories_walked (mixed ∷ []) nothing_walked).here.count ≡ length (stories_passed (mixed ∷ []))
all_counted = refl
