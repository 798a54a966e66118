-- Worked rows of two sittings, by computing.
use Prim.Native.String.{String}
use Rattle.std.proofs.Common.{◌≡◌, ℕ, List, [], ◌∷◌, false, codes, refl, bytes_eq}
use Rattle.redl_tree.specs.Model.Nodes.{Nodes, no_nodes, ◌⊕◌}
use Rattle.redl_tree.specs.Model.Text.{text}
use Rattle.redl_tree.specs.Decisions.Packages.{pass_package}
use Rattle.redl_tree.specs.Revisions.Numbers.{numbered_package_by}
use Rattle.redl_tree.specs.declared.kinds.Say.{Say}
use Rattle.redl_tree.specs.declared.kinds.Say.TheVariants.{Keep, Accept, Reject}
use Rattle.redl_tree.proofs.Model.Build.{opened, closed, words, run, deleted_run, package_of}
use Rattle.redl_journal.specs.declared.entry.Entry.{Entry}
use Rattle.redl_journal.specs.declared.entry.Word.{Word}
use Rattle.redl_journal.specs.declared.entry.Word.TheVariants as word
use Rattle.redl_sittings.specs.SecondNumbers.{first_numbers}
use Rattle.redl_sittings.specs.JoinedBooks.{joined_book}
use Rattle.std.specs.Prelude.{None, Some}

-- a package whose members have their numbers; the rows have no markers of moves, so no attribute is looked at
abbrev indexed : Nodes → Nodes
indexed body = numbered_package_by (λ tail name. None) (package_of body)

abbrev entry : ℕ → ℕ → Word → String → Entry
entry seq rev word who = record { reviewer = codes who; seq = seq; rev = rev; word = word; rank = 0 }

-- the text that a package with this body becomes
abbrev left : List Say → Nodes → List ℕ
left says body = text (pass_package says (indexed body))

-- the first numbers of so many second ones, where the second body is that of what the says left of the first
abbrev back : List Say → Nodes → Nodes → ℕ → List ℕ
back says first second count = first_numbers (pass_package says (indexed first)) (indexed second) count

abbrev ins : String → Nodes → Nodes
ins name kids = opened name kids

abbrev mark : String → Nodes → Nodes
mark name kids = opened "p" (opened "pPr" (opened "rPr" (closed name "")) ⊕ kids)

-- ---- a document that is decided in two sittings

first : Nodes
first = opened "p" (opened "ins" (run "a")) ⊕ opened "p" (opened "del" (deleted_run "b"))

second : Nodes
second = opened "p" (run "a") ⊕ opened "p" (opened "del" (deleted_run "b"))

book : List Entry
book = joined_book (entry 1 1 word.Accept "Ann" ∷ []) (entry 1 1 word.Reject "Bob" ∷ []) (2 ∷ [])

second_is_left : left (Accept ∷ Keep ∷ []) first ≡ text (package_of second)
unfolding first second
second_is_left = refl

first_of_second : back (Accept ∷ Keep ∷ []) first second 1 ≡ 2 ∷ []
unfolding first second
first_of_second = refl

both_books : book ≡ entry 1 1 word.Accept "Ann" ∷ entry 1 2 word.Reject "Bob" ∷ []
unfolding book
both_books = refl

sittings_agree : left (Accept ∷ Reject ∷ []) first ≡ left (Reject ∷ []) second
unfolding first second
sittings_agree = refl

-- ---- joined paragraphs bring the later properties to the front

turned : Nodes
turned =
    mark "del" (opened "ins" (run "a")) ⊕ opened "p" (opened "pPr" (opened "pPrChange" (closed "pPr" "")))

turned_left : Nodes
turned_left = opened "p" (opened "pPr" (opened "pPrChange" (closed "pPr" "")) ⊕ opened "ins" (run "a"))

turned_is_left : left (Accept ∷ Keep ∷ Keep ∷ []) turned ≡ text (package_of turned_left)
unfolding turned turned_left
turned_is_left = refl

turned_numbers : back (Accept ∷ Keep ∷ Keep ∷ []) turned turned_left 2 ≡ 3 ∷ 2 ∷ []
unfolding turned turned_left
turned_numbers = refl

-- ---- a paragraph before a table: the sittings differ

before_table : Nodes
before_table =
    mark "del" (opened "del" (deleted_run "x"))
    ⊕ opened "tbl" (opened "tr" (opened "trPr" (closed "del" "") ⊕ opened "tc" (closed "p" ""))) ⊕ closed "p" ""

table_left : Nodes
table_left =
    opened "p" (opened "pPr" (opened "rPr" no_nodes) ⊕ opened "del" (deleted_run "x"))
    ⊕ opened "tbl" (opened "tr" (opened "trPr" (closed "del" "") ⊕ opened "tc" (closed "p" ""))) ⊕ closed "p" ""

table_is_left : left (Accept ∷ Keep ∷ Keep ∷ []) before_table ≡ text (package_of table_left)
unfolding before_table table_left
table_is_left = refl

table_numbers : back (Accept ∷ Keep ∷ Keep ∷ []) before_table table_left 2 ≡ 2 ∷ 3 ∷ []
unfolding before_table table_left
table_numbers = refl

sittings_differ : bytes_eq (left (Accept ∷ Accept ∷ Keep ∷ []) before_table) (left (Accept ∷ Keep ∷ []) table_left) ≡ false
unfolding before_table table_left
sittings_differ = refl

-- ---- nothing decided, and a second package that is not what was left

not_what_is_left : bytes_eq (text (package_of second)) (left (Keep ∷ Keep ∷ []) first) ≡ false
unfolding first second
not_what_is_left = refl

nothing_decided : (left (Keep ∷ Keep ∷ []) first ≡ text (package_of first)) × (back (Keep ∷ Keep ∷ []) first first 2 ≡ 1 ∷ 2 ∷ []) × (joined_book [] [] (1 ∷ 2 ∷ []) ≡ [])
unfolding first
nothing_decided = (refl, refl, refl)

-- ---- what is left may not be readable

brackets : Nodes
brackets = opened "p" (words "]]" ⊕ closed "ins" "" ⊕ words ">")

brackets_left : left (Accept ∷ []) brackets ≡ text (package_of (opened "p" (words "]]>")))
unfolding brackets
brackets_left = refl

-- ---- more documents in which the sittings differ

-- a table that goes in the first sitting no longer parts the paragraph before it from the one after it
around_table : Nodes
around_table =
    mark "del" (run "a") ⊕ opened "tbl" (opened "tr" (opened "trPr" (closed "del" "") ⊕ opened "tc" (closed "p" ""))) ⊕ opened "p" (run "b")

table_gone : Nodes
table_gone = mark "del" (run "a") ⊕ opened "p" (run "b")

table_gone_is_left : left (Keep ∷ Accept ∷ []) around_table ≡ text (package_of table_gone)
unfolding around_table table_gone
table_gone_is_left = refl

table_gone_differs : (left (Accept ∷ Accept ∷ []) around_table ≡ text (package_of (opened "p" (opened "pPr" (opened "rPr" no_nodes) ⊕ run "a") ⊕ opened "p" (run "b"))))
    × (left (Accept ∷ []) table_gone ≡ text (package_of (opened "p" (run "a" ⊕ run "b"))))
unfolding around_table table_gone
table_gone_differs = (refl, refl)

-- an empty paragraph before a table that goes in the first sitting no longer gives its properties to the one before it
two_before_table : Nodes
two_before_table =
    mark "del" (run "a") ⊕ opened "p" (opened "pPr" (closed "jc" "" ⊕ opened "rPr" (closed "del" ""))) ⊕ opened "tbl" (opened "tr" (opened "tc" (closed "p" "")))

one_before_table : Nodes
one_before_table = mark "del" (run "a") ⊕ opened "tbl" (opened "tr" (opened "tc" (closed "p" "")))

empty_gone_is_left : left (Keep ∷ Accept ∷ []) two_before_table ≡ text (package_of one_before_table)
unfolding two_before_table one_before_table
empty_gone_is_left = refl

empty_gone_differs : bytes_eq (left (Accept ∷ Accept ∷ []) two_before_table) (left (Accept ∷ []) one_before_table) ≡ false
unfolding two_before_table one_before_table
empty_gone_differs = refl

-- a move whose source is in an inserted row is paired once the row is accepted: its first tag is a marker, which had no number
abbrev moved : Nodes → Nodes
moved body = numbered_package_by (λ tail name. Some tail) (package_of body)

abbrev move_rest : Nodes → Nodes
move_rest row_props =
    opened "tbl" (opened "tr" (opened "trPr" row_props
    ⊕ opened "tc" (opened "p" (closed "moveFromRangeStart" "m" ⊕ opened "moveFrom" (run "f") ⊕ closed "moveFromRangeEnd" "m"))))
    ⊕ opened "p" (closed "moveToRangeStart" "m" ⊕ opened "moveTo" (run "f") ⊕ closed "moveToRangeEnd" "m")

row_accepted_is_left : text (pass_package (Accept ∷ Keep ∷ Keep ∷ []) (moved (move_rest (closed "ins" "")))) ≡ text (package_of (move_rest no_nodes))
row_accepted_is_left = refl

row_accepted_numbers : first_numbers (pass_package (Accept ∷ Keep ∷ Keep ∷ []) (moved (move_rest (closed "ins" "")))) (moved (move_rest no_nodes)) 1 ≡ 0 ∷ []
row_accepted_numbers = refl
