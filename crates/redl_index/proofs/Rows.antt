-- Worked rows of the numbers of revisions.
use Prim.Native.String.{String}
use Rattle.std.proofs.Common.{◌≡◌, ℕ, List, [], ◌∷◌, refl}
use Rattle.redl_tree.specs.Model.Nodes.{Nodes, no_nodes, End, ◌⊕◌}
use Rattle.redl_tree.specs.declared.kinds.Kind.{Kind}
use Rattle.redl_tree.specs.declared.kinds.Kind.TheVariants.{Mark, Row, Cell, Change}
use Rattle.redl_tree.specs.declared.kinds.Prop.TheVariants.{Run, Para, Sect, Table, Except, Row as RowProp, Cell as CellProp}
use Rattle.redl_tree.specs.declared.kinds.Space.TheVariants.{W, M, Pkg, Other}
use Rattle.redl_tree.specs.declared.kinds.Trace.TheVariants.{Ins, Del, From, To}
use Rattle.redl_tree.proofs.Model.Build.{tag_in, one, opened, opened_with, content, member, words, run, deleted_run}
use Rattle.redl_stamp.specs.Attribute.{attribute_value}
use Rattle.redl_tree.specs.Revisions.Numbers.{labelled, start_with, numbering_after}
use Rattle.redl_tree.specs.Model.Seen.{Spot, spot}
use Rattle.redl_index.specs.Numbers.{package_revisions, numbered_package}

-- how many revisions nodes have that stand among a story's body, and the nodes with their labels, where this is the next
-- number and no move is paired
abbrev ancestors : List Spot
ancestors = spot 1 (tag_in W "w" "body" "" (End [])) no_nodes ∷ spot 0 (tag_in W "w" "document" "" (End [])) no_nodes ∷ []

abbrev revisions : Nodes → ℕ
revisions nodes = (numbering_after attribute_value [] ancestors 2 (start_with 0) nodes).next

abbrev numbered : ℕ → Nodes → Nodes
numbered next nodes = labelled attribute_value [] ancestors 2 (start_with next) nodes

-- a document without revisions
abbrev plain : Nodes
plain = words "\n" ⊕ opened "p" (run "a" ⊕ words " ") ⊕ words "\n"

none_of_plain : revisions plain ≡ 0
none_of_plain = refl

plain_stays : numbered 1 plain ≡ plain
plain_stays = refl

-- a deletion inside an insertion, and a revision after each
nested_have_numbers_in_order_of_start_tags :
    numbered 1
    (opened "p" (opened_with "ins" " w:id=\"9\"" (opened "del" (deleted_run "a") ⊕ run "b") ⊕ opened "del" (deleted_run "c"))
    ⊕ opened "p" (opened "ins" (run "d")))
    ≡ opened "p" (content Ins 1 "ins" " w:id=\"9\"" (content Del 2 "del" "" (deleted_run "a") ⊕ run "b") ⊕ content Del 3 "del" "" (deleted_run "c"))
    ⊕ opened "p" (content Ins 4 "ins" "" (run "d"))
nested_have_numbers_in_order_of_start_tags = refl

nested_are_counted : revisions (opened "ins" (opened "del" (opened "del" (deleted_run "a"))) ⊕ opened "ins" no_nodes) ≡ 4
nested_are_counted = refl

-- nodes with which the numbers go on at 8
numbers_go_on : numbered 8 (run "a" ⊕ opened "del" (deleted_run "b")) ≡ run "a" ⊕ content Del 8 "del" "" (deleted_run "b")
numbers_go_on = refl

-- the same names in other namespaces, and other names
abbrev others : Nodes
others =
    one (tag_in Other "w" "ins" "" (End [])) (run "a")
    ⊕ one (tag_in M "m" "del" "" (End [])) no_nodes
    ⊕ one (tag_in Pkg "pkg" "ins" "" (End [])) no_nodes
    ⊕ opened "inserted" no_nodes
    ⊕ deleted_run "b"

none_of_others : revisions others ≡ 0
none_of_others = refl

others_stay : numbered 1 others ≡ others
others_stay = refl

-- an element of another namespace between two revisions takes no number
others_take_no_number :
    numbered 1 (opened "ins" no_nodes ⊕ one (tag_in Other "w" "ins" "" (End [])) (opened "del" no_nodes))
    ≡ content Ins 1 "ins" "" no_nodes ⊕ one (tag_in Other "w" "ins" "" (End [])) (content Del 2 "del" "" no_nodes)
others_take_no_number = refl

-- a label that was there before goes
old_labels_go : numbered 1 (content Ins 7 "p" "" (content Del 8 "ins" "" no_nodes)) ≡ opened "p" (content Ins 1 "ins" "" no_nodes)
old_labels_go = refl

-- a member in the place of its kind
abbrev as_member : Kind → ℕ → String → Nodes
as_member kind number name = member kind number name "" (End []) no_nodes

marks_have_numbers :
    numbered 1 (opened "p" (opened "pPr" (opened "rPr" (opened "ins" no_nodes ⊕ opened "moveFrom" no_nodes))))
    ≡ opened "p" (opened "pPr" (opened "rPr" (as_member (Mark Ins) 1 "ins" ⊕ as_member (Mark From) 2 "moveFrom")))
marks_have_numbers = refl

moved_content_has_numbers :
    numbered 1 (opened "p" (opened "moveTo" (run "a"))) ≡ opened "p" (content To 1 "moveTo" "" (run "a"))
moved_content_has_numbers = refl

rows_and_cells_have_numbers :
    numbered 1
    (opened "tbl"
    (opened "tr" (opened "trPr" (opened "del" no_nodes) ⊕ opened "tc" (opened "tcPr" (opened "cellIns" no_nodes) ⊕ opened "p" (opened "del" no_nodes)))))
    ≡ opened "tbl"
    (opened "tr" (opened "trPr" (as_member (Row Del) 1 "del") ⊕ opened "tc" (opened "tcPr" (as_member (Cell Ins) 2 "cellIns") ⊕ opened "p" (content Del 3 "del" "" no_nodes))))
rows_and_cells_have_numbers = refl

-- a change of each of the seven properties
changes_have_numbers :
    numbered 1
    (opened "p"
    (opened "pPr" (opened "sectPr" (opened "sectPrChange" no_nodes) ⊕ opened "pPrChange" no_nodes)
    ⊕ opened "r" (opened "rPr" (opened "rPrChange" no_nodes)))
    ⊕ opened "tbl"
    (opened "tblPr" (opened "tblPrChange" no_nodes)
    ⊕ opened "tr"
    (opened "tblPrEx" (opened "tblPrExChange" no_nodes) ⊕ opened "trPr" (opened "trPrChange" no_nodes)
    ⊕ opened "tc" (opened "tcPr" (opened "tcPrChange" no_nodes)))))
    ≡ opened "p"
    (opened "pPr" (opened "sectPr" (as_member (Change Sect) 1 "sectPrChange") ⊕ as_member (Change Para) 2 "pPrChange")
    ⊕ opened "r" (opened "rPr" (as_member (Change Run) 3 "rPrChange")))
    ⊕ opened "tbl"
    (opened "tblPr" (as_member (Change Table) 4 "tblPrChange")
    ⊕ opened "tr"
    (opened "tblPrEx" (as_member (Change Except) 5 "tblPrExChange") ⊕ opened "trPr" (as_member (Change RowProp) 6 "trPrChange")
    ⊕ opened "tc" (opened "tcPr" (as_member (Change CellProp) 7 "tcPrChange"))))
changes_have_numbers = refl

-- below properties nothing is a member, however deep
abbrev quiet : Nodes
quiet = opened "sdt" (opened "sdtPr" (opened "ins" no_nodes ⊕ opened "p" (opened "pPr" (opened "rPr" (opened "del" no_nodes))))) ⊕ opened "tblGrid" (opened "del" no_nodes)

none_of_quiet : revisions quiet ≡ 0
none_of_quiet = refl

quiet_stay : numbered 5 quiet ≡ quiet
quiet_stay = refl

-- ---- packages

abbrev named : String → Nodes → Nodes
named name kids = one (tag_in Pkg "pkg" name "" (End [])) kids

-- a part whose data has this name, round an element with this name
abbrev part_of : String → String → Nodes → Nodes
part_of held root kids = named "part" (named held (opened root kids))

abbrev part : String → Nodes → Nodes
part root kids = part_of "xmlData" root kids

-- two stories, and between them a part that is none
numbers_go_on_from_story_to_story :
    numbered_package
    (words "<?mso?>" ⊕ named "package"
    (part "document" (opened "p" (opened "ins" (opened "del" (deleted_run "a"))))
    ⊕ words "\n"
    ⊕ part "styles" (opened "ins" (run "b"))
    ⊕ part "hdr" (opened "p" (opened "del" (deleted_run "c") ⊕ opened "ins" (run "d")))))
    ≡ words "<?mso?>" ⊕ named "package"
    (part "document" (opened "p" (content Ins 1 "ins" "" (content Del 2 "del" "" (deleted_run "a"))))
    ⊕ words "\n"
    ⊕ part "styles" (opened "ins" (run "b"))
    ⊕ part "hdr" (opened "p" (content Del 3 "del" "" (deleted_run "c") ⊕ content Ins 4 "ins" "" (run "d"))))
numbers_go_on_from_story_to_story = refl

-- members of every kind in two stories
kinds_go_on_from_story_to_story :
    numbered_package
    (named "package"
    (part "document" (opened "body" (opened "p" (opened "pPr" (opened "rPr" (opened "ins" no_nodes)))))
    ⊕ part "footnotes" (opened "tbl" (opened "tr" (opened "trPr" (opened "ins" no_nodes))) ⊕ opened "r" (opened "rPr" (opened "rPrChange" no_nodes)))))
    ≡ named "package"
    (part "document" (opened "body" (opened "p" (opened "pPr" (opened "rPr" (as_member (Mark Ins) 1 "ins")))))
    ⊕ part "footnotes"
    (opened "tbl" (opened "tr" (opened "trPr" (as_member (Row Ins) 2 "ins"))) ⊕ opened "r" (opened "rPr" (as_member (Change Run) 3 "rPrChange"))))
kinds_go_on_from_story_to_story = refl

stories_are_counted :
    package_revisions
    (named "package" (part "document" (opened "ins" (opened "del" no_nodes)) ⊕ part "styles" (opened "ins" no_nodes) ⊕ part "ftr" (opened "del" no_nodes)))
    ≡ 3
stories_are_counted = refl

-- parts that are no story: of other data, another root, a root that is deeper or among the parts
abbrev no_stories : Nodes
no_stories =
    named "package"
    (part_of "binaryData" "document" (opened "ins" no_nodes)
    ⊕ part "styles" (opened "document" (opened "ins" no_nodes))
    ⊕ opened "document" (opened "del" no_nodes))
    ⊕ opened "document" (opened "ins" no_nodes)

none_of_no_stories : package_revisions no_stories ≡ 0
none_of_no_stories = refl

no_stories_stay : numbered_package no_stories ≡ no_stories
no_stories_stay = refl

-- the root itself is no revision, and keeps its label
roots_stay :
    numbered_package (named "package" (named "part" (named "xmlData" (content Ins 9 "comments" "" (opened "ins" no_nodes)))))
    ≡ named "package" (named "part" (named "xmlData" (content Ins 9 "comments" "" (content Ins 1 "ins" "" no_nodes))))
roots_stay = refl
