-- Further worked rows, for cases that the others leave open.
use Rattle.std.proofs.Common.{◌≡◌, [], ◌∷◌, codes, refl, Some, None}
use Rattle.redl_tree.specs.Model.Nodes.{Nodes, no_nodes, ◌⊕◌}
use Rattle.redl_tree.specs.Model.Text.{text}
use Rattle.redl_tree.specs.Decisions.Restored.{restored}
use Rattle.redl_tree.specs.Decisions.Packages.{pass_package}
use Rattle.redl_tree.specs.Revisions.Numbers.{numbered_package_by, package_revisions_by}
use Rattle.redl_laws.proofs.Rows.Tails.{value}
use Rattle.redl_laws.proofs.Rows.Documents.{w, e, wa, ea, s, pkg, attr_A, attr_B, settled, written, revision_numbers, broken_rule}
use Rattle.redl_tree.specs.declared.kinds.Say.TheVariants.{Keep, Accept, Reject}
use Rattle.redl_tree.specs.declared.kinds.Prop.TheVariants.{Cell}

abbrev two_cut_before_table : Nodes
two_cut_before_table =
    w "p" (w "pPr" (w "rPr" (ea "del" attr_A)))
    ⊕ w "p" (w "pPr" (w "rPr" (ea "del" attr_A)))
    ⊕ w "tbl" (w "tr" (w "tc" (e "p")))
    ⊕ e "p"

abbrev bookmark_before_table : Nodes
bookmark_before_table =
    w "p" (w "pPr" (w "rPr" (ea "del" attr_A)))
    ⊕ e "bookmarkStart"
    ⊕ w "p" (w "pPr" (w "rPr" (ea "del" attr_A)))
    ⊕ w "tbl" (w "tr" (w "tc" (e "p")))
    ⊕ e "p"

abbrev text_before_table : Nodes
text_before_table =
    w "p" (s " x " ⊕ w "pPr" (w "rPr" (ea "del" attr_A)) ⊕ s " y ")
    ⊕ w "tbl" (w "tr" (w "tc" (e "p")))
    ⊕ e "p"

abbrev props_between : Nodes
props_between =
    w "p" (w "pPr" (w "rPr" (ea "del" attr_A)))
    ⊕ w "pPr" (e "jc")
    ⊕ w "p" (e "r")

abbrev empty_last : Nodes
empty_last =
    w "p" (w "pPr" (w "rPr" (ea "del" attr_A)) ⊕ e "r") ⊕ s " " ⊕ e "p"

abbrev control_of_blocks : Nodes
control_of_blocks =
    w "sdt" (e "sdtPr"
    ⊕ w "sdtContent" (w "p" (w "pPr" (w "rPr" (ea "del" attr_A))) ⊕ w "p" (e "r")))
    ⊕ w "p" (w "pPr" (w "rPr" (ea "del" attr_A)))
    ⊕ w "customXml" (w "p" (w "pPr" (w "rPr" (ea "del" attr_A))))
    ⊕ e "p"

abbrev text_box : Nodes
text_box =
    w "p" (w "r" (w "txbxContent" (w "p" (w "pPr" (w "rPr" (ea "del" attr_A))) ⊕ w "p" (e "r"))))

abbrev cut_in_left : Nodes
cut_in_left =
    w "p" (wa "del" attr_A (wa "moveFrom" attr_B (w "r" (w "delText" (s "x") ⊕ w "delInstrText" (s "y")))))

abbrev mark_in_range : Nodes
mark_in_range =
    w "p" (w "pPr" (w "rPr" (ea "moveFrom" attr_A))
    ⊕ ea "moveFromRangeStart" " w:id=\"1\" w:name=\"m\"")
    ⊕ ea "moveFromRangeEnd" " w:id=\"1\""
    ⊕ w "p" (ea "moveToRangeStart" " w:id=\"1\" w:name=\"m\""
    ⊕ ea "moveToRangeEnd" " w:id=\"1\"")

abbrev mark_past_range : Nodes
mark_past_range =
    w "p" (w "pPr" (w "rPr" (ea "moveFrom" attr_A))
    ⊕ ea "moveFromRangeStart" " w:id=\"1\" w:name=\"m\""
    ⊕ ea "moveFromRangeEnd" " w:id=\"1\"")
    ⊕ w "p" (ea "moveToRangeStart" " w:id=\"1\" w:name=\"m\""
    ⊕ ea "moveToRangeEnd" " w:id=\"1\"")

abbrev marker_in_row : Nodes
marker_in_row =
    w "tbl" (w "tr" (ea "moveFromRangeStart" " w:id=\"1\" w:name=\"m\"" ⊕ w "tc" (e "p")))
    ⊕ ea "moveFromRangeEnd" " w:id=\"1\""
    ⊕ w "p" (ea "moveToRangeStart" " w:id=\"1\" w:name=\"m\""
    ⊕ ea "moveToRangeEnd" " w:id=\"1\"")

abbrev control_in_content : Nodes
control_in_content =
    wa "ins" attr_A (w "sdt" (e "sdtContent")) ⊕ e "p"

abbrev nested_table : Nodes
nested_table =
    w "tbl" (e "tblPr"
    ⊕ w "tr" (w "tc" (w "tbl" (w "tr" (w "tc" (w "p" (w "pPr" (w "rPr" (ea "del" attr_A))) ⊕ e "p")))
    ⊕ s " "
    ⊕ e "p")))
    ⊕ w "p" (w "pPr" (w "rPr" (ea "del" attr_A)))

abbrev crossing_moves : Nodes
crossing_moves =
    w "p" (ea "moveFromRangeStart" " w:id=\"1\" w:name=\"m\""
    ⊕ ea "moveFromRangeStart" " w:id=\"2\" w:name=\"n\""
    ⊕ ea "moveFromRangeEnd" " w:id=\"1\""
    ⊕ ea "moveFrom" attr_A
    ⊕ ea "moveFromRangeEnd" " w:id=\"2\""
    ⊕ ea "moveToRangeStart" " w:id=\"2\" w:name=\"n\""
    ⊕ ea "moveToRangeStart" " w:id=\"1\" w:name=\"m\""
    ⊕ ea "moveTo" attr_A
    ⊕ ea "moveToRangeEnd" " w:id=\"2\""
    ⊕ ea "moveToRangeEnd" " w:id=\"1\"")

pub two_cut_before_table_accept :
    settled Accept two_cut_before_table
    ≡ codes "<w:tbl><w:tr><w:tc><w:p/></w:tc></w:tr></w:tbl><w:p/>"
two_cut_before_table_accept = refl

pub bookmark_before_table_accept :
    settled Accept bookmark_before_table
    ≡ codes "<w:p><w:pPr><w:rPr></w:rPr></w:pPr><w:bookmarkStart/></w:p><w:tbl><w:tr><w:tc><w:p/></w:tc></w:tr></w:tbl><w:p/>"
bookmark_before_table_accept = refl

pub props_between_accept : settled Accept props_between ≡ codes "<w:p><w:r/></w:p>"
props_between_accept = refl

pub empty_last_accept : settled Accept empty_last ≡ codes "<w:p><w:r/> </w:p>"
empty_last_accept = refl

pub control_of_blocks_accept :
    settled Accept control_of_blocks
    ≡ codes "<w:sdt><w:sdtPr/><w:sdtContent><w:p><w:r/></w:p></w:sdtContent></w:sdt><w:customXml><w:p><w:pPr><w:rPr></w:rPr></w:pPr></w:p></w:customXml><w:p/>"
control_of_blocks_accept = refl

pub text_box_accept :
    settled Accept text_box
    ≡ codes "<w:p><w:r><w:txbxContent><w:p><w:r/></w:p></w:txbxContent></w:r></w:p>"
text_box_accept = refl

pub cut_in_left_outer :
    written (Reject ∷ Keep ∷ []) cut_in_left
    ≡ codes "<w:p><w:moveFrom w:id=\"2\" w:author=\"Bob\" w:date=\"2024-05-06T09:08:10+02:00\"><w:r><w:delText>x</w:delText><w:delInstrText>y</w:delInstrText></w:r></w:moveFrom></w:p>"
cut_in_left_outer = refl

pub cut_in_left_both :
    written (Reject ∷ Reject ∷ []) cut_in_left
    ≡ codes "<w:p><w:r><w:t>x</w:t><w:instrText>y</w:instrText></w:r></w:p>"
cut_in_left_both = refl

pub text_before_table_sound : broken_rule text_before_table ≡ None
text_before_table_sound = refl

pub text_before_table_accept :
    settled Accept text_before_table
    ≡ codes " x  y <w:tbl><w:tr><w:tc><w:p/></w:tc></w:tr></w:tbl><w:p/>"
text_before_table_accept = refl

pub mark_in_range_revisions : revision_numbers mark_in_range ≡ 1
mark_in_range_revisions = refl

pub mark_in_range_accept : settled Accept mark_in_range ≡ codes "<w:p></w:p>"
mark_in_range_accept = refl

pub mark_past_range_revisions : revision_numbers mark_past_range ≡ 2
mark_past_range_revisions = refl

pub marker_in_row_revisions : revision_numbers marker_in_row ≡ 0
marker_in_row_revisions = refl

pub control_in_content_broken : broken_rule control_in_content ≡ Some 3
control_in_content_broken = refl

pub crossing_moves_revisions : revision_numbers crossing_moves ≡ 2
crossing_moves_revisions = refl

pub crossing_moves_first :
    written (Accept ∷ Keep ∷ []) crossing_moves
    ≡ codes "<w:p><w:moveFromRangeStart w:id=\"2\" w:name=\"n\"/><w:moveFrom w:id=\"1\" w:author=\"Ann\" w:date=\"2024-05-06T07:08:09Z\"/><w:moveFromRangeEnd w:id=\"2\"/><w:moveToRangeStart w:id=\"2\" w:name=\"n\"/><w:moveToRangeEnd w:id=\"2\"/></w:p>"
crossing_moves_first = refl

pub crossing_moves_second :
    written (Keep ∷ Reject ∷ []) crossing_moves
    ≡ codes "<w:p><w:moveFromRangeStart w:id=\"1\" w:name=\"m\"/><w:moveFromRangeEnd w:id=\"1\"/><w:moveToRangeStart w:id=\"1\" w:name=\"m\"/><w:moveTo w:id=\"1\" w:author=\"Ann\" w:date=\"2024-05-06T07:08:09Z\"/><w:moveToRangeEnd w:id=\"1\"/></w:p>"
crossing_moves_second = refl

-- present kids that are kept, after the former ones
pub cell_restored :
    text (restored Cell (e "cellMerge" ⊕ e "noWrap") (e "cellIns" ⊕ e "vAlign"))
    ≡ codes "<w:vAlign/><w:cellMerge/>"
cell_restored = refl

abbrev inserted : Nodes
inserted = w "p" (wa "ins" attr_A (w "r" no_nodes))

-- numbers go on from one story to the next
abbrev two_stories : Nodes
two_stories =
    pkg "package" "" (pkg "part" "" (pkg "xmlData" "" (w "document" (w "body" inserted)))
    ⊕ s " " ⊕ pkg "part" "" (pkg "xmlData" "" (w "styles" inserted))
    ⊕ pkg "part" "" (pkg "xmlData" "" (w "footnotes" (w "footnote" inserted ⊕ w "footnote" inserted))))

pub two_stories_revisions : package_revisions_by value two_stories ≡ 3
two_stories_revisions = refl

pub two_stories_written :
    text (pass_package (Reject ∷ Accept ∷ Reject ∷ []) (numbered_package_by value two_stories))
    ≡ text (pkg "package" "" (pkg "part" "" (pkg "xmlData" "" (w "document" (w "body" (w "p" no_nodes))))
    ⊕ s " " ⊕ pkg "part" "" (pkg "xmlData" "" (w "styles" inserted))
    ⊕ pkg "part" "" (pkg "xmlData" "" (w "footnotes" (w "footnote" (w "p" (w "r" no_nodes)) ⊕ w "footnote" (w "p" no_nodes))))))
two_stories_written = refl
