-- Worked rows: changes, joins, shells, markers that are not paired.
use Rattle.std.proofs.Common.{◌≡◌, codes, refl}
use Rattle.redl_laws.proofs.Rows.Documents.{settled}
use Rattle.redl_laws.proofs.Rows.Bodies.{run_change, section_change, row_change, three_paragraphs, nested_paragraphs, row_in_control, inserted_cell, two_targets}
use Rattle.redl_tree.specs.declared.kinds.Say.TheVariants.{Accept, Reject}

pub run_change_reject :
    settled Reject run_change
    ≡ codes "<w:p><w:r><w:rPr><w:i/></w:rPr><w:t>h</w:t></w:r></w:p>"
run_change_reject = refl

pub run_change_accept :
    settled Accept run_change
    ≡ codes "<w:p><w:r><w:rPr><w:b/></w:rPr><w:t>h</w:t></w:r></w:p>"
run_change_accept = refl

pub section_change_reject :
    settled Reject section_change
    ≡ codes "<w:p/><w:sectPr><w:headerReference w:type=\"default\"/><w:pgSz w:w=\"2\"/></w:sectPr>"
section_change_reject = refl

pub section_change_accept :
    settled Accept section_change
    ≡ codes "<w:p/><w:sectPr><w:headerReference w:type=\"default\"/><w:pgSz w:w=\"1\"/></w:sectPr>"
section_change_accept = refl

pub row_change_reject :
    settled Reject row_change
    ≡ codes "<w:tbl><w:tr><w:trPr></w:trPr><w:tc><w:p/></w:tc></w:tr></w:tbl><w:p/>"
row_change_reject = refl

pub row_change_accept :
    settled Accept row_change
    ≡ codes "<w:tbl><w:tr><w:trPr><w:cantSplit/></w:trPr><w:tc><w:p/></w:tc></w:tr></w:tbl><w:p/>"
row_change_accept = refl

pub three_paragraphs_accept :
    settled Accept three_paragraphs
    ≡ codes "<w:p><w:pPr><w:rPr></w:rPr></w:pPr><w:r><w:t>a</w:t></w:r><w:bookmarkStart w:id=\"5\" w:name=\"k\"/><w:r><w:t>b</w:t></w:r></w:p><w:p><w:pPr><w:jc w:val=\"right\"/></w:pPr></w:p>"
three_paragraphs_accept = refl

pub three_paragraphs_reject :
    settled Reject three_paragraphs
    ≡ codes "<w:p><w:pPr><w:rPr></w:rPr></w:pPr><w:r><w:t>a</w:t></w:r></w:p><w:bookmarkStart w:id=\"5\" w:name=\"k\"/><w:p><w:pPr><w:jc w:val=\"right\"/></w:pPr><w:r><w:t>b</w:t></w:r></w:p>"
three_paragraphs_reject = refl

pub nested_paragraphs_accept :
    settled Accept nested_paragraphs
    ≡ codes "<w:p><w:r><w:q><w:p><w:pPr><w:rPr></w:rPr></w:pPr></w:p><w:p/></w:q></w:r></w:p>"
nested_paragraphs_accept = refl

pub row_in_control_accept :
    settled Accept row_in_control
    ≡ codes "<w:tbl><w:tr><w:tc><w:p/></w:tc></w:tr></w:tbl><w:p/>"
row_in_control_accept = refl

pub row_in_control_reject :
    settled Reject row_in_control
    ≡ codes "<w:tbl><w:sdt><w:sdtContent><w:tr><w:trPr></w:trPr><w:tc><w:p/></w:tc></w:tr></w:sdtContent></w:sdt><w:tr><w:tc><w:p/></w:tc></w:tr></w:tbl><w:p/>"
row_in_control_reject = refl

pub inserted_cell_reject :
    settled Reject inserted_cell
    ≡ codes "<w:tbl><w:tr><w:tc><w:p/></w:tc></w:tr></w:tbl><w:p/>"
inserted_cell_reject = refl

pub two_targets_accept :
    settled Accept two_targets
    ≡ codes "<w:tbl><w:tr><w:tc><w:p><w:moveFromRangeStart w:id=\"10\" w:author=\"Ann\" w:name=\"m1\"/><w:moveFromRangeEnd w:id=\"10\"/></w:p></w:tc></w:tr></w:tbl><w:p><w:moveToRangeStart w:id=\"12\" w:author=\"Ann\" w:name=\"m1\"/><w:r><w:t>f</w:t></w:r><w:moveToRangeEnd w:id=\"12\"/></w:p><w:p><w:moveToRangeStart w:id=\"14\" w:name=\"m1\"/><w:moveToRangeEnd w:id=\"14\"/></w:p>"
two_targets_accept = refl
