-- Worked rows: content, paragraphs, tables, a move.
use Rattle.std.proofs.Common.{◌≡◌, [], ◌∷◌, codes, refl}
use Rattle.redl_laws.proofs.Rows.Documents.{settled, written}
use Rattle.redl_laws.proofs.Rows.Bodies.{row_2, row_3, row_4, row_5, row_6, row_7, row_7_kept, row_8, row_9, row_10, row_24}
use Rattle.redl_tree.specs.declared.kinds.Say.TheVariants.{Keep, Accept, Reject}

pub row_2_accept : settled Accept row_2 ≡ codes "<w:p><w:r><w:t>a</w:t></w:r></w:p>"
row_2_accept = refl

pub row_2_keep :
    settled Keep row_2
    ≡ codes "<w:p><w:ins w:id=\"1\" w:author=\"Ann\" w:date=\"2024-05-06T07:08:09Z\"><w:r><w:t>a</w:t></w:r></w:ins></w:p>"
row_2_keep = refl

pub row_3_reject :
    settled Reject row_3
    ≡ codes "<w:p><w:r><w:t xml:space=\"preserve\"> b </w:t></w:r></w:p>"
row_3_reject = refl

pub row_4_write : written (Reject ∷ Keep ∷ []) row_4 ≡ codes "<w:p></w:p>"
row_4_write = refl

pub row_5_write :
    written (Keep ∷ Reject ∷ []) row_5
    ≡ codes "<w:p><w:del w:id=\"1\" w:author=\"Ann\" w:date=\"2024-05-06T07:08:09Z\"><w:r><w:delText>d</w:delText></w:r></w:del></w:p>"
row_5_write = refl

pub row_6_accept :
    settled Accept row_6
    ≡ codes "<w:tbl><w:tr><w:tc><w:p><w:pPr><w:jc w:val=\"right\"/><w:rPr></w:rPr></w:pPr></w:p></w:tc></w:tr></w:tbl>"
row_6_accept = refl

pub row_7_accept : settled Accept row_7 ≡ codes "<w:p/>"
row_7_accept = refl

pub row_7_kept_accept :
    settled Accept row_7_kept
    ≡ codes "<w:p><w:pPr><w:rPr></w:rPr></w:pPr><w:r><w:t>k</w:t></w:r></w:p><w:p/>"
row_7_kept_accept = refl

pub row_8_accept : settled Accept row_8 ≡ codes "<w:p><w:r><w:t>e</w:t></w:r></w:p>"
row_8_accept = refl

pub row_9_write : written (Keep ∷ Accept ∷ []) row_9 ≡ codes "<w:p/>"
row_9_write = refl

pub row_10_accept :
    settled Accept row_10
    ≡ codes "<w:tbl><w:tr><w:tc><w:p></w:p></w:tc></w:tr></w:tbl><w:p><w:r><w:t>f</w:t></w:r></w:p>"
row_10_accept = refl

pub row_10_reject :
    settled Reject row_10
    ≡ codes "<w:tbl><w:tr><w:tc><w:p><w:r><w:t>f</w:t></w:r></w:p></w:tc></w:tr></w:tbl><w:p></w:p>"
row_10_reject = refl

pub row_10_keep :
    settled Keep row_10
    ≡ codes "<w:tbl><w:tr><w:tc><w:p><w:moveFromRangeStart w:id=\"10\" w:author=\"Ann\" w:name=\"m1\"/><w:moveFrom w:id=\"11\" w:author=\"Ann\"><w:r><w:t>f</w:t></w:r></w:moveFrom><w:moveFromRangeEnd w:id=\"10\"/></w:p></w:tc></w:tr></w:tbl><w:p><w:moveToRangeStart w:id=\"12\" w:author=\"Ann\" w:name=\"m1\"/><w:moveTo w:id=\"13\" w:author=\"Ann\"><w:r><w:t>f</w:t></w:r></w:moveTo><w:moveToRangeEnd w:id=\"12\"/></w:p>"
row_10_keep = refl

pub row_24_reject : settled Reject row_24 ≡ codes "<w:p></w:p>"
row_24_reject = refl

pub row_24_write :
    written (Keep ∷ Reject ∷ []) row_24
    ≡ codes "<w:p><w:pPr><w:jc w:val=\"right\"/><w:rPr><w:ins w:id=\"1\" w:author=\"Ann\" w:date=\"2024-05-06T07:08:09Z\"/><w:b/></w:rPr></w:pPr></w:p><w:p/>"
row_24_write = refl
