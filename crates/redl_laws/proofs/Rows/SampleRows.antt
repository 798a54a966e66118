-- The sample of eight paragraphs, under the decisions of its three reviewers.
use Rattle.std.proofs.Common.{◌≡◌, List, [], ◌∷◌, codes, refl, None, length}
use Rattle.redl_tree.specs.Model.Nodes.{Nodes, ◌⊕◌}
use Rattle.redl_tree.specs.Model.Text.{text}
use Rattle.redl_tree.specs.Decisions.Packages.{pass_package}
use Rattle.redl_laws.proofs.Rows.Documents.{w, e, wa, ea, s, written, indexed, revision_numbers, broken_rule}
use Rattle.redl_tree.specs.declared.kinds.Say.{Say}
use Rattle.redl_tree.specs.declared.kinds.Say.TheVariants.{Keep, Accept, Reject}

abbrev pub sample_8 : Nodes
sample_8 =
    w "p" (w "r" (w "t" (s "plain 0")))
    ⊕ w "p" (wa "ins" " w:id=\"1\" w:author=\"Ann\"" (w "r" (w "t" (s "new 1"))))
    ⊕ w "p" (wa "del" " w:id=\"2\" w:author=\"Bob\"" (w "r" (w "delText" (s "old 2"))))
    ⊕ w "p" (w "pPr" (w "rPr" (ea "del" " w:id=\"3\" w:author=\"Ann\""))
    ⊕ w "r" (w "t" (s "join 3")))
    ⊕ w "p" (wa "ins" " w:id=\"4\" w:author=\"Bob\"" (wa "del" " w:id=\"4\" w:author=\"Ann\"" (w "r" (w "delText" (s "both 4")))))
    ⊕ w "p" (w "r" (w "rPr" (e "b"
    ⊕ wa "rPrChange" " w:id=\"5\" w:author=\"Cy\"" (w "rPr" (e "i")))
    ⊕ w "t" (s "bold 5")))
    ⊕ w "tbl" (w "tr" (w "trPr" (ea "ins" " w:id=\"6\" w:author=\"Ann\"") ⊕ w "tc" (e "p"))
    ⊕ w "tr" (w "tc" (w "tcPr" (ea "cellDel" " w:id=\"6\" w:author=\"Bob\"") ⊕ e "p")
    ⊕ w "tc" (e "p")))
    ⊕ w "p" (ea "moveFromRangeStart" " w:id=\"7\" w:author=\"Cy\" w:name=\"m7\""
    ⊕ wa "moveFrom" " w:id=\"7\" w:author=\"Cy\"" (w "r" (w "t" (s "move 7")))
    ⊕ ea "moveFromRangeEnd" " w:id=\"7\"")
    ⊕ w "p" (ea "moveToRangeStart" " w:id=\"7\" w:author=\"Cy\" w:name=\"m7\""
    ⊕ wa "moveTo" " w:id=\"7\" w:author=\"Cy\"" (w "r" (w "t" (s "move 7")))
    ⊕ ea "moveToRangeEnd" " w:id=\"7\"")
    ⊕ e "p"

abbrev pub says_8 : List Say
says_8 = Keep ∷ Accept ∷ Reject ∷ Keep ∷ Keep ∷ Reject ∷ Keep ∷ Keep ∷ Reject ∷ []

pub sample_8_revisions : revision_numbers sample_8 ≡ 9
sample_8_revisions = refl

pub sample_8_sound : broken_rule sample_8 ≡ None
sample_8_sound = refl

pub sample_8_written :
    written says_8 sample_8
    ≡ codes "<w:p><w:r><w:t>plain 0</w:t></w:r></w:p><w:p><w:ins w:id=\"1\" w:author=\"Ann\"><w:r><w:t>new 1</w:t></w:r></w:ins></w:p><w:p></w:p><w:p><w:pPr><w:rPr></w:rPr></w:pPr><w:r><w:t>join 3</w:t></w:r></w:p><w:p><w:ins w:id=\"4\" w:author=\"Bob\"><w:del w:id=\"4\" w:author=\"Ann\"><w:r><w:delText>both 4</w:delText></w:r></w:del></w:ins></w:p><w:p><w:r><w:rPr><w:i/></w:rPr><w:t>bold 5</w:t></w:r></w:p><w:tbl><w:tr><w:trPr><w:ins w:id=\"6\" w:author=\"Ann\"/></w:trPr><w:tc><w:p/></w:tc></w:tr><w:tr><w:tc><w:tcPr><w:cellDel w:id=\"6\" w:author=\"Bob\"/></w:tcPr><w:p/></w:tc><w:tc><w:p/></w:tc></w:tr></w:tbl><w:p><w:r><w:t>move 7</w:t></w:r></w:p><w:p></w:p><w:p/>"
sample_8_written = refl

pub sample_8_bytes : length (text (pass_package says_8 (indexed sample_8))) ≡ 1061
sample_8_bytes = refl
