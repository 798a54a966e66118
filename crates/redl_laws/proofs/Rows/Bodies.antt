-- The bodies of the worked rows.
use Rattle.redl_tree.specs.Model.Nodes.{Nodes, no_nodes, ◌⊕◌}
use Rattle.redl_laws.proofs.Rows.Documents.{w, e, wa, ea, s, attr_A, attr_B, attr_C}

abbrev pub row_2 : Nodes
row_2 =
    w "p" (wa "ins" attr_A (w "r" (w "t" (s "a"))))

abbrev pub row_3 : Nodes
row_3 =
    w "p" (wa "del" attr_A (w "r" (wa "delText" " xml:space=\"preserve\"" (s " b "))))

abbrev pub row_4 : Nodes
row_4 =
    w "p" (wa "ins" attr_A (wa "del" attr_B (w "r" (w "delText" (s "c")))))

abbrev pub row_5 : Nodes
row_5 =
    w "p" (wa "del" attr_A (wa "del" attr_B (w "r" (w "delText" (s "d")))))

abbrev pub row_6 : Nodes
row_6 =
    w "tbl" (w "tr" (w "tc" (w "p" (w "pPr" (ea "jc" " w:val=\"left\"" ⊕ w "rPr" (ea "del" attr_A)))
    ⊕ w "p" (w "pPr" (ea "jc" " w:val=\"right\"" ⊕ w "rPr" (ea "del" attr_B))))))

abbrev pub row_7 : Nodes
row_7 =
    w "p" (w "pPr" (w "rPr" (ea "del" attr_A))
    ⊕ wa "del" attr_B (w "r" (w "delText" (s "x"))))
    ⊕ w "tbl" (w "tr" (w "trPr" (ea "del" attr_C) ⊕ w "tc" (e "p")))
    ⊕ e "p"

abbrev pub row_7_kept : Nodes
row_7_kept =
    w "p" (w "pPr" (w "rPr" (ea "del" attr_A))
    ⊕ wa "del" attr_B (w "r" (w "delText" (s "x")))
    ⊕ w "r" (w "t" (s "k")))
    ⊕ w "tbl" (w "tr" (w "trPr" (ea "del" attr_C) ⊕ w "tc" (e "p")))
    ⊕ e "p"

abbrev pub row_8 : Nodes
row_8 =
    w "p" (w "pPr" (w "rPr" (ea "del" attr_A)) ⊕ w "r" (w "t" (s "e")))
    ⊕ e "p"

abbrev pub row_9 : Nodes
row_9 =
    w "tbl" (w "tr" (w "trPr" (ea "ins" attr_A)
    ⊕ w "tc" (w "tcPr" (ea "cellDel" attr_B) ⊕ e "p")))
    ⊕ e "p"

abbrev pub row_10 : Nodes
row_10 =
    w "tbl" (w "tr" (w "tc" (w "p" (ea "moveFromRangeStart" " w:id=\"10\" w:author=\"Ann\" w:name=\"m1\""
    ⊕ wa "moveFrom" " w:id=\"11\" w:author=\"Ann\"" (w "r" (w "t" (s "f")))
    ⊕ ea "moveFromRangeEnd" " w:id=\"10\""))))
    ⊕ w "p" (ea "moveToRangeStart" " w:id=\"12\" w:author=\"Ann\" w:name=\"m1\""
    ⊕ wa "moveTo" " w:id=\"13\" w:author=\"Ann\"" (w "r" (w "t" (s "f")))
    ⊕ ea "moveToRangeEnd" " w:id=\"12\"")

abbrev pub row_24 : Nodes
row_24 =
    w "p" (w "pPr" (e "keepNext"
    ⊕ w "rPr" (ea "ins" attr_A ⊕ e "b")
    ⊕ wa "pPrChange" attr_B (w "pPr" (ea "jc" " w:val=\"right\""))))
    ⊕ e "p"

abbrev pub run_change : Nodes
run_change =
    w "p" (w "r" (w "rPr" (e "b" ⊕ wa "rPrChange" attr_A (w "rPr" (e "i")))
    ⊕ w "t" (s "h")))

abbrev pub section_change : Nodes
section_change =
    e "p"
    ⊕ w "sectPr" (ea "headerReference" " w:type=\"default\""
    ⊕ ea "pgSz" " w:w=\"1\""
    ⊕ wa "sectPrChange" attr_A (w "sectPr" (ea "pgSz" " w:w=\"2\"")))

abbrev pub row_change : Nodes
row_change =
    w "tbl" (w "tr" (w "trPr" (e "cantSplit" ⊕ ea "trPrChange" attr_A) ⊕ w "tc" (e "p")))
    ⊕ e "p"

abbrev pub three_paragraphs : Nodes
three_paragraphs =
    w "p" (w "pPr" (w "rPr" (ea "del" attr_A)) ⊕ w "r" (w "t" (s "a")))
    ⊕ ea "bookmarkStart" " w:id=\"5\" w:name=\"k\""
    ⊕ w "p" (w "pPr" (w "rPr" (ea "ins" attr_B)) ⊕ w "r" (w "t" (s "b")))
    ⊕ w "p" (w "pPr" (ea "jc" " w:val=\"right\""))

abbrev pub nested_paragraphs : Nodes
nested_paragraphs =
    w "p" (w "r" (w "q" (w "p" (w "pPr" (w "rPr" (ea "del" attr_A))) ⊕ e "p")))

abbrev pub row_in_control : Nodes
row_in_control =
    w "tbl" (w "sdt" (w "sdtContent" (w "tr" (w "trPr" (ea "del" attr_A) ⊕ w "tc" (e "p"))))
    ⊕ w "tr" (w "tc" (e "p")))
    ⊕ e "p"

abbrev pub inserted_cell : Nodes
inserted_cell =
    w "tbl" (w "tr" (w "tc" (w "tcPr" (ea "cellIns" attr_A) ⊕ e "p") ⊕ w "tc" (e "p")))
    ⊕ e "p"

abbrev pub loose_move : Nodes
loose_move =
    w "tbl" (w "tr" (w "trPr" (ea "ins" attr_A)
    ⊕ w "tc" (w "p" (ea "moveFromRangeStart" " w:id=\"10\" w:author=\"Ann\" w:name=\"m1\""
    ⊕ wa "moveFrom" " w:id=\"11\" w:author=\"Ann\"" (w "r" (w "t" (s "f")))
    ⊕ ea "moveFromRangeEnd" " w:id=\"10\""))))
    ⊕ w "p" (ea "moveToRangeStart" " w:id=\"12\" w:author=\"Ann\" w:name=\"m1\""
    ⊕ wa "moveTo" " w:id=\"13\" w:author=\"Ann\"" (w "r" (w "t" (s "f")))
    ⊕ ea "moveToRangeEnd" " w:id=\"12\"")

abbrev pub two_targets : Nodes
two_targets =
    w "tbl" (w "tr" (w "tc" (w "p" (ea "moveFromRangeStart" " w:id=\"10\" w:author=\"Ann\" w:name=\"m1\""
    ⊕ wa "moveFrom" " w:id=\"11\" w:author=\"Ann\"" (w "r" (w "t" (s "f")))
    ⊕ ea "moveFromRangeEnd" " w:id=\"10\""))))
    ⊕ w "p" (ea "moveToRangeStart" " w:id=\"12\" w:author=\"Ann\" w:name=\"m1\""
    ⊕ wa "moveTo" " w:id=\"13\" w:author=\"Ann\"" (w "r" (w "t" (s "f")))
    ⊕ ea "moveToRangeEnd" " w:id=\"12\"")
    ⊕ w "p" (ea "moveToRangeStart" " w:id=\"14\" w:name=\"m1\""
    ⊕ ea "moveToRangeEnd" " w:id=\"14\"")

abbrev pub two_moves : Nodes
two_moves =
    w "tbl" (w "tr" (w "tc" (w "p" (ea "moveFromRangeStart" " w:id=\"10\" w:author=\"Ann\" w:name=\"m1\""
    ⊕ wa "moveFrom" " w:id=\"11\" w:author=\"Ann\"" (w "r" (w "t" (s "f")))
    ⊕ ea "moveFromRangeEnd" " w:id=\"10\""))))
    ⊕ w "p" (ea "moveToRangeStart" " w:id=\"12\" w:author=\"Ann\" w:name=\"m1\""
    ⊕ wa "moveTo" " w:id=\"13\" w:author=\"Ann\"" (w "r" (w "t" (s "f")))
    ⊕ ea "moveToRangeEnd" " w:id=\"12\"")
    ⊕ w "tbl" (w "tr" (w "tc" (w "p" (ea "moveFromRangeStart" " w:id=\"10\" w:author=\"Ann\" w:name=\"m1\""
    ⊕ wa "moveFrom" " w:id=\"11\" w:author=\"Ann\"" (w "r" (w "t" (s "f")))
    ⊕ ea "moveFromRangeEnd" " w:id=\"10\""))))
    ⊕ w "p" (ea "moveToRangeStart" " w:id=\"12\" w:author=\"Ann\" w:name=\"m1\""
    ⊕ wa "moveTo" " w:id=\"13\" w:author=\"Ann\"" (w "r" (w "t" (s "f")))
    ⊕ ea "moveToRangeEnd" " w:id=\"12\"")

abbrev pub bad_3 : Nodes
bad_3 =
    w "p" (wa "ins" attr_A (e "p"))

abbrev pub bad_4 : Nodes
bad_4 =
    w "p" (w "r" (w "rPr" (wa "rPrChange" attr_A (e "rPr") ⊕ e "b")))

abbrev pub bad_5 : Nodes
bad_5 =
    w "p" (w "pPr" (w "rPr" (ea "ins" attr_A ⊕ ea "ins" attr_B)))

abbrev pub bad_6 : Nodes
bad_6 =
    w "p" (e "r" ⊕ e "pPr")

abbrev pub bad_7 : Nodes
bad_7 =
    w "p" (wa "moveFromRangeStart" " w:id=\"1\"" (e "r"))

abbrev pub bad_8 : Nodes
bad_8 =
    w "p" (w "pPr" (wa "pPrChange" attr_A (w "pPr" (w "rPr" (ea "rPrChange" attr_B)))))

abbrev pub bad_9 : Nodes
bad_9 =
    ea "p" " xmlns:q=\"u\""

abbrev pub bad_1 : Nodes
bad_1 =
    w "tbl" (w "tr" (w "tc" (e "p" ⊕ w "tbl" (w "tr" (w "tc" (e "p"))))))

abbrev pub bad_2 : Nodes
bad_2 =
    w "tbl" (w "tr" no_nodes)
