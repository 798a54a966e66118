-- The names of WordprocessingML that are asked for, and their numbers.
use Rattle.std.specs.Prelude.{ℕ, List, [], ◌∷◌, ◌+◌, ◌*◌, ◌==◌, get_or, length, bit_and, bytes_eq, codes, if◌then◌else◌}
use Rattle.redl_tree.specs.declared.kinds.Space.{Space}
use Rattle.redl_tree.specs.declared.kinds.Space.TheVariants.{W}
use Rattle.redl_tree.specs.declared.word.Word.{Word}
use Rattle.redl_tree.specs.declared.word.Word.TheVariants.{P, R, Tr, Tc, Tbl, Ins, Del, Sdt, Hdr, Ftr, PPr, RPr, Body, TrPr, TcPr, TblPr, SdtPr, TblGrid, SectPr, TblPrEx, MoveFrom, MoveTo, CustomXml, SdtContent, SdtEndPr, TxbxContent, AltChunk, Comment, Comments, Footnote, Footnotes, Endnote, Endnotes, Document, CellIns, CellDel, CellMerge, DelText, DelInstrText, HeaderReference, FooterReference, RPrChange, PPrChange, SectPrChange, TblPrChange, TblPrExChange, TrPrChange, TcPrChange, MoveFromRangeStart, MoveFromRangeEnd, MoveToRangeStart, MoveToRangeEnd}

-- the local name that a word is
abbrev pub name_of : Word → List ℕ
name_of P = codes "p"
name_of R = codes "r"
name_of Tr = codes "tr"
name_of Tc = codes "tc"
name_of Tbl = codes "tbl"
name_of Ins = codes "ins"
name_of Del = codes "del"
name_of Sdt = codes "sdt"
name_of Hdr = codes "hdr"
name_of Ftr = codes "ftr"
name_of PPr = codes "pPr"
name_of RPr = codes "rPr"
name_of Body = codes "body"
name_of TrPr = codes "trPr"
name_of TcPr = codes "tcPr"
name_of TblPr = codes "tblPr"
name_of SdtPr = codes "sdtPr"
name_of TblGrid = codes "tblGrid"
name_of SectPr = codes "sectPr"
name_of TblPrEx = codes "tblPrEx"
name_of MoveFrom = codes "moveFrom"
name_of MoveTo = codes "moveTo"
name_of CustomXml = codes "customXml"
name_of SdtContent = codes "sdtContent"
name_of SdtEndPr = codes "sdtEndPr"
name_of TxbxContent = codes "txbxContent"
name_of AltChunk = codes "altChunk"
name_of Comment = codes "comment"
name_of Comments = codes "comments"
name_of Footnote = codes "footnote"
name_of Footnotes = codes "footnotes"
name_of Endnote = codes "endnote"
name_of Endnotes = codes "endnotes"
name_of Document = codes "document"
name_of CellIns = codes "cellIns"
name_of CellDel = codes "cellDel"
name_of CellMerge = codes "cellMerge"
name_of DelText = codes "delText"
name_of DelInstrText = codes "delInstrText"
name_of HeaderReference = codes "headerReference"
name_of FooterReference = codes "footerReference"
name_of RPrChange = codes "rPrChange"
name_of PPrChange = codes "pPrChange"
name_of SectPrChange = codes "sectPrChange"
name_of TblPrChange = codes "tblPrChange"
name_of TblPrExChange = codes "tblPrExChange"
name_of TrPrChange = codes "trPrChange"
name_of TcPrChange = codes "tcPrChange"
name_of MoveFromRangeStart = codes "moveFromRangeStart"
name_of MoveFromRangeEnd = codes "moveFromRangeEnd"
name_of MoveToRangeStart = codes "moveToRangeStart"
name_of MoveToRangeEnd = codes "moveToRangeEnd"

-- from 1
abbrev pub number : Word → ℕ
number P = 1
number R = 2
number Tr = 3
number Tc = 4
number Tbl = 5
number Ins = 6
number Del = 7
number Sdt = 8
number Hdr = 9
number Ftr = 10
number PPr = 11
number RPr = 12
number Body = 13
number TrPr = 14
number TcPr = 15
number TblPr = 16
number SdtPr = 17
number TblGrid = 18
number SectPr = 19
number TblPrEx = 20
number MoveFrom = 21
number MoveTo = 22
number CustomXml = 23
number SdtContent = 24
number SdtEndPr = 25
number TxbxContent = 26
number AltChunk = 27
number Comment = 28
number Comments = 29
number Footnote = 30
number Footnotes = 31
number Endnote = 32
number Endnotes = 33
number Document = 34
number CellIns = 35
number CellDel = 36
number CellMerge = 37
number DelText = 38
number DelInstrText = 39
number HeaderReference = 40
number FooterReference = 41
number RPrChange = 42
number PPrChange = 43
number SectPrChange = 44
number TblPrChange = 45
number TblPrExChange = 46
number TrPrChange = 47
number TcPrChange = 48
number MoveFromRangeStart = 49
number MoveFromRangeEnd = 50
number MoveToRangeStart = 51
number MoveToRangeEnd = 52

abbrev pub words : List Word
words =
    P ∷ R ∷ Tr ∷ Tc ∷ Tbl ∷ Ins ∷ Del ∷ Sdt ∷ Hdr ∷ Ftr
    ∷ PPr ∷ RPr ∷ Body ∷ TrPr ∷ TcPr ∷ TblPr ∷ SdtPr ∷ TblGrid ∷ SectPr ∷ TblPrEx
    ∷ MoveFrom ∷ MoveTo ∷ CustomXml ∷ SdtContent ∷ SdtEndPr ∷ TxbxContent ∷ AltChunk ∷ Comment ∷ Comments ∷ Footnote
    ∷ Footnotes ∷ Endnote ∷ Endnotes ∷ Document ∷ CellIns ∷ CellDel ∷ CellMerge ∷ DelText ∷ DelInstrText ∷ HeaderReference
    ∷ FooterReference ∷ RPrChange ∷ PPrChange ∷ SectPrChange ∷ TblPrChange ∷ TblPrExChange ∷ TrPrChange ∷ TcPrChange ∷ MoveFromRangeStart ∷ MoveFromRangeEnd
    ∷ MoveToRangeStart ∷ MoveToRangeEnd ∷ []

-- the number of the word with this name, or 0 where none of these has it
abbrev pub number_among : List Word → List ℕ → ℕ
number_among [] name = 0
number_among (word ∷ words) name = if bytes_eq name (name_of word) then number word else number_among words name

-- the number of the word that a local name in this namespace is, or 0 where it is none
abbrev pub number_in : Space → List ℕ → ℕ
number_in W name = number_among words name
number_in _ name = 0

-- a number below 256 for a name, by which the code finds the one word that it can be
abbrev pub place : List ℕ → ℕ
place [] = 0
place (first ∷ rest) =
    bit_and (155 * first + 80 * get_or (first ∷ rest) 1 0 + 125 * get_or (first ∷ rest) (length rest) 0 + 183 * bit_and (length (first ∷ rest)) 255) 255

-- the number of the word with this name, of those in this place
abbrev pub number_by_place : List Word → ℕ → List ℕ → ℕ
number_by_place [] place_now name = 0
number_by_place (word ∷ words) place_now name =
    if place_now == place (name_of word) then (if bytes_eq name (name_of word) then number word else 0)
    else number_by_place words place_now name
