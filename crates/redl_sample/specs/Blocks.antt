-- The blocks of the sample: paragraphs and tables that show each kind of revision in turn (our own rule).
use Rattle.std.specs.Prelude.{ℕ, ◌%◌, ◌==◌, List, [], ◌∷◌, codes, decimal, if◌then◌else◌}
use Rattle.std.specs.List.{flat_map}
use Rattle.redl_sample.specs.declared.block.Form.{Form}
use Rattle.redl_sample.specs.declared.block.Form.TheVariants.{Plain, Insertion, Deletion, Mark, Both, Properties, Table, Move}

-- the text of a block of each form, with `#` for the block's number
unfoldable pub template : Form → List ℕ
template Plain = codes "<w:p><w:r><w:t>plain #</w:t></w:r></w:p>"
template Insertion = codes "<w:p><w:ins w:id=\"#\" w:author=\"Ann\"><w:r><w:t>new #</w:t></w:r></w:ins></w:p>"
template Deletion = codes "<w:p><w:del w:id=\"#\" w:author=\"Bob\"><w:r><w:delText>old #</w:delText></w:r></w:del></w:p>"
template Mark = codes "<w:p><w:pPr><w:rPr><w:del w:id=\"#\" w:author=\"Ann\"/></w:rPr></w:pPr><w:r><w:t>join #</w:t></w:r></w:p>"
template Both = codes "<w:p><w:ins w:id=\"#\" w:author=\"Bob\"><w:del w:id=\"#\" w:author=\"Ann\"><w:r><w:delText>both #</w:delText></w:r></w:del></w:ins></w:p>"
template Properties = codes "<w:p><w:r><w:rPr><w:b/><w:rPrChange w:id=\"#\" w:author=\"Cy\"><w:rPr><w:i/></w:rPr></w:rPrChange></w:rPr><w:t>bold #</w:t></w:r></w:p>"
template Table = codes "<w:tbl><w:tr><w:trPr><w:ins w:id=\"#\" w:author=\"Ann\"/></w:trPr><w:tc><w:p/></w:tc></w:tr><w:tr><w:tc><w:tcPr><w:cellDel w:id=\"#\" w:author=\"Bob\"/></w:tcPr><w:p/></w:tc><w:tc><w:p/></w:tc></w:tr></w:tbl>"
template Move = codes "<w:p><w:moveFromRangeStart w:id=\"#\" w:author=\"Cy\" w:name=\"m#\"/><w:moveFrom w:id=\"#\" w:author=\"Cy\"><w:r><w:t>move #</w:t></w:r></w:moveFrom><w:moveFromRangeEnd w:id=\"#\"/></w:p><w:p><w:moveToRangeStart w:id=\"#\" w:author=\"Cy\" w:name=\"m#\"/><w:moveTo w:id=\"#\" w:author=\"Cy\"><w:r><w:t>move #</w:t></w:r></w:moveTo><w:moveToRangeEnd w:id=\"#\"/></w:p>"

-- the form of the block with this number: eight of them, in turn
abbrev pub form_at : ℕ → Form
form_at number =
    if number % 8 == 0 then Plain
    else if number % 8 == 1 then Insertion
    else if number % 8 == 2 then Deletion
    else if number % 8 == 3 then Mark
    else if number % 8 == 4 then Both
    else if number % 8 == 5 then Properties
    else if number % 8 == 6 then Table
    else Move

-- the byte, or the digits for a `#`
abbrev pub filled_byte : List ℕ → ℕ → List ℕ
filled_byte digits byte = if byte == 35 then digits else byte ∷ []

-- the template with the digits for each `#`
abbrev pub filled : List ℕ → List ℕ → List ℕ
filled digits template = flat_map (filled_byte digits) template

-- the block with this number, which stands in it in decimal
abbrev pub block_text : ℕ → List ℕ
block_text number = filled (decimal number) (template (form_at number))
