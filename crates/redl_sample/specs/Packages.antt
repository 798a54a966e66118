-- The package of the sample, and how many revisions it has (our own rule).
use Rattle.std.specs.Prelude.{ℕ, ◌+◌, ◌*◌, ◌/◌, ◌%◌, ◌==◌, List, ◌++◌, codes, if◌then◌else◌, nat_lt}
use Rattle.std.specs.List.{flat_map, range_with_len}
use Rattle.redl_sample.specs.Blocks.{block_text}

-- the text before the blocks: a package of one part, down to the start of the body
unfoldable pub opening : List ℕ
opening = codes "<?xml version=\"1.0\" encoding=\"UTF-8\"?><pkg:package xmlns:pkg=\"http://schemas.microsoft.com/office/2006/xmlPackage\"><pkg:part pkg:name=\"/word/document.xml\" pkg:contentType=\"application/vnd.openxmlformats-officedocument.wordprocessingml.document.main+xml\"><pkg:xmlData><w:document xmlns:w=\"http://schemas.openxmlformats.org/wordprocessingml/2006/main\"><w:body>"

-- the text after the blocks: a last paragraph, and the end tags
unfoldable pub closing : List ℕ
closing = codes "<w:p/></w:body></w:document></pkg:xmlData></pkg:part></pkg:package>"

-- the blocks with the numbers from 0 on, this many of them
abbrev pub blocks_text : ℕ → List ℕ
blocks_text number = flat_map block_text (range_with_len 0 number)

-- the package with this many blocks
abbrev pub package_text : ℕ → List ℕ
package_text number = opening ++ blocks_text number ++ closing

-- the revisions of the first blocks of a turn of eight
abbrev pub begun : ℕ → ℕ
begun blocks =
    if nat_lt blocks 2 then 0
    else if blocks == 2 then 1
    else if blocks == 3 then 2
    else if blocks == 4 then 3
    else if blocks == 5 then 5
    else if blocks == 6 then 6
    else 8

-- the revisions of the package with this many blocks: nine for each turn of eight, and those of the last blocks
abbrev pub revisions : ℕ → ℕ
revisions number = 9 * (number / 8) + begun (number % 8)
