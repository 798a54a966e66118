-- Worked rows: what is written of nodes.
use Prim.Native.String.{String}
use Rattle.std.proofs.Common.{◌≡◌, ℕ, List, [], ◌∷◌, Some, None, false, bytes_eq, codes, refl, if◌then◌else◌}
use Rattle.redl_tree.specs.Model.Nodes.{Nodes, no_nodes, Empty, End, ◌⊕◌}
use Rattle.redl_tree.specs.declared.kinds.Space.TheVariants.{M, Other}
use Rattle.redl_tree.specs.declared.kinds.Trace.TheVariants.{Ins, Del, From}
use Rattle.redl_tree.specs.declared.kinds.Prop.TheVariants as props
use Rattle.redl_tree.specs.declared.kinds.Kind.TheVariants.{Mark, Row, Cell, Change, Marker}
use Rattle.redl_tree.proofs.Model.Build.{tag_in, one, opened, opened_with, closed, member, content, words, run, deleted_run}
use Rattle.redl_kinds.specs.declared.rev_kind.RevKind.TheVariants as revisions
use Rattle.redl_index.specs.declared.revision.Revision.{Revision}
use Rattle.redl_markup.specs.Attributes.{attributes_of}
use Rattle.redl_grammar.specs.Characters.{is_name_start, is_name_character, is_space}
use Rattle.redl_grammar.specs.Names.{may_start, may_follow}
use Rattle.redl_grammar.specs.References.{reference_at, named_at}
use Rattle.redl_grammar.specs.ScanNames.{name_at, word_at, char_at, name_end, name_step}
use Rattle.redl_grammar.specs.ScanTags.{attribute_in, attribute_at, equated_at, quoted_at, quote_at, is_value}
use Rattle.redl_reading.specs.Lists.{field_at}
use Rattle.redl_shown.specs.Shown.{shown}
use Rattle.redl_hidden.specs.Styles.{hidden_styles, longest_chain}
use Rattle.redl_places.specs.Places.{Signs}
use Rattle.redl_places.specs.declared.sign.NoteSign.TheVariants.{Own, Count}
use Rattle.redl_page_stories.specs.Document.{in_story, nodes_pieces, section}
use Rattle.redl_page_stories.specs.Facts.{Facts}
use Rattle.redl_html.specs.Pieces.{pieces_text}
use Rattle.std.specs.Fmt.{digits}
use lib.Utf8.{encode}

abbrev revision_by : ℕ → String → Revision
revision_by number author = record { number = number; kind = revisions.Content Ins; author = codes author; seconds = None; part = 0; members = 1 }

abbrev authors : List Revision
authors = revision_by 1 "Ann & Co" ∷ revision_by 2 "Bob" ∷ []

-- footnote 3 is the first one, endnote 4 the fourteenth, and endnote 5 has a sign of its own; no style hides
abbrev noted : Signs
noted = record {
  footnote = λ id. if bytes_eq id (codes "3") then Some (Count 1) else None;
  endnote = λ id. if bytes_eq id (codes "4") then Some (Count 14) else if bytes_eq id (codes "5") then Some Own else None;
}

abbrev facts : Facts
facts = record { revisions = authors; signs = noted; hidden = record { styles = []; document = false } }

abbrev written : Nodes → List ℕ
written nodes = pieces_text (nodes_pieces shown facts in_story nodes)

paragraph : Nodes
paragraph =
    opened "p" (opened "pPr" (opened "rPr" (member (Mark Ins) 1 "ins" "" Empty no_nodes)) ⊕ run "Terms " ⊕ content Del 2 "del" "" (deleted_run "of &lt;sale&gt;"))

decided : written paragraph
    ≡ codes "<p>Terms <del class=\"text\" data-revision=\"2\" data-author=\"Bob\">of &lt;sale&gt;</del><ins class=\"mark\" data-revision=\"1\" data-author=\"Ann &amp; Co\">&para;</ins></p>\n"
unfolding paragraph digits reference_at named_at encode longest_chain
decided = refl

table : Nodes
table =
    opened "tbl" (opened "tr" (opened "trPr" (member (Row Del) 2 "del" "" Empty no_nodes)
    ⊕ opened "tc" (opened "tcPr" (member (Cell Ins) 1 "cellIns" "" Empty no_nodes) ⊕ opened "p" (run "Rope"))))

rows : written table
    ≡ codes "<table>\n<tr><td class=\"edge\"><del class=\"row\" data-revision=\"2\" data-author=\"Bob\">row</del></td><td><ins class=\"cell\" data-revision=\"1\" data-author=\"Ann &amp; Co\">cell</ins><p>Rope</p>\n</td></tr>\n</table>\n"
unfolding table digits longest_chain
rows = refl

change : Nodes
change = opened "p" (opened "r" (opened "rPr" (member (Change props.Run) 2 "rPrChange" "" Empty no_nodes) ⊕ closed "tab" "" ⊕ opened "t" (words "x") ⊕ closed "br" ""))

properties : written change ≡ codes "<p><span class=\"props\" data-revision=\"2\" data-author=\"Bob\">run-props</span>\tx<br></p>\n"
unfolding change digits attributes_of attribute_in longest_chain
properties = refl

-- a text box in a paragraph, and text that is no element of a text
box : Nodes
box = opened "p" (opened "r" (opened "pict" (opened "txbxContent" (opened "p" (run "in")))) ⊕ words " ")

held : written box ≡ codes "<div class=\"p\"><span class=\"picture\">picture</span><span class=\"box\"><p>in</p>\n</span></div>\n"
unfolding box longest_chain
held = refl

move : Nodes
move = opened "p" (member Marker 1 "moveFromRangeStart" "" Empty no_nodes ⊕ content From 1 "moveFrom" "" (run "a") ⊕ member Marker 1 "moveFromRangeEnd" "" Empty no_nodes)

moved : written move
    ≡ codes "<p><a id=\"from-1\" href=\"#to-1\" data-revision=\"1\" data-author=\"Ann &amp; Co\">moved away</a><del class=\"text move\" data-revision=\"1\" data-author=\"Ann &amp; Co\">a</del></p>\n"
unfolding move digits longest_chain
moved = refl

-- a heading with a note: its style and its bold run are shown; what is switched off and a separator of notes are not
heading : Nodes
heading =
    opened "p" (opened "pPr" (closed "pStyle" " w:val=\"Heading1\"")
    ⊕ opened "r" (opened "rPr" (closed "b" "" ⊕ closed "i" " w:val=\"0\"") ⊕ opened "t" (words "Price") ⊕ closed "footnoteReference" " w:id=\"3\""))
    ⊕ opened_with "footnote" " w:type=\"separator\" w:id=\"0\"" no_nodes

shown_heading : written heading ≡ codes "<p data-style=\"Heading1\"><b>Price<sup>1</sup></b></p>\n<!--list--><!--/list-->"
unfolding heading digits attributes_of attribute_in attribute_at name_at word_at char_at name_end name_step may_start may_follow is_name_start is_name_character is_space equated_at quoted_at field_at quote_at is_value longest_chain
shown_heading = refl

-- endnotes are counted in small Roman numerals; one has a sign of its own, and one no reference
endnotes : Nodes
endnotes =
    opened "p" (opened "r" (closed "endnoteReference" " w:id=\"4\"" ⊕ closed "endnoteReference" " w:id=\"5\""))
    ⊕ opened_with "endnote" " w:id=\"4\"" (opened "p" (run "See")) ⊕ opened_with "footnote" " w:id=\"9\"" no_nodes

counted : written endnotes ≡ codes "<p><sup>xiv</sup><sup>*</sup></p>\n<!--list--><sup>xiv</sup><p>See</p>\n<!--/list--><!--list--><sup></sup><!--/list-->"
unfolding endnotes attributes_of attribute_in attribute_at name_at word_at char_at name_end name_step may_start may_follow is_name_start is_name_character is_space equated_at quoted_at field_at quote_at is_value longest_chain
counted = refl

-- what a comment is on, its reference, and the comment
remarked : Nodes
remarked =
    opened "p" (closed "commentRangeStart" " w:id=\"7\"" ⊕ run "Fee" ⊕ closed "commentRangeEnd" " w:id=\"7\"" ⊕ opened "r" (closed "commentReference" " w:id=\"7\""))
    ⊕ opened_with "comment" " w:id=\"7\" w:author=\"Ann\"" (opened "p" (run "High?")) ⊕ opened_with "comment" "" no_nodes

remarks : written remarked
    ≡ codes "<p><span class=\"remark-start\" data-remark=\"7\"></span>Fee<span class=\"remark-end\" data-remark=\"7\"></span><sup class=\"remark\" data-remark=\"7\"></sup></p>\n<!--list--><span class=\"remark-own\" data-remark=\"7\"></span><p>High?</p>\n<!--/list--><!--list--><span class=\"remark-own\"></span><!--/list-->"
unfolding remarked attributes_of attribute_in attribute_at name_at word_at char_at name_end name_step may_start may_follow is_name_start is_name_character is_space equated_at quoted_at field_at quote_at is_value longest_chain
remarks = refl

-- a story that is no document: it says of which sort it is, which part, and in a word what it is; of another sort it has the name of its part
footer : pieces_text (section shown facts false (codes "/word/footer1.xml") (codes "ftr") no_nodes)
    ≡ codes "<section data-story=\"ftr\" data-part=\"/word/footer1.xml\">\n<h2>Footer</h2>\n</section>\n"
footer = refl

other : pieces_text (section shown facts false (codes "/a&b.xml") (codes "document") no_nodes)
    ≡ codes "<section data-story=\"document\" data-part=\"/a&amp;b.xml\">\n<h2>/a&amp;b.xml</h2>\n</section>\n"
other = refl

-- a cell over two columns that goes on from the one above, with a paragraph from right to left, and one that begins a column of merged cells
cells : Nodes
cells =
    opened "tc" (opened "tcPr" (closed "gridSpan" " w:val=\"2\"" ⊕ closed "vMerge" "") ⊕ opened "p" (opened "pPr" (closed "bidi" "")))
    ⊕ opened "tc" (opened "tcPr" (closed "vMerge" " w:val=\"restart\""))

merged : written cells ≡ codes "<td colspan=\"2\" class=\"merged\"><p dir=\"rtl\"></p>\n</td><td></td>"
unfolding cells attributes_of attribute_in attribute_at name_at word_at char_at name_end name_step may_start may_follow is_name_start is_name_character is_space equated_at quoted_at field_at quote_at is_value longest_chain
merged = refl

-- blocks that are not joined with those outside
control : Nodes
control = opened "sdt" (opened "sdtContent" (opened "p" no_nodes)) ⊕ opened "altChunk" no_nodes

apart : written control ≡ codes "<!--list--><p></p>\n<!--/list--><!--other--><!--/other-->"
unfolding control attributes_of longest_chain
apart = refl

-- a hidden clause, and a change of its properties
hidden_clause : Nodes
hidden_clause = opened "p" (opened "r" (opened "rPr" (closed "vanish" "" ⊕ closed "b" "" ⊕ member (Change props.Run) 2 "rPrChange" "" Empty no_nodes) ⊕ opened "t" (words "Waived")))

shown_hidden : written hidden_clause
    ≡ codes "<p><span class=\"hidden\"><b><span class=\"props\" data-revision=\"2\" data-author=\"Bob\">run-props</span>Waived</b></span></p>\n"
unfolding hidden_clause digits attributes_of attribute_in attribute_at name_at word_at char_at name_end name_step may_start may_follow is_name_start is_name_character is_space equated_at quoted_at field_at quote_at is_value longest_chain
shown_hidden = refl

-- a run that the style of its paragraph hides, and one that says of itself that it is seen
abbrev styled : Facts
styled = record facts { hidden = hidden_styles (opened_with "style" " w:styleId=\"H\"" (opened "rPr" (closed "vanish" ""))) }

clause : Nodes
clause = opened "p" (opened "pPr" (closed "pStyle" " w:val=\"H\"") ⊕ run "Gone" ⊕ opened "r" (opened "rPr" (closed "vanish" " w:val=\"0\"") ⊕ opened "t" (words "Kept")))

hidden_by_style : pieces_text (nodes_pieces shown styled in_story clause) ≡ codes "<p data-style=\"H\"><span class=\"hidden\">Gone</span>Kept</p>\n"
unfolding clause attributes_of attribute_in attribute_at name_at word_at char_at name_end name_step may_start may_follow is_name_start is_name_character is_space equated_at quoted_at field_at quote_at is_value longest_chain
hidden_by_style = refl

-- an equation: a fraction under a root, a sum, and what stands between two bars
abbrev math : String → String → Nodes → Nodes
math name tail kids = one (tag_in M "m" name tail Empty) kids

abbrev m : String → Nodes → Nodes
m name kids = math name "" kids

abbrev letters : String → Nodes
letters text = m "r" (m "t" (words text))

equation : Nodes
equation =
    m "oMath" (m "rad" (m "deg" (letters "3") ⊕ m "e" (m "f" (m "num" (letters "a &lt; b") ⊕ m "den" (letters "2"))))
    ⊕ m "nary" (m "naryPr" (math "chr" " m:val=\"S\"" no_nodes) ⊕ m "sub" (letters "i") ⊕ m "sup" (letters "n") ⊕ m "e" (letters "i"))
    ⊕ m "d" (m "dPr" (math "begChr" " m:val=\"|\"" no_nodes ⊕ math "endChr" " m:val=\"|\"" no_nodes) ⊕ m "e" (letters "x")))

linear : written equation
    ≡ codes "<span class=\"equation\">&#8730;[3]((a &lt; b)/(2))S_(i)^(n)(i)|(x)|</span>"
unfolding equation attributes_of attribute_in attribute_at name_at word_at char_at name_end name_step may_start may_follow is_name_start is_name_character is_space equated_at quoted_at field_at quote_at is_value reference_at named_at encode longest_chain
linear = refl

-- the usual signs: of an integral, of a mark over a part, and no bars
usual : Nodes
usual = m "nary" (m "e" (letters "f")) ⊕ m "acc" (m "e" (letters "v")) ⊕ m "d" (m "e" (letters "x"))

usual_signs : written usual ≡ codes "&#8747;(f)&#9676;&#770;(v)(x)"
unfolding usual attributes_of attribute_in attribute_at name_at word_at char_at name_end name_step may_start may_follow is_name_start is_name_character is_space equated_at quoted_at field_at quote_at is_value longest_chain
usual_signs = refl

-- a picture with what it shows, and one of which nothing is said
abbrev pictured : String → Nodes
pictured tail = opened "drawing" (one (tag_in Other "wp" "inline" "" (End [])) (one (tag_in Other "wp" "docPr" tail Empty) no_nodes))

pictures : Nodes
pictures = pictured " id=\"1\" descr=\"A &amp; B sign\"" ⊕ pictured " descr=\"\""

described : written pictures
    ≡ codes "<span class=\"picture\">picture: A &amp; B sign</span><!--other--><!--other--><!--/other--><!--/other--><span class=\"picture\">picture</span><!--other--><!--other--><!--/other--><!--/other-->"
unfolding pictures attributes_of attribute_in attribute_at name_at word_at char_at name_end name_step may_start may_follow is_name_start is_name_character is_space equated_at quoted_at field_at quote_at is_value reference_at named_at encode longest_chain
described = refl

-- a picture with the relationship that leads to it
led : Nodes
led = opened "drawing" (one (tag_in Other "a" "graphic" "" (End [])) (one (tag_in Other "a" "blip" " r:embed=\"rId5\"" Empty) no_nodes))

embedded : written led
    ≡ codes "<span class=\"picture\" data-embed=\"rId5\">picture</span><!--other--><!--other--><!--/other--><!--/other-->"
unfolding led attributes_of attribute_in attribute_at name_at word_at char_at name_end name_step may_start may_follow is_name_start is_name_character is_space equated_at quoted_at field_at quote_at is_value longest_chain
embedded = refl
