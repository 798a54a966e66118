-- Worked rows: the pictures of a package and their list, by computing.
use Prim.Native.String.{String}
use Rattle.std.proofs.Common.{◌≡◌, ◌++◌, [], codes, refl}
use Rattle.redl_tree.specs.Model.Nodes.{Nodes, no_nodes, bytes, Empty, End, ◌⊕◌}
use Rattle.redl_tree.specs.declared.kinds.Space.TheVariants.{W, Pkg, Other}
use Rattle.redl_tree.proofs.Model.Build.{tag_in, one}
use Rattle.redl_markup.specs.Attributes.{attributes_of}
use Rattle.redl_grammar.specs.Characters.{is_name_start, is_name_character, is_space}
use Rattle.redl_grammar.specs.Names.{may_start, may_follow}
use Rattle.redl_grammar.specs.ScanNames.{name_at, word_at, char_at, name_end, name_step}
use Rattle.redl_grammar.specs.ScanTags.{attribute_in, attribute_at, equated_at, quoted_at, quote_at, is_value}
use Rattle.redl_reading.specs.Lists.{field_at}
use Rattle.redl_html.specs.Pieces.{pieces_text}
use Rattle.redl_page_pictures.specs.List.{package_list}

-- a part with this tail, that has data with this name
part : String → String → Nodes → Nodes
part tail name kids = one (tag_in Pkg "pkg" "part" tail (End [])) (one (tag_in Pkg "pkg" name "" (End [])) kids)

relation : String → Nodes
relation tail = one (tag_in Other "" "Relationship" tail Empty) no_nodes

whole : Nodes
whole = one (tag_in Pkg "pkg" "package" "" (End []))
    (part " pkg:name=\"/word/document.xml\"" "xmlData" (one (tag_in W "w" "document" "" Empty) no_nodes)
    ⊕ part " pkg:name=\"/word/_rels/document.xml.rels\"" "xmlData" (one (tag_in Other "" "Relationships" "" (End []))
    (relation " Id=\"r1\" Type=\"http://x/image\" Target=\"media/a.png\""
    ⊕ relation " Id=\"r2\" Type=\"http://x/image\" Target=\"http://x/b.png\" TargetMode=\"External\""
    ⊕ relation " Id=\"r3\" Type=\"http://x/styles\" Target=\"styles.xml\""))
    ⊕ part " pkg:name=\"/word/media/a.png\" pkg:contentType=\"image/png\"" "binaryData" (bytes (codes "\niVBO\nRw+/\n0==\n") no_nodes)
    ⊕ part " pkg:name=\"/word/media/b.emf\" pkg:contentType=\"image/x-emf\"" "binaryData" (bytes (codes "AQAA") no_nodes))

-- data is written without white space; what is outside the package, is no picture, or has another type is left out
list : pieces_text (package_list whole)
    ≡ codes "<ul class=\"pictures\" hidden>\n"
    ++ (codes "<li data-image=\"/word/media/a.png\"><img alt=\"\" src=\"data:image/png;base64,iVBORw+/0==\"></li>\n"
    ++ (codes "<li data-part=\"/word/document.xml\" data-embed=\"r1\" data-image=\"/word/media/a.png\"></li>\n" ++ codes "</ul>\n"))
unfolding whole part relation attributes_of attribute_in attribute_at name_at word_at char_at name_end name_step may_start may_follow is_name_start is_name_character is_space equated_at quoted_at field_at quote_at is_value
list = refl
