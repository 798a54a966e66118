-- Worked rows: names of parts, where targets lead, and the parts to which relationships lead, by computing.
use Prim.Native.String.{String}
use Rattle.std.proofs.Common.{◌≡◌, [], codes, refl, Some, None}
use Rattle.redl_tree.specs.Model.Nodes.{Nodes, no_nodes, Empty, End, ◌⊕◌}
use Rattle.redl_tree.specs.declared.kinds.Space.TheVariants.{W, Pkg, Other}
use Rattle.redl_tree.proofs.Model.Build.{tag_in, one}
use Rattle.redl_markup.specs.Attributes.{attributes_of}
use Rattle.redl_grammar.specs.Characters.{is_name_start, is_name_character, is_space}
use Rattle.redl_grammar.specs.Names.{may_start, may_follow}
use Rattle.redl_grammar.specs.ScanNames.{name_at, word_at, char_at, name_end, name_step}
use Rattle.redl_grammar.specs.ScanTags.{attribute_in, attribute_at, equated_at, quoted_at, quote_at, is_value}
use Rattle.redl_reading.specs.Lists.{field_at}
use Rattle.redl_relations.specs.Names.{relations_name, target_name}
use Rattle.redl_relations.specs.Relations.{document_part, part_by_type, part_by_id}

of_document : relations_name (codes "/word/document.xml") ≡ codes "/word/_rels/document.xml.rels"
of_document = refl

of_package : relations_name (codes "/") ≡ codes "/_rels/.rels"
of_package = refl

of_top : relations_name (codes "/a.xml") ≡ codes "/_rels/a.xml.rels"
of_top = refl

beside : target_name (codes "/word/document.xml") (codes "header1.xml") ≡ codes "/word/header1.xml"
beside = refl

below : target_name (codes "/word/document.xml") (codes "media/image1.png") ≡ codes "/word/media/image1.png"
below = refl

rooted : target_name (codes "/word/document.xml") (codes "/word/styles.xml") ≡ codes "/word/styles.xml"
rooted = refl

up : target_name (codes "/word/document.xml") (codes "../customXml/item1.xml") ≡ codes "/customXml/item1.xml"
up = refl

here : target_name (codes "/word/document.xml") (codes "./header1.xml") ≡ codes "/word/header1.xml"
here = refl

in_the_middle : target_name (codes "/word/document.xml") (codes "media/../header1.xml") ≡ codes "/word/header1.xml"
in_the_middle = refl

of_root : target_name (codes "/") (codes "word/document.xml") ≡ codes "/word/document.xml"
of_root = refl

-- ---- relationships

-- a part with this name and root
part : String → Nodes → Nodes
part name root = one (tag_in Pkg "pkg" "part" name (End [])) (one (tag_in Pkg "pkg" "xmlData" "" (End [])) root)

relation : String → Nodes
relation tail = one (tag_in Other "" "Relationship" tail Empty) no_nodes

sample : Nodes
sample = one (tag_in Pkg "pkg" "package" "" (End []))
    (part " pkg:name=\"/word/styles.xml\"" (one (tag_in W "w" "styles" "" Empty) no_nodes)
    ⊕ part " pkg:name=\"/word/document.xml\"" (one (tag_in W "w" "document" "" Empty) no_nodes)
    ⊕ part " pkg:name=\"/word/_rels/document.xml.rels\"" (one (tag_in Other "" "Relationships" "" (End []))
    (relation " Id=\"r1\" Type=\"http://x/styles\" Target=\"http://x/styles.xml\" TargetMode=\"External\""
    ⊕ relation " Id=\"r2\" Type=\"http://x/styles\" Target=\"styles.xml\""
    ⊕ relation " Id=\"r3\" Type=\"http://x/header\" Target=\"/word/header1.xml\""))
    ⊕ part " pkg:name=\"/word/header1.xml\"" (one (tag_in W "w" "hdr" "" Empty) no_nodes))

the_document : document_part sample ≡ Some 1
unfolding sample part relation
the_document = refl

-- the first one that leads inside the package
styles : part_by_type sample 1 (codes "/styles") ≡ Some 0
unfolding sample part relation attributes_of attribute_in attribute_at name_at word_at char_at name_end name_step may_start may_follow is_name_start is_name_character is_space equated_at quoted_at field_at quote_at is_value
styles = refl

header : part_by_id sample 1 (codes "r3") ≡ Some 3
unfolding sample part relation attributes_of attribute_in attribute_at name_at word_at char_at name_end name_step may_start may_follow is_name_start is_name_character is_space equated_at quoted_at field_at quote_at is_value
header = refl

outside : part_by_id sample 1 (codes "r1") ≡ None
unfolding sample part relation attributes_of attribute_in attribute_at name_at word_at char_at name_end name_step may_start may_follow is_name_start is_name_character is_space equated_at quoted_at field_at quote_at is_value
outside = refl
