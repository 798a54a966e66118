-- Packages in one XML text: their shape, their parts, and which of these are stories (ECMA-376 Part 1, 17.2.3, 17.10.3, 17.10.4, 17.11.9,
-- 17.11.15 and 17.13.4.6; the form of the package is Office's xmlPackage of 2006).
use Prim.Native.String.{String}
use Rattle.std.proofs.Common.{◌≡◌, ℕ, List, [], ◌∷◌, ◌++◌, Option, None, Some, codes, length, map, refl}
use Rattle.std.specs.Option.{option_map}
use lib.Utf8.{encode}
use Rattle.redl_grammar.specs.Characters.{is_character, is_name_character, is_name_start, is_plain_byte, is_space}
use Rattle.redl_grammar.specs.Names.{are_distinct, may_follow, may_start}
use Rattle.redl_grammar.specs.References.{named_at, number_at, reference_at}
use Rattle.redl_grammar.specs.ScanNames.{behind_start, char_at, is_name_byte, name_at, name_end, name_step, word_at}
use Rattle.redl_grammar.specs.ScanPieces.{piece_at}
use Rattle.redl_grammar.specs.ScanStretches.{after_declaration, after_mark, comment_at, declaration_at, instruction_at, instruction_end, item_at, items_end, setting_at, stretch_at, stretch_step, version_at}
use Rattle.redl_grammar.specs.ScanTags.{attribute_at, attribute_in, attributes_at, end_tag_at, ends_tag, equated_at, is_value, is_value_byte, opening_at, quote_at, quoted_at, tag_at, tail_at, tail_step, value_at}
use Rattle.redl_grammar.specs.Stretches.{is_version}
use Rattle.redl_markup.specs.Attributes.{attributes_of}
use Rattle.redl_reading.specs.Lists.{field_at}
use Rattle.redl_xml.specs.Inside.Documents.{document_at, stretch_in}
use Rattle.redl_xml.specs.Inside.Elements.{declared_in, element_at, element_step, entered, known, with_attribute}
use Rattle.redl_xml.specs.Scopes.{is_known, is_xml_namespace, is_xml_prefix, is_xmlns, may_declare, space_named}
use Rattle.redl_opc.specs.Elements.{Element}
use Rattle.redl_opc.specs.Parts.{part_name, story}
use Rattle.redl_opc.specs.Shape.{parts_of, refusal}
use Rattle.redl_opc.specs.declared.error.OpcError.{OpcError}
use Rattle.redl_opc.specs.declared.error.OpcError.TheVariants.{NoDocument, NotPackage, PartShape}
use Rattle.redl_tree.specs.Decisions.Packages.{stories}
use Rattle.redl_tree.specs.Model.Nodes.{Nodes, no_nodes}

-- ---- texts of packages

abbrev packed : List ℕ → List ℕ
packed parts = codes "<p:package xmlns:p='http://schemas.microsoft.com/office/2006/xmlPackage' xmlns:w='http://schemas.openxmlformats.org/wordprocessingml/2006/main'>" ++ (parts ++ codes "</p:package>")

-- a part with these attributes, which holds this
abbrev part_with : String → List ℕ → List ℕ
part_with attributes held = codes "<p:part" ++ (codes attributes ++ (62 ∷ (held ++ codes "</p:part>")))

-- a part with a name and a content type
abbrev part : List ℕ → List ℕ
part held = part_with " p:name='/n' p:contentType='c'" held

abbrev xml_data : String → List ℕ
xml_data held = codes "<p:xmlData>" ++ (codes held ++ codes "</p:xmlData>")

-- a document
abbrev document : List ℕ
document = part (xml_data "<w:document/>")

-- ---- what is told of them

-- the nodes of a text, or none
abbrev nodes_of : Option Nodes → Nodes
nodes_of None = no_nodes
nodes_of (Some nodes) = nodes

-- why a text with a tree is no package, if it is none
abbrev shape_of : List ℕ → Option (Option OpcError)
shape_of text = option_map refusal (document_at text)

-- the names of the roots of a package's stories
abbrev story_names : List ℕ → List (List ℕ)
story_names text = map (λ (story : Element). story.tag.local) (stories (nodes_of (document_at text)))

-- a package is a `package` of parts, of which one is a document
packages_have_a_document :
    (shape_of (packed document) ≡ Some None)
    × (shape_of (packed (document ++ document)) ≡ Some None)
    × (shape_of (packed (codes "\n" ++ document ++ codes "<!--c-->")) ≡ Some None)
    × (shape_of (codes "<package/>") ≡ Some (Some NotPackage))
    × (shape_of (codes "<w:document xmlns:w='http://schemas.openxmlformats.org/wordprocessingml/2006/main'/>") ≡ Some (Some NotPackage))
    × (shape_of (packed []) ≡ Some (Some NoDocument))
    × (shape_of (packed (part (xml_data "<w:styles/>"))) ≡ Some (Some NoDocument))
    × (shape_of (packed (part (xml_data "<w:hdr/>"))) ≡ Some (Some NoDocument))
    × (shape_of (packed (part (xml_data "<document/>"))) ≡ Some (Some NoDocument))
    × (shape_of (packed (part (codes "<p:binaryData><w:document/></p:binaryData>"))) ≡ Some (Some NoDocument))
    × (shape_of (packed (part (xml_data "<d xmlns='http://purl.oclc.org/ooxml/wordprocessingml/main'/>"))) ≡ Some (Some NoDocument))
    × (shape_of (packed (part (xml_data "<document xmlns='http://purl.oclc.org/ooxml/wordprocessingml/main'/>"))) ≡ Some None)
    × (shape_of (packed document ++ codes "<a/>") ≡ None)
unfolding document_at stretch_in element_at element_step entered known with_attribute declared_in piece_at stretch_at stretch_step items_end item_at tag_at tail_at tail_step attributes_at attribute_at attribute_in ends_tag end_tag_at equated_at is_value is_value_byte opening_at quote_at quoted_at value_at name_at name_end name_step word_at behind_start char_at is_name_byte after_mark after_declaration declaration_at version_at setting_at comment_at instruction_at instruction_end is_space is_name_start is_name_character is_plain_byte may_start may_follow are_distinct named_at number_at reference_at is_version attributes_of field_at is_known is_xmlns is_xml_prefix is_xml_namespace may_declare space_named is_character
packages_have_a_document = (refl, refl, refl, refl, refl, refl, refl, refl, refl, refl, refl, refl, refl)

-- each part has a name, a content type, and one element of data
parts_have_a_shape :
    (shape_of (packed (document ++ part_with " p:name='/n'" (xml_data "<a/>"))) ≡ Some (Some PartShape))
    × (shape_of (packed (document ++ part_with " p:contentType='c'" (xml_data "<a/>"))) ≡ Some (Some PartShape))
    × (shape_of (packed (document ++ part_with " name='/n' contentType='c'" (xml_data "<a/>"))) ≡ Some None)
    × (shape_of (packed (document ++ part [])) ≡ Some (Some PartShape))
    × (shape_of (packed (document ++ part (codes "text"))) ≡ Some (Some PartShape))
    × (shape_of (packed (document ++ part (xml_data "<a/>" ++ xml_data "<b/>"))) ≡ Some (Some PartShape))
    × (shape_of (packed (document ++ part (xml_data ""))) ≡ Some (Some PartShape))
    × (shape_of (packed (document ++ part (xml_data "<a/><b/>"))) ≡ Some (Some PartShape))
    × (shape_of (packed (document ++ part (xml_data "b<a/>c"))) ≡ Some None)
    × (shape_of (packed (document ++ part (codes "<p:binaryData>AA==</p:binaryData>"))) ≡ Some None)
    × (shape_of (packed (document ++ part (codes "<p:binaryData/>"))) ≡ Some None)
    × (shape_of (packed (document ++ part (codes "<p:other/>"))) ≡ Some (Some PartShape))
    × (shape_of (packed (document ++ codes "<p:other/>")) ≡ Some (Some PartShape))
    × (shape_of (packed (document ++ codes "<part/>")) ≡ Some (Some PartShape))
unfolding document_at stretch_in element_at element_step entered known with_attribute declared_in piece_at stretch_at stretch_step items_end item_at tag_at tail_at tail_step attributes_at attribute_at attribute_in ends_tag end_tag_at equated_at is_value is_value_byte opening_at quote_at quoted_at value_at name_at name_end name_step word_at behind_start char_at is_name_byte after_mark after_declaration declaration_at version_at setting_at comment_at instruction_at instruction_end is_space is_name_start is_name_character is_plain_byte may_start may_follow are_distinct named_at number_at reference_at is_version attributes_of field_at is_known is_xmlns is_xml_prefix is_xml_namespace may_declare space_named is_character
parts_have_a_shape = (refl, refl, refl, refl, refl, refl, refl, refl, refl, refl, refl, refl, refl, refl)

-- a part's name is decoded; parts count from 0
parts_have_names :
    (part_name (nodes_of (document_at (packed (part_with " p:name='/a&amp;b' p:contentType='c'" (xml_data "<w:document/>"))))) 0 ≡ Some (codes "/a&b"))
    × (part_name (nodes_of (document_at (packed (document ++ part_with " p:name='&#47;c' p:contentType='c'" (xml_data "<a/>"))))) 1 ≡ Some (codes "/c"))
    × (part_name (nodes_of (document_at (packed document))) 1 ≡ None)
    × (length (parts_of (nodes_of (document_at (packed (document ++ codes "\n" ++ document))))) ≡ 2)
    × (length (parts_of (nodes_of (document_at (codes "<a><b/></a>")))) ≡ 0)
unfolding document_at stretch_in element_at element_step entered known with_attribute declared_in piece_at stretch_at stretch_step items_end item_at tag_at tail_at tail_step attributes_at attribute_at attribute_in ends_tag end_tag_at equated_at is_value is_value_byte opening_at quote_at quoted_at value_at name_at name_end name_step word_at behind_start char_at is_name_byte after_mark after_declaration declaration_at version_at setting_at comment_at instruction_at instruction_end is_space is_name_start is_name_character is_plain_byte may_start may_follow are_distinct named_at number_at reference_at is_version attributes_of field_at is_known is_xmlns is_xml_prefix is_xml_namespace may_declare space_named is_character encode
parts_have_names = (refl, refl, refl, refl, refl)

-- the stories are the parts whose content is decided: documents, headers, footers, footnotes, endnotes and comments, in their order
stories_are_six_kinds_of_parts :
    (story_names (packed (part (xml_data "<w:document/>") ++ part (xml_data "<w:hdr/>") ++ part (xml_data "<w:ftr/>") ++ part (xml_data "<w:footnotes/>") ++ part (xml_data "<w:endnotes/>") ++ part (xml_data "<w:comments/>"))) ≡ codes "document" ∷ codes "hdr" ∷ codes "ftr" ∷ codes "footnotes" ∷ codes "endnotes" ∷ codes "comments" ∷ [])
    × (story_names (packed (document ++ part (xml_data "<w:styles/>") ++ part (xml_data "<w:numbering/>") ++ part (xml_data "<w:settings/>") ++ part (xml_data "<w:fonts/>") ++ part (xml_data "<w:glossaryDocument/>") ++ part (xml_data "<w:webSettings/>"))) ≡ codes "document" ∷ [])
    × (story_names (packed (part (xml_data "<hdr/>") ++ document)) ≡ codes "document" ∷ [])
    × (story_names (packed (part (xml_data "<a><w:document/></a>") ++ document)) ≡ codes "document" ∷ [])
    × (story_names (packed (part (codes "<p:binaryData><w:hdr/></p:binaryData>") ++ document)) ≡ codes "document" ∷ [])
    × (story (nodes_of (document_at (packed (part (xml_data "<w:styles/>") ++ document)))) 0 ≡ None)
unfolding document_at stretch_in element_at element_step entered known with_attribute declared_in piece_at stretch_at stretch_step items_end item_at tag_at tail_at tail_step attributes_at attribute_at attribute_in ends_tag end_tag_at equated_at is_value is_value_byte opening_at quote_at quoted_at value_at name_at name_end name_step word_at behind_start char_at is_name_byte after_mark after_declaration declaration_at version_at setting_at comment_at instruction_at instruction_end is_space is_name_start is_name_character is_plain_byte may_start may_follow are_distinct named_at number_at reference_at is_version attributes_of field_at is_known is_xmlns is_xml_prefix is_xml_namespace may_declare space_named is_character
stories_are_six_kinds_of_parts = (refl, refl, refl, refl, refl, refl)
