-- Texts and their trees (XML 1.0, fifth edition, by its productions; Namespaces in XML 1.0).
use Prim.Native.String.{String}
use Rattle.std.proofs.Common.{◌≡◌, ℕ, List, [], ◌∷◌, ◌++◌, Option, None, Some, codes, refl}
use Rattle.redl_grammar.specs.Characters.{is_character, is_name_character, is_name_start, is_plain_byte, is_space}
use Rattle.redl_grammar.specs.Names.{are_distinct, may_follow, may_start}
use Rattle.redl_grammar.specs.References.{named_at, number_at, reference_at}
use Rattle.redl_grammar.specs.ScanNames.{behind_start, char_at, is_name_byte, name_at, name_end, name_step, word_at}
use Rattle.redl_grammar.specs.ScanPieces.{piece_at}
use Rattle.redl_grammar.specs.ScanStretches.{after_declaration, after_mark, comment_at, declaration_at, instruction_at, instruction_end, item_at, items_end, setting_at, stretch_at, stretch_step, version_at}
use Rattle.redl_grammar.specs.ScanTags.{attribute_at, attribute_in, attributes_at, end_tag_at, ends_tag, equated_at, is_value, is_value_byte, opening_at, quote_at, quoted_at, tag_at, tail_at, tail_step, value_at}
use Rattle.redl_grammar.specs.Stretches.{is_version}
use Rattle.redl_markup.specs.Attributes.{attributes_of}
use Rattle.redl_reading.specs.Lists.{field_at}
use Rattle.redl_tree.specs.Model.Nodes.{Close, Empty, End, Nodes, no_nodes, bytes, element, ◌⊕◌}
use Rattle.redl_tree.specs.declared.kinds.Kind.TheVariants.{Plain}
use Rattle.redl_tree.specs.declared.kinds.Space.{Space}
use Rattle.redl_tree.specs.declared.kinds.Space.TheVariants.{M, Other, Pkg, W}
use Rattle.redl_xml.specs.Inside.Documents.{document_at, stretch_in}
use Rattle.redl_xml.specs.Inside.Elements.{declared_in, element_at, element_step, entered, known, with_attribute}
use Rattle.redl_xml.specs.Scopes.{is_known, is_xml_namespace, is_xml_prefix, is_xmlns, may_declare, space_named}

-- the tree of a text of characters of ASCII
abbrev tree : String → Option Nodes
tree characters = document_at (codes characters)

-- an element of this space, with a prefix, a name, attributes and a way of being closed
abbrev named : Space → String → String → String → Close → Nodes → Nodes
named space prefix name tail close kids =
    element (record { prefix = codes prefix; local = codes name; space = space; tail = codes tail; close = close; kind = Plain; rev = 0 }) kids no_nodes

-- an element in no namespace, with an end tag
abbrev held : String → String → Nodes → Nodes
held name tail kids = named Other "" name tail (End []) kids

-- one that is closed in its start tag
abbrev empty : String → String → Nodes
empty name tail = named Other "" name tail Empty no_nodes

abbrev words : String → Nodes
words characters = bytes (codes characters) no_nodes

-- start tags, end tags and empty elements (productions 39 to 44), and the stretches between them
elements_are_read :
    (tree "<a/>" ≡ Some (empty "a" ""))
    × (tree "<a />" ≡ Some (empty "a" " "))
    × (tree "<a></a>" ≡ Some (held "a" "" no_nodes))
    × (tree "<a>b</a>" ≡ Some (held "a" "" (words "b")))
    × (tree "<a><b/>c<d>e</d></a>" ≡ Some (held "a" "" (empty "b" "" ⊕ words "c" ⊕ held "d" "" (words "e"))))
    × (tree "<a></a >" ≡ Some (named Other "" "a" "" (End (codes " ")) no_nodes))
unfolding document_at stretch_in element_at element_step entered known with_attribute declared_in piece_at stretch_at stretch_step items_end item_at tag_at tail_at tail_step attributes_at attribute_at attribute_in ends_tag end_tag_at equated_at is_value is_value_byte opening_at quote_at quoted_at value_at name_at name_end name_step word_at behind_start char_at is_name_byte after_mark after_declaration declaration_at version_at setting_at comment_at instruction_at instruction_end is_space is_name_start is_name_character is_plain_byte may_start may_follow are_distinct named_at number_at reference_at is_version attributes_of field_at is_known is_xmlns is_xml_prefix is_xml_namespace may_declare space_named is_character
elements_are_read = (refl, refl, refl, refl, refl, refl)

-- each start tag has its end tag (well-formedness constraint Element Type Match), and there is one root (production 1)
elements_match :
    (tree "<a>" ≡ None)
    × (tree "<a></b>" ≡ None)
    × (tree "<a></A>" ≡ None)
    × (tree "<a><b></a></b>" ≡ None)
    × (tree "<a/><b/>" ≡ None)
    × (tree "" ≡ None)
    × (tree "a" ≡ None)
    × (tree "a<b/>" ≡ None)
    × (tree "<b/>a" ≡ None)
    × (tree "< a/>" ≡ None)
    × (tree "<1/>" ≡ None)
    × (tree "<a/ >" ≡ None)
unfolding document_at stretch_in element_at element_step entered known with_attribute declared_in piece_at stretch_at stretch_step items_end item_at tag_at tail_at tail_step attributes_at attribute_at attribute_in ends_tag end_tag_at equated_at is_value is_value_byte opening_at quote_at quoted_at value_at name_at name_end name_step word_at behind_start char_at is_name_byte after_mark after_declaration declaration_at version_at setting_at comment_at instruction_at instruction_end is_space is_name_start is_name_character is_plain_byte may_start may_follow are_distinct named_at number_at reference_at is_version attributes_of field_at is_known is_xmlns is_xml_prefix is_xml_namespace may_declare space_named is_character
elements_match = (refl, refl, refl, refl, refl, refl, refl, refl, refl, refl, refl, refl)

-- attributes (productions 10 and 41), each name once (Unique Att Spec)
attributes_are_read :
    (tree "<a b=\"c\"/>" ≡ Some (empty "a" " b=\"c\""))
    × (tree "<a b='c'/>" ≡ Some (empty "a" " b='c'"))
    × (tree "<a b = 'c' />" ≡ Some (empty "a" " b = 'c' "))
    × (tree "<a b='\"'/>" ≡ Some (empty "a" " b='\"'"))
    × (tree "<a b='1' c='2'/>" ≡ Some (empty "a" " b='1' c='2'"))
    × (tree "<a b/>" ≡ None)
    × (tree "<a b=c/>" ≡ None)
    × (tree "<a b='c/>" ≡ None)
    × (tree "<a b='<'/>" ≡ None)
    × (tree "<a b='&'/>" ≡ None)
    × (tree "<a b='1'c='2'/>" ≡ None)
    × (tree "<a b='1' b='2'/>" ≡ None)
unfolding document_at stretch_in element_at element_step entered known with_attribute declared_in piece_at stretch_at stretch_step items_end item_at tag_at tail_at tail_step attributes_at attribute_at attribute_in ends_tag end_tag_at equated_at is_value is_value_byte opening_at quote_at quoted_at value_at name_at name_end name_step word_at behind_start char_at is_name_byte after_mark after_declaration declaration_at version_at setting_at comment_at instruction_at instruction_end is_space is_name_start is_name_character is_plain_byte may_start may_follow are_distinct named_at number_at reference_at is_version attributes_of field_at is_known is_xmlns is_xml_prefix is_xml_namespace may_declare space_named is_character
attributes_are_read = (refl, refl, refl, refl, refl, refl, refl, refl, refl, refl, refl, refl)

-- references (66 to 68): the five names that are declared, and allowed characters
references_are_read :
    (tree "<a>&amp;&lt;&gt;&quot;&apos;</a>" ≡ Some (held "a" "" (words "&amp;&lt;&gt;&quot;&apos;")))
    × (tree "<a>&#65;&#x41;</a>" ≡ Some (held "a" "" (words "&#65;&#x41;")))
    × (tree "<a b='&#10;'/>" ≡ Some (empty "a" " b='&#10;'"))
    × (tree "<a>&nbsp;</a>" ≡ None)
    × (tree "<a>&#0;</a>" ≡ None)
    × (tree "<a>&#x1F;</a>" ≡ None)
    × (tree "<a>&#xFFFF;</a>" ≡ None)
    × (tree "<a>& </a>" ≡ None)
    × (tree "<a>&amp</a>" ≡ None)
unfolding document_at stretch_in element_at element_step entered known with_attribute declared_in piece_at stretch_at stretch_step items_end item_at tag_at tail_at tail_step attributes_at attribute_at attribute_in ends_tag end_tag_at equated_at is_value is_value_byte opening_at quote_at quoted_at value_at name_at name_end name_step word_at behind_start char_at is_name_byte after_mark after_declaration declaration_at version_at setting_at comment_at instruction_at instruction_end is_space is_name_start is_name_character is_plain_byte may_start may_follow are_distinct named_at number_at reference_at is_version attributes_of field_at is_known is_xmlns is_xml_prefix is_xml_namespace may_declare space_named is_character
references_are_read = (refl, refl, refl, refl, refl, refl, refl, refl, refl)

-- character data (14), comments (15), instructions (16 and 17) and CDATA (18 to 21) are one stretch
data_are_read :
    (tree "<a>]]</a>" ≡ Some (held "a" "" (words "]]")))
    × (tree "<a>]]></a>" ≡ None)
    × (tree "<a>b<!--c-->d</a>" ≡ Some (held "a" "" (words "b<!--c-->d")))
    × (tree "<a><!----></a>" ≡ Some (held "a" "" (words "<!---->")))
    × (tree "<a><!--b--c--></a>" ≡ None)
    × (tree "<a><!--b---></a>" ≡ None)
    × (tree "<a><?b c?></a>" ≡ Some (held "a" "" (words "<?b c?>")))
    × (tree "<a><?b?></a>" ≡ Some (held "a" "" (words "<?b?>")))
    × (tree "<a><?XML b?></a>" ≡ None)
    × (tree "<a><![CDATA[<b>]]></a>" ≡ Some (held "a" "" (words "<![CDATA[<b>]]>")))
    × (tree "<a><![CDATA[b]]</a>" ≡ None)
unfolding document_at stretch_in element_at element_step entered known with_attribute declared_in piece_at stretch_at stretch_step items_end item_at tag_at tail_at tail_step attributes_at attribute_at attribute_in ends_tag end_tag_at equated_at is_value is_value_byte opening_at quote_at quoted_at value_at name_at name_end name_step word_at behind_start char_at is_name_byte after_mark after_declaration declaration_at version_at setting_at comment_at instruction_at instruction_end is_space is_name_start is_name_character is_plain_byte may_start may_follow are_distinct named_at number_at reference_at is_version attributes_of field_at is_known is_xmlns is_xml_prefix is_xml_namespace may_declare space_named is_character
data_are_read = (refl, refl, refl, refl, refl, refl, refl, refl, refl, refl, refl)

-- before and after the root: the declaration (23 to 26, 32 and 80), comments, instructions and white space (22 and 27); no document type (our own rule)
prologs_are_read :
    (tree "<?xml version='1.0'?><a/>" ≡ Some (words "<?xml version='1.0'?>" ⊕ empty "a" ""))
    × (tree "<?xml version='1.1' encoding='utf-8' standalone='yes'?><a/>" ≡ Some (words "<?xml version='1.1' encoding='utf-8' standalone='yes'?>" ⊕ empty "a" ""))
    × (tree " <!--b--> <a/> <?c?>" ≡ Some (words " <!--b--> " ⊕ empty "a" "" ⊕ words " <?c?>"))
    × (tree "<?xml version='2.0'?><a/>" ≡ None)
    × (tree "<?xml?><a/>" ≡ None)
    × (tree "<?xml version='1.0' encoding='UTF-16'?><a/>" ≡ None)
    × (tree "<?xml version='1.0' standalone='y'?><a/>" ≡ None)
    × (tree " <?xml version='1.0'?><a/>" ≡ None)
    × (tree "<!DOCTYPE a><a/>" ≡ None)
    × (tree "<![CDATA[b]]><a/>" ≡ None)
    × (tree "<a/>&amp;" ≡ None)
unfolding document_at stretch_in element_at element_step entered known with_attribute declared_in piece_at stretch_at stretch_step items_end item_at tag_at tail_at tail_step attributes_at attribute_at attribute_in ends_tag end_tag_at equated_at is_value is_value_byte opening_at quote_at quoted_at value_at name_at name_end name_step word_at behind_start char_at is_name_byte after_mark after_declaration declaration_at version_at setting_at comment_at instruction_at instruction_end is_space is_name_start is_name_character is_plain_byte may_start may_follow are_distinct named_at number_at reference_at is_version attributes_of field_at is_known is_xmlns is_xml_prefix is_xml_namespace may_declare space_named is_character
prologs_are_read = (refl, refl, refl, refl, refl, refl, refl, refl, refl, refl, refl)

-- an element is of the namespace of the nearest declaration of its prefix (Namespaces in XML 1.0, sections 3, 5 and 6.1; ECMA-376 Part 1, annex A)
spaces_are_those_of_declarations :
    (tree "<w:p xmlns:w='http://schemas.openxmlformats.org/wordprocessingml/2006/main'/>" ≡ Some (named W "w" "p" " xmlns:w='http://schemas.openxmlformats.org/wordprocessingml/2006/main'" Empty no_nodes))
    × (tree "<w:p xmlns:w='http://purl.oclc.org/ooxml/wordprocessingml/main'/>" ≡ Some (named W "w" "p" " xmlns:w='http://purl.oclc.org/ooxml/wordprocessingml/main'" Empty no_nodes))
    × (tree "<p xmlns='http://schemas.openxmlformats.org/wordprocessingml/2006/main'/>" ≡ Some (named W "" "p" " xmlns='http://schemas.openxmlformats.org/wordprocessingml/2006/main'" Empty no_nodes))
    × (tree "<m:r xmlns:m='http://schemas.openxmlformats.org/officeDocument/2006/math'/>" ≡ Some (named M "m" "r" " xmlns:m='http://schemas.openxmlformats.org/officeDocument/2006/math'" Empty no_nodes))
    × (tree "<p:part xmlns:p='http://schemas.microsoft.com/office/2006/xmlPackage'/>" ≡ Some (named Pkg "p" "part" " xmlns:p='http://schemas.microsoft.com/office/2006/xmlPackage'" Empty no_nodes))
    × (tree "<w:p xmlns:w='http://schemas.openxmlformats.org/wordprocessingml/2006/main/'/>" ≡ Some (named Other "w" "p" " xmlns:w='http://schemas.openxmlformats.org/wordprocessingml/2006/main/'" Empty no_nodes))
    × (tree "<w:a xmlns:w='http://schemas.openxmlformats.org/wordprocessingml/2006/main'><w:b xmlns:w='c'/><w:d/></w:a>" ≡ Some (named W "w" "a" " xmlns:w='http://schemas.openxmlformats.org/wordprocessingml/2006/main'" (End []) (named Other "w" "b" " xmlns:w='c'" Empty no_nodes ⊕ named W "w" "d" "" Empty no_nodes)))
    × (tree "<a xmlns='http://schemas.openxmlformats.org/wordprocessingml/2006/main'><b xmlns=''/></a>" ≡ Some (named W "" "a" " xmlns='http://schemas.openxmlformats.org/wordprocessingml/2006/main'" (End []) (named Other "" "b" " xmlns=''" Empty no_nodes)))
unfolding document_at stretch_in element_at element_step entered known with_attribute declared_in piece_at stretch_at stretch_step items_end item_at tag_at tail_at tail_step attributes_at attribute_at attribute_in ends_tag end_tag_at equated_at is_value is_value_byte opening_at quote_at quoted_at value_at name_at name_end name_step word_at behind_start char_at is_name_byte after_mark after_declaration declaration_at version_at setting_at comment_at instruction_at instruction_end is_space is_name_start is_name_character is_plain_byte may_start may_follow are_distinct named_at number_at reference_at is_version attributes_of field_at is_known is_xmlns is_xml_prefix is_xml_namespace may_declare space_named is_character
spaces_are_those_of_declarations = (refl, refl, refl, refl, refl, refl, refl, refl)

-- each prefix is declared (section 5), and declarations keep to the reserved ones (section 3)
prefixes_are_declared :
    (tree "<w:p/>" ≡ None)
    × (tree "<a w:b='c'/>" ≡ None)
    × (tree "<a><b xmlns:w='c'/><w:d/></a>" ≡ None)
    × (tree "<a xml:space='preserve'/>" ≡ Some (empty "a" " xml:space='preserve'"))
    × (tree "<a xmlns:w=''/>" ≡ None)
    × (tree "<a xmlns:xmlns='b'/>" ≡ None)
    × (tree "<a xmlns:xml='b'/>" ≡ None)
    × (tree "<a xmlns:xml='http://www.w3.org/XML/1998/namespace'/>" ≡ Some (empty "a" " xmlns:xml='http://www.w3.org/XML/1998/namespace'"))
    × (tree "<xmlns:a/>" ≡ None)
    × (tree "<a:b:c xmlns:a='d'/>" ≡ None)
unfolding document_at stretch_in element_at element_step entered known with_attribute declared_in piece_at stretch_at stretch_step items_end item_at tag_at tail_at tail_step attributes_at attribute_at attribute_in ends_tag end_tag_at equated_at is_value is_value_byte opening_at quote_at quoted_at value_at name_at name_end name_step word_at behind_start char_at is_name_byte after_mark after_declaration declaration_at version_at setting_at comment_at instruction_at instruction_end is_space is_name_start is_name_character is_plain_byte may_start may_follow are_distinct named_at number_at reference_at is_version attributes_of field_at is_known is_xmlns is_xml_prefix is_xml_namespace may_declare space_named is_character
prefixes_are_declared = (refl, refl, refl, refl, refl, refl, refl, refl, refl, refl)
