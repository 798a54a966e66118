-- The words of the grammar of XML in one place, for readers: characters, names, tails and values, stretches, and pieces.
pub use Rattle.redl_grammar.specs.Characters.{is_character, is_space, is_name_start, is_name_character, IsText}
pub use Rattle.redl_grammar.specs.Names.{may_start, may_follow, IsWord, Name, name_text, IsName, name_eq, are_distinct}
pub use Rattle.redl_grammar.specs.References.{named_at, number_at, reference_at, has_references}
pub use Rattle.redl_grammar.specs.Tails.{IsSpace, Attribute, attribute_then, IsQuote, IsAttribute}
pub use Rattle.redl_grammar.specs.Tails.{attributes_then, IsTail, named_value, NameAndTail}
pub use Rattle.redl_grammar.specs.Stretches.{is_run, IsRun, is_comment, is_xml, is_apart, IsInstruction}
pub use Rattle.redl_grammar.specs.Stretches.{Item, comment, instruction, cdata, item_then, IsItem, items_then}
pub use Rattle.redl_grammar.specs.Stretches.{is_version, is_encoding, is_standalone, IsSetting, Declaration}
pub use Rattle.redl_grammar.specs.Stretches.{IsDeclaration, declaration_then, byte_order_mark, Head, head_then}
pub use Rattle.redl_grammar.specs.Stretches.{IsHead, no_head, IsStretch, begins_item, ends_stretch}
pub use Rattle.redl_grammar.specs.Pieces.{Piece, start_tag, empty_tag, end_tag, stretch, piece_then, IsPiece}
pub use Rattle.redl_grammar.specs.Pieces.{Follows, Stands, HasNoPiece}
