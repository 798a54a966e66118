-- The worked calls compute.
use Rattle.std.proofs.Common.{◌≡◌, refl, sym, subst}
use Rattle.std.specs.Fmt.{digits}
use Rattle.std.specs.Str.{chars, is_utf8}
use lib.Utf8.{encode}
use Rattle.hex.specs.Hex.{decode_pairs, encode_with}
use Rattle.sha2.specs.Sha256.{compress, digest_bytes, first_words, hash_after, rounds, schedule, sha256}
use Rattle.redl_grammar.specs.Characters.{is_character, is_name_character, is_name_start, is_plain_byte, is_space}
use Rattle.redl_grammar.specs.Names.{are_distinct, may_follow, may_start}
use Rattle.redl_grammar.specs.References.{named_at, number_at, reference_at}
use Rattle.redl_grammar.specs.ScanNames.{behind_start, char_at, is_name_byte, name_at, name_end, name_step, word_at}
use Rattle.redl_grammar.specs.ScanPieces.{piece_at}
use Rattle.redl_grammar.specs.ScanStretches.{after_declaration, after_mark, comment_at, declaration_at, instruction_at, instruction_end, item_at, items_end, setting_at, stretch_at, stretch_step, version_at}
use Rattle.redl_grammar.specs.ScanTags.{attribute_at, attribute_in, attributes_at, end_tag_at, ends_tag, equated_at, is_value, is_value_byte, opening_at, quote_at, quoted_at, tag_at, tail_at, tail_step, value_at}
use Rattle.redl_grammar.specs.Stretches.{is_version}
use Rattle.redl_markup.specs.Attributes.{attributes_of}
use Rattle.redl_xml.specs.Inside.Documents.{document_at, stretch_in}
use Rattle.redl_xml.specs.Inside.Elements.{declared_in, element_at, element_step, entered, known, with_attribute}
use Rattle.redl_xml.specs.Scopes.{is_known, is_xml_namespace, is_xml_prefix, is_xmlns, may_declare, space_named}
use Rattle.redl_inputs.specs.Readers.{Reader, IsReader}
use Rattle.redl_journal.specs.Journals.{is_visible}
use Rattle.redl_journal.specs.Reading.{count_at, digest_at, digest_in, entries_in, entries_step, entry_at, entry_in, head_at, is_reviewer, journal_in, number_in, rank_at, title_at, word_in}
use Rattle.redl_outcome.specs.Brought.{Brought}
use Rattle.redl_reading.specs.Lists.{field_at}
use Rattle.redl_terminal.specs.Masks.{hidden_length}
use Rattle.redl_words.specs.Reading.Commands.{check_in, command_in, join_in, sample_in, say_in, settle_in, text_in, verb_in, view_in, write_in}
use Rattle.redl_words.specs.Reading.Items.{gathered, locking_option, option_in, with_lone, with_option, with_plain_journal, with_word}
use Rattle.redl_words.specs.Reading.Locks.{lock_in}
use Rattle.redl_worked.proofs.Functions.{every_reader}
use Rattle.redl_worked.specs.Calls.{AreWorkedOut}
use Rattle.redl_worked.specs.Functions.{functions}

by_functions : (brought : Brought) → AreWorkedOut functions brought
unfolding document_at stretch_in element_at element_step entered known with_attribute declared_in piece_at stretch_at stretch_step items_end item_at tag_at tail_at tail_step attributes_at attribute_at attribute_in ends_tag end_tag_at equated_at is_value is_value_byte opening_at quote_at quoted_at value_at name_at name_end name_step word_at behind_start char_at is_name_byte after_mark after_declaration declaration_at version_at setting_at comment_at instruction_at instruction_end is_space is_name_start is_name_character is_plain_byte may_start may_follow are_distinct named_at number_at reference_at is_version attributes_of field_at is_known is_xmlns is_xml_prefix is_xml_namespace may_declare space_named is_character is_utf8 chars encode digits encode_with decode_pairs journal_in head_at title_at digest_at digest_in count_at entries_in entries_step entry_at entry_in rank_at word_in number_in is_reviewer is_visible check_in command_in join_in sample_in say_in settle_in text_in verb_in view_in write_in gathered locking_option option_in with_lone with_option with_plain_journal with_word lock_in hidden_length first_words schedule rounds compress hash_after digest_bytes sha256
by_functions brought = record {
  accepted = refl;
  rejected = refl;
  decided = refl;
  undecided = refl;
  locked = refl;
  sound = refl;
  final = refl;
  original = refl;
  joined = refl;
  joined_again = refl;
  no_words = refl;
  few_words = refl;
  unreadable = refl;
  no_package = refl;
  malformed = refl;
  of_another = refl;
  unjoined = refl;
  missing = refl;
  missing_journal = refl;
  over_limit = refl;
}

-- so they do by every reader
pub worked_out : (reader : Reader) → IsReader reader → (brought : Brought) → AreWorkedOut reader brought
worked_out reader is brought = subst (λ (r : Reader). AreWorkedOut r brought) (sym (every_reader reader is)) (by_functions brought)
