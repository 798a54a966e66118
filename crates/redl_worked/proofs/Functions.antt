-- The functions are a reader, so every reader reads as they do.
use Rattle.std.proofs.Common.{◌≡◌, ◌&&◌, ℕ, List, Bool, true, false, Option, None, Some, refl, sym, ◌∙◌, true≢false, if◌then◌else◌}
use Rattle.std.proofs.lemmas.Str.{IsUtf8-from_is_utf8, is_utf8-from_IsUtf8}
use Rattle.std.specs.List.{list_all}
use Rattle.std.specs.Str.{chars, is_utf8}
use Rattle.redl_grammar.specs.Characters.{IsText, is_character}
use Rattle.redl_inputs.proofs.ReaderLaws.{one_reader}
use Rattle.redl_inputs.specs.Readers.{Reader, IsCommandOf, IsJournalOf, IsReader, IsTreeOf}
use Rattle.redl_journal.proofs.Lines.{journal_again, journal_takes}
use Rattle.redl_journal.specs.Journals.{Journal}
use Rattle.redl_journal.specs.Reading.{journal_in}
use Rattle.redl_markup.proofs.Characters.{tests_text, text_is_utf8}
use Rattle.redl_tree.specs.Model.Nodes.{Nodes}
use Rattle.redl_words.proofs.CommandLaws.{command_again, command_takes}
use Rattle.redl_words.specs.Commands.{Command}
use Rattle.redl_words.specs.Reading.Commands.{command_in}
use Rattle.redl_worked.specs.Functions.{functions, tree_of}
use Rattle.redl_xml.proofs.Answered.{no_text}
use Rattle.redl_xml.proofs.Documents.{no_document, reading_of_document}
use Rattle.redl_xml.specs.Inside.Documents.{document_at}

of_text : (bytes : List ℕ) → IsText bytes → (found : Option Nodes) → document_at bytes ≡ found → IsTreeOf bytes found
of_text bytes is (Some nodes) read = reading_of_document bytes nodes is read
of_text bytes is None none = no_document bytes none

reads_tree : (bytes : List ℕ) → IsTreeOf bytes (tree_of bytes)
reads_tree bytes = by (is_utf8 bytes) refl (list_all is_character (chars bytes)) refl
  where
    by : (utf8 : Bool) → is_utf8 bytes ≡ utf8 → (allowed : Bool) → list_all is_character (chars bytes) ≡ allowed → IsTreeOf bytes (if utf8 && allowed then document_at bytes else None)
    by true is true all = of_text bytes ((tests_text bytes true (IsUtf8-from_is_utf8 bytes is) (sym all)).0 refl) (document_at bytes) refl
    by true is false some = no_text bytes (λ text. true≢false (sym ((tests_text bytes false (IsUtf8-from_is_utf8 bytes is) (sym some)).1 text)))
    by false is allowed some = no_text bytes (λ text. true≢false (sym (is_utf8-from_IsUtf8 bytes (text_is_utf8 bytes text)) ∙ is))

reads_journal : (bytes : List ℕ) → IsJournalOf bytes (journal_in bytes)
reads_journal bytes = by (journal_in bytes) refl
  where
    by : (found : Option Journal) → journal_in bytes ≡ found → IsJournalOf bytes found
    by (Some journal) read = journal_takes bytes journal read
    by None none = λ journal is. let read = journal_again bytes journal is in cc

reads_command : (words : List (List ℕ)) → IsCommandOf words (command_in words)
reads_command words = by (command_in words) refl
  where
    by : (found : Option Command) → command_in words ≡ found → IsCommandOf words found
    by (Some command) read = command_takes words command read
    by None none = λ command is. let read = command_again words command is in cc

pub functions_read : IsReader functions
functions_read = record { trees = reads_tree; journals = reads_journal; commands = reads_command }

pub every_reader : (reader : Reader) → IsReader reader → reader ≡ functions
every_reader reader is = one_reader reader functions is functions_read
