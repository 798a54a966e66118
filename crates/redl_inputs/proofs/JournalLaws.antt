-- What a reader reads, by what the code read, and the entries of journals.
use Rattle.std.proofs.Common.{◌≡◌, ◌≢◌, ℕ, List, true, false, not, ◌==◌, Option, None, Some, Ok, Err, refl, ap, ◌∙◌}
use Rattle.std.proofs.lemmas.Bool.{false_from_ne_true, eqb-true, eq-eqb, cond-true, cond-false}
use Rattle.std.specs.Str.{bytes_eq}
use Rattle.redl_inputs.specs.Journals.{DocumentId, entries_in}
use Rattle.redl_inputs.specs.Readers.{Reader, IsReader, IsJournalOf}
use Rattle.redl_lines.specs.Failures.{caused, other_document, other_count}
use Rattle.redl_journal.specs.Journals.{Journal, IsJournal, HasNoJournal}
use Rattle.redl_journal.proofs.Lines.{one_reading}

-- ---- what a reader reads

journal_by : (text : List ℕ) (journal : Journal) (read : Option Journal) → IsJournalOf text read → IsJournal text journal → read ≡ Some journal
journal_by text journal None none is = absurd (none journal is)
journal_by text journal (Some other) read is = ap Some (one_reading text other journal read is)

-- a reader reads the journal that a text is
pub reads_journal : (reader : Reader) (text : List ℕ) (journal : Journal) → IsReader reader → IsJournal text journal → reader.journal text ≡ Some journal
reads_journal reader text journal is found = journal_by text journal (reader.journal text) (is.journals text) found

no_journal_by : (text : List ℕ) (read : Option Journal) → IsJournalOf text read → HasNoJournal text → read ≡ None
no_journal_by text None is none = refl
no_journal_by text (Some other) is none = absurd (none other is)

pub reads_no_journal : (reader : Reader) (text : List ℕ) → IsReader reader → HasNoJournal text → reader.journal text ≡ None
reads_no_journal reader text is none = no_journal_by text (reader.journal text) (is.journals text) none

-- ---- the entries of one journal

pub entries_other_document : (document : DocumentId) (name : List ℕ) (journal : Journal) → not (bytes_eq journal.digest document.digest) ≡ true
    → entries_in document name journal ≡ Err (caused (other_document name journal.digest document.digest))
entries_other_document document name journal differs = cond-true (not (bytes_eq journal.digest document.digest)) _ _ differs

pub entries_other_count : (document : DocumentId) (name : List ℕ) (journal : Journal) → not (bytes_eq journal.digest document.digest) ≡ false
    → journal.count ≢ document.count → entries_in document name journal ≡ Err (caused (other_count name journal.count document.count))
entries_other_count document name journal same differs =
    cond-false (not (bytes_eq journal.digest document.digest)) _ _ same
    ∙ cond-true (not (journal.count == document.count)) _ _ (ap not (false_from_ne_true (journal.count == document.count) (λ e. differs (eqb-true journal.count document.count e))))

-- a journal with the digest and the count of a document gives its entries
pub entries_of_it : (document : DocumentId) (name : List ℕ) (journal : Journal) → not (bytes_eq journal.digest document.digest) ≡ false
    → journal.count ≡ document.count → entries_in document name journal ≡ Ok journal.entries
entries_of_it document name journal same one =
    cond-false (not (bytes_eq journal.digest document.digest)) _ _ same
    ∙ cond-false (not (journal.count == document.count)) _ _ (ap not (ap (λ n. n == document.count) one ∙ eq-eqb document.count document.count refl))
