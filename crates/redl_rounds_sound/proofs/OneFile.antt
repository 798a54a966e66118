-- A file that holds the text of a journal: what a call gathers of it.
use Rattle.std.proofs.Common.{◌≡◌, ◌≤◌, ◌-◌, ◌==◌, not, ℕ, List, [], ◌∷◌, ◌++◌, length, nat_lt, Bool, true, false, Some, Result, Ok, Err, All, append-nil, ap, ◌∙◌, subst, if◌then◌else◌}
use Rattle.std.proofs.lemmas.Bool.{cond-false, le-ltb}
use Rattle.std.proofs.lemmas.List.Elements.{All-contains, All-weaker}
use Rattle.std.proofs.lemmas.Slice.Eq.{bytes_eq-Decides}
use Rattle.std.specs.Str.{bytes_eq}
use Rattle.redl_inputs.proofs.AnyOrder.{HasEntries, IsEntryOf}
use Rattle.redl_inputs.proofs.JournalLaws.{entries_of_it, reads_journal}
use Rattle.redl_inputs.proofs.StepLaws.{both_ok, same_ok}
use Rattle.redl_inputs.specs.Journals.{DocumentId, entries_in, entries_of, gathered, journal_or_none}
use Rattle.redl_inputs.specs.Readers.{Reader, IsReader, IsJournalOf}
use Rattle.redl_inputs.specs.Steps.{◌>>=◌, file, held, within}
use Rattle.redl_io.specs.Shelf.{Files}
use Rattle.redl_journal.specs.Journals.{Journal, IsEntry, IsJournal, written_text}
use Rattle.redl_journal.specs.declared.entry.Entry.{Entry}
use Rattle.redl_journal_sound.proofs.Again.{written-again}
use Rattle.redl_journal_sound.specs.Writable.{IsWritable, IsWritableEntry}
use Rattle.redl_lines.specs.Failures.{Failure}
use Rattle.redl_lines.specs.declared.failure.Limit.{Limit}
use Rattle.redl_lines.specs.declared.failure.Limit.TheVariants.{JournalBytes}
use Rattle.redl_outcome.proofs.AnyOrderLaws.{found_journal}

-- ---- journals that were read

pub is_journal : (reader : Reader) (text : List ℕ) (journal : Journal) → IsReader reader → reader.journal text ≡ Some journal → IsJournal text journal
is_journal reader text journal is read = subst (λ found. IsJournalOf text found) read (is.journals text)

-- the entries of a journal that was read can be written
pub own_writable : (text : List ℕ) (journal : Journal) → IsJournal text journal → All IsWritableEntry journal.entries
own_writable text journal is =
    All-weaker (IsEntry is.version) IsWritableEntry (λ entry h. record { allowed = h.allowed; seq = h.seq; rev = h.rev }) journal.entries is.entries

by_tests : (digests counts : Bool) (one two : Failure) (entries given : List Entry)
    → (let made : Result (List Entry) Failure = if not digests then Err one else if not counts then Err two else Ok entries in made ≡ Ok given) → entries ≡ given
by_tests true true one two entries given is = same_ok is
by_tests true false one two entries given is = absurd (cc is)
by_tests false counts one two entries given is = absurd (cc is)

-- the entries that are taken of a journal are its own
pub given_own : (document : DocumentId) (name : List ℕ) (journal : Journal) (given : List Entry) → entries_in document name journal ≡ Ok given → journal.entries ≡ given
given_own document name journal given is = by_tests (bytes_eq journal.digest document.digest) (journal.count == document.count) _ _ journal.entries given is

has_writable : (reader : Reader) (files : Files) (document : DocumentId) (name : List ℕ) (entries : List Entry) → IsReader reader
    → HasEntries reader files document name entries → All IsWritableEntry entries
has_writable reader files document name entries is has =
    let read = both_ok (journal_or_none name (reader.journal has.whole)) (entries_in document name) entries has.is_read in
    let found : reader.journal has.whole ≡ Some read.x = found_journal name (reader.journal has.whole) read.x read.first in
    subst (λ (es : List Entry). All IsWritableEntry es)
    (given_own document name read.x entries read.second)
    (own_writable has.whole read.x (is_journal reader has.whole read.x is found))

-- so can an entry of one of several journals
pub entry_writable : (reader : Reader) (files : Files) (document : DocumentId) (names : List (List ℕ)) (entry : Entry) → IsReader reader
    → IsEntryOf reader files document names entry → IsWritableEntry entry
entry_writable reader files document names entry is of =
    All-contains IsWritableEntry of.entries entry (has_writable reader files document of.name of.entries is of.has) of.there

-- ---- a file with the text of a journal

pub reads_file : (files : Files) (name text : List ℕ) (most : ℕ) (limit : Limit) → files name ≡ Some text → length text ≤ most → file files name most limit ≡ Ok text
reads_file files name text most limit is short =
    ap (λ found. held name found >>= within most limit) is ∙ cond-false (nat_lt most (length text)) _ _ (le-ltb most (length text) short)

has_own : (document : DocumentId) (name : List ℕ) (journal : Journal) → journal.digest ≡ document.digest → journal.count ≡ document.count
    → entries_in document name journal ≡ Ok journal.entries
has_own document name journal digest count =
    entries_of_it document name journal (ap not ((bytes_eq-Decides journal.digest document.digest).1 digest)) count

-- entries, with the bytes of their journal
abbrev sized : List ℕ → List Entry → Result (List Entry × ℕ) Failure
sized text entries = Ok (entries, length text)

-- what is gathered of one journal alone
abbrev of_one_journal : Reader → Files → DocumentId → ℕ → List Entry × ℕ → Result (List Entry) Failure
of_one_journal reader files document most first = gathered reader files document (most - first.1) [] >>= (λ more. Ok (first.0 ++ more))

-- the entries that come of a file with the text of a journal, where that is the journal of this document
pub gathers_written : (reader : Reader) (files : Files) (document : DocumentId) (most : ℕ) (name : List ℕ) (journal : Journal) → IsReader reader → IsWritable journal
    → files name ≡ Some (written_text journal) → length (written_text journal) ≤ most → journal.digest ≡ document.digest → journal.count ≡ document.count
    → gathered reader files document most (name ∷ []) ≡ Ok journal.entries
gathers_written reader files document most name journal is writable there short digest count =
    let text = written_text journal in
    let read : reader.journal text ≡ Some journal = reads_journal reader text journal is (written-again journal writable) in
    ap (λ found. (found >>= (λ whole. entries_of document name (reader.journal whole) >>= sized whole)) >>= of_one_journal reader files document most) (reads_file files name text most JournalBytes there short)
    ∙ ap (λ found. (entries_of document name found >>= sized text) >>= of_one_journal reader files document most) read
    ∙ ap (λ found. (found >>= sized text) >>= of_one_journal reader files document most) (has_own document name journal digest count)
    ∙ ap Ok (append-nil journal.entries)
