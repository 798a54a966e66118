-- What was read of a package and of journals, in the words of the headline.
use Rattle.std.proofs.Common.{◌≡◌, ◌==◌, ◌-◌, not, ℕ, List, [], ◌∷◌, ◌++◌, length, nat_lt, Bool, true, false, bytes_eq, Option, None, Some, Result, Ok, Err, refl, sym, ap, ◌∙◌, subst, if◌then◌else◌}
use Rattle.redl_headline.specs.Headline.{AreEntries, IsJournalOf, IsPackage}
use Rattle.redl_inputs.proofs.AnyOrder.{HasEntries, file_is_held, has_entries}
use Rattle.redl_inputs.proofs.StepLaws.{both_ok, same_ok}
use Rattle.redl_inputs.specs.Journals.{DocumentId, document_of, entries_in, gathered, journal_at, journal_or_none}
use Rattle.redl_inputs.specs.Packages.{package_file, package_in}
use Rattle.redl_inputs.specs.Readers.{Reader, IsReader, IsJournalOf as ReadsJournal}
use Rattle.redl_inputs.specs.Steps.{◌>>=◌, held}
use Rattle.redl_io.specs.Limits.{package_bytes}
use Rattle.redl_io.specs.Shelf.{Files}
use Rattle.redl_journal.specs.Journals.{Journal}
use Rattle.redl_journal.specs.declared.entry.Entry.{Entry}
use Rattle.redl_lines.specs.declared.failure.Limit.TheVariants.{PackageBytes}
use Rattle.redl_sound.proofs.Locked.Opened.{shape-read}
use Rattle.redl_outcome.proofs.AnyOrderLaws.{found_journal, same_document}
use Rattle.redl_outcome.proofs.LeftLaws.{sound_package}
use Rattle.redl_rounds_sound.proofs.OneFile.{given_own}
use Rattle.redl_rounds_sound.proofs.Packages.{reads_package}
use Rattle.redl_tree.specs.Model.Nodes.{Nodes}

-- ---- files

-- a text that is held is that of the file
was_held : (name : List ℕ) (found : Option (List ℕ)) (whole : List ℕ) → held name found ≡ Ok whole → found ≡ Some whole
was_held name None whole is = absurd (cc is)
was_held name (Some other) whole is = ap Some (same_ok is)

-- ---- the package

pub is_package : (reader : Reader) (files : Files) (p whole : List ℕ) (nodes : Nodes) → IsReader reader → package_file files p ≡ Ok whole → package_in reader whole ≡ Ok nodes
    → IsPackage files p whole nodes
is_package reader files p whole nodes is there made = record {
  file = was_held p (files p) whole (file_is_held files p package_bytes PackageBytes whole there);
  read = reads_package reader whole nodes is made;
  shape = shape-read reader whole nodes made;
  sound = sound_package reader whole nodes made;
}

-- ---- the journals

-- a journal whose entries were taken for the package, and its entries
record Took (files : Files) (whole : List ℕ) (nodes : Nodes) (name : List ℕ) (entries : List Entry) : Type 0 where
  pub journal : Journal
  pub is_journal : IsJournalOf files whole nodes name journal
  pub own : journal.entries ≡ entries

took : (reader : Reader) (files : Files) (whole : List ℕ) (nodes : Nodes) (name : List ℕ) (entries : List Entry) → IsReader reader
    → HasEntries reader files (document_of whole nodes) name entries → Took files whole nodes name entries
took reader files whole nodes name entries is has =
    let document = document_of whole nodes in
    let read = both_ok (journal_or_none name (reader.journal has.whole)) (entries_in document name) entries has.is_read in
    let found : reader.journal has.whole ≡ Some read.x = found_journal name (reader.journal has.whole) read.x read.first in
    let same = same_document document name read.x entries read.second in
    record {
      journal = read.x;
      is_journal = record {
        bytes = has.whole;
        file = was_held name (files name) has.whole has.is_held;
        read = subst (λ o. ReadsJournal has.whole o) found (is.journals has.whole);
        digest = ap (λ (d : DocumentId). d.digest) same;
        count = ap (λ (d : DocumentId). d.count) same;
      };
      own = given_own document name read.x entries read.second;
    }

pub are_entries : (reader : Reader) (files : Files) (whole : List ℕ) (nodes : Nodes) (left : ℕ) (names : List (List ℕ)) (entries : List Entry) → IsReader reader
    → gathered reader files (document_of whole nodes) left names ≡ Ok entries → AreEntries files whole nodes names entries
are_entries reader files whole nodes left [] entries is made = sym (same_ok made)
are_entries reader files whole nodes left (name ∷ names) entries is made =
    let document = document_of whole nodes in
    let first = both_ok (journal_at reader files document left name) (λ x. gathered reader files document (left - x.1) names >>= (λ more. Ok (x.0 ++ more))) entries made in
    let rest = both_ok (gathered reader files document (left - first.x.1) names) (λ more. Ok (first.x.0 ++ more)) entries first.second in
    let one = took reader files whole nodes name first.x.0 is (has_entries reader files document left name first.x first.first) in
    (one.journal, one.is_journal, (rest.x, sym (same_ok rest.second) ∙ ap (λ (es : List Entry). es ++ rest.x) (sym one.own), are_entries reader files whole nodes (left - first.x.1) names rest.x is rest.first))
