-- A joined journal stands for the journals that it joins.
use Rattle.std.proofs.Common.{◌≡◌, ◌≤◌, ◌↔◌, ℕ, zero, List, [], ◌∷◌, ◌++◌, length, Some, Result, Ok, Contains, refl, sym, ap, ◌∙◌, subst, arith}
use Rattle.std.proofs.lemmas.List.Elements.{All-from_recursion, Contains-append_left}
use Rattle.redl_commands.specs.Join.{document_in, joined}
use Rattle.redl_commands.specs.Write.{resolved, written}
use Rattle.redl_commands.specs.Writing.{Writing, outcome_of}
use Rattle.redl_inputs.proofs.AnyOrder.{HasEntries, admits_same, gathered_is_entry, name_is_gathered, one_list}
use Rattle.redl_inputs.proofs.StepLaws.{both_ok, same_ok}
use Rattle.redl_inputs.specs.Admission.{Admission, admission_with, no_admission, opened, opened_over}
use Rattle.redl_inputs.specs.Journals.{DocumentId, document_of, gathered}
use Rattle.redl_inputs.specs.Packages.{package_file, package_in}
use Rattle.redl_inputs.specs.Readers.{Reader, IsReader}
use Rattle.redl_inputs.specs.Steps.{◌>>=◌}
use Rattle.redl_io.specs.Limits.{journal_bytes}
use Rattle.redl_io.specs.Shelf.{Files}
use Rattle.redl_join.specs.Books.{union}
use Rattle.redl_journal.specs.Journals.{Journal, written_text}
use Rattle.redl_journal.specs.declared.entry.Entry.{Entry}
use Rattle.redl_journal_sound.specs.Writable.{IsWritable, IsWritableEntry}
use Rattle.redl_kinds.specs.declared.lock.Lock.{Lock}
use Rattle.redl_lines.specs.Failures.{Failure}
use Rattle.redl_outcome.proofs.AnyOrderLaws.{Joined, each_entry, each_name, of_document, was_joined}
use Rattle.redl_outcome.proofs.LeftLaws.{is_made}
use Rattle.redl_outcome.specs.Brought.{Brought}
use Rattle.redl_outcome.specs.Outcome.{outcome, writing_of}
use Rattle.redl_rounds_sound.proofs.Books.{all-contained, all-union, in-union, of-union}
use Rattle.redl_rounds_sound.proofs.OneFile.{entry_writable, gathers_written, is_journal}
use Rattle.redl_rounds_sound.specs.Rounds.{JoinedStandFor}
use Rattle.redl_tree.specs.Model.Nodes.{Nodes}

-- ---- the journal that was joined

-- the journal that was joined
abbrev pub joint : (reader : Reader) (files : Files) (name : List ℕ) (names : List (List ℕ)) (writing : Writing) → Joined reader files name names writing → Journal
joint reader files name names writing it = record { digest = it.journal.digest; count = it.journal.count; entries = union [] (it.journal.entries ++ it.more) }

joint_writable : (reader : Reader) (files : Files) (name : List ℕ) (names : List (List ℕ)) (writing : Writing) (it : Joined reader files name names writing) → IsReader reader
    → IsWritable (joint reader files name names writing it)
joint_writable reader files name names writing it is =
    let first = is_journal reader it.has.whole it.journal is it.has.is_read in
    let entries = it.journal.entries ++ it.more in
    record {
      digest = first.digest;
      count = first.count;
      entries = All-from_recursion IsWritableEntry (union [] entries)
          (all-union IsWritableEntry [] entries tt (all-contained IsWritableEntry entries
          (λ entry there. entry_writable reader files (document_in it.journal) (name ∷ names) entry is (each_entry reader files name names writing it entry there))));
    }

-- ---- its entries are those of the journals

module _ (reader : Reader) (files : Files) (document : DocumentId) (name : List ℕ) (names : List (List ℕ)) (writing : Writing) (it : Joined reader files name names writing)
    (all : List Entry) (gathers : gathered reader files document journal_bytes (name ∷ names) ≡ Ok all) where
  -- the journals that were joined are of the document for which they were gathered
  pub one_document : document_in it.journal ≡ document
  one_document =
      let first = name_is_gathered reader files document journal_bytes (name ∷ names) all name gathers (Contains-append_left (name ∷ []) names name (zero, omega arith, refl)) in
      of_document reader files document name it.journal first.entries it.has first.has

  joint_in : (entry : Entry) → Contains (it.journal.entries ++ it.more) entry → Contains all entry
  joint_in entry there =
      let from = each_entry reader files name names writing it entry there in
      let found = name_is_gathered reader files document journal_bytes (name ∷ names) all from.name gathers from.among in
      let has = subst (λ d. HasEntries reader files d from.name from.entries) one_document from.has in
      found.among entry (subst (λ (es : List Entry). Contains es entry) (one_list reader files document from.name from.entries found.entries has found.has) from.there)

  joint_of : (entry : Entry) → Contains all entry → Contains (it.journal.entries ++ it.more) entry
  joint_of entry there =
      let from = gathered_is_entry reader files document journal_bytes (name ∷ names) all entry gathers there in
      let found = each_name reader files name names writing it from.name from.among in
      let has = subst (λ d. HasEntries reader files d from.name from.entries) (sym one_document) from.has in
      found.among entry (subst (λ (es : List Entry). Contains es entry) (one_list reader files (document_in it.journal) from.name from.entries found.entries has found.has) from.there)

  -- an entry is in the joined journal exactly where it is one of theirs
  pub joint_same : (entry : Entry) → Contains (union [] (it.journal.entries ++ it.more)) entry ↔ Contains all entry
  joint_same entry = (
    λ there. joint_in entry (of-union (it.journal.entries ++ it.more) entry there),
    λ there. in-union [] (it.journal.entries ++ it.more) entry (joint_of entry there),
  )

-- ---- one package under both

-- what `write` makes of a package
abbrev made_of : Reader → Files → List ℕ → List Lock → List (List ℕ) → Result Writing Failure
made_of reader files p locks names = package_file files p >>= written reader files locks names

-- what a call opens, by what was read and gathered
pub opened_by : (reader : Reader) (files : Files) (locks : List Lock) (names : List (List ℕ)) (whole : List ℕ) (nodes : Nodes) (entries : List Entry) → package_in reader whole ≡ Ok nodes
    → gathered reader files (document_of whole nodes) journal_bytes names ≡ Ok entries → opened reader files locks names whole ≡ Ok (admission_with (no_admission whole nodes locks) entries)
opened_by reader files locks names whole nodes entries read gathers =
    ap (λ (made : Result Nodes Failure). made >>= opened_over reader files locks names whole) read
    ∙ ap (λ (made : Result (List Entry) Failure). made >>= (λ entries. let r : Result Admission Failure = Ok (admission_with (no_admission whole nodes locks) entries) in r)) gathers

-- the package under the joined journal is the package under the journals that it joins
resolves_same : (reader : Reader) (files : Files) (p one name : List ℕ) (names : List (List ℕ)) (locks : List Lock) (joint_call all : Writing) → IsReader reader
    → joined reader files journal_bytes (name ∷ names) ≡ Ok joint_call → files one ≡ Some joint_call.bytes → length joint_call.bytes ≤ journal_bytes
    → made_of reader files p locks (name ∷ names) ≡ Ok all → made_of reader files p locks (one ∷ []) ≡ Ok all
resolves_same reader files p one name names locks joint_call all is joins there short makes =
    let it = was_joined reader files journal_bytes name names joint_call joins in
    let journal = joint reader files name names joint_call it in
    let text : joint_call.bytes ≡ written_text journal = ap (λ (w : Writing). w.bytes) (sym it.written) in
    let whole = both_ok (package_file files p) (written reader files locks (name ∷ names)) all makes in
    let opens = both_ok (opened reader files locks (name ∷ names) whole.x) (λ admission. Ok (resolved locks admission)) all whole.second in
    let read = both_ok (package_in reader whole.x) (opened_over reader files locks (name ∷ names) whole.x) opens.x opens.first in
    let document = document_of whole.x read.x in
    let entries = both_ok (gathered reader files document journal_bytes (name ∷ names)) (λ entries. Ok (admission_with (no_admission whole.x read.x locks) entries)) opens.x read.second in
    let own : document_in it.journal ≡ document = one_document reader files document name names joint_call it entries.x entries.first in
    let gathers : gathered reader files document journal_bytes (one ∷ []) ≡ Ok journal.entries =
    gathers_written reader files document journal_bytes one journal is (joint_writable reader files name names joint_call it is)
    (there ∙ ap Some text) (subst (λ (t : List ℕ). length t ≤ journal_bytes) text short)
    (ap (λ (d : DocumentId). d.digest) own) (ap (λ (d : DocumentId). d.count) own) in
    ap (λ (made : Result (List ℕ) Failure). made >>= written reader files locks (one ∷ [])) whole.first
    ∙ ap (λ (made : Result Admission Failure). made >>= (λ admission. let r : Result Writing Failure = Ok (resolved locks admission) in r))
    (opened_by reader files locks (one ∷ []) whole.x read.x journal.entries read.first gathers)
    ∙ ap (λ (admission : Admission). let r : Result Writing Failure = Ok (resolved locks admission) in r)
    (admits_same whole.x read.x locks journal.entries entries.x (joint_same reader files document name names joint_call it entries.x entries.first) ∙ same_ok entries.second)
    ∙ opens.second

-- ---- the calls

pub joined_stand_for : (reader : Reader) → IsReader reader → (files : Files) (brought : Brought) → JoinedStandFor reader files brought
joined_stand_for reader is files brought joins one all p name locks journals is_join is_one is_all file done =
    let joint_call = is_made (writing_of reader files brought (reader.command joins)) file.done in
    let all_call = is_made (writing_of reader files brought (reader.command all)) done in
    let joint_made : joined reader files journal_bytes journals ≡ Ok joint_call.0 = ap (writing_of reader files brought) (sym is_join) ∙ joint_call.1 in
    let all_made : made_of reader files p locks journals ≡ Ok all_call.0 = ap (writing_of reader files brought) (sym is_all) ∙ all_call.1 in
    let bytes : (outcome reader joins files brought).bytes ≡ joint_call.0.bytes = ap (λ (m : Result Writing Failure). (outcome_of m).bytes) joint_call.1 in
    let there : files name ≡ Some joint_call.0.bytes = file.held ∙ ap Some bytes in
    let short : length joint_call.0.bytes ≤ journal_bytes = subst (λ (b : List ℕ). length b ≤ journal_bytes) bytes file.short in
    let one_made : writing_of reader files brought (reader.command one) ≡ Ok all_call.0 =
    ap (writing_of reader files brought) is_one ∙ by journals joint_made all_made there short in
    ap outcome_of (one_made ∙ sym all_call.1)
  where
    by : {joint_call all_call : Writing} (names : List (List ℕ)) → joined reader files journal_bytes names ≡ Ok joint_call → made_of reader files p locks names ≡ Ok all_call
        → files name ≡ Some joint_call.bytes → length joint_call.bytes ≤ journal_bytes → made_of reader files p locks (name ∷ []) ≡ Ok all_call
    by [] joins makes there short = absurd (cc joins)
    by {joint_call} {all_call} (first ∷ names) joins makes there short = resolves_same reader files p name first names locks joint_call all_call is joins there short makes
