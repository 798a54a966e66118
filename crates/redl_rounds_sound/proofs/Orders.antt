-- A call is written where a call with the same journals in another order is.
use Rattle.std.proofs.Common.{◌≡◌, ◌≤◌, ◌⊎◌, inl, inr, ◌-◌, ◌+◌, refl, sym, ap, subst, ◌∙◌, arith, ℕ, zero, List, [], ◌∷◌, ◌++◌, length, Option, None, Some, Result, Ok, Contains}
use Rattle.std.proofs.lemmas.List.Elements.{Contains-append_left, Contains-append_right}
use Rattle.redl_commands.specs.Decide.{book_written, with_choices}
use Rattle.redl_commands.specs.Join.{book_text, document_in, joined, union_of}
use Rattle.redl_commands.specs.Write.{resolved}
use Rattle.redl_commands.specs.Writing.{Writing, only_bytes, outcome_of}
use Rattle.redl_commands_shown.specs.List.{listed, listing_named}
use Rattle.redl_commands_shown.specs.Page.{page_of}
use Rattle.redl_commands_shown.specs.Report.{report_named, reported}
use Rattle.redl_inputs.proofs.AnyOrder.{HasEntries, IsGathered, name_is_gathered, opens_same}
use Rattle.redl_inputs.proofs.StepLaws.{both_ok, same_ok}
use Rattle.redl_inputs.specs.Admission.{Admission, admission_with, no_admission, opened, opened_over}
use Rattle.redl_inputs.specs.Journals.{AreSame, DocumentId, document_of, entries_in, entries_of, first_journal, gathered, journal_at, journal_or_none}
use Rattle.redl_inputs.specs.Packages.{package_file, package_in}
use Rattle.redl_inputs.specs.Readers.{Reader}
use Rattle.redl_inputs.specs.Steps.{◌>>=◌, file, held}
use Rattle.redl_io.specs.Limits.{journal_bytes}
use Rattle.redl_io.specs.Shelf.{Files}
use Rattle.redl_join.specs.Books.{union}
use Rattle.redl_journal.specs.Journals.{Journal}
use Rattle.redl_journal.specs.declared.entry.Entry.{Entry}
use Rattle.redl_kinds.specs.declared.lock.Lock.{Lock}
use Rattle.redl_lines.specs.Ends.{written_status}
use Rattle.redl_lines.specs.Failures.{Failure}
use Rattle.redl_lines.specs.Refused.{RefusedEntries}
use Rattle.redl_lines.specs.declared.failure.Limit.TheVariants.{JournalBytes}
use Rattle.redl_lines.specs.Remarks.{all_refused}
use Rattle.redl_outcome.proofs.AnyOrderLaws.{each_name, order_does_not_count, same_document, was_joined}
use Rattle.redl_outcome.proofs.LeftLaws.{is_made}
use Rattle.redl_outcome.specs.Answers.{IsWritten}
use Rattle.redl_outcome.specs.AnyOrder.{with_journals}
use Rattle.redl_outcome.specs.Brought.{Brought}
use Rattle.redl_outcome.specs.Outcome.{carried_out, outcome, writing_of}
use Rattle.redl_outcome.specs.Plans.{has_asked, plan}
use Rattle.redl_page.specs.Page.{heading_with}
use Rattle.redl_rounds_sound.proofs.OneFile.{reads_file}
use Rattle.redl_rounds_sound.specs.Orders.{OrderIsFree, length_of, length_together}
use Rattle.redl_tree.specs.Model.Nodes.{Nodes}
use Rattle.redl_words.specs.Commands.{Command, settle, view_text, list, report, page, write, decide, resume, join, check, sample}

-- ---- journals that are there

was_held : (name : List ℕ) (found : Option (List ℕ)) (whole : List ℕ) → held name found ≡ Ok whole → found ≡ Some whole
was_held name None whole is = absurd (cc is)
was_held name (Some other) whole is = ap Some (same_ok is)

-- the file of a journal that was read, with the number of its bytes
record IsThere (reader : Reader) (files : Files) (document : DocumentId) (name : List ℕ) : Type 0 where
  pub whole : List ℕ
  pub there : files name ≡ Some whole
  pub entries : List Entry
  pub read : entries_of document name (reader.journal whole) ≡ Ok entries

is_there : (reader : Reader) (files : Files) (document : DocumentId) (name : List ℕ) (entries : List Entry) → HasEntries reader files document name entries → IsThere reader files document name
is_there reader files document name entries has = record { whole = has.whole; there = was_held name (files name) has.whole has.is_held; entries = entries; read = has.is_read }

-- each of these names is that of a journal of the document
abbrev AreThere : Reader → Files → DocumentId → List (List ℕ) → Type 0
AreThere reader files document names = (name : List ℕ) → Contains names name → IsThere reader files document name

head-is : (name : List ℕ) (names : List (List ℕ)) → Contains (name ∷ names) name
head-is name names = Contains-append_left (name ∷ []) names name (zero, omega arith, refl)

reads_journal : (reader : Reader) (files : Files) (document : DocumentId) (left : ℕ) (name : List ℕ) (it : IsThere reader files document name) → length it.whole ≤ left
    → journal_at reader files document left name ≡ Ok (it.entries, length it.whole)
reads_journal reader files document left name it short =
    ap (λ (found : Result (List ℕ) Failure). found >>= (λ whole. entries_of document name (reader.journal whole) >>= (λ entries. let r : Result (List Entry × ℕ) Failure = Ok (entries, length whole) in r)))
    (reads_file files name it.whole left JournalBytes it.there short)
    ∙ ap (λ (found : Result (List Entry) Failure). found >>= (λ entries. let r : Result (List Entry × ℕ) Failure = Ok (entries, length it.whole) in r)) it.read

-- they are gathered, where there is room for their bytes
gathers : (reader : Reader) (files : Files) (document : DocumentId) (left : ℕ) (names : List (List ℕ)) → AreThere reader files document names → length_together files names ≤ left
    → (entries : List Entry) × (gathered reader files document left names ≡ Ok entries)
gathers reader files document left [] there room = ([], refl)
gathers reader files document left (name ∷ names) there room =
    let it = there name (head-is name names) in
    let own : length_of (files name) ≡ length it.whole = ap length_of it.there in
    let first = reads_journal reader files document left name it (omega (arith, room, own)) in
    let more = gathers reader files document (left - length it.whole) names (λ other among. there other (Contains-append_right (name ∷ []) names other among)) (omega (arith, room, own)) in (
      it.entries ++ more.0,
      ap (λ (x : Result (List Entry × ℕ) Failure). x >>= (λ first. gathered reader files document (left - first.1) names >>= (λ more. let r : Result (List Entry) Failure = Ok (first.0 ++ more) in r))) first
          ∙ ap (λ (x : Result (List Entry) Failure). x >>= (λ more. let r : Result (List Entry) Failure = Ok (it.entries ++ more) in r)) more.1,
    )

all_there : (reader : Reader) (files : Files) (document : DocumentId) (left : ℕ) (names more : List (List ℕ)) (entries : List Entry) → AreSame names more
    → gathered reader files document left names ≡ Ok entries → AreThere reader files document more
all_there reader files document left names more entries same is name among =
    let it = name_is_gathered reader files document left names entries name is ((same name).1 among) in
    is_there reader files document name it.entries it.has

-- ---- sessions

opens_too : (reader : Reader) (files : Files) (locks : List Lock) (names more : List (List ℕ)) (whole : List ℕ) (admission : Admission) → AreSame names more
    → opened reader files locks names whole ≡ Ok admission → length_together files more ≤ journal_bytes → opened reader files locks more whole ≡ Ok admission
opens_too reader files locks names more whole admission same is room =
    let read = both_ok (package_in reader whole) (opened_over reader files locks names whole) admission is in
    let document = document_of whole read.x in
    let start = no_admission whole read.x locks in
    let entries = both_ok (gathered reader files document journal_bytes names) (λ entries. Ok (admission_with start entries)) admission read.second in
    let others = gathers reader files document journal_bytes more (all_there reader files document journal_bytes names more entries.x same entries.first) room in
    let opens : opened reader files locks more whole ≡ Ok (admission_with start others.0) =
    ap (λ (x : Result Nodes Failure). x >>= opened_over reader files locks more whole) read.first
    ∙ ap (λ (x : Result (List Entry) Failure). x >>= (λ entries. let r : Result Admission Failure = Ok (admission_with start entries) in r)) others.1 in
    opens ∙ ap Ok (sym (opens_same reader files locks names more whole admission (admission_with start others.0) same is opens))

after_opening : (reader : Reader) (files : Files) (locks : List Lock) (names more : List (List ℕ)) (p : List ℕ) (next : Admission → Result Writing Failure) (one : Writing) → AreSame names more
    → (package_file files p >>= (λ whole. opened reader files locks names whole >>= next)) ≡ Ok one → length_together files more ≤ journal_bytes
    → (package_file files p >>= (λ whole. opened reader files locks more whole >>= next)) ≡ Ok one
after_opening reader files locks names more p next one same is room =
    let first = both_ok (package_file files p) (λ whole. opened reader files locks names whole >>= next) one is in
    let opens = both_ok (opened reader files locks names first.x) next one first.second in
    ap (λ (x : Result (List ℕ) Failure). x >>= (λ whole. opened reader files locks more whole >>= next)) first.first
    ∙ ap (λ (x : Result Admission Failure). x >>= next) (opens_too reader files locks names more first.x opens.x same opens.first room)
    ∙ opens.second

-- ---- joined journals

-- something is written of the journals of these names
abbrev Joins : Reader → Files → ℕ → List (List ℕ) → Type 0
Joins reader files most names = (writing : Writing) × (joined reader files most names ≡ Ok writing)

joins_there : (reader : Reader) (files : Files) (most : ℕ) (document : DocumentId) (name : List ℕ) (names : List (List ℕ)) → AreThere reader files document (name ∷ names)
    → length_together files (name ∷ names) ≤ most → Joins reader files most (name ∷ names)
joins_there reader files most document name names there room =
    let it = there name (head-is name names) in
    let own : length_of (files name) ≡ length it.whole = ap length_of it.there in
    let read = both_ok (journal_or_none name (reader.journal it.whole)) (entries_in document name) it.entries it.read in
    let same : document_in read.x ≡ document = same_document document name read.x it.entries read.second in
    let first : first_journal reader files most name ≡ Ok (read.x, length it.whole) =
    ap (λ (found : Result (List ℕ) Failure). found >>= (λ whole. journal_or_none name (reader.journal whole) >>= (λ journal. let r : Result (Journal × ℕ) Failure = Ok (journal, length whole) in r)))
    (reads_file files name it.whole most JournalBytes it.there (omega (arith, room, own)))
    ∙ ap (λ (found : Result Journal Failure). found >>= (λ journal. let r : Result (Journal × ℕ) Failure = Ok (journal, length it.whole) in r)) read.first in
    let rest : AreThere reader files (document_in read.x) names =
    λ other among. subst (λ (d : DocumentId). IsThere reader files d other) (sym same) (there other (Contains-append_right (name ∷ []) names other among)) in
    let more = gathers reader files (document_in read.x) (most - length it.whole) names rest (omega (arith, room, own)) in (
      only_bytes (book_text (document_in read.x) (union (union [] read.x.entries) more.0)),
      ap (λ (x : Result (Journal × ℕ) Failure). x >>= (λ one. union_of reader files most one names >>= (λ book. let r : Result Writing Failure = Ok (only_bytes (book_text (document_in one.0) book)) in r))) first
          ∙ ap (λ (x : Result (List Entry) Failure). (x >>= (λ entries. let r : Result (List Entry) Failure = Ok (union (union [] read.x.entries) entries) in r))
          >>= (λ book. let r : Result Writing Failure = Ok (only_bytes (book_text (document_in read.x) book)) in r)) more.1,
    )

joins_too : (reader : Reader) (files : Files) (names more : List (List ℕ)) (one : Writing) → AreSame names more → joined reader files journal_bytes names ≡ Ok one
    → length_together files more ≤ journal_bytes → Joins reader files journal_bytes more
joins_too reader files [] more one same is room = absurd (cc is)
joins_too reader files (name ∷ names) [] one same is room = absurd (none ((same name).0 (head-is name names)))
  where
    none : Contains [] name → ⊥
    none (k, within, is) = absurd (omega (arith, within))
joins_too reader files (name ∷ names) (other ∷ more) one same is room =
    let it = was_joined reader files journal_bytes name names one is in
    joins_there reader files journal_bytes (document_in it.journal) other more
    (λ each among. let found = each_name reader files name names one it each ((same each).1 among) in is_there reader files (document_in it.journal) each found.entries found.has) room

-- ---- every command

-- something is written
abbrev IsCarried : Reader → Files → Brought → Command → Type 0
IsCarried reader files brought command = (writing : Writing) × (carried_out reader files brought (plan command) ≡ Ok writing)

carried_too : (reader : Reader) (files : Files) (brought : Brought) (command : Command) (names more : List (List ℕ)) (one : Writing) → AreSame names more
    → carried_out reader files brought (plan (with_journals names command)) ≡ Ok one → length_together files more ≤ journal_bytes
    → IsCarried reader files brought (with_journals more command)
carried_too reader files brought (settle accept p) names more one same is room = (one, is)
carried_too reader files brought (view_text p view) names more one same is room = (one, is)
carried_too reader files brought (list p format locks journals wanted) names more one same is room =
    let asked = plan (list p format locks journals wanted) in
    let first = both_ok (has_asked brought asked) (λ there. package_file files p >>= (λ whole. listed reader files brought.formats format locks names wanted whole)) one is in (
      one,
      ap (λ (x : Result (Unit {0}) Failure). x >>= (λ there. package_file files p >>= (λ whole. listed reader files brought.formats format locks more wanted whole))) first.first
          ∙ after_opening reader files locks names more p (λ admission. listing_named brought.formats format wanted admission) one same first.second room,
    )
carried_too reader files brought (report p format by_kind locks journals) names more one same is room =
    let asked = plan (report p format by_kind locks journals) in
    let first = both_ok (has_asked brought asked) (λ there. package_file files p >>= (λ whole. reported reader files brought.reports format by_kind locks names whole)) one is in (
      one,
      ap (λ (x : Result (Unit {0}) Failure). x >>= (λ there. package_file files p >>= (λ whole. reported reader files brought.reports format by_kind locks more whole))) first.first
          ∙ after_opening reader files locks names more p (λ admission. report_named brought.reports format by_kind admission) one same first.second room,
    )
carried_too reader files brought (page p title rank pictures locks journals) names more one same is room =
    (one, after_opening reader files locks names more p (λ admission. Ok (page_of brought.skin (heading_with title rank pictures) locks admission)) one same is room)
carried_too reader files brought (write p locks journals) names more one same is room =
    (one, after_opening reader files locks names more p (λ admission. Ok (resolved locks admission)) one same is room)
carried_too reader files brought (decide p reviewer journals locks choices rank) names more one same is room =
    (one, after_opening reader files locks names more p (λ before. with_choices reviewer rank choices before >>= (λ admission. Ok (book_written admission))) one same is room)
carried_too reader files brought (resume p q firsts journals) names more one same is room = (one, is)
carried_too reader files brought (join journals) names more one same is room = joins_too reader files names more one same is room
carried_too reader files brought (check p) names more one same is room = (one, is)
carried_too reader files brought (sample number) names more one same is room = (one, is)

status-written : (refused : RefusedEntries) → IsWritten (written_status refused)
status-written [] = inl refl
status-written (one ∷ more) = inr refl

pub order_is_free : (reader : Reader) (files : Files) (brought : Brought) → OrderIsFree reader files brought
order_is_free reader files brought words others command names more same is too written room =
    let one = is_made (writing_of reader files brought (reader.command words)) written in
    let first : writing_of reader files brought (Some (with_journals names command)) ≡ Ok one.0 = ap (writing_of reader files brought) (sym is) ∙ one.1 in
    let other = carried_too reader files brought command names more one.0 same first room in
    let made : writing_of reader files brought (reader.command others) ≡ Ok other.0 = ap (writing_of reader files brought) too ∙ other.1 in
    order_does_not_count reader files brought words others command names more same is too written
    (subst (λ (m : Result Writing Failure). IsWritten (outcome_of m).status) (sym made) (status-written (all_refused other.0.remarks)))
