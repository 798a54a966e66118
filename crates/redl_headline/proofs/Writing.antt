-- What `run` promises of `write` is the headline.
use Rattle.std.proofs.Common.{◌≡◌, inl, inr, ℕ, List, [], ◌∷◌, ◌++◌, cond, Ordering, Less, Equal, Greater, Option, None, is_some, option_map, Some, Result, Ok, append-nil, refl, sym, ap, ◌∙◌, subst}
use Rattle.std.specs.BTreeMap.{insert_entry}
use Rattle.std.specs.Io.KnownBytes.{append_known}
use Rattle.std.specs.List.{cons_option}
use Rattle.std.specs.Ordering.{match_ordering}
use Rattle.redl_commands.specs.Write.{resolved, written}
use Rattle.redl_commands.specs.Writing.{Outcome, Writing, outcome_of}
use Rattle.redl_headline.proofs.Parts.{are_entries, is_package}
use Rattle.redl_headline.specs.Headline.{Headline, IsWriting, status_of, verdicts}
use Rattle.redl_index.specs.Numbers.{numbered_package}
use Rattle.redl_index.specs.Revisions.{revisions_of}
use Rattle.redl_index.specs.declared.revision.Revision.{Revision}
use Rattle.redl_inputs.proofs.ReaderLaws.{a_reader, reads_command}
use Rattle.redl_inputs.proofs.StepLaws.{both_ok, same_ok}
use Rattle.redl_inputs.specs.Admission.{Admission, admission_with, no_admission, opened, opened_over}
use Rattle.redl_inputs.specs.Journals.{document_of, gathered}
use Rattle.redl_inputs.specs.Packages.{package_file, package_in}
use Rattle.redl_inputs.specs.Readers.{Reader, IsReader}
use Rattle.redl_inputs.specs.Steps.{◌>>=◌}
use Rattle.redl_io.specs.Limits.{journal_bytes}
use Rattle.redl_io.specs.Shelf.{Files}
use Rattle.redl_journal.specs.Order.{entry_order}
use Rattle.redl_journal.specs.declared.entry.Entry.{Entry}
use Rattle.redl_kinds.specs.declared.lock.Lock.{Lock}
use Rattle.redl_laws.proofs.Soundness.AllRules.{numbered_sound, soundness}
use Rattle.redl_laws.proofs.Survival.Indexed.{survival-package}
use Rattle.redl_lines.specs.Ends.{written_status}
use Rattle.redl_lines.specs.Refused.{RefusedEntries, with_refusals}
use Rattle.redl_lines.specs.declared.status.Status.{Status}
use Rattle.redl_lines.specs.declared.status.Status.TheVariants as status
use Rattle.redl_outcome.proofs.LeftLaws.{is_made, sound_package}
use Rattle.redl_outcome.specs.Answers.{IsAnswer, IsWritten, OfOutcome, Writes}
use Rattle.redl_outcome.specs.Brought.{Brought}
use Rattle.redl_outcome.specs.Outcome.{outcome, writing_of}
use Rattle.redl_reread_sound.proofs.Again.{reread, unread}
use Rattle.redl_rounds_sound.proofs.Packages.{reads_package}
use Rattle.redl_rules.specs.Attributes.{declares, has_id}
use Rattle.redl_session.specs.Refusals.{cause_of, refusals, refused}
use Rattle.redl_session.specs.declared.refusal.AdmitError.{AdmitError}
use Rattle.redl_session.specs.declared.refusal.Refusal.{Refusal}
use Rattle.redl_stamp.specs.Attribute.{attribute_value}
use Rattle.redl_stays_sound.proofs.Decided.{decided_go}
use Rattle.redl_stays_sound.proofs.Staying.Walk.{kept-stay as members_stay}
use Rattle.redl_stays_sound.proofs.Stories.{kept_stay}
use Rattle.redl_tree.proofs.Revisions.NumberLaws.{numbered-indexed}
use Rattle.redl_tree.specs.Decisions.Packages.{pass_package}
use Rattle.redl_tree.specs.Model.Nodes.{Nodes}
use Rattle.redl_tree.specs.Model.Text.{text}
use Rattle.redl_words.specs.Commands.{IsCommand, write}
use Rattle.redl_xml.specs.Readings.{HasNoReading}

-- ---- the status

with_some : (kept : RefusedEntries) (more : List Refusal) → written_status kept ≡ status.Refused → written_status (with_refusals kept more) ≡ status.Refused
with_some kept [] is = is
with_some [] (refusal ∷ more) is = absurd (cc is)
with_some (first ∷ kept) (refusal ∷ more) is = with_some (insert_entry entry_order (first ∷ kept) refusal.entry refusal.why) more (at (entry_order refusal.entry first.0))
  where
    at : (o : Ordering) → written_status (match_ordering o ((refusal.entry, refusal.why) ∷ first ∷ kept) ((first.0, refusal.why) ∷ kept) (first ∷ insert_entry entry_order kept refusal.entry refusal.why)) ≡ status.Refused
    at Less = refl
    at Equal = refl
    at Greater = refl

-- a call was refused something exactly where it was refused some entry
same_status : (revisions : List Revision) (locks : List Lock) (entries : List Entry) → written_status (with_refusals [] (refusals revisions locks entries)) ≡ status_of (refused revisions locks entries)
same_status revisions locks [] = refl
same_status revisions locks (entry ∷ entries) = at (cause_of revisions locks entry) (same_status revisions locks entries)
  where
    at : (cause : Option AdmitError) → written_status (with_refusals [] (refusals revisions locks entries)) ≡ status_of (refused revisions locks entries)
        → written_status (with_refusals [] (cons_option (option_map (λ why. let r : Refusal = record { entry = entry; why = why } in r) cause) (refusals revisions locks entries)))
        ≡ status_of (cond (is_some cause) (entry ∷ refused revisions locks entries) (refused revisions locks entries))
    at None rest = rest
    at (Some why) rest = with_some ((entry, why) ∷ []) (refusals revisions locks entries) refl

-- ---- the outcome

is_writing : (reader : Reader) (files : Files) (p : List ℕ) (locks : List Lock) (journals : List (List ℕ)) (writing : Writing) → IsReader reader
    → package_file files p >>= written reader files locks journals ≡ Ok writing → IsWriting files p locks journals (outcome_of (Ok writing)).status writing.bytes
is_writing reader files p locks journals writing is made =
    let file = both_ok (package_file files p) (written reader files locks journals) writing made in
    let opens = both_ok (opened reader files locks journals file.x) (λ admission. Ok (resolved locks admission)) writing file.second in
    let read = both_ok (package_in reader file.x) (opened_over reader files locks journals file.x) opens.x opens.first in
    let entries = both_ok (gathered reader files (document_of file.x read.x) journal_bytes journals) (λ entries. Ok (admission_with (no_admission file.x read.x locks) entries)) opens.x read.second in
    let same : resolved locks (admission_with (no_admission file.x read.x locks) entries.x) ≡ writing = ap (resolved locks) (same_ok entries.second) ∙ same_ok opens.second in
    let says = verdicts read.x locks entries.x in
    let reading = reads_package reader file.x read.x is read.first in
    let is_sound_package = sound_package reader file.x read.x read.first in
    let numbered = numbered_sound attribute_value has_id declares read.x is_sound_package in
    let bytes : text (pass_package says (numbered_package read.x)) ≡ writing.bytes = ap (λ (w : Writing). w.bytes) same in
    record {
      whole = file.x;
      nodes = read.x;
      package_file = is_package reader files p file.x read.x is file.first read.first;
      entries = entries.x;
      journal_files = are_entries reader files file.x read.x journal_bytes journals entries.x is entries.first;
      written = sym bytes;
      texts = survival-package attribute_value says (numbered_package read.x) (numbered-indexed attribute_value read.x);
      sound = soundness attribute_value has_id declares says (numbered_package read.x) numbered;
      marked = kept_stay attribute_value says (numbered_package read.x) (numbered-indexed attribute_value read.x);
      members = members_stay attribute_value has_id declares says (numbered_package read.x) numbered.indexed numbered.sound;
      decided = decided_go attribute_value says (numbered_package read.x) numbered.indexed;
      again = reread file.x read.x says reading is_sound_package;
      no_tree = λ badly. subst (λ (z : List ℕ). HasNoReading z) bytes (unread file.x read.x says reading is_sound_package badly);
      status = ap (λ (w : Writing). (outcome_of (Ok w)).status) (sym same)
          ∙ ap written_status (append-nil (with_refusals [] (refusals (revisions_of read.x) locks entries.x)))
          ∙ same_status (revisions_of read.x) locks entries.x;
    }

-- ---- the call

-- a call that wrote all has the status of its outcome
exact_status : (ended : Status) (o : Outcome) (failed unwritten : Type 0) → IsAnswer ended o failed unwritten → IsWritten ended → o.status ≡ ended
exact_status ended o failed unwritten answer (inl done) = subst (λ s. IsAnswer s o failed unwritten) done answer ∙ sym done
exact_status ended o failed unwritten answer (inr refused) = subst (λ s. IsAnswer s o failed unwritten) refused answer ∙ sym refused

went_out : {K : Type 0} (told : K → Option (List ℕ)) (old new : K) (ended : Status) (bytes known : List ℕ) → Writes told old new ended bytes → IsWritten ended → told old ≡ Some known
    → told new ≡ Some (known ++ bytes)
went_out told old new ended bytes known wrote (inl done) is = subst (λ s. Writes told old new s bytes) done wrote ∙ ap (λ o. append_known o bytes) is
went_out told old new ended bytes known wrote (inr refused) is = subst (λ s. Writes told old new s bytes) refused wrote ∙ ap (λ o. append_known o bytes) is

-- a call whose status and bytes are those of its outcome, but for what the outside forces
pub headline : {K : Type 0} (held : Option Files) (told : K → Option (List ℕ)) (old new : K) (words : List (List ℕ)) (brought : Brought) (ended : Status) (missed failed : Type 0)
    → OfOutcome held words brought (λ outcome. IsAnswer ended outcome missed failed) → OfOutcome held words brought (λ outcome. Writes told old new ended outcome.bytes)
    → Headline words held (told old) (told new) ended
headline held told old new words brought ended missed failed answers puts p locks journals command done files known is_held is_known =
    let reader = a_reader.0 in
    let is_command : reader.command words ≡ Some (write p locks journals) = reads_command reader words (write p locks journals) a_reader.1 command in
    let exact = exact_status ended (outcome reader words files brought) missed failed (answers files reader a_reader.1 (inl is_held)) done in
    let call = is_made (writing_of reader files brought (reader.command words)) (subst (λ s. IsWritten s) (sym exact) done) in
    let made : package_file files p >>= written reader files locks journals ≡ Ok call.0 = ap (writing_of reader files brought) (sym is_command) ∙ call.1 in
    let comes : outcome reader words files brought ≡ outcome_of (Ok call.0) = ap outcome_of call.1 in
    let ends : (outcome_of (Ok call.0)).status ≡ ended = sym (ap (λ (o : Outcome). o.status) comes) ∙ exact in
    let wrote : Writes told old new ended call.0.bytes =
    subst (λ b. Writes told old new ended b) (ap (λ (o : Outcome). o.bytes) comes) (puts files reader a_reader.1 (inl is_held)) in (
      call.0.bytes,
      subst (λ s. IsWriting files p locks journals s call.0.bytes) ends (is_writing reader files p locks journals call.0 a_reader.1 made),
      went_out told old new ended call.0.bytes known wrote done is_known,
    )
