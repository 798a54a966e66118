-- What a call that decides leaves of a package is sound, and has exactly the text that survives.
use Rattle.std.proofs.Common.{◌≡◌, inl, inr, ℕ, ◌+◌, List, [], ◌∷◌, Bool, true, false, Option, None, Some, Result, Ok, Err, refl, sym, ap, ◌∙◌, subst, if◌then◌else◌}
use Rattle.std.proofs.lemmas.Bool.{and_from}
use Rattle.std.specs.List.{list_all}
use Rattle.redl_outcome.specs.Answers.{IsAnswer, IsWritten, OfOutcome}
use Rattle.redl_outcome.specs.Left.{AreSays, IsLeft, Leaves, LeavesSound, decided_package}
use Rattle.redl_lines.proofs.CauseLaws.{by_cause}
use Rattle.redl_inputs.specs.Admission.{Admission, admission_with, no_admission, opened_over, opened}
use Rattle.redl_commands.specs.Settle.{passed_text, same_says, settled, settled_under, settling}
use Rattle.redl_commands.specs.Write.{resolved, written}
use Rattle.redl_outcome.specs.Brought.{Brought}
use Rattle.redl_inputs.specs.Journals.{document_of, gathered}
use Rattle.redl_outcome.specs.Outcome.{carried_out, outcome, writing_of}
use Rattle.redl_outcome.specs.Plans.{Plan, plan}
use Rattle.redl_inputs.specs.Packages.{package_file, package_in, tree_in, shaped, sound}
use Rattle.redl_inputs.proofs.PackageLaws.{sound_of}
use Rattle.redl_inputs.proofs.ReaderLaws.{reads_command}
use Rattle.redl_inputs.proofs.StepLaws.{both_ok, same_ok, same_some}
use Rattle.redl_inputs.specs.Readers.{Reader}
use Rattle.redl_inputs.specs.Steps.{◌>>=◌}
use Rattle.redl_commands.specs.Writing.{Outcome, Writing, outcome_of}
use Rattle.redl_words.specs.Commands.{Command, settle, view_text, list, report, page, write, decide, resume, join, check, sample}
use Rattle.redl_io.specs.Limits.{journal_bytes}
use Rattle.redl_sound.proofs.Locked.Opened.{opened-left}
use Rattle.redl_index.specs.Numbers.{numbered_package}
use Rattle.redl_io.specs.Shelf.{Files}
use Rattle.redl_lines.specs.Failures.{Failure, caused, unread, no_memory, failure_status}
use Rattle.redl_lines.specs.declared.status.Status.{Status}
use Rattle.redl_lines.specs.declared.status.Status.TheVariants as status
use Rattle.redl_rules.specs.Attributes.{has_id, declares, rules, broken_rule}
use Rattle.redl_kinds.specs.declared.lock.Lock.{Lock}
use Rattle.redl_session.specs.Sessions.{says}
use Rattle.redl_stamp.specs.Attribute.{attribute_value}
use Rattle.redl_laws.proofs.Survival.Indexed.{survival-package}
use Rattle.redl_tree.proofs.Revisions.NumberLaws.{numbered-indexed}
use Rattle.redl_laws.proofs.Soundness.AllRules.{numbered_sound, soundness}
use Rattle.redl_tree.specs.Model.Nodes.{Nodes}
use Rattle.redl_tree.specs.Decisions.Packages.{stories, pass_package}
use Rattle.redl_tree.specs.Rules.Tests.{Test}
use Rattle.redl_tree.specs.Rules.Sound.{holds, first_broken, is_sound}
use Rattle.redl_tree.specs.Model.Text.{text}
use Rattle.redl_tree.specs.Model.View.{Element}
use Rattle.redl_tree.specs.declared.kinds.Say.{Say}

-- ---- calls that wrote all

unwritten : {s : Status} → (s ≡ status.Done → ⊥) → (s ≡ status.Refused → ⊥) → IsWritten s → ⊥
unwritten not_done not_refused (inl is) = not_done is
unwritten not_done not_refused (inr is) = not_refused is

-- a call that wrote all made what it wrote
failed_is_not_written : (failure : Failure) → IsWritten (failure_status failure) → ⊥
failed_is_not_written no_memory is = absurd (unwritten (λ e. cc e) (λ e. cc e) is)
failed_is_not_written (unread name) is = absurd (unwritten (λ e. cc e) (λ e. cc e) is)
failed_is_not_written (caused cause) is =
    by_cause (λ s. IsWritten s → ⊥) (unwritten (λ e. cc e) (λ e. cc e)) (unwritten (λ e. cc e) (λ e. cc e)) (unwritten (λ e. cc e) (λ e. cc e))
    (unwritten (λ e. cc e) (λ e. cc e)) (unwritten (λ e. cc e) (λ e. cc e)) (unwritten (λ e. cc e) (λ e. cc e)) (unwritten (λ e. cc e) (λ e. cc e)) cause is

-- where the status says that it was written, something was made
pub is_made : (made : Result Writing Failure) → IsWritten (outcome_of made).status → (writing : Writing) × (made ≡ Ok writing)
is_made (Ok writing) is = (writing, refl)
is_made (Err failure) is = absurd (failed_is_not_written failure is)

-- ---- a package that was read is sound

none_broken : (number : ℕ) (tests : List Test) (parts : List Element) → first_broken number tests parts ≡ None → list_all (λ test. holds test parts) tests ≡ true
none_broken number [] parts is = refl
none_broken number (test ∷ later) parts is = here (holds test parts) refl (none_broken (number + 1) later parts) is
  where
    here : (b : Bool) → holds test parts ≡ b → (first_broken (number + 1) later parts ≡ None → list_all (λ other. holds other parts) later ≡ true)
        → (if b then first_broken (number + 1) later parts else Some number) ≡ None → list_all (λ other. holds other parts) (test ∷ later) ≡ true
    here true e rest none = and_from (holds test parts) (list_all (λ other. holds other parts) later) e (rest none)
    here false e rest none = absurd (cc none)

-- a package that was read is sound
pub sound_package : (reader : Reader) (whole : List ℕ) (nodes : Nodes) → package_in reader whole ≡ Ok nodes → is_sound rules nodes ≡ true
sound_package reader whole nodes is =
    let tree = both_ok (tree_in (reader.tree whole)) (λ tree. shaped tree >>= (λ package_. sound package_)) nodes is in
    let shape = both_ok (shaped tree.x) (λ package_. sound package_) nodes tree.second in
    let both = sound_of (broken_rule shape.x) shape.x nodes shape.second in
    rw both.1 (none_broken 1 rules (stories shape.x) both.0)

-- ---- what is left

-- what a pass leaves of a package that was read
left_by : (reader : Reader) (files : Files) (plan : Plan) (name bytes whole : List ℕ) (nodes : Nodes) (says : List Say)
    → package_file files name ≡ Ok whole → package_in reader whole ≡ Ok nodes → AreSays reader files plan plan.decides whole nodes says → bytes ≡ passed_text says nodes
    → IsLeft reader files plan name bytes
left_by reader files plan name bytes whole nodes says file original decided written = record {
  whole = whole;
  nodes = nodes;
  says = says;
  file = file;
  original = original;
  decided = decided;
  written = written;
  texts = survival-package attribute_value says (numbered_package nodes) (numbered-indexed attribute_value nodes);
  sound = soundness attribute_value has_id declares says (numbered_package nodes)
      (numbered_sound attribute_value has_id declares nodes (sound_package reader whole nodes original));
  locked = λ admission element. opened-left reader files plan.locks plan.journals whole admission element;
}

leaves_settled : (reader : Reader) (files : Files) (brought : Brought) (accept : Bool) (name : List ℕ) (writing : Writing)
    → carried_out reader files brought (plan (settle accept name)) ≡ Ok writing → IsLeft reader files (plan (settle accept name)) name writing.bytes
leaves_settled reader files brought accept name writing is =
    let text_ = both_ok (package_file files name) (λ whole. settled reader accept whole) writing is in
    let read = both_ok (package_in reader text_.x) (λ nodes. Ok (settled_under (settling accept) nodes)) writing text_.second in
    let made : writing ≡ settled_under (settling accept) read.x = sym (same_ok read.second) in
    left_by reader files (plan (settle accept name)) name writing.bytes text_.x read.x (same_says (settling accept) read.x)
    text_.first read.first refl (ap (λ (w : Writing). w.bytes) made)

-- a session is over the package with its numbers, whatever it admits
opened_nodes : (reader : Reader) (files : Files) (locks : List Lock) (journals : List (List ℕ)) (whole : List ℕ) (admission : Admission)
    → opened reader files locks journals whole ≡ Ok admission → (nodes : Nodes) × (package_in reader whole ≡ Ok nodes) × (admission.state.nodes ≡ numbered_package nodes)
opened_nodes reader files locks journals whole admission is =
    let read = both_ok (package_in reader whole) (λ nodes. opened_over reader files locks journals whole nodes) admission is in
    let entries = both_ok (gathered reader files (document_of whole read.x) journal_bytes journals) (λ entries. Ok (admission_with (no_admission whole read.x locks) entries)) admission read.second in
    (read.x, read.first, ap (λ (a : Admission). a.state.nodes) (sym (same_ok entries.second)))

leaves_written : (reader : Reader) (files : Files) (brought : Brought) (name : List ℕ) (locks : List Lock) (journals : List (List ℕ)) (writing : Writing)
    → carried_out reader files brought (plan (write name locks journals)) ≡ Ok writing → IsLeft reader files (plan (write name locks journals)) name writing.bytes
leaves_written reader files brought name locks journals writing is =
    let text_ = both_ok (package_file files name) (λ whole. written reader files locks journals whole) writing is in
    let made = both_ok (opened reader files locks journals text_.x) (λ admission. Ok (resolved locks admission)) writing text_.second in
    let over = opened_nodes reader files locks journals text_.x made.x made.first in
    let bytes : writing.bytes ≡ (resolved locks made.x).bytes = ap (λ (w : Writing). w.bytes) (sym (same_ok made.second)) in
    left_by reader files (plan (write name locks journals)) name writing.bytes text_.x over.0 (says made.x.state)
    text_.first over.1 (made.x, made.first, refl) (bytes ∙ ap (λ nodes. text (pass_package (says made.x.state) nodes)) over.2)

leaves : (reader : Reader) (files : Files) (brought : Brought) (command : Command) (name : List ℕ) (writing : Writing) → decided_package (plan command) ≡ Some name
    → carried_out reader files brought (plan command) ≡ Ok writing → IsLeft reader files (plan command) name writing.bytes
leaves reader files brought (settle accept other) name writing named is =
    subst (λ n. IsLeft reader files (plan (settle accept other)) n writing.bytes) (same_some named) (leaves_settled reader files brought accept other writing is)
leaves reader files brought (write other locks journals) name writing named is =
    subst (λ n. IsLeft reader files (plan (write other locks journals)) n writing.bytes) (same_some named) (leaves_written reader files brought other locks journals writing is)
leaves reader files brought (list other format locks journals wanted) name writing named is = absurd (cc named)
leaves reader files brought (report other format by_kind locks journals) name writing named is = absurd (cc named)
leaves reader files brought (page other title rank pictures locks journals) name writing named is = absurd (cc named)
leaves reader files brought (decide other reviewer journals locks choices rank) name writing named is = absurd (cc named)
leaves reader files brought (resume other q firsts journals) name writing named is = absurd (cc named)
leaves reader files brought (join journals) name writing named is = absurd (cc named)
leaves reader files brought (view_text other view) name writing named is = absurd (cc named)
leaves reader files brought (check other) name writing named is = absurd (cc named)
leaves reader files brought (sample number) name writing named is = absurd (cc named)

-- what a command that decides writes is what the pass leaves of its package
pub leaves_sound : (reader : Reader) (words : List (List ℕ)) (files : Files) (brought : Brought) → LeavesSound reader words files brought
leaves_sound reader words files brought command name commands named written =
    let made = is_made (writing_of reader files brought (reader.command words)) written in
    let by_command : writing_of reader files brought (Some command) ≡ Ok made.0 = ap (writing_of reader files brought) (sym commands) ∙ made.1 in
    subst (IsLeft reader files (plan command) name) (sym (ap (λ w. (outcome_of w).bytes) made.1)) (leaves reader files brought command name made.0 named by_command)

pub same_status : (ended : Status) (o : Outcome) (read_failed write_failed : Type 0) → IsAnswer ended o read_failed write_failed → IsWritten ended → IsWritten o.status
same_status ended o read_failed write_failed answer (inl is) = inl (subst (λ s. IsAnswer s o read_failed write_failed) is answer)
same_status ended o read_failed write_failed answer (inr is) = inr (subst (λ s. IsAnswer s o read_failed write_failed) is answer)

-- a call that wrote all left what its outcome leaves
pub leaves_package : (ended : Status) (told : Option Files) (words : List (List ℕ)) (brought : Brought) (read_failed write_failed : Type 0)
    → OfOutcome told words brought (λ o. IsAnswer ended o read_failed write_failed) → Leaves ended told words brought
leaves_package ended told words brought read_failed write_failed answers written command name is named files reader reads may =
    leaves_sound reader words files brought command name (reads_command reader words command reads is) named
    (same_status ended (outcome reader words files brought) read_failed write_failed (answers files reader reads may) written)
