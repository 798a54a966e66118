-- Two sittings of which a journal is written come to the same text, and they are told to differ exactly where they do not.
use Rattle.std.proofs.Common.{◌≡◌, ◌≢◌, ◌-◌, ◌==◌, not, ℕ, List, [], ◌∷◌, length, Bool, true, false, cond, Option, None, Some, Result, Ok, Err, refl, sym, ap, ◌∙◌, subst}
use Rattle.std.proofs.lemmas.Slice.Eq.{bytes_eq-Decides}
use Rattle.std.specs.Prelude.{nat_lt}
use Rattle.std.specs.Str.{bytes_eq}
use Rattle.redl_outcome.proofs.LeftLaws.{is_made, same_status}
use Rattle.redl_inputs.proofs.ReaderLaws.{reads_command}
use Rattle.redl_outcome.specs.Answers.{IsAnswer, OfOutcome}
use Rattle.redl_outcome.specs.Brought.{Brought}
use Rattle.redl_commands.specs.Join.{book_text}
use Rattle.redl_commands_shown.specs.Resume.{book_of, first_sitting, left_by, of_second, resumed, resumption, second_failure, second_sitting, sitting_on, text_under}
use Rattle.redl_commands.specs.Write.{left_text}
use Rattle.redl_outcome.specs.Outcome.{outcome, writing_of}
use Rattle.redl_outcome.specs.Sittings.{Differ, DifferExactly, Resumes, SittingsAgree}
use Rattle.redl_commands.specs.Writing.{Writing, outcome_of}
use Rattle.redl_inputs.proofs.LeftLaws.{and_more, put_in}
use Rattle.redl_inputs.proofs.StepLaws.{both_ok, same_ok}
use Rattle.redl_inputs.specs.Admission.{Admission, admission_with, no_admission, sitting_over}
use Rattle.redl_inputs.specs.Journals.{DocumentId, entries_in, entries_of, gathered_with, journal_at, journal_or_none}
use Rattle.redl_inputs.specs.Packages.{package_file, package_in, shaped, shaped_unless, sound, sound_unless, tree_in}
use Rattle.redl_inputs.specs.Readers.{Reader}
use Rattle.redl_inputs.specs.Steps.{◌>>=◌, file, held, within}
use Rattle.redl_io.specs.Limits.{journal_bytes, package_bytes, depth as depth_limit, nodes as node_limit}
use Rattle.redl_io.specs.Shelf.{Files}
use Rattle.redl_journal.specs.Journals.{Journal}
use Rattle.redl_journal.specs.declared.entry.Entry.{Entry}
use Rattle.redl_lines.specs.Failures.{Failure, caused, unread, no_memory, usage, no_format, no_package, no_second, malformed, other_document, other_count, no_sequence, not_written, differ, over, failure_status}
use Rattle.redl_lines.specs.Ends.{written_status}
use Rattle.redl_lines.specs.Refused.{RefusedEntries}
use Rattle.redl_lines.specs.Remarks.{all_refused}
use Rattle.redl_lines.specs.declared.failure.Limit.{Limit}
use Rattle.redl_lines.specs.declared.status.Status.{Status}
use Rattle.redl_lines.specs.declared.status.Status.TheVariants as status
use Rattle.redl_opc.specs.Shape.{refusal}
use Rattle.redl_opc.specs.declared.error.OpcError.{OpcError}
use Rattle.redl_opc.specs.declared.error.OpcError.TheVariants as opc
use Rattle.redl_rules.specs.Attributes.{broken_rule}
use Rattle.redl_tree.specs.Model.Count.{count}
use Rattle.redl_tree.specs.Model.Nodes.{Nodes}
use Rattle.redl_words.specs.Commands.{resume}
use Rattle.redl_xml.specs.Shapes.{depth_of}

-- ---- what both come to

pub resumption-agrees : (first second : Admission) (w : Writing) → resumption first second ≡ Ok w
    → (w.bytes ≡ book_text first.document (book_of first.state second.state)) × (text_under first.state (book_of first.state second.state) ≡ left_text second.state)
resumption-agrees first second w e = at (bytes_eq (text_under first.state (book_of first.state second.state)) (left_text second.state)) refl e
  where
    made : Writing
    made = record {
      bytes = book_text first.document (book_of first.state second.state);
      remarks = record { refused = first.remarks.refused; second = second.remarks.refused; idle = []; notes = [] };
    }

    at : (b : Bool) → bytes_eq (text_under first.state (book_of first.state second.state)) (left_text second.state) ≡ b
        → cond b (Ok made) (Err (caused differ)) ≡ Ok w
        → (w.bytes ≡ book_text first.document (book_of first.state second.state)) × (text_under first.state (book_of first.state second.state) ≡ left_text second.state)
    at true t h = (ap (λ (x : Writing). x.bytes) (sym (same_ok h)), (bytes_eq-Decides (text_under first.state (book_of first.state second.state)) (left_text second.state)).0 t)
    at false t h = absurd cc

pub resumption-differs : (first second : Admission) → text_under first.state (book_of first.state second.state) ≢ left_text second.state
    → resumption first second ≡ Err (caused differ)
resumption-differs first second no_text = at (bytes_eq (text_under first.state (book_of first.state second.state)) (left_text second.state)) refl
  where
    made : Result Writing Failure
    made = Ok (record {
      bytes = book_text first.document (book_of first.state second.state);
      remarks = record { refused = first.remarks.refused; second = second.remarks.refused; idle = []; notes = [] };
    })

    at : (b : Bool) → bytes_eq (text_under first.state (book_of first.state second.state)) (left_text second.state) ≡ b → cond b made (Err (caused differ)) ≡ Err (caused differ)
    at true t = absurd (no_text ((bytes_eq-Decides (text_under first.state (book_of first.state second.state)) (left_text second.state)).0 t))
    at false t = refl

-- a failure to resume where both come to the same text cannot be
resumption-same : (first second : Admission) (failure : Failure) → resumption first second ≡ Err failure
    → text_under first.state (book_of first.state second.state) ≢ left_text second.state
resumption-same first second failure e same =
    let is : bytes_eq (text_under first.state (book_of first.state second.state)) (left_text second.state) ≡ true =
    (bytes_eq-Decides (text_under first.state (book_of first.state second.state)) (left_text second.state)).1 same in
    let wrong = rw is at e in cc

-- ---- no other failure has the status of sittings that differ

-- this step does not fail with the status of sittings that differ
abbrev Apart : {X : Type 0} → Result X Failure → Type 0
Apart (Ok x) = Unit {0}
Apart (Err failure) = failure_status failure ≢ status.Differ

apart_then : {X Y : Type 0} (made : Result X Failure) (next : X → Result Y Failure) → Apart made → ((x : X) → Apart (next x)) → Apart (made >>= next)
apart_then (Ok x) next h g = g x
apart_then (Err failure) next h g = h

apart_if : {X : Type 0} (b : Bool) (failure : Failure) (made : Result X Failure) → failure_status failure ≢ status.Differ → Apart made → Apart (cond b (Err failure) made)
apart_if true failure made h g = h
apart_if false failure made h g = g

apart_unless : {X : Type 0} (b : Bool) (failure : Failure) (made : Result X Failure) → failure_status failure ≢ status.Differ → Apart made → Apart (cond b made (Err failure))
apart_unless true failure made h g = g
apart_unless false failure made h g = h

apart_held : (name : List ℕ) (found : Option (List ℕ)) → Apart (held name found)
apart_held name None = λ e. cc e
apart_held name (Some whole) = tt

apart_file : (files : Files) (name : List ℕ) (most : ℕ) (limit : Limit) → Apart (file files name most limit)
apart_file files name most limit =
    apart_then (held name (files name)) (within most limit) (apart_held name (files name))
    (λ whole. apart_if (nat_lt most (length whole)) (caused (over limit)) (Ok whole) (λ e. cc e) tt)

apart_tree : (found : Option Nodes) → Apart (tree_in found)
apart_tree None = λ e. cc e
apart_tree (Some nodes) =
    apart_if (nat_lt depth_limit (depth_of nodes)) _ _ (λ e. cc e) (apart_if (nat_lt node_limit (count nodes)) _ (Ok nodes) (λ e. cc e) tt)

apart_shape : (error : Option OpcError) (nodes : Nodes) → Apart (shaped_unless error nodes)
apart_shape None nodes = tt
apart_shape (Some opc.NotPackage) nodes = λ e. cc e
apart_shape (Some opc.PartShape) nodes = λ e. cc e
apart_shape (Some opc.NoDocument) nodes = λ e. cc e
apart_shape (Some opc.NoMemory) nodes = λ e. cc e

apart_sound : (rule : Option ℕ) (nodes : Nodes) → Apart (sound_unless rule nodes)
apart_sound None nodes = tt
apart_sound (Some rule) nodes = λ e. cc e

apart_package : (reader : Reader) (whole : List ℕ) → Apart (package_in reader whole)
apart_package reader whole =
    apart_then (tree_in (reader.tree whole)) (λ tree. shaped tree >>= (λ nodes. sound nodes)) (apart_tree (reader.tree whole))
    (λ tree. apart_then (shaped tree) (λ nodes. sound nodes) (apart_shape (refusal tree) tree) (λ nodes. apart_sound (broken_rule nodes) nodes))

apart_journal : (name : List ℕ) (found : Option Journal) → Apart (journal_or_none name found)
apart_journal name None = λ e. cc e
apart_journal name (Some journal) = tt

apart_entries : (document : DocumentId) (name : List ℕ) (journal : Journal) → Apart (entries_in document name journal)
apart_entries document name journal =
    apart_if (not (bytes_eq journal.digest document.digest)) _ _ (λ e. cc e)
    (apart_if (not (journal.count == document.count)) _ (Ok journal.entries) (λ e. cc e) tt)

-- the entries of a journal, with the bytes of its text
abbrev with_size : List ℕ → List Entry → Result (List Entry × ℕ) Failure
with_size whole entries = Ok (entries, length whole)

apart_at : (reader : Reader) (files : Files) (document : DocumentId) (left : ℕ) (name : List ℕ) → Apart (journal_at reader files document left name)
apart_at reader files document left name =
    apart_then (file files name left _) (λ whole. entries_of document name (reader.journal whole) >>= with_size whole) (apart_file files name left _)
    (λ whole. apart_then (entries_of document name (reader.journal whole)) (with_size whole)
    (apart_then (journal_or_none name (reader.journal whole)) (entries_in document name) (apart_journal name (reader.journal whole)) (apart_entries document name))
    (λ entries. tt))

apart_gathered : (reader : Reader) (files : Files) (document : DocumentId) (left : ℕ) (names : List (List ℕ)) → Apart (gathered_with reader files document left names)
apart_gathered reader files document left [] = tt
apart_gathered reader files document left (name ∷ names) =
    apart_then (journal_at reader files document left name) (λ first. gathered_with reader files document (left - first.1) names >>= and_more first.0)
    (apart_at reader files document left name)
    (λ first. apart_then (gathered_with reader files document (left - first.1) names) (and_more first.0)
    (apart_gathered reader files document (left - first.1) names) (λ more. tt))

apart_over : (reader : Reader) (files : Files) (most : ℕ) (names : List (List ℕ)) (whole : List ℕ) (nodes : Nodes) → Apart (sitting_over reader files most names whole nodes)
apart_over reader files most names whole nodes =
    apart_then (gathered_with reader files (no_admission whole nodes []).document most names) (put_in admission_with (no_admission whole nodes []))
    (apart_gathered reader files (no_admission whole nodes []).document most names) (λ entries. tt)

second_status : (failure : Failure) → failure_status (second_failure failure) ≡ failure_status failure
second_status no_memory = refl
second_status (unread name) = refl
second_status (caused usage) = refl
second_status (caused (no_format name)) = refl
second_status (caused (no_package fault)) = refl
second_status (caused (no_second fault)) = refl
second_status (caused (malformed name)) = refl
second_status (caused (other_document name found expected)) = refl
second_status (caused (other_count name found expected)) = refl
second_status (caused (no_sequence reviewer)) = refl
second_status (caused not_written) = refl
second_status (caused differ) = refl
second_status (caused (over limit)) = refl

apart_second : {X : Type 0} (made : Result X Failure) → Apart made → Apart (of_second made)
apart_second (Ok x) h = tt
apart_second (Err failure) h = λ e. h (sym (second_status failure) ∙ e)

apart_first : (reader : Reader) (files : Files) (firsts : List (List ℕ)) (whole : List ℕ) → Apart (first_sitting reader files firsts whole)
apart_first reader files firsts whole =
    apart_then (package_in reader whole) (sitting_over reader files journal_bytes firsts whole) (apart_package reader whole) (apart_over reader files journal_bytes firsts whole)

apart_on : (reader : Reader) (files : Files) (left : ℕ) (journals : List (List ℕ)) (whole : List ℕ) → Apart (sitting_on reader files left journals whole)
apart_on reader files left journals whole =
    apart_then (of_second (package_in reader whole)) (sitting_over reader files left journals whole) (apart_second (package_in reader whole) (apart_package reader whole))
    (apart_over reader files left journals whole)

apart_next : (reader : Reader) (files : Files) (name : List ℕ) (journals : List (List ℕ)) (one : Admission × ℕ) → Apart (second_sitting reader files name journals one)
apart_next reader files name journals one =
    apart_then (package_file files name) (λ fetched. left_by one.0.state fetched >>= (λ whole. sitting_on reader files one.1 journals whole)) (apart_file files name package_bytes _)
    (λ fetched. apart_then (left_by one.0.state fetched) (λ whole. sitting_on reader files one.1 journals whole)
    (apart_unless (bytes_eq fetched (left_text one.0.state)) (caused not_written) (Ok fetched) (λ e. cc e) tt) (λ whole. apart_on reader files one.1 journals whole))

-- ---- of steps of which none but the last can differ

-- the steps went well, and the last one failed
record LastFails {X Y : Type 0} (made : Result X Failure) (next : X → Result Y Failure) (failure : Failure) : Type 0 where
  pub x : X
  pub first : made ≡ Ok x
  pub second : next x ≡ Err failure

last_fails : {X Y : Type 0} (made : Result X Failure) (next : X → Result Y Failure) (failure : Failure) → Apart made → failure_status failure ≡ status.Differ → made >>= next ≡ Err failure
    → LastFails made next failure
last_fails (Ok x) next failure h is e = record { x = x; first = refl; second = e }
last_fails (Err other) next failure h is e = absurd (h (ap (λ (f : Failure). failure_status f) (same_failure e) ∙ is))
  where
    same_failure : {Y : Type 0} → (let r : Result Y Failure = Err other in r) ≡ Err failure → other ≡ failure
    same_failure e = cc

-- ---- a call

-- what a call makes of two sittings
abbrev made_of : Reader → Files → List ℕ → List ℕ → List (List ℕ) → List (List ℕ) → Result Writing Failure
made_of reader files p q firsts journals = package_file files p >>= (λ whole. resumed reader files q firsts journals whole)

made_is : (reader : Reader) (words : List (List ℕ)) (files : Files) (brought : Brought) (p q : List ℕ) (firsts journals : List (List ℕ)) → reader.command words ≡ Some (resume p q firsts journals)
    → writing_of reader files brought (reader.command words) ≡ made_of reader files p q firsts journals
made_is reader words files brought p q firsts journals e = ap (writing_of reader files brought) e

-- the law of two sittings holds of every call
pub sittings_agree : (reader : Reader) (words : List (List ℕ)) (files : Files) (brought : Brought) → SittingsAgree reader words files brought
sittings_agree reader words files brought p q firsts journals e written =
    let made = is_made (writing_of reader files brought (reader.command words)) written in
    let whole = both_ok (package_file files p) (λ whole. resumed reader files q firsts journals whole) made.0 (sym (made_is reader words files brought p q firsts journals e) ∙ made.1) in
    let one = both_ok (first_sitting reader files firsts whole.x) (λ one. second_sitting reader files q journals one >>= (λ two. resumption one.0 two.0)) made.0 whole.second in
    let two = both_ok (second_sitting reader files q journals one.x) (λ two. resumption one.x.0 two.0) made.0 one.second in
    let agrees = resumption-agrees one.x.0 two.x.0 made.0 two.second in
    record {
      sittings = record { whole = whole.x; one = one.x; two = two.x; file = whole.first; first = one.first; second = two.first };
      journal = ap (λ (m : Result Writing Failure). (outcome_of m).bytes) made.1 ∙ agrees.0;
      texts = agrees.1;
    }

not_differ : (refused : RefusedEntries) → written_status refused ≡ status.Differ → ⊥
not_differ [] e = cc e
not_differ (one ∷ more) e = cc e

-- a call that tells of a difference fails
failed : (made : Result Writing Failure) → (outcome_of made).status ≡ status.Differ → (failure : Failure) × (made ≡ Err failure) × (failure_status failure ≡ status.Differ)
failed (Ok writing) is = absurd (not_differ (all_refused writing.remarks) is)
failed (Err failure) is = (failure, refl, is)

differs : (reader : Reader) (files : Files) (p q : List ℕ) (firsts journals : List (List ℕ)) → (outcome_of (made_of reader files p q firsts journals)).status ≡ status.Differ
    → Differ reader files p q firsts journals
differs reader files p q firsts journals is =
    let f = failed (made_of reader files p q firsts journals) is in
    let whole = last_fails (package_file files p) (λ whole. resumed reader files q firsts journals whole) f.0 (apart_file files p package_bytes _) f.2 f.1 in
    let one = last_fails (first_sitting reader files firsts whole.x) (λ one. second_sitting reader files q journals one >>= (λ two. resumption one.0 two.0)) f.0 (apart_first reader files firsts whole.x) f.2 whole.second in
    let two = last_fails (second_sitting reader files q journals one.x) (λ two. resumption one.x.0 two.0) f.0 (apart_next reader files q journals one.x) f.2 one.second in
    record {
      sittings = record { whole = whole.x; one = one.x; two = two.x; file = whole.first; first = one.first; second = two.first };
      texts = resumption-same one.x.0 two.x.0 f.0 two.second;
    }

is_told : (reader : Reader) (files : Files) (p q : List ℕ) (firsts journals : List (List ℕ)) → Differ reader files p q firsts journals
    → made_of reader files p q firsts journals ≡ Err (caused differ)
is_told reader files p q firsts journals d =
    ap (λ (m : Result (List ℕ) Failure). m >>= (λ whole. resumed reader files q firsts journals whole)) d.sittings.file
    ∙ ap (λ (m : Result (Admission × ℕ) Failure). m >>= (λ one. second_sitting reader files q journals one >>= (λ two. resumption one.0 two.0))) d.sittings.first
    ∙ ap (λ (m : Result (Admission × ℕ) Failure). m >>= (λ two. resumption d.sittings.one.0 two.0)) d.sittings.second
    ∙ resumption-differs d.sittings.one.0 d.sittings.two.0 d.texts

-- a call for one journal of two sittings has the status 12 exactly where the sittings come to different texts
pub differ_exactly : (reader : Reader) (words : List (List ℕ)) (files : Files) (brought : Brought) → DifferExactly reader words files brought
differ_exactly reader words files brought p q firsts journals e = (
  λ is. differs reader files p q firsts journals (ap (λ (m : Result Writing Failure). (outcome_of m).status) (sym (made_is reader words files brought p q firsts journals e)) ∙ is),
  λ d. ap (λ (m : Result Writing Failure). (outcome_of m).status) (made_is reader words files brought p q firsts journals e ∙ is_told reader files p q firsts journals d),
)

-- a call that ended with this status
pub call_resumes : (ended : Status) (told : Option Files) (words : List (List ℕ)) (brought : Brought) (read_failed write_failed : Type 0)
    → OfOutcome told words brought (λ o. IsAnswer ended o read_failed write_failed) → Resumes ended told words brought
call_resumes ended told words brought read_failed write_failed answers p q firsts journals is files reader reads may =
    let command = reads_command reader words (resume p q firsts journals) reads is in
    let exactly = differ_exactly reader words files brought p q firsts journals command in
    let answer = answers files reader reads may in (
      λ written. sittings_agree reader words files brought p q firsts journals command (same_status ended (outcome reader words files brought) read_failed write_failed answer written),
      λ e. exactly.0 (subst (λ s. IsAnswer s (outcome reader words files brought) read_failed write_failed) e answer),
      exactly.1,
    )
