-- What a call answers and leaves behind, by how it ended.
use Rattle.std.proofs.Common.{◌≡◌, ◌≢◌, ◌⊎◌, inl, inr, ℕ, List, [], ◌∷◌, ◌++◌, Option, Contains, Result, Ok, Err, refl, sym, ap, ◌∙◌, subst, arith}
use Rattle.std.specs.Io.KnownBytes.{append_known}
use Rattle.redl_outcome.specs.Answers.{OfOutcome, IsAnswer, IsWritten, Writes, IsFileOf, AreLines, MayFault}
use Rattle.redl_commands.specs.Endings.{Ends, Finishes}
use Rattle.redl_outcome.specs.Brought.{Brought}
use Rattle.redl_outcome.specs.Files.{asked_by}
use Rattle.redl_inputs.specs.Readers.{Reader, IsReader}
use Rattle.redl_lines.specs.Remarks.{all_refused}
use Rattle.redl_lines.specs.Ends.{End, end_status, end_lines, written_status, remark_lines}
use Rattle.redl_outcome.specs.Outcome.{writing_of}
use Rattle.redl_commands.specs.Writing.{Outcome, Writing, outcome_of}
use Rattle.redl_inputs.specs.Reading.{IsMade, IsUnread, MayHold, UnlessUnread}
use Rattle.redl_lines.specs.Failures.{Failure, Cause, caused, unread, no_memory, failure_status, cause_status}
use Rattle.redl_lines.proofs.CauseLaws.{by_cause}
use Rattle.redl_lines.specs.Lines.{failure_line, unwritten_line}
use Rattle.redl_lines.specs.declared.status.Status.{Status}
use Rattle.redl_lines.specs.declared.status.Status.TheVariants as status
use Rattle.redl_io.specs.Faults.{Rose}
use Rattle.redl_io.specs.Shelf.{Files, names_of}
use Rattle.redl_io.specs.declared.shelf.Request.{Request}
use Rattle.redl_io.specs.Sink.{GrowsByFront}
use Rattle.redl_lines.specs.Refused.{RefusedEntries}

-- ---- the outcome of what was due

is_written : (refused : RefusedEntries) → IsWritten (written_status refused)
is_written [] = inl refl
is_written (entry ∷ refused) = inr refl

answer_written : (refused : RefusedEntries) (o : Outcome) (r w : Type 0) → o.status ≡ written_status refused → IsAnswer (written_status refused) o r w
answer_written [] o r w is = is
answer_written (entry ∷ refused) o r w is = is

answer_failed : (failure : Failure) (due : Result Writing Failure) (failed w : Type 0) → IsMade {Y = Writing} (Err failure) due failed
    → IsAnswer (failure_status failure) (outcome_of due) failed w
answer_failed no_memory due failed w h = tt
answer_failed (unread name) due failed w (inl h) = inl h
answer_failed (unread name) due failed w (inr h) = inr (ap (λ d. (outcome_of d).status) h)
answer_failed (caused cause) due failed w h =
    let o = outcome_of due in
    by_cause (λ s. o.status ≡ s → IsAnswer s o failed w) (λ is. is) (λ is. is) (λ is. is) (λ is. is) (λ is. is) (λ is. is) (λ is. is) cause (ap (λ d. (outcome_of d).status) h)

pub answer_by : {K : Type 0} (told : K → Option (List ℕ)) (faults : K → ℕ) (old new : K) (made : Result Writing Failure) (end : End) (due : Result Writing Failure) (failed : Type 0)
    → Finishes told faults old new made end → IsMade made due failed → IsAnswer (end_status end) (outcome_of due) failed (Rose (faults old) (faults new))
answer_by told faults old new (Ok writing) end due failed (inl (is, all)) h =
    rw is (answer_written (all_refused writing.remarks) (outcome_of due) failed (Rose (faults old) (faults new)) (ap (λ d. (outcome_of d).status) h))
answer_by told faults old new (Ok writing) end due failed (inr (is, front)) h =
    rw is (front.rose, subst IsWritten (sym (ap (λ d. (outcome_of d).status) h)) (is_written (all_refused writing.remarks)))
answer_by told faults old new (Err failure) end due failed (is, same, stands) h =
    rw is (answer_failed failure due failed (Rose (faults old) (faults new)) h)

writes_written : {K : Type 0} (told : K → Option (List ℕ)) (refused : RefusedEntries) (old new : K) (bytes : List ℕ) → told new ≡ append_known (told old) bytes → Writes told old new (written_status refused) bytes
writes_written told [] old new bytes is = is
writes_written told (entry ∷ refused) old new bytes is = is

writes_nothing : {K : Type 0} (told : K → Option (List ℕ)) (failure : Failure) (old new : K) (bytes : List ℕ) → told new ≡ told old → Writes told old new (failure_status failure) bytes
writes_nothing told no_memory old new bytes is = is
writes_nothing told (unread name) old new bytes is = is
writes_nothing told (caused cause) old new bytes is = by_cause (λ s. Writes told old new s bytes) is is is is is is is cause

pub writes_by : {K : Type 0} (told : K → Option (List ℕ)) (faults : K → ℕ) (old new : K) (made : Result Writing Failure) (end : End) (due : Result Writing Failure) (failed : Type 0)
    → Finishes told faults old new made end → IsMade made due failed → Writes told old new (end_status end) (outcome_of due).bytes
writes_by told faults old new (Ok writing) end due failed (inl (is, all)) h =
    rw is (subst (λ bytes. Writes told old new (written_status (all_refused writing.remarks)) bytes) (sym (ap (λ d. (outcome_of d).bytes) h))
    (writes_written told (all_refused writing.remarks) old new writing.bytes all.bytes))
writes_by told faults old new (Ok writing) end due failed (inr (is, front)) h =
    rw is (subst (λ bytes. GrowsByFront (told old) (told new) bytes) (sym (ap (λ d. (outcome_of d).bytes) h)) front.bytes)
writes_by told faults old new (Err failure) end due failed (is, same, stands) h =
    rw is (writes_nothing told failure old new (outcome_of due).bytes same)

lines_written : (refused : RefusedEntries) (o : Outcome) (words : List (List ℕ)) (brought : Brought) (r : Type 0) (lines : List ℕ) → lines ≡ o.lines → AreLines (written_status refused) o words brought r lines
lines_written [] o words brought r lines is = is
lines_written (entry ∷ refused) o words brought r lines is = is

-- these are names of files that the words ask for
abbrev pub AreNamed : List (List ℕ) → Brought → List (List ℕ) → Type 0
AreNamed words brought names = (name : List ℕ) → Contains names name → IsFileOf words brought name

lines_failed : (failure : Failure) (due : Result Writing Failure) (words : List (List ℕ)) (brought : Brought) (names : List (List ℕ)) (shelf : Option Files) (failed : Type 0) → AreNamed words brought names
    → IsMade {Y = Writing} (Err failure) due failed → IsUnread {Y = Writing} (Err failure) names shelf failed
    → AreLines (failure_status failure) (outcome_of due) words brought failed (failure_line failure)
lines_failed no_memory due words brought names shelf failed named h u = refl
lines_failed (unread name) due words brought names shelf failed named (inl h) (among, cause) = inr (h, (name, named name among, refl))
lines_failed (unread name) due words brought names shelf failed named (inr h) u =
    inl (ap (λ d. (outcome_of d).status) h, sym (ap (λ d. (outcome_of d).lines) h))
lines_failed (caused cause) due words brought names shelf failed named h u =
    let is : failure_line (caused cause) ≡ (outcome_of due).lines = sym (ap (λ d. (outcome_of d).lines) h) in
    by_cause (λ s. AreLines s (outcome_of due) words brought failed (failure_line (caused cause))) is is is is is is is cause

pub lines_by : {K : Type 0} (told : K → Option (List ℕ)) (faults : K → ℕ) (old new : K) (made : Result Writing Failure) (end : End) (due : Result Writing Failure) (words : List (List ℕ)) (brought : Brought) (names : List (List ℕ)) (shelf : Option Files) (failed : Type 0)
    → AreNamed words brought names → Finishes told faults old new made end → IsMade made due failed → IsUnread made names shelf failed
    → AreLines (end_status end) (outcome_of due) words brought failed (end_lines end)
lines_by told faults old new (Ok writing) end due words brought names shelf failed named (inl (is, all)) h u =
    rw is (lines_written (all_refused writing.remarks) (outcome_of due) words brought failed (remark_lines writing.remarks) (sym (ap (λ d. (outcome_of d).lines) h)))
lines_by told faults old new (Ok writing) end due words brought names shelf failed named (inr (is, front)) h u =
    rw is (ap (λ l. l ++ unwritten_line) (sym (ap (λ d. (outcome_of d).lines) h)))
lines_by told faults old new (Err failure) end due words brought names shelf failed named (is, same, stands) h u =
    rw is (lines_failed failure due words brought names shelf failed named h u)

-- ---- whatever the shelf tells

-- where the words ask for no file, none is named
abbrev pub NamesWhatIsAsked : List (List ℕ) → Brought → List Request → Type 0
NamesWhatIsAsked words brought wanted = (reader : Reader) → IsReader reader → asked_by brought (reader.command words) ≡ [] → wanted ≡ []

-- who asks for no file may be given any
may_hold : {shelf : Option Files} {files : Files} {wanted other : List Request} → (other ≡ [] → wanted ≡ []) → MayHold shelf other files → MayHold shelf wanted files
may_hold none (inl tells) = inl tells
may_hold none (inr nothing) = inr (none nothing)

-- what is due by the words
abbrev pub due_by : List (List ℕ) → Brought → Reader → Files → Result Writing Failure
due_by words brought reader files = writing_of reader files brought (reader.command words)

-- the exit status is the one that the outcome asks for, or tells which fault there was
pub answers : (brought : Brought) {S K : Type 0} {holds : S → Option Files} {misses : S → ℕ} {asked : S → Option (List Request)} {shelf shelf_new : S} {told : K → Option (List ℕ)} {faults : K → ℕ} {out out_new : K}
    {words : List (List ℕ)} {wanted : List Request} {end : End}
    → NamesWhatIsAsked words brought wanted → Ends holds misses asked shelf shelf_new told faults out out_new wanted (due_by words brought) end
    → OfOutcome (holds shelf) words brought (λ o. IsAnswer (end_status end) o (Rose (misses shelf) (misses shelf_new)) (Rose (faults out) (faults out_new)))
answers brought {misses = misses} {shelf = shelf} {shelf_new = shelf_new} {told = told} {faults = faults} {out = out} {out_new = out_new} {words = words} {end = end} asked ends =
    λ files reader is may. answer_by told faults out out_new ends.made end (due_by words brought reader files) (Rose (misses shelf) (misses shelf_new)) ends.finishes
    (ends.reads.as_due files (may_hold (asked reader is) may) reader is)

-- what went to the output is what the outcome asks for at this exit status
pub writes : (brought : Brought) {S K : Type 0} {holds : S → Option Files} {misses : S → ℕ} {asked : S → Option (List Request)} {shelf shelf_new : S} {told : K → Option (List ℕ)} {faults : K → ℕ} {out out_new : K}
    {words : List (List ℕ)} {wanted : List Request} {end : End}
    → NamesWhatIsAsked words brought wanted → Ends holds misses asked shelf shelf_new told faults out out_new wanted (due_by words brought) end
    → OfOutcome (holds shelf) words brought (λ o. Writes told out out_new (end_status end) o.bytes)
writes brought {misses = misses} {shelf = shelf} {shelf_new = shelf_new} {told = told} {faults = faults} {out = out} {out_new = out_new} {words = words} {end = end} asked ends =
    λ files reader is may. writes_by told faults out out_new ends.made end (due_by words brought reader files) (Rose (misses shelf) (misses shelf_new)) ends.finishes
    (ends.reads.as_due files (may_hold (asked reader is) may) reader is)

-- the lines that were told are those that the outcome asks for
pub tells : (Told : List ℕ → Type 0) {S K : Type 0} {holds : S → Option Files} {misses : S → ℕ} {asked : S → Option (List Request)} {shelf shelf_new : S} {told : K → Option (List ℕ)} {faults : K → ℕ} {out out_new : K}
    {words : List (List ℕ)} {brought : Brought} {wanted : List Request} {end : End} → AreNamed words brought (names_of wanted)
    → NamesWhatIsAsked words brought wanted → Ends holds misses asked shelf shelf_new told faults out out_new wanted (due_by words brought) end → Told (end_lines end)
    → OfOutcome (holds shelf) words brought (λ o. (lines : List ℕ) × AreLines (end_status end) o words brought (Rose (misses shelf) (misses shelf_new)) lines × Told lines)
tells Told {holds = holds} {misses = misses} {shelf = shelf} {shelf_new = shelf_new} {told = told} {faults = faults} {out = out} {out_new = out_new} {words = words} {brought = brought} {wanted = wanted} {end = end} named asked ends h =
    λ files reader is may. (
      end_lines end,
      lines_by told faults out out_new ends.made end (due_by words brought reader files) words brought (names_of wanted) (holds shelf) (Rose (misses shelf) (misses shelf_new)) named ends.finishes
          (ends.reads.as_due files (may_hold (asked reader is) may) reader is) ends.reads.unread,
      h,
    )

-- ---- causes

no_read_fault : (refused : RefusedEntries) → written_status refused ≡ status.ReadFault → ⊥
no_read_fault [] is = absurd (cc is)
no_read_fault (entry ∷ refused) is = absurd (cc is)

not_read_fault : {Holds : Type 0} (cause : Cause) → cause_status cause ≡ status.ReadFault → Holds
not_read_fault cause is =
    absurd (by_cause (λ s. s ≡ status.ReadFault → ⊥) (λ e. absurd (cc e)) (λ e. absurd (cc e)) (λ e. absurd (cc e)) (λ e. absurd (cc e)) (λ e. absurd (cc e)) (λ e. absurd (cc e)) (λ e. absurd (cc e)) cause is)

may_fault : (failure : Failure) (words : List (List ℕ)) (brought : Brought) (names : List (List ℕ)) (shelf : Option Files) (failed : Type 0) → AreNamed words brought names
    → IsUnread {Y = Writing} (Err failure) names shelf failed → failure_status failure ≡ status.ReadFault → MayFault words brought shelf failed
may_fault no_memory words brought names shelf failed named u is = absurd (cc is)
may_fault (unread name) words brought names shelf failed named (among, h) is = (name, named name among, h)
may_fault (caused cause) words brought names shelf failed named u is = not_read_fault cause is

read_by : {K : Type 0} (told : K → Option (List ℕ)) (faults : K → ℕ) (old new : K) (made : Result Writing Failure) (end : End) (words : List (List ℕ)) (brought : Brought) (names : List (List ℕ)) (shelf : Option Files) (failed : Type 0) → AreNamed words brought names
    → Finishes told faults old new made end → IsUnread made names shelf failed → end_status end ≡ status.ReadFault → MayFault words brought shelf failed
read_by told faults old new (Ok writing) end words brought names shelf failed named (inl (is, all)) u fault = absurd (no_read_fault (all_refused writing.remarks) (sym (ap end_status is) ∙ fault))
read_by told faults old new (Ok writing) end words brought names shelf failed named (inr (is, front)) u fault = absurd (cc (sym (ap end_status is) ∙ fault))
read_by told faults old new (Err failure) end words brought names shelf failed named (is, same, stands) u fault =
    may_fault failure words brought names shelf failed named u (sym (ap end_status is) ∙ fault)

-- a call ends with a read fault only where a file of its words may have failed
pub read_cause : {S K : Type 0} {holds : S → Option Files} {misses : S → ℕ} {asked : S → Option (List Request)} {shelf shelf_new : S} {told : K → Option (List ℕ)} {faults : K → ℕ} {out out_new : K}
    {words : List (List ℕ)} {brought : Brought} {wanted : List Request} {end : End} {due : Reader → Files → Result Writing Failure}
    → AreNamed words brought (names_of wanted) → Ends holds misses asked shelf shelf_new told faults out out_new wanted due end → end_status end ≡ status.ReadFault
    → MayFault words brought (holds shelf) (Rose (misses shelf) (misses shelf_new))
read_cause {holds = holds} {misses = misses} {shelf = shelf} {shelf_new = shelf_new} {told = told} {faults = faults} {out = out} {out_new = out_new} {words = words} {brought = brought} {wanted = wanted} {end = end} named ends fault =
    read_by told faults out out_new ends.made end words brought (names_of wanted) (holds shelf) (Rose (misses shelf) (misses shelf_new)) named ends.finishes ends.reads.unread fault

no_write_fault : (refused : RefusedEntries) → written_status refused ≡ status.WriteFault → ⊥
no_write_fault [] is = absurd (cc is)
no_write_fault (entry ∷ refused) is = absurd (cc is)

failed_no_write_fault : (failure : Failure) → failure_status failure ≡ status.WriteFault → ⊥
failed_no_write_fault no_memory is = absurd (cc is)
failed_no_write_fault (unread name) is = absurd (cc is)
failed_no_write_fault (caused cause) is =
    by_cause (λ s. s ≡ status.WriteFault → ⊥) (λ e. absurd (cc e)) (λ e. absurd (cc e)) (λ e. absurd (cc e)) (λ e. absurd (cc e)) (λ e. absurd (cc e)) (λ e. absurd (cc e)) (λ e. absurd (cc e)) cause is

-- a call ends with a write fault only where the output failed
pub write_cause : {K : Type 0} (told : K → Option (List ℕ)) (faults : K → ℕ) (old new : K) (made : Result Writing Failure) (end : End)
    → Finishes told faults old new made end → end_status end ≡ status.WriteFault → Rose (faults old) (faults new)
write_cause told faults old new (Ok writing) end (inl (is, all)) fault = absurd (no_write_fault (all_refused writing.remarks) (sym (ap end_status is) ∙ fault))
write_cause told faults old new (Ok writing) end (inr (is, front)) fault = front.rose
write_cause told faults old new (Err failure) end (is, same, stands) fault = absurd (failed_no_write_fault failure (sym (ap end_status is) ∙ fault))

-- ---- what stands

-- at any other exit status the output did not fail
pub out_stands : {K : Type 0} (told : K → Option (List ℕ)) (faults : K → ℕ) (old new : K) (made : Result Writing Failure) (end : End)
    → Finishes told faults old new made end → end_status end ≢ status.WriteFault → faults new ≡ faults old
out_stands told faults old new (Ok writing) end (inl (is, all)) other = all.stands
out_stands told faults old new (Ok writing) end (inr (is, front)) other = absurd (other (ap end_status is))
out_stands told faults old new (Err failure) end (is, same, stands) other = stands

untouched_written : (refused : RefusedEntries) → written_status refused ≢ status.Done → written_status refused ≢ status.Refused → ⊥
untouched_written [] not_done not_refused = not_done refl
untouched_written (entry ∷ refused) not_done not_refused = not_refused refl

-- unless a call succeeded or the output failed, nothing went to the output
pub untouched : {K : Type 0} (told : K → Option (List ℕ)) (faults : K → ℕ) (old new : K) (made : Result Writing Failure) (end : End)
    → Finishes told faults old new made end → end_status end ≢ status.Done → end_status end ≢ status.Refused → end_status end ≢ status.WriteFault → told new ≡ told old
untouched told faults old new (Ok writing) end (inl (is, all)) not_done not_refused not_failed =
    absurd (untouched_written (all_refused writing.remarks) (λ e. not_done (ap end_status is ∙ e)) (λ e. not_refused (ap end_status is ∙ e)))
untouched told faults old new (Ok writing) end (inr (is, front)) not_done not_refused not_failed = absurd (not_failed (ap end_status is))
untouched told faults old new (Err failure) end (is, same, stands) not_done not_refused not_failed = same

failed_stands : (failure : Failure) (Holds : Type 0) → UnlessUnread {Y = Writing} (Err failure) Holds → failure_status failure ≢ status.ReadFault → Holds
failed_stands no_memory Holds h other = h
failed_stands (unread name) Holds h other = absurd (other refl)
failed_stands (caused cause) Holds h other = h

-- unless a file could not be read, the shelf is as it was
pub shelf_stands : {K : Type 0} (told : K → Option (List ℕ)) (faults : K → ℕ) (old new : K) (made : Result Writing Failure) (end : End) (Holds : Type 0)
    → Finishes told faults old new made end → UnlessUnread made Holds → end_status end ≢ status.ReadFault → Holds
shelf_stands told faults old new (Ok writing) end Holds finished h other = h
shelf_stands told faults old new (Err failure) end Holds (is, same, stands) h other =
    failed_stands failure Holds h (λ e. other (ap end_status is ∙ e))

-- ---- where nothing can fail

-- where neither the shelf nor the output can fail, the status is the outcome's, or memory ran out
pub answered_surely : (answer : Status) (o : Outcome) (read_failed write_failed : Type 0) → (read_failed → ⊥) → (write_failed → ⊥)
    → IsAnswer answer o read_failed write_failed → (answer ≡ o.status) ⊎ (answer ≡ status.NoMemory)
answered_surely status.NoMemory o read_failed write_failed reads writes h = inr refl
answered_surely status.ReadFault o read_failed write_failed reads writes (inl h) = absurd (reads h)
answered_surely status.ReadFault o read_failed write_failed reads writes (inr h) = inl (sym h)
answered_surely status.WriteFault o read_failed write_failed reads writes h = absurd (writes h.0)
answered_surely status.Done o read_failed write_failed reads writes h = inl (sym h)
answered_surely status.Refused o read_failed write_failed reads writes h = inl (sym h)
answered_surely status.Usage o read_failed write_failed reads writes h = inl (sym h)
answered_surely status.Package o read_failed write_failed reads writes h = inl (sym h)
answered_surely status.Journal o read_failed write_failed reads writes h = inl (sym h)
answered_surely status.Limit o read_failed write_failed reads writes h = inl (sym h)
answered_surely status.Sequence o read_failed write_failed reads writes h = inl (sym h)
answered_surely status.NotWritten o read_failed write_failed reads writes h = inl (sym h)
answered_surely status.Differ o read_failed write_failed reads writes h = inl (sym h)

-- where there are no faults, none was added
pub never_rose : Rose 0 0 → ⊥
never_rose rose = absurd (omega (arith, rose.more))
