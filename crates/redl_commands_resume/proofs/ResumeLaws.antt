-- Two sittings, one step after the other.
use Rattle.std.proofs.Common.{◌≡◌, ◌++◌, ℕ, List, [], length, map, true, false, cond, Option, None, Some, Result, Ok, Err, refl, sym, ap, ◌∙◌}
use Rattle.std.specs.Str.{bytes_eq}
use Rattle.redl_inputs.proofs.PackageLaws.{sound_of}
use Rattle.redl_commands.specs.Join.{book_text}
use Rattle.redl_commands_shown.specs.Resume.{left_by, of_second, resumption, second_cause, second_failure, sitting_on, text_under}
use Rattle.redl_commands.specs.Settle.{passed_text}
use Rattle.redl_commands.specs.Write.{left_text}
use Rattle.redl_commands_resume.specs.Inside.FirstSittings.{IsFirst, IsReadAgain, SecondSitting, joined_by, resumption_of}
use Rattle.redl_commands.specs.Writing.{Writing}
use Rattle.redl_commands_resume.specs.declared.resume.First.{First}
use Rattle.redl_index.proofs.RevisionLaws.{length-revisions_of}
use Rattle.redl_index.specs.Numbers.{numbered_package, package_revisions}
use Rattle.redl_inputs.proofs.ReadLaws.{always, fails_alone, reads_stops, reads_then, reads_then_takes, reads_when}
use Rattle.redl_inputs.proofs.StepLaws.{both_ok, same_ok}
use Rattle.redl_inputs.specs.Admission.{Admission}
use Rattle.redl_inputs.specs.Asking.{files_within}
use Rattle.redl_inputs.specs.Journals.{DocumentId}
use Rattle.redl_inputs.specs.Packages.{package_in, shaped, shaped_unless, sound, tree_in}
use Rattle.redl_inputs.specs.Readers.{Reader, IsReader}
use Rattle.redl_inputs.specs.Reading.{IsOfNoFile, Reads, ReadsFiles}
use Rattle.redl_inputs.specs.Steps.{◌>>=◌}
use Rattle.redl_io.specs.Shelf.{Files}
use Rattle.redl_io.specs.declared.shelf.Request.{Request}
use Rattle.redl_journal.specs.declared.entry.Entry.{Entry}
use Rattle.redl_lines.specs.Failures.{Cause, Failure, caused, differ, no_memory, no_package, not_written, unread}
use Rattle.redl_lines.specs.Refused.{RefusedEntries}
use Rattle.redl_opc.specs.Shape.{refusal}
use Rattle.redl_opc.specs.declared.error.OpcError.{OpcError}
use Rattle.redl_rules.specs.Attributes.{broken_rule}
use Rattle.redl_session.specs.Says.{says_of}
use Rattle.redl_sittings.specs.JoinedBooks.{decided, with_second}
use Rattle.redl_sittings.specs.SecondNumbers.{numbers_beside, part_numbers, parts_beside}
use Rattle.redl_tree.specs.Decisions.Packages.{pass_package}
use Rattle.redl_tree.specs.Model.Nodes.{Nodes}
use Rattle.redl_tree.specs.Model.Text.{text}

-- ---- steps

steps_in_one : {X Y Z : Type 0} (made : Result X Failure) (next : X → Result Y Failure) (last : Y → Result Z Failure)
    → (made >>= next) >>= last ≡ made >>= (λ x. next x >>= last)
steps_in_one (Ok x) next last = refl
steps_in_one (Err failure) next last = refl

-- a step that went well, and then two more
pub reads_then_in : {S X Y Z : Type 0} {told : S → Option Files} {faults : S → ℕ} {asked : S → Option (List Request)} {old mid new : S} {wanted more : List Request} {x : X} {made : Result Z Failure}
    {due : Reader → Files → Result X Failure} (next : X → Reader → Files → Result Y Failure) (last : Y → Result Z Failure)
    → ReadsFiles told faults asked old mid wanted (Ok x) due → ReadsFiles told faults asked mid new more made (λ reader files. next x reader files >>= last)
    → ReadsFiles told faults asked old new (wanted ++ more) made (λ reader files. (due reader files >>= (λ y. next y reader files)) >>= last)
reads_then_in {told = told} {old = old} {wanted = wanted} {more = more} {due = due} next last first rest =
    reads_when (λ reader files. (due reader files >>= (λ y. next y reader files)) >>= last)
    (always (told old) (wanted ++ more) (λ files reader is. steps_in_one (due reader files) (λ y. next y reader files) last))
    (reads_then (λ y reader files. next y reader files >>= last) first rest)

-- ---- the second package

-- a second package refuses no journal where a package refuses none
second_refuses : (X : Type 0) (cause : Cause) → IsOfNoFile {Y = X} None (Err (caused cause)) → IsOfNoFile {Y = X} None (Err (caused (second_cause cause)))
second_refuses X (no_package fault) of = tt
second_refuses X cause of = of

pub reads_second : {X : Type 0} (failure : Failure) (due : Reader → Result X Failure) → Reads {Y = X} (Err failure) due → Reads {Y = X} (Err (second_failure failure)) (λ reader. of_second (due reader))
reads_second {X} (caused cause) due step = record { as_due = λ reader is. ap of_second (step.as_due reader is); of_no_file = second_refuses X cause step.of_no_file }
reads_second (unread name) due step = absurd step.of_no_file
reads_second no_memory due step = record { as_due = λ reader is. tt; of_no_file = tt }

pub reads_second_ok : {X : Type 0} (x : X) (due : Reader → Result X Failure) → Reads (Ok x) due → Reads (Ok x) (λ reader. of_second (due reader))
reads_second_ok x due step = record { as_due = λ reader is. ap of_second (step.as_due reader is); of_no_file = tt }

-- ---- whether it is what was left

is_not_left : (state-text whole : List ℕ) → bytes_eq whole state-text ≡ false
    → (let r : Result (List ℕ) Failure = cond (bytes_eq whole state-text) (Ok whole) (Err (caused not_written)) in r) ≡ Err (caused not_written)
is_not_left state-text whole e = rw e refl

-- another package is refused
pub reads_other : {S : Type 0} {told : S → Option Files} {faults : S → ℕ} {asked : S → Option (List Request)} (shelf : S) (one : Admission) (left : ℕ) (whole text_ : List ℕ) (journals : List (List ℕ))
    → text_ ≡ left_text one.state → bytes_eq whole text_ ≡ false
    → ReadsFiles {Y = Writing} told faults asked shelf shelf (files_within left journals) (Err (caused not_written))
    (λ reader files. (left_by one.state whole >>= (λ w. sitting_on reader files left journals w)) >>= (λ two. resumption one two.0))
reads_other shelf one left whole text_ journals same other =
    fails_alone shelf (files_within left journals) tt
    (λ reader files is.
    ap (λ (made : Result (List ℕ) Failure). (made >>= (λ w. sitting_on reader files left journals w)) >>= (λ two. resumption one two.0))
    (is_not_left (left_text one.state) whole (ap (bytes_eq whole) (sym same) ∙ other)))

-- what was left is gone on with
pub reads_left : {S : Type 0} {told : S → Option Files} {faults : S → ℕ} {asked : S → Option (List Request)} {old new : S} {made : Result Writing Failure} (one : Admission) (left : ℕ) (whole text_ : List ℕ) (journals : List (List ℕ))
    → text_ ≡ left_text one.state → bytes_eq whole text_ ≡ true
    → ReadsFiles told faults asked old new (files_within left journals) made (λ reader files. sitting_on reader files left journals whole >>= (λ two. resumption one two.0))
    → ReadsFiles told faults asked old new (files_within left journals) made (λ reader files. (left_by one.state whole >>= (λ w. sitting_on reader files left journals w)) >>= (λ two. resumption one two.0))
reads_left {told = told} {old = old} one left whole text_ journals same equal step =
    reads_when (λ reader files. (left_by one.state whole >>= (λ w. sitting_on reader files left journals w)) >>= (λ two. resumption one two.0))
    (always (told old) (files_within left journals) (λ files reader is.
    ap (λ (made : Result (List ℕ) Failure). (made >>= (λ w. sitting_on reader files left journals w)) >>= (λ two. resumption one two.0)) here)) step
  where
    here : left_by one.state whole ≡ Ok whole
    here = ap (λ b. cond b (Ok whole) (Err (caused not_written))) (ap (bytes_eq whole) (sym same) ∙ equal)

-- ---- the first package again

-- what was read once cannot fail but for memory
pub fails_by_memory : {X Y : Type 0} (failure : Failure) (due : Reader → Result X Failure) (later : Reader → Result Y Failure) (x : X) → Reads {Y = X} (Err failure) due
    → ((reader : Reader) → IsReader reader → due reader ≡ Ok x) → Reads {Y = Y} (Err failure) later
fails_by_memory (caused cause) due later x step read = record { as_due = λ reader is. absurd (never (sym (step.as_due reader is) ∙ read reader is)); of_no_file = step.of_no_file }
  where
    never : (let r : Result _ Failure = Err (caused cause) in r) ≡ Ok x → ⊥
    never e = cc e
fails_by_memory (unread name) due later x step read = absurd step.of_no_file
fails_by_memory no_memory due later x step read = record { as_due = λ reader is. tt; of_no_file = tt }

shape_of : (error : Option OpcError) (nodes made : Nodes) → shaped_unless error nodes ≡ Ok made → (error ≡ None) × (made ≡ nodes)
shape_of None nodes made is = (refl, sym (same_ok is))
shape_of (Some error) nodes made is = absurd (cc is)

-- a package that was read has the shape of one
has_shape : (reader : Reader) (whole : List ℕ) (nodes : Nodes) → package_in reader whole ≡ Ok nodes → refusal nodes ≡ None
has_shape reader whole nodes is =
    let tree = both_ok (tree_in (reader.tree whole)) (λ tree. shaped tree >>= (λ package_. sound package_)) nodes is in
    let shape = both_ok (shaped tree.x) (λ package_. sound package_) nodes tree.second in
    let kept = sound_of (broken_rule shape.x) shape.x nodes shape.second in
    let made = shape_of (refusal tree.x) tree.x shape.x shape.first in
    ap refusal (kept.1 ∙ made.1) ∙ made.0

-- the text of the package that is read again is that of the session's package
pub text_again : (reader : Reader) (whole : List ℕ) (one : Admission) (again : IsReadAgain whole one) (book : List Entry) → IsReader reader
    → passed_text (says_of book (package_revisions again.nodes)) again.nodes ≡ text_under one.state book
text_again reader whole one again book is =
    let counted : length one.state.revisions ≡ package_revisions again.nodes =
    ap length again.revisions ∙ length-revisions_of again.nodes (has_shape reader whole again.nodes (again.read reader is)) in
    ap (λ n. text (pass_package (says_of book n) (numbered_package again.nodes))) (sym counted)
    ∙ ap (λ (nodes : Nodes). text (pass_package (says_of book (length one.state.revisions)) nodes)) (sym again.numbered)

-- ---- the end

-- the joined book and what is compared are those of both sessions
pub resumption_is : (one two : Admission) (first : First) → IsFirst one first
    → resumption_of one (joined_by first.decided (map (λ part. part.items) first.numbers.items) two) ≡ resumption one two
resumption_is one two first is =
    ap (λ (before : List Entry). resumption_of one (joined_by before (map (λ part. part.items) first.numbers.items) two)) is.decided_book
    ∙ ap (λ (numbers : List (List ℕ)). resumption_of one (joined_by (decided one.state.book) numbers two)) is.numbers

-- the text of the package that is read again, as a step
abbrev pub text_due : List ℕ → List Entry → Reader → Result (List ℕ) Failure
text_due whole book reader = package_in reader whole >>= (λ nodes. Ok (passed_text (says_of book (package_revisions nodes)) nodes))

due_again : (reader : Reader) (whole : List ℕ) (one : Admission) (again : IsReadAgain whole one) (book : List Entry) → IsReader reader
    → text_due whole book reader ≡ Ok (passed_text (says_of book (package_revisions again.nodes)) again.nodes)
due_again reader whole one again book is = ap (λ (made : Result Nodes Failure). made >>= (λ nodes. Ok (passed_text (says_of book (package_revisions nodes)) nodes))) (again.read reader is)

text_is : (reader : Reader) (whole : List ℕ) (one : Admission) (again : IsReadAgain whole one) (book : List Entry) (under : List ℕ) → IsReader reader
    → Reads (Ok under) (text_due whole book) → under ≡ text_under one.state book
text_is reader whole one again book under is step =
    same_ok (sym (step.as_due reader is) ∙ due_again reader whole one again book is) ∙ text_again reader whole one again book is

-- the package cannot be read again
pub conclude_fails : (whole : List ℕ) (one : Admission) (again : IsReadAgain whole one) (second : SecondSitting) (failure : Failure)
    → Reads {Y = List ℕ} (Err failure) (text_due whole second.book) → Reads {Y = Writing} (Err failure) (λ reader. resumption_of one second)
conclude_fails whole one again second failure step =
    fails_by_memory failure (text_due whole second.book) (λ reader. resumption_of one second) (passed_text (says_of second.book (package_revisions again.nodes)) again.nodes) step
    (λ reader is. due_again reader whole one again second.book is)

-- what is written with this document and these refused entries
abbrev written_with : DocumentId → RefusedEntries → SecondSitting → Writing
written_with document refused second = record { bytes = book_text document second.book; remarks = record { refused = refused; second = second.refused; idle = []; notes = [] } }

-- the sittings come to different texts
pub conclude_differs : (whole : List ℕ) (one : Admission) (again : IsReadAgain whole one) (second : SecondSitting) (under : List ℕ)
    → Reads (Ok under) (text_due whole second.book) → bytes_eq under second.text ≡ false → Reads {Y = Writing} (Err (caused differ)) (λ reader. resumption_of one second)
conclude_differs whole one again second under step other = record { as_due = λ reader is. due reader is; of_no_file = tt }
  where
    due : (reader : Reader) → IsReader reader → resumption_of one second ≡ Err (caused differ)
    due reader is =
        ap (λ b. cond b (Ok (written_with one.document one.remarks.refused second)) (Err (caused differ)))
        (ap (λ (u : List ℕ). bytes_eq u second.text) (sym (text_is reader whole one again second.book under is step)) ∙ other)

-- they come to the same text
pub conclude_ok : (whole : List ℕ) (one : Admission) (again : IsReadAgain whole one) (document : DocumentId) (refused : RefusedEntries) (second : SecondSitting) (under : List ℕ)
    → document ≡ one.document → refused ≡ one.remarks.refused → Reads (Ok under) (text_due whole second.book) → bytes_eq under second.text ≡ true
    → Reads (Ok (written_with document refused second)) (λ reader. resumption_of one second)
conclude_ok whole one again document refused second under of_document were step same = record { as_due = λ reader is. due reader is; of_no_file = tt }
  where
    due : (reader : Reader) → IsReader reader → resumption_of one second ≡ Ok (written_with document refused second)
    due reader is =
        ap (λ b. cond b (Ok (written_with one.document one.remarks.refused second)) (Err (caused differ)))
        (ap (λ (u : List ℕ). bytes_eq u second.text) (sym (text_is reader whole one again second.book under is step)) ∙ same)
        ∙ ap (λ (d : DocumentId). Ok (written_with d one.remarks.refused second)) (sym of_document)
        ∙ ap (λ (r : RefusedEntries). Ok (written_with document r second)) (sym were)

-- what a second sitting comes to, by the steps that make it
pub joined_is : (before : List Entry) (numbers : List (List ℕ)) (two : Admission) (book : List Entry) (left : List ℕ)
    → book ≡ with_second before two.state.book (numbers_beside (parts_beside (part_numbers two.state.nodes) numbers) (length two.state.revisions))
    → left ≡ left_text two.state → (let r : SecondSitting = record { book = book; text = left; refused = two.remarks.refused } in r) ≡ joined_by before numbers two
joined_is before numbers two book left is_book is_left = rw (is_book, is_left) refl

-- the book that it has, by the steps that make it
pub joined_book_is : (before entries book : List Entry) (numbers seconds : List (List ℕ)) (nodes : Nodes) (count revisions : ℕ) (back : List ℕ)
    → seconds ≡ part_numbers nodes → count ≡ revisions → back ≡ numbers_beside (parts_beside seconds numbers) count → book ≡ with_second before entries back
    → book ≡ with_second before entries (numbers_beside (parts_beside (part_numbers nodes) numbers) revisions)
joined_book_is before entries book numbers seconds nodes count revisions back is_seconds is_count is_back is_book =
    is_book ∙ ap (with_second before entries)
    (is_back ∙ ap (λ ns. numbers_beside (parts_beside ns numbers) count) is_seconds ∙ ap (numbers_beside (parts_beside (part_numbers nodes) numbers)) is_count)

-- what is due of a second sitting, in one step and in two
by_sittings : (one : Admission) (first : First) → IsFirst one first → (made : Result (Admission × ℕ) Failure)
    → made >>= (λ two. resumption one two.0) ≡ (made >>= (λ two. Ok (joined_by first.decided (map (λ part. part.items) first.numbers.items) two.0))) >>= (λ second. resumption_of one second)
by_sittings one first is (Ok two) = sym (resumption_is one two.0 first is)
by_sittings one first is (Err failure) = refl

pub concludes_all : {S : Type 0} {told : S → Option Files} {faults : S → ℕ} {asked : S → Option (List Request)} {old new : S} {second : SecondSitting} {made : Result Writing Failure}
    (one : Admission) (first : First) (left : ℕ) (journals : List (List ℕ)) (whole : List ℕ) → IsFirst one first
    → ReadsFiles told faults asked old new (files_within left journals) (Ok second) (λ reader files. sitting_on reader files left journals whole >>= (λ two. Ok (joined_by first.decided (map (λ part. part.items) first.numbers.items) two.0)))
    → Reads made (λ reader. resumption_of one second)
    → ReadsFiles told faults asked old new (files_within left journals) made (λ reader files. sitting_on reader files left journals whole >>= (λ two. resumption one two.0))
concludes_all {told = told} {old = old} one first left journals whole is step last =
    reads_when (λ reader files. sitting_on reader files left journals whole >>= (λ two. resumption one two.0))
    (always (told old) (files_within left journals) (λ files reader reads. by_sittings one first is (sitting_on reader files left journals whole)))
    (reads_then_takes (λ second reader. resumption_of one second) step last)

pub stops_all : {S : Type 0} {told : S → Option Files} {faults : S → ℕ} {asked : S → Option (List Request)} {old new : S} {failure : Failure}
    (one : Admission) (first : First) (left : ℕ) (journals : List (List ℕ)) (whole : List ℕ) → IsFirst one first
    → ReadsFiles {Y = SecondSitting} told faults asked old new (files_within left journals) (Err failure) (λ reader files. sitting_on reader files left journals whole >>= (λ two. Ok (joined_by first.decided (map (λ part. part.items) first.numbers.items) two.0)))
    → ReadsFiles {Y = Writing} told faults asked old new (files_within left journals) (Err failure) (λ reader files. sitting_on reader files left journals whole >>= (λ two. resumption one two.0))
stops_all {told = told} {old = old} one first left journals whole is step =
    reads_when (λ reader files. sitting_on reader files left journals whole >>= (λ two. resumption one two.0))
    (always (told old) (files_within left journals) (λ files reader reads. by_sittings one first is (sitting_on reader files left journals whole)))
    (reads_stops {X = SecondSitting} {Y = Writing} (λ second reader files. resumption_of one second) step)
