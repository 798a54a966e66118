-- The entries of journals, taken one journal after the other, with how many bytes may still come of other journals.
use Rattle.std.proofs.Common.{◌≡◌, ◌-◌, ℕ, List, [], ◌∷◌, ◌++◌, Option, None, Result, Ok, Err, refl, sym, ap, ◌∙◌, subst}
use Rattle.redl_inputs.proofs.AskLaws.{asks_for_all, files_within-append, no_files}
use Rattle.redl_inputs.proofs.GatherLaws.{TakesInSteps}
use Rattle.redl_inputs.proofs.NameLaws.{not_none}
use Rattle.redl_inputs.proofs.ReadLaws.{Known, both, always, if_known, known_in, reads_before, reads_behind, reads_stops, reads_then_takes, reads_when}
use Rattle.redl_inputs.specs.Admission.{Admission, admission_with, admission_of, admission_left}
use Rattle.redl_inputs.specs.Asking.{AsksAll, file_within, files_within}
use Rattle.redl_inputs.specs.Journals.{DocumentId, journal_at, gathered, gathered_with}
use Rattle.redl_inputs.specs.Readers.{Reader, IsReader}
use Rattle.redl_inputs.specs.Reading.{ReadsFiles}
use Rattle.redl_inputs.specs.Steps.{◌>>=◌}
use Rattle.redl_io.specs.Shelf.{Files}
use Rattle.redl_io.specs.declared.shelf.Request.{Request}
use Rattle.redl_journal.specs.declared.entry.Entry.{Entry}
use Rattle.redl_lines.specs.Failures.{Failure}

-- the entries of one journal and of more, with the bytes that are left after those
abbrev pub and_more : List Entry → List Entry × ℕ → Result (List Entry × ℕ) Failure
and_more first more = Ok (first ++ more.0, more.1)

-- what a state becomes by these entries, with the bytes that are left
abbrev pub put_in : {S : Type 0} → (S → List Entry → S) → S → List Entry × ℕ → Result (S × ℕ) Failure
put_in take state entries = Ok (take state entries.0, entries.1)

-- the entries alone
abbrev pub entries_alone : List Entry × ℕ → Result (List Entry) Failure
entries_alone entries = Ok entries.0

-- what a state becomes by the entries of journals, where each step takes the entries of one, and the bytes that may still come
abbrev pub taken_left : {S : Type 0} → (S → List Entry → S) → S → Reader → Files → DocumentId → ℕ → List (List ℕ) → Result (S × ℕ) Failure
taken_left take state reader files document left names = gathered_with reader files document left names >>= put_in take state

-- what is due is what this state becomes by the journals that are left
abbrev pub IsTakingLeft : {S : Type 0} → (S → List Entry → S) → Option Files → List (List ℕ) → DocumentId → (Reader → Files → Result (S × ℕ) Failure) → S → ℕ → List (List ℕ) → Type 0
IsTakingLeft take told whole document due state left names =
    Known told whole (λ files. (reader : Reader) → IsReader reader → due reader files ≡ taken_left take state reader files document left names)

pub left_begins : {S : Type 0} (take : S → List Entry → S) (told : Option Files) (document : DocumentId) (start : S) (limit : ℕ) (names : List (List ℕ))
    → IsTakingLeft take told names document (λ reader files. taken_left take start reader files document limit names) start limit names
left_begins take told document start limit names = λ files may reader is. refl

in_steps : {S : Type 0} (take : S → List Entry → S) → TakesInSteps take → (made : Result (List Entry × ℕ) Failure) (state : S) (first : List Entry)
    → (made >>= and_more first) >>= put_in take state ≡ made >>= put_in take (take state first)
in_steps {S} take steps (Ok more) state first = ap (λ (s : S). let r : Result (S × ℕ) Failure = Ok (s, more.1) in r) (sym (steps state first more.0))
in_steps take steps (Err failure) state first = refl

-- one journal more
pub left_goes_on : {T : Type 0} (take : T → List Entry → T) → TakesInSteps take
    → {S : Type 0} {told : S → Option Files} {faults : S → ℕ} {asked : S → Option (List Request)} {old new : S} (before : S) (whole : List (List ℕ)) (document : DocumentId) (due : Reader → Files → Result (T × ℕ) Failure) (state : T) (left : ℕ)
    (done : List (List ℕ)) (name : List ℕ) (rest : List (List ℕ)) (first : List Entry) (size : ℕ) (request : Request) → whole ≡ done ++ name ∷ rest → told old ≡ told before → IsTakingLeft take (told before) whole document due state left (name ∷ rest)
    → ReadsFiles told faults asked old new (request ∷ []) (Ok (first, size)) (λ reader files. journal_at reader files document left name)
    → IsTakingLeft take (told before) whole document due (take state first) (left - size) rest
left_goes_on take steps {told = told} before whole document due state left done name rest first size request split same so_far step =
    both (told before) whole
    (λ files p q reader is.
    p reader is
    ∙ ap (λ (made : Result (List Entry × ℕ) Failure). (made >>= (λ x. gathered_with reader files document (left - x.1) rest >>= and_more x.0)) >>= put_in take state) (q reader is)
    ∙ in_steps take steps (gathered_with reader files document (left - size) rest) state first)
    so_far (known_in (told before) (request ∷ []) whole (λ none. absurd (not_none done name rest (sym split ∙ none)))
    (subst (λ shelf. Known shelf (request ∷ []) (λ files. (reader : Reader) → IsReader reader → journal_at reader files document left name ≡ Ok (first, size))) same step.as_due))

-- a journal was refused
pub left_stops : {T : Type 0} (take : T → List Entry → T)
    → {S : Type 0} {told : S → Option Files} {faults : S → ℕ} {asked : S → Option (List Request)} {old new : S} {failure : Failure} (before : S) (document : DocumentId) (due : Reader → Files → Result (T × ℕ) Failure) (state : T) (most left : ℕ)
    (done : List (List ℕ)) (name : List ℕ) (rest names : List (List ℕ)) → names ≡ done ++ name ∷ rest
    → told old ≡ told before → faults old ≡ faults before → AsksAll (asked before) (asked old) (files_within most done) → IsTakingLeft take (told before) names document due state left (name ∷ rest)
    → ReadsFiles {Y = List Entry × ℕ} told faults asked old new (file_within most name ∷ []) (Err failure) (λ reader files. journal_at reader files document left name)
    → ReadsFiles {Y = T × ℕ} told faults asked before new (files_within most names) (Err failure) due
left_stops {T} take {told = told} {faults = faults} {asked = asked} {new = new} {failure = failure} before document due state most left done name rest names split same stood all so_far step =
    reads_when due (known_in (told before) names (files_within most names) (no_files most names) so_far)
    (subst (λ wanted. ReadsFiles {Y = T × ℕ} told faults asked before new wanted (Err failure) (λ reader files. taken_left take state reader files document left (name ∷ rest))) (sym (ap (files_within most) split ∙ files_within-append most done (name ∷ rest)))
    (reads_behind (files_within most done) same stood all
    (reads_stops {X = List Entry × ℕ} {Y = T × ℕ} (λ entries reader files. put_in take state entries)
    (reads_before (files_within most rest)
    (reads_stops {X = List Entry × ℕ} {Y = List Entry × ℕ} (λ x reader files. gathered_with reader files document (left - x.1) rest >>= and_more x.0) step)))))

-- no journal is left
pub left_ends : {T : Type 0} (take : T → List Entry → T) → ((state : T) → take state [] ≡ state)
    → {S : Type 0} {told : S → Option Files} {faults : S → ℕ} {asked : S → Option (List Request)} {new : S} (before : S) (document : DocumentId) (due : Reader → Files → Result (T × ℕ) Failure) (state : T) (most left : ℕ) (names : List (List ℕ))
    → told new ≡ told before → faults new ≡ faults before → AsksAll (asked before) (asked new) (files_within most names) → IsTakingLeft take (told before) names document due state left []
    → ReadsFiles told faults asked before new (files_within most names) (Ok (state, left)) due
left_ends take nothing {told = told} before document due state most left names same stood all so_far = record {
  as_due = if_known (told before) (files_within most names) (λ files p reader is. p reader is ∙ ap (λ s. Ok (s, left)) (nothing state))
      (known_in (told before) names (files_within most names) (no_files most names) so_far);
  unread = tt;
  same_files = same;
  stands = stood;
  asks = asks_for_all None (Ok (state, left)) (files_within most names) tt tt all;
}

-- ---- the same without the bytes that may still come

alone_more : (first : List Entry) (more : Result (List Entry) Failure) (with_left : Result (List Entry × ℕ) Failure) → more ≡ with_left >>= entries_alone
    → more >>= (λ rest. let r : Result (List Entry) Failure = Ok (first ++ rest) in r) ≡ (with_left >>= and_more first) >>= entries_alone
alone_more first more (Ok rest) is = ap (λ (made : Result (List Entry) Failure). made >>= (λ rest. let r : Result (List Entry) Failure = Ok (first ++ rest) in r)) is
alone_more first more (Err failure) is = ap (λ (made : Result (List Entry) Failure). made >>= (λ rest. let r : Result (List Entry) Failure = Ok (first ++ rest) in r)) is

alone_one : (reader : Reader) (files : Files) (document : DocumentId) (left : ℕ) (names : List (List ℕ)) (made : Result (List Entry × ℕ) Failure)
    → ((size : ℕ) → gathered reader files document (left - size) names ≡ gathered_with reader files document (left - size) names >>= entries_alone)
    → made >>= (λ first. gathered reader files document (left - first.1) names >>= (λ more. let r : Result (List Entry) Failure = Ok (first.0 ++ more) in r))
    ≡ (made >>= (λ first. gathered_with reader files document (left - first.1) names >>= and_more first.0)) >>= entries_alone
alone_one reader files document left names (Ok first) later =
    alone_more first.0 (gathered reader files document (left - first.1) names) (gathered_with reader files document (left - first.1) names) (later first.1)
alone_one reader files document left names (Err failure) later = refl

without_left : (reader : Reader) (files : Files) (document : DocumentId) (left : ℕ) (names : List (List ℕ))
    → gathered reader files document left names ≡ gathered_with reader files document left names >>= entries_alone
without_left reader files document left [] = refl
without_left reader files document left (name ∷ names) =
    alone_one reader files document left names (journal_at reader files document left name) (λ size. without_left reader files document (left - size) names)

-- entries that were gathered with the bytes that are left are gathered
pub gathered_of : (reader : Reader) (files : Files) (document : DocumentId) (left : ℕ) (names : List (List ℕ)) (made : List Entry × ℕ)
    → gathered_with reader files document left names ≡ Ok made → gathered reader files document left names ≡ Ok made.0
gathered_of reader files document left names made is =
    without_left reader files document left names ∙ ap (λ (entries : Result (List Entry × ℕ) Failure). entries >>= entries_alone) is

-- the admission alone
abbrev pub admission_alone : Admission × ℕ → Result Admission Failure
admission_alone x = Ok x.0

alone_in_both : (before : Admission) (made : Result (List Entry × ℕ) Failure)
    → (made >>= entries_alone) >>= (λ entries. let r : Result Admission Failure = Ok (admission_with before entries) in r) ≡ (made >>= put_in admission_with before) >>= admission_alone
alone_in_both before (Ok entries) = refl
alone_in_both before (Err failure) = refl

admission_without : (before : Admission) (reader : Reader) (files : Files) (most : ℕ) (names : List (List ℕ))
    → admission_of reader files before most names ≡ admission_left reader files before most names >>= admission_alone
admission_without before reader files most names =
    ap (λ (made : Result (List Entry) Failure). made >>= (λ entries. let r : Result Admission Failure = Ok (admission_with before entries) in r)) (without_left reader files before.document most names)
    ∙ alone_in_both before (gathered_with reader files before.document most names)

pub admits_left : {S : Type 0} {told : S → Option Files} {faults : S → ℕ} {asked : S → Option (List Request)} {old new : S} {wanted : List Request} {x : Admission × ℕ} (before : Admission) (most : ℕ) (names : List (List ℕ))
    → ReadsFiles told faults asked old new wanted (Ok x) (λ reader files. admission_left reader files before most names)
    → ReadsFiles told faults asked old new wanted (Ok x.0) (λ reader files. admission_of reader files before most names)
admits_left {told = told} {old = old} {wanted = wanted} {x = x} before most names step =
    reads_when (λ reader files. admission_of reader files before most names)
    (always (told old) wanted (λ files reader is. admission_without before reader files most names))
    (reads_then_takes (λ x reader. admission_alone x) step (record { as_due = λ reader is. refl; of_no_file = tt }))

pub admits_left_stops : {S : Type 0} {told : S → Option Files} {faults : S → ℕ} {asked : S → Option (List Request)} {old new : S} {wanted : List Request} {failure : Failure} (before : Admission) (most : ℕ) (names : List (List ℕ))
    → ReadsFiles {Y = Admission × ℕ} told faults asked old new wanted (Err failure) (λ reader files. admission_left reader files before most names)
    → ReadsFiles {Y = Admission} told faults asked old new wanted (Err failure) (λ reader files. admission_of reader files before most names)
admits_left_stops {told = told} {old = old} {wanted = wanted} before most names step =
    reads_when (λ reader files. admission_of reader files before most names)
    (always (told old) wanted (λ files reader is. admission_without before reader files most names))
    (reads_stops {X = Admission × ℕ} {Y = Admission} (λ x reader files. admission_alone x) step)

-- ---- a session that takes journals

pub sits : {S : Type 0} {told : S → Option Files} {faults : S → ℕ} {asked : S → Option (List Request)} {old new : S} {wanted : List Request} {made : Result (Admission × ℕ) Failure} (most : ℕ) (names : List (List ℕ)) (started first : Admission)
    → started ≡ first
    → ReadsFiles told faults asked old new wanted made (λ reader files. admission_left reader files started most names)
    → ReadsFiles told faults asked old new wanted made (λ reader files. admission_left reader files first most names)
sits {told = told} {faults = faults} {asked = asked} {old = old} {new = new} {wanted = wanted} {made = made} most names started first same step =
    subst (λ a. ReadsFiles told faults asked old new wanted made (λ reader files. admission_left reader files a most names)) same step
