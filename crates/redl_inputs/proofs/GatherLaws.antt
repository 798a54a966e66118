-- The entries of journals, taken one journal after the other.
use Rattle.std.proofs.Common.{◌≡◌, ◌-◌, ℕ, List, [], ◌∷◌, ◌++◌, Option, None, Result, Ok, Err, refl, sym, ap, ◌∙◌, subst}
use Rattle.redl_inputs.proofs.AskLaws.{asks_for_all, files_within-append, no_files}
use Rattle.redl_inputs.proofs.NameLaws.{not_none}
use Rattle.redl_inputs.proofs.ReadLaws.{Known, both, if_known, known_in, reads_before, reads_behind, reads_stops, reads_when}
use Rattle.redl_inputs.specs.Asking.{AsksAll, file_within, files_within}
use Rattle.redl_inputs.specs.Journals.{DocumentId, journal_at, gathered}
use Rattle.redl_inputs.specs.Readers.{Reader, IsReader}
use Rattle.redl_inputs.specs.Reading.{ReadsFiles}
use Rattle.redl_inputs.specs.Steps.{◌>>=◌}
use Rattle.redl_io.specs.Shelf.{Files}
use Rattle.redl_io.specs.declared.shelf.Request.{Request}
use Rattle.redl_journal.specs.declared.entry.Entry.{Entry}
use Rattle.redl_lines.specs.Failures.{Failure}

-- what a state becomes by the entries of journals, where each step takes the entries of one
abbrev pub taken : {S : Type 0} → (S → List Entry → S) → S → Reader → Files → DocumentId → ℕ → List (List ℕ) → Result S Failure
taken take state reader files document left names = gathered reader files document left names >>= (λ entries. Ok (take state entries))

-- entries taken in two steps are taken in one
abbrev pub TakesInSteps : {S : Type 0} → (S → List Entry → S) → Type 0
TakesInSteps {S} take = (state : S) (first more : List Entry) → take (take state first) more ≡ take state (first ++ more)

-- what is due is what this state becomes by the journals that are left
abbrev pub IsTaking : {S : Type 0} → (S → List Entry → S) → Option Files → List (List ℕ) → DocumentId → (Reader → Files → Result S Failure) → S → ℕ → List (List ℕ) → Type 0
IsTaking take told whole document due state left names =
    Known told whole (λ files. (reader : Reader) → IsReader reader → due reader files ≡ taken take state reader files document left names)

pub taking_begins : {S : Type 0} (take : S → List Entry → S) (told : Option Files) (document : DocumentId) (start : S) (limit : ℕ) (names : List (List ℕ))
    → IsTaking take told names document (λ reader files. taken take start reader files document limit names) start limit names
taking_begins take told document start limit names = λ files may reader is. refl

in_steps : {S : Type 0} (take : S → List Entry → S) → TakesInSteps take → (made : Result (List Entry) Failure) (state : S) (first : List Entry)
    → (made >>= (λ more. Ok (first ++ more))) >>= (λ entries. Ok (take state entries)) ≡ made >>= (λ more. Ok (take (take state first) more))
in_steps take steps (Ok more) state first = ap Ok (sym (steps state first more))
in_steps take steps (Err failure) state first = refl

-- one journal more
pub taking_goes_on : {T : Type 0} (take : T → List Entry → T) → TakesInSteps take
    → {S : Type 0} {told : S → Option Files} {faults : S → ℕ} {asked : S → Option (List Request)} {old new : S} (before : S) (whole : List (List ℕ)) (document : DocumentId) (due : Reader → Files → Result T Failure) (state : T) (left : ℕ)
    (done : List (List ℕ)) (name : List ℕ) (rest : List (List ℕ)) (first : List Entry) (size : ℕ) (request : Request) → whole ≡ done ++ name ∷ rest → told old ≡ told before → IsTaking take (told before) whole document due state left (name ∷ rest)
    → ReadsFiles told faults asked old new (request ∷ []) (Ok (first, size)) (λ reader files. journal_at reader files document left name)
    → IsTaking take (told before) whole document due (take state first) (left - size) rest
taking_goes_on take steps {told = told} before whole document due state left done name rest first size request split same so_far step =
    both (told before) whole
    (λ files p q reader is.
    p reader is
    ∙ ap (λ made. (made >>= (λ x. gathered reader files document (left - x.1) rest >>= (λ more. Ok (x.0 ++ more)))) >>= (λ entries. Ok (take state entries))) (q reader is)
    ∙ in_steps take steps (gathered reader files document (left - size) rest) state first)
    so_far (known_in (told before) (request ∷ []) whole (λ none. absurd (not_none done name rest (sym split ∙ none)))
    (subst (λ shelf. Known shelf (request ∷ []) (λ files. (reader : Reader) → IsReader reader → journal_at reader files document left name ≡ Ok (first, size))) same step.as_due))

-- a journal was refused
pub taking_stops : {T : Type 0} (take : T → List Entry → T)
    → {S : Type 0} {told : S → Option Files} {faults : S → ℕ} {asked : S → Option (List Request)} {old new : S} {failure : Failure} (before : S) (document : DocumentId) (due : Reader → Files → Result T Failure) (state : T) (most left : ℕ)
    (done : List (List ℕ)) (name : List ℕ) (rest names : List (List ℕ)) → names ≡ done ++ name ∷ rest
    → told old ≡ told before → faults old ≡ faults before → AsksAll (asked before) (asked old) (files_within most done) → IsTaking take (told before) names document due state left (name ∷ rest)
    → ReadsFiles {Y = List Entry × ℕ} told faults asked old new (file_within most name ∷ []) (Err failure) (λ reader files. journal_at reader files document left name)
    → ReadsFiles {Y = T} told faults asked before new (files_within most names) (Err failure) due
taking_stops {T} take {told = told} {faults = faults} {asked = asked} {new = new} {failure = failure} before document due state most left done name rest names split same stood all so_far step =
    reads_when due (known_in (told before) names (files_within most names) (no_files most names) so_far)
    (subst (λ wanted. ReadsFiles {Y = T} told faults asked before new wanted (Err failure) (λ reader files. taken take state reader files document left (name ∷ rest))) (sym (ap (files_within most) split ∙ files_within-append most done (name ∷ rest)))
    (reads_behind (files_within most done) same stood all
    (reads_stops {X = List Entry} {Y = T} (λ entries reader files. Ok (take state entries))
    (reads_before (files_within most rest)
    (reads_stops {X = List Entry × ℕ} {Y = List Entry} (λ x reader files. gathered reader files document (left - x.1) rest >>= (λ more. Ok (x.0 ++ more))) step)))))

-- no journal is left
pub taking_ends : {T : Type 0} (take : T → List Entry → T) → ((state : T) → take state [] ≡ state)
    → {S : Type 0} {told : S → Option Files} {faults : S → ℕ} {asked : S → Option (List Request)} {new : S} (before : S) (document : DocumentId) (due : Reader → Files → Result T Failure) (state : T) (most left : ℕ) (names : List (List ℕ))
    → told new ≡ told before → faults new ≡ faults before → AsksAll (asked before) (asked new) (files_within most names) → IsTaking take (told before) names document due state left []
    → ReadsFiles told faults asked before new (files_within most names) (Ok state) due
taking_ends take nothing {told = told} before document due state most left names same stood all so_far = record {
  as_due = if_known (told before) (files_within most names) (λ files p reader is. p reader is ∙ ap Ok (nothing state))
      (known_in (told before) names (files_within most names) (no_files most names) so_far);
  unread = tt;
  same_files = same;
  stands = stood;
  asks = asks_for_all None (Ok state) (files_within most names) tt tt all;
}
