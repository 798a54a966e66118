-- How a call ends, by the words as they were read.
use Rattle.std.proofs.Common.{◌≡◌, ◌⊎◌, ◌↔◌, inl, inr, ℕ, List, [], ◌∷◌, Option, Result, Ok, Err, IfOk, IfErr, IfSome, IsErrOf, refl, sym, ap, ◌∙◌, subst, arith}
use Rattle.redl_inputs.proofs.AskLaws.{asked_none, asks_nothing}
use Rattle.redl_inputs.proofs.ReadLaws.{always, fails_alone, reads_when}
use Rattle.redl_inputs.proofs.ReaderLaws.{reads_command, reads_no_command}
use Rattle.redl_outcome.proofs.TopLaws.{AreNamed, NamesWhatIsAsked, due_by}
use Rattle.redl_outcome.specs.Answers.{AreMisused, Asks, AsksUpTo, LacksFormat}
use Rattle.redl_outcome.specs.Files.{asked_by, files_of}
use Rattle.redl_outcome.specs.Words.{IsWanted, read_view, named_files, words_failure}
use Rattle.redl_commands.specs.Endings.{Ends, Finishes}
use Rattle.redl_outcome.specs.Brought.{Brought}
use Rattle.redl_commands_shown.specs.Formats.{LeavesFormats, without_asked}
use Rattle.redl_outcome.specs.Outcome.{writing_of}
use Rattle.redl_outcome.specs.Plans.{Plan, plan}
use Rattle.redl_inputs.specs.Asking.{AsksAll, EndsAsking, IsLast, refused_journal}
use Rattle.redl_inputs.specs.Readers.{Reader, IsReader}
use Rattle.redl_commands.specs.Writing.{Writing}
use Rattle.redl_io.specs.Shelf.{Files, names_of}
use Rattle.redl_io.specs.declared.shelf.Request.{Request}
use Rattle.redl_lines.specs.Ends.{End, end_lines, end_status, failed, written_status}
use Rattle.redl_lines.specs.Failures.{Cause, Failure, cause_status, caused, differ, failure_status, malformed, no_format, no_memory, no_package, no_second, no_sequence, not_written, other_count, other_document, over, unread, usage}
use Rattle.redl_lines.specs.Lines.{failure_line}
use Rattle.redl_lines.specs.Refused.{RefusedEntries}
use Rattle.redl_lines.specs.Remarks.{all_refused}
use Rattle.redl_lines.specs.declared.status.Status.TheVariants as status
use Rattle.redl_words.proofs.CommandLaws.{at_most_one}
use Rattle.redl_words.specs.Commands.{Command, IsCommand, HasNoCommand}
use Rattle.redl_words.specs.Views.{command_of}
use Rattle.redl_words.specs.declared.command.Command.{Command as Declared}
use Rattle.redl_words.specs.declared.error.WordsError.{WordsError}
use Rattle.redl_words.specs.declared.error.WordsError.TheVariants as error

-- the files of the command that was read are those of the words
pub are_named : (words : List (List ℕ)) (brought : Brought) (read : Result Declared WordsError) → IfOk read (λ command. IsCommand words (command_of command)) → AreNamed words brought (names_of (named_files brought read))
are_named words brought (Ok command) is name among = record { command = command_of command; reads = is; among = among }
are_named words brought (Err error) is name (k, within, here) = absurd (omega (arith, within))

-- where the words ask for no file, the command that was read names none
pub names_asked : (words : List (List ℕ)) (brought : Brought) (read : Result Declared WordsError) → IfOk read (λ command. IsCommand words (command_of command))
    → NamesWhatIsAsked words brought (named_files brought read)
names_asked words brought (Ok command) is = λ reader reads none.
    sym (ap (asked_by brought) (reads_command reader words (command_of command) reads is)) ∙ none
names_asked words brought (Err error) is = λ reader reads none. refl

-- what is due by the words is what is due by the command that was read
pub is_wanted : (words : List (List ℕ)) (brought : Brought) (read : Result Declared WordsError) → IfOk read (λ command. IsCommand words (command_of command))
    → (IsErrOf read error.Usage → HasNoCommand words) → IsWanted brought (read_view read) (due_by words brought)
is_wanted words brought (Ok command) is none = λ reader files reads. ap (writing_of reader files brought) (reads_command reader words (command_of command) reads is)
is_wanted words brought (Err error.Usage) is none = λ reader files reads. ap (writing_of reader files brought) (reads_no_command reader words reads (none refl))
is_wanted words brought (Err error.NoMemory) is none = tt

-- ends for one thing that is due are ends for the same by another name
pub ends_when : {S K : Type 0} {holds : S → Option Files} {misses : S → ℕ} {asked : S → Option (List Request)} {shelf shelf_new : S} {told : K → Option (List ℕ)} {faults : K → ℕ} {out out_new : K}
    {wanted : List Request} {end : End} {due : Reader → Files → Result Writing Failure}
    (later : Reader → Files → Result Writing Failure) → ((reader : Reader) (files : Files) → IsReader reader → later reader files ≡ due reader files)
    → Ends holds misses asked shelf shelf_new told faults out out_new wanted due end → Ends holds misses asked shelf shelf_new told faults out out_new wanted later end
ends_when {holds = holds} {shelf = shelf} {wanted = wanted} later same ends = record {
  made = ends.made;
  reads = reads_when later (always (holds shelf) wanted (λ files reader is. same reader files is)) ends.reads;
  finishes = ends.finishes;
}

-- a call ends with no more than a line where the words could not be had
pub ends_unread : (brought : Brought) {S K : Type 0} {holds : S → Option Files} {misses : S → ℕ} {asked : S → Option (List Request)} (shelf : S) {told : K → Option (List ℕ)} {faults : K → ℕ} (out : K)
    (error : WordsError) (due : Reader → Files → Result Writing Failure) → IsWanted brought (Err error) due
    → Ends holds misses asked shelf shelf told faults out out [] due (failed (words_failure error))
ends_unread brought shelf out error.Usage due wanted = record {
  made = Err (caused usage);
  reads = fails_alone shelf [] tt wanted;
  finishes = (refl, refl, refl);
}
ends_unread brought shelf out error.NoMemory due wanted = record {
  made = Err (words_failure error.NoMemory);
  reads = fails_alone shelf [] tt (λ reader files is. tt);
  finishes = (refl, refl, refl);
}

failure_ends : (error : WordsError) (end : End) → end ≡ failed (words_failure error) → (end_status end ≡ status.Usage) ⊎ (end_status end ≡ status.NoMemory)
failure_ends error.Usage end is = inl (ap end_status is)
failure_ends error.NoMemory end is = inr (ap end_status is)

-- a call whose words are misused ends as such, or memory ran out
pub misused_ends : (brought : Brought) (words : List (List ℕ)) (read : Result Declared WordsError) (end : End) → IfOk read (λ command. IsCommand words (command_of command))
    → IfErr read (λ error. end ≡ failed (words_failure error)) → IfOk read (λ command. (end_status end ≡ status.Usage) ↔ LacksFormat brought (plan (command_of command)))
    → AreMisused words brought → (end_status end ≡ status.Usage) ⊎ (end_status end ≡ status.NoMemory)
misused_ends brought words (Ok found) end is ends exactly (inl none) = absurd (none (command_of found) is)
misused_ends brought words (Ok found) end is ends exactly (inr (command, reads, lacks)) =
    inl (exactly.1 (subst (λ c. LacksFormat brought (plan c)) (at_most_one words command (command_of found) reads is) lacks))
misused_ends brought words (Err error) end is ends exactly misused = failure_ends error end ends

-- and no other call ends so
pub only_misused : (brought : Brought) (words : List (List ℕ)) (read : Result Declared WordsError) (end : End) → IfOk read (λ command. IsCommand words (command_of command))
    → (IsErrOf read error.Usage → HasNoCommand words) → IfErr read (λ error. end ≡ failed (words_failure error))
    → IfOk read (λ command. (end_status end ≡ status.Usage) ↔ LacksFormat brought (plan (command_of command))) → end_status end ≡ status.Usage → AreMisused words brought
only_misused brought words (Ok found) end is none ends exactly ended = inr (command_of found, is, exactly.0 ended)
only_misused brought words (Err error.Usage) end is none ends exactly ended = inl (none refl)
only_misused brought words (Err error.NoMemory) end is none ends exactly ended = absurd (cc (sym (ap end_status ends) ∙ ended))

-- ---- what is left of the formats

-- the command of the words is the one that was read
pub leaves_by_words : {F : Type 0} (asked : Plan → Option (List ℕ)) (name_of : F → List ℕ) (old new : List F) (words : List (List ℕ)) (read : Result Declared WordsError) (end : End)
    → IfOk read (λ command. IsCommand words (command_of command)) → (IsErrOf read error.Usage → HasNoCommand words)
    → IfOk read (λ command. LeavesFormats (end_status end) (without_asked name_of (asked (plan (command_of command))) old) old new) → IfErr read (λ error. new ≡ old)
    → IfErr read (λ error. end ≡ failed (words_failure error))
    → (command : Command) → IsCommand words command → LeavesFormats (end_status end) (without_asked name_of (asked (plan command)) old) old new
leaves_by_words asked name_of old new words (Ok found) end is none left same ends command reads =
    subst (λ c. LeavesFormats (end_status end) (without_asked name_of (asked (plan c)) old) old new) (at_most_one words (command_of found) command is reads) left
leaves_by_words asked name_of old new words (Err error.Usage) end is none left same ends command reads = absurd (none refl command reads)
leaves_by_words asked name_of old new words (Err error.NoMemory) end is none left same ends command reads = rw ends (inl same)

-- words of no command take no format
pub leaves_all : {F : Type 0} (old new : List F) (words : List (List ℕ)) (read : Result Declared WordsError) → IfOk read (λ command. IsCommand words (command_of command))
    → IfErr read (λ error. new ≡ old) → HasNoCommand words → new ≡ old
leaves_all old new words (Ok command) is same none = absurd (none (command_of command) is)
leaves_all old new words (Err error) is same none = same

-- ---- what the shelf was asked for

-- a refused journal is the last one that was asked for, and the line tells its name
ends_caused : (cause : Cause) (names : List (List ℕ)) (later : List Request) (Told : List ℕ → Type 0) → IfSome (refused_journal cause) (IsLast names) → Told (failure_line (caused cause))
    → AsksUpTo (cause_status cause) names later Told
ends_caused (malformed name) names later Told last told = record { name = name; cause = malformed name; refuses = refl; last = last; told = told }
ends_caused (other_document name found expected) names later Told last told = record { name = name; cause = other_document name found expected; refuses = refl; last = last; told = told }
ends_caused (other_count name found expected) names later Told last told = record { name = name; cause = other_count name found expected; refuses = refl; last = last; told = told }
ends_caused usage names later Told last told = tt
ends_caused (no_format name) names later Told last told = tt
ends_caused (no_package fault) names later Told last told = tt
ends_caused (no_second fault) names later Told last told = tt
ends_caused (no_sequence reviewer) names later Told last told = tt
ends_caused not_written names later Told last told = tt
ends_caused differ names later Told last told = tt
ends_caused (over limit) names later Told last told = tt

ends_asking : (failure : Failure) (names : List (List ℕ)) (later : List Request) (Told : List ℕ → Type 0) → EndsAsking {Y = Writing} (Err failure) names later → Told (failure_line failure)
    → AsksUpTo (failure_status failure) names later Told
ends_asking no_memory names later Told ends told = tt
ends_asking (unread name) names later Told last told = record { name = name; last = last; told = told }
ends_asking (caused cause) names later Told last told = ends_caused cause names later Told last told

ends_all : (refused : RefusedEntries) (names : List (List ℕ)) (later : List Request) (Told : List ℕ → Type 0) → later ≡ [] → AsksUpTo (written_status refused) names later Told
ends_all [] names later Told none = none
ends_all (entry ∷ refused) names later Told none = none

-- by how the call ends
asks_to_end : {K : Type 0} (told : K → Option (List ℕ)) (faults : K → ℕ) (out out_new : K) (made : Result Writing Failure) (end : End) (names : List (List ℕ)) (later : List Request) (Told : List ℕ → Type 0)
    → Finishes told faults out out_new made end → EndsAsking made names later → Told (end_lines end) → AsksUpTo (end_status end) names later Told
asks_to_end told faults out out_new (Ok writing) end names later Told (inl (is, all)) none lines = rw is (ends_all (all_refused writing.remarks) names later Told none)
asks_to_end told faults out out_new (Ok writing) end names later Told (inr (is, some)) none lines = rw is none
asks_to_end told faults out out_new (Err failure) end names later Told (is, same, stands) ends lines = rw is (ends_asking failure names later Told ends (rw is at lines))

-- what a call asked a shelf for that read the words of a command, or had no memory to
pub asks_by_words : (brought : Brought) {S K : Type 0} {holds : S → Option Files} {misses : S → ℕ} {asked : S → Option (List Request)} {shelf shelf_new : S} {told : K → Option (List ℕ)} {faults : K → ℕ} {out out_new : K}
    {due : Reader → Files → Result Writing Failure} {Told : List ℕ → Type 0} (words : List (List ℕ)) (read : Result Declared WordsError) (end : End)
    → IfOk read (λ command. IsCommand words (command_of command)) → (IsErrOf read error.Usage → HasNoCommand words) → IfErr read (λ error. end ≡ failed (words_failure error))
    → Ends holds misses asked shelf shelf_new told faults out out_new (named_files brought read) due end → Told (end_lines end)
    → (command : Command) → IsCommand words command → Asks (asked shelf) (asked shelf_new) (files_of brought (plan command)) (end_status end) Told
asks_by_words brought {told = told} {faults = faults} {out = out} {out_new = out_new} {Told = Told} words (Ok found) end is none ends done lines command reads =
    let asks = done.reads.asks in
    record {
      front = asks.front;
      later = asks.later;
      prefix = ap (λ c. files_of brought (plan c)) (sym (at_most_one words (command_of found) command is reads)) ∙ asks.prefix;
      asked = asks.asked;
      ends = asks_to_end told faults out out_new done.made end (names_of asks.front) asks.later Told done.finishes asks.ends lines;
    }
asks_by_words brought words (Err error.Usage) end is none ends done lines command reads = absurd (none refl command reads)
asks_by_words brought {asked = asked} {shelf = shelf} words (Err error.NoMemory) end is none ends done lines command reads = record {
  front = [];
  later = files_of brought (plan command);
  prefix = refl;
  asked = subst (λ now. AsksAll (asked shelf) now []) (sym (asked_none done.reads.asks)) (asks_nothing (asked shelf));
  ends = rw ends tt;
}

-- words of no command ask for nothing
pub asks_for_nothing : (brought : Brought) {S K : Type 0} {holds : S → Option Files} {misses : S → ℕ} {asked : S → Option (List Request)} {shelf shelf_new : S} {told : K → Option (List ℕ)} {faults : K → ℕ} {out out_new : K}
    {due : Reader → Files → Result Writing Failure} {end : End} (words : List (List ℕ)) (read : Result Declared WordsError)
    → IfOk read (λ command. IsCommand words (command_of command)) → Ends holds misses asked shelf shelf_new told faults out out_new (named_files brought read) due end
    → HasNoCommand words → asked shelf_new ≡ asked shelf
asks_for_nothing brought words (Ok command) is done none = absurd (none (command_of command) is)
asks_for_nothing brought words (Err error) is done none = asked_none done.reads.asks
