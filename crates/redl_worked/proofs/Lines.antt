-- The lines on standard error, the statuses and their numbers (our own rule; `docs/PROGRAMS.md` has the table).
use Rattle.std.proofs.Common.{◌≡◌, ℕ, List, [], ◌∷◌, ◌++◌, codes, pos, refl}
use Rattle.std.specs.Fmt.{digits}
use Rattle.hex.specs.Hex.{encode_with}
use Rattle.redl_journal.specs.declared.entry.Entry.{Entry}
use Rattle.redl_journal.specs.declared.entry.Word.{Word}
use Rattle.redl_journal.specs.declared.entry.Word.TheVariants as word
use Rattle.redl_kinds.specs.declared.lock.Lock.TheVariants as lock
use Rattle.redl_kinds.specs.declared.rev_kind.RevKind.TheVariants.{Move}
use Rattle.redl_lines.specs.Ends.{remark_lines, written_status}
use Rattle.redl_lines.specs.Failures.{Cause, Failure, caused, cause_status, differ, failure_status, malformed, no_format, no_memory, no_package, no_second, no_sequence, not_written, other_count, other_document, over, unread, usage}
use Rattle.redl_lines.specs.Lines.{failure_line, idle_line, refused_line, unwritten_line}
use Rattle.redl_lines.specs.Refused.{with_refusals}
use Rattle.redl_lines.specs.Remarks.{all_refused}
use Rattle.redl_lines.specs.Status.{code_of}
use Rattle.redl_lines.specs.declared.failure.Limit.TheVariants.{Depth, JournalBytes, Nodes, PackageBytes, Sample}
use Rattle.redl_lines.specs.declared.failure.PackageFault.TheVariants.{NoDocument, NotPackage, NotReadable, PartShape, Rule}
use Rattle.redl_lines.specs.declared.status.Status.TheVariants as status
use Rattle.redl_session.specs.declared.refusal.AdmitError.{AdmitError}
use Rattle.redl_session.specs.declared.refusal.AdmitError.TheVariants.{Locked, Unknown}
use Rattle.redl_session.specs.declared.refusal.Bar.TheVariants.{Author, Kind, Span}
use Rattle.redl_terminal.specs.Masks.{hidden_length}

-- a text with the end of a line
abbrev line : List ℕ → List ℕ
line text = text ++ 10 ∷ []

-- why a call ends, as its number and its line
abbrev told : Failure → ℕ × List ℕ
told failure = (code_of (failure_status failure), failure_line failure)

abbrev entry : ℕ → ℕ → Word → ℕ → Entry
entry seq rev of_word rank = record { reviewer = codes "Ann"; seq = seq; rev = rev; word = of_word; rank = rank }

-- words that are no command, and a format that is not there
words_are_refused :
    (told (caused usage) ≡ (2, line (codes "redline: cannot read the command line")))
    × (told (caused (no_format (codes "xml"))) ≡ (2, line (codes "redline: no format xml")))
unfolding digits hidden_length
words_are_refused = (refl, refl)

-- a file that is no package, or breaks a rule; the second of two packages
packages_are_refused :
    (told (caused (no_package NotReadable)) ≡ (3, line (codes "redline: package: not readable")))
    × (told (caused (no_package NotPackage)) ≡ (3, line (codes "redline: package: not a package")))
    × (told (caused (no_package PartShape)) ≡ (3, line (codes "redline: package: part shape")))
    × (told (caused (no_package NoDocument)) ≡ (3, line (codes "redline: package: no document")))
    × (told (caused (no_package (Rule 1))) ≡ (3, line (codes "redline: package: rule 1")))
    × (told (caused (no_package (Rule 9))) ≡ (3, line (codes "redline: package: rule 9")))
    × (told (caused (no_second NotReadable)) ≡ (3, line (codes "redline: second package: not readable")))
    × (told (caused (no_second (Rule 4))) ≡ (3, line (codes "redline: second package: rule 4")))
unfolding digits hidden_length
packages_are_refused = (refl, refl, refl, refl, refl, refl, refl, refl)

-- a text that is no journal, and a journal of another package
journals_are_refused :
    (told (caused (malformed (codes "a.journal"))) ≡ (4, line (codes "redline: journal a.journal: malformed")))
    × (told (caused (other_document (codes "j") (0 ∷ 171 ∷ []) (16 ∷ 255 ∷ []))) ≡ (4, line (codes "redline: journal j: document 00ab, expected 10ff")))
    × (told (caused (other_count (codes "j") 3 42)) ≡ (4, line (codes "redline: journal j: revisions 3, expected 42")))
    × (told (caused (other_count (codes "j") 0 1)) ≡ (4, line (codes "redline: journal j: revisions 0, expected 1")))
unfolding digits encode_with hidden_length
journals_are_refused = (refl, refl, refl, refl)

-- what comes from outside
faults_are_told :
    (told (unread (codes "p.xml")) ≡ (5, line (codes "redline: cannot read p.xml")))
    × (told (no_memory) ≡ (8, line (codes "redline: no memory")))
    × (unwritten_line ≡ line (codes "redline: cannot write"))
unfolding digits hidden_length
faults_are_told = (refl, refl, refl)

-- what is over a limit
limits_are_told :
    (told (caused (over PackageBytes)) ≡ (7, line (codes "redline: limit package bytes 134217728")))
    × (told (caused (over JournalBytes)) ≡ (7, line (codes "redline: limit journal bytes 67108864")))
    × (told (caused (over Depth)) ≡ (7, line (codes "redline: limit depth 512")))
    × (told (caused (over Nodes)) ≡ (7, line (codes "redline: limit nodes 2097152")))
    × (told (caused (over Sample)) ≡ (7, line (codes "redline: limit sample 20000")))
unfolding digits hidden_length
limits_are_told = (refl, refl, refl, refl, refl)

-- a sequence number that is not there, and sittings that do not fit
sittings_are_refused :
    (told (caused (no_sequence (codes "Bob Hay"))) ≡ (9, line (codes "redline: no sequence number left for Bob Hay")))
    × (told (caused not_written) ≡ (11, line (codes "redline: second package: not what the first one gives")))
    × (told (caused differ) ≡ (12, line (codes "redline: the sittings differ")))
unfolding digits hidden_length
sittings_are_refused = (refl, refl, refl)

-- a refused entry, with its cause; a rank is said where it is not 0
refused_entries_are_told :
    (refused_line (entry 1 7 word.Accept 0, Unknown) ≡ line (codes "redline: refused 1 7 accept Ann: unknown revision"))
    × (refused_line (entry 12 300 word.Reject 0, Locked Author) ≡ line (codes "redline: refused 12 300 reject Ann: locked author"))
    × (refused_line (entry 1 0 word.Withdraw 0, Locked Kind) ≡ line (codes "redline: refused 1 0 withdraw Ann: locked kind"))
    × (refused_line (entry 4294967295 2 word.Reject 9, Locked Span) ≡ line (codes "redline: refused 4294967295 2 reject rank 9 Ann: locked span"))
unfolding digits hidden_length
refused_entries_are_told = (refl, refl, refl, refl)

-- a character of a name that a terminal takes as a command, or that hides something, is a question mark: U+001B, U+009B, U+202E; a letter of two bytes stays
names_are_masked :
    (refused_line (record (entry 1 7 word.Accept 0) { reviewer = 65 ∷ 27 ∷ 66 ∷ [] }, Unknown) ≡ line (codes "redline: refused 1 7 accept A?B: unknown revision"))
    × (failure_line (unread (194 ∷ 155 ∷ 112 ∷ [])) ≡ line (codes "redline: cannot read ?p"))
    × (failure_line (unread (112 ∷ 226 ∷ 128 ∷ 174 ∷ [])) ≡ line (codes "redline: cannot read p?"))
    × (failure_line (unread (195 ∷ 164 ∷ [])) ≡ line (codes "redline: cannot read " ++ 195 ∷ 164 ∷ []))
unfolding digits hidden_length
names_are_masked = (refl, refl, refl, refl)

-- a lock that holds nothing
idle_locks_are_told :
    (idle_line (lock.Author (codes "Cy")) ≡ line (codes "redline: note: nothing by Cy is locked"))
    × (idle_line (lock.Kind Move) ≡ line (codes "redline: note: a lock on a kind holds nothing"))
    × (idle_line (lock.Span (pos 0) (pos 1)) ≡ line (codes "redline: note: a lock on a span holds nothing"))
unfolding hidden_length
idle_locks_are_told = (refl, refl, refl)

-- refused entries come in the order of entries, each once with its last cause; then the status is 1
refusals_are_in_order :
    (with_refusals [] (record { entry = entry 2 1 word.Accept 0; why = Unknown } ∷ record { entry = entry 1 9 word.Accept 0; why = Unknown } ∷ record { entry = entry 2 1 word.Accept 0; why = Locked Kind } ∷ []) ≡ (entry 1 9 word.Accept 0, Unknown) ∷ (entry 2 1 word.Accept 0, Locked Kind) ∷ [])
    × (code_of (written_status []) ≡ 0)
    × (code_of (written_status ((entry 1 9 word.Accept 0, Unknown) ∷ [])) ≡ 1)
refusals_are_in_order = (refl, refl, refl)
