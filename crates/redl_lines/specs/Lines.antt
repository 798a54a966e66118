-- The lines on standard error.
use Rattle.std.specs.Prelude.{ℕ, ◌==◌, List, [], ◌∷◌, ◌++◌, codes, decimal, if◌then◌else◌}
use Rattle.hex.specs.Hex.{encode_lower}
use Rattle.redl_io.specs.Limits.{package_bytes, journal_bytes, depth, nodes}
use Rattle.redl_journal.specs.declared.entry.Entry.{Entry}
use Rattle.redl_journal.specs.Journals.{word_text}
use Rattle.redl_lines.specs.Failures.{Cause, usage, no_format, no_package, no_second, malformed, other_document, other_count, no_sequence, not_written, differ, over, Failure, caused, unread, no_memory}
use Rattle.redl_lines.specs.declared.failure.Limit.{Limit}
use Rattle.redl_lines.specs.declared.failure.Limit.TheVariants.{PackageBytes, JournalBytes, Depth, Nodes, Sample}
use Rattle.redl_lines.specs.declared.failure.PackageFault.{PackageFault}
use Rattle.redl_lines.specs.declared.failure.PackageFault.TheVariants.{NotReadable, NotPackage, PartShape, NoDocument, Rule}
use Rattle.redl_lines.specs.declared.note.Note.{Note}
use Rattle.redl_lines.specs.declared.note.Note.TheVariants.{Undecided, Gone, NotAgain}
use Rattle.redl_lines.specs.declared.note.Obstacle.{Obstacle}
use Rattle.redl_lines.specs.declared.note.Obstacle.TheVariants as obstacle
use Rattle.redl_kinds.specs.declared.lock.Lock.{Lock}
use Rattle.redl_kinds.specs.declared.lock.Lock.TheVariants as lock
use Rattle.redl_session.specs.declared.refusal.AdmitError.{AdmitError}
use Rattle.redl_session.specs.declared.refusal.AdmitError.TheVariants.{Unknown, Locked, NoMemory}
use Rattle.redl_session.specs.declared.refusal.Bar.{Bar}
use Rattle.redl_session.specs.declared.refusal.Bar.TheVariants.{Author, Kind, Span}
use Rattle.redl_terminal.specs.Masks.{masked}
use Rattle.redl_terminal.specs.declared.extent.Extent.TheVariants.{Field}

-- the end of a line
abbrev pub newline : List ℕ
newline = 10 ∷ []

-- a name between two texts, as a terminal is given it
abbrev pub named : List ℕ → List ℕ → List ℕ → List ℕ
named before name after = before ++ (masked Field name ++ after)

-- ---- the words of the command line

abbrev pub usage_line : List ℕ
usage_line = codes "redline: cannot read the command line" ++ newline

abbrev pub no_format_line : List ℕ → List ℕ
no_format_line name = named (codes "redline: no format ") name newline

-- ---- the package

-- what is wrong with a file that is no package
abbrev pub fault_text : PackageFault → List ℕ
fault_text NotReadable = codes "not readable"
fault_text NotPackage = codes "not a package"
fault_text PartShape = codes "part shape"
fault_text NoDocument = codes "no document"
fault_text (Rule rule) = codes "rule " ++ decimal rule

-- its line, which begins with a title
abbrev pub fault_line : List ℕ → PackageFault → List ℕ
fault_line title fault = title ++ (fault_text fault ++ newline)

abbrev pub package_title : List ℕ
package_title = codes "redline: package: "

-- the title of the second of two packages
abbrev pub second_title : List ℕ
second_title = codes "redline: second package: "

abbrev pub not_written_line : List ℕ
not_written_line = codes "redline: second package: not what the first one gives" ++ newline

abbrev pub differ_line : List ℕ
differ_line = codes "redline: the sittings differ" ++ newline

-- ---- the journals

abbrev pub malformed_line : List ℕ → List ℕ
malformed_line name = named (codes "redline: journal ") name (codes ": malformed" ++ newline)

-- the line of a journal that says one thing of its package where the package has another
abbrev pub difference_line : List ℕ → List ℕ → List ℕ → List ℕ → List ℕ
difference_line name what found expected =
    named (codes "redline: journal ") name (codes ": ") ++ (what ++ (codes " " ++ (found ++ (codes ", expected " ++ (expected ++ newline)))))

abbrev pub other_document_line : List ℕ → List ℕ → List ℕ → List ℕ
other_document_line name found expected = difference_line name (codes "document") (encode_lower found) (encode_lower expected)

abbrev pub other_count_line : List ℕ → ℕ → ℕ → List ℕ
other_count_line name found expected = difference_line name (codes "revisions") (decimal found) (decimal expected)

abbrev pub no_sequence_line : List ℕ → List ℕ
no_sequence_line reviewer = named (codes "redline: no sequence number left for ") reviewer newline

-- ---- the limits

-- the most paragraphs of a sample
abbrev pub sample_paragraphs : ℕ
sample_paragraphs = 20000

abbrev pub limit_line : Limit → List ℕ
limit_line PackageBytes = codes "redline: limit package bytes " ++ decimal package_bytes ++ newline
limit_line JournalBytes = codes "redline: limit journal bytes " ++ decimal journal_bytes ++ newline
limit_line Depth = codes "redline: limit depth " ++ decimal depth ++ newline
limit_line Nodes = codes "redline: limit nodes " ++ decimal nodes ++ newline
limit_line Sample = codes "redline: limit sample " ++ decimal sample_paragraphs ++ newline

-- ---- why a call ends

abbrev pub cause_line : Cause → List ℕ
cause_line usage = usage_line
cause_line (no_format name) = no_format_line name
cause_line (no_package fault) = fault_line package_title fault
cause_line (no_second fault) = fault_line second_title fault
cause_line (malformed name) = malformed_line name
cause_line (other_document name found expected) = other_document_line name found expected
cause_line (other_count name found expected) = other_count_line name found expected
cause_line (no_sequence reviewer) = no_sequence_line reviewer
cause_line not_written = not_written_line
cause_line differ = differ_line
cause_line (over limit) = limit_line limit

-- the line for a file that could not be read
abbrev pub unread_line : List ℕ → List ℕ
unread_line name = named (codes "redline: cannot read ") name newline

-- the line for memory that ran out
abbrev pub no_memory_line : List ℕ
no_memory_line = codes "redline: no memory" ++ newline

-- the line for a failure
abbrev pub failure_line : Failure → List ℕ
failure_line (caused cause) = cause_line cause
failure_line (unread name) = unread_line name
failure_line no_memory = no_memory_line

-- the line for output that could not be written
abbrev pub unwritten_line : List ℕ
unwritten_line = codes "redline: cannot write" ++ newline

-- ---- refused entries

-- what bars a revision, in words
abbrev pub bar_text : Bar → List ℕ
bar_text Author = codes "locked author"
bar_text Kind = codes "locked kind"
bar_text Span = codes "locked span"

-- why an entry is refused, in words
abbrev pub why_text : AdmitError → List ℕ
why_text Unknown = codes "unknown revision"
why_text (Locked bar) = bar_text bar
why_text NoMemory = codes "out of memory"

-- the seq, the revision and the word of a refused entry
abbrev pub decision_text : List ℕ → List ℕ → List ℕ → List ℕ
decision_text seq rev word = codes "redline: refused " ++ (seq ++ (codes " " ++ (rev ++ (codes " " ++ word))))

-- its rank, which is said where it is not 0
abbrev pub ranked_text : ℕ → List ℕ
ranked_text rank = if rank == 0 then [] else codes " rank " ++ decimal rank

-- its reviewer, and why it is refused
abbrev pub cause_text : List ℕ → List ℕ → List ℕ
cause_text reviewer why = named (codes " ") reviewer (codes ": ") ++ (why ++ newline)

-- the line of a refused entry, with its cause
abbrev pub refused_line : Entry × AdmitError → List ℕ
refused_line (entry, why) =
    decision_text (decimal entry.seq) (decimal entry.rev) (word_text entry.word) ++ (ranked_text entry.rank ++ cause_text entry.reviewer (why_text why))

-- ---- locks

-- the line of a lock that holds no revision
abbrev pub idle_line : Lock → List ℕ
idle_line (lock.Author name) = named (codes "redline: note: nothing by ") name (codes " is locked" ++ newline)
idle_line (lock.Kind of_kind) = codes "redline: note: a lock on a kind holds nothing" ++ newline
idle_line (lock.Span start end) = codes "redline: note: a lock on a span holds nothing" ++ newline

-- ---- notes

-- the line for one mark that is never decided
abbrev pub one_mark_line : List ℕ
one_mark_line = codes "redline: note: 1 mark is left that Redline does not decide: see redline left" ++ newline

-- the line for several of them
abbrev pub marks_line : List ℕ → List ℕ
marks_line number = codes "redline: note: " ++ (number ++ (codes " marks are left that Redline does not decide: see redline left" ++ newline))

-- the line of a locked revision of which nothing is left
abbrev pub gone_line : List ℕ → List ℕ
gone_line number = codes "redline: note: locked revision " ++ (number ++ (codes " went with what was around it" ++ newline))

-- what is so of a result that will not be read again, in words
abbrev pub obstacle_text : Obstacle → List ℕ
obstacle_text obstacle.Depth = codes "is deeper than " ++ decimal depth
obstacle_text obstacle.Bytes = codes "has more than " ++ decimal package_bytes ++ codes " bytes"
obstacle_text obstacle.Meeting = codes "has texts that meet as ]]>"

-- its line
abbrev pub not_again_line : Obstacle → List ℕ
not_again_line why = codes "redline: note: the result " ++ obstacle_text why ++ codes " and will not be read again" ++ newline

-- the line of a note
abbrev pub note_line : Note → List ℕ
note_line (Undecided number) = if number == 1 then one_mark_line else marks_line (decimal number)
note_line (Gone number) = gone_line (decimal number)
note_line (NotAgain why) = not_again_line why
