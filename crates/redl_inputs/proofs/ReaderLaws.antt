-- There is a reader, and all readers agree.
use Rattle.std.proofs.Common.{◌≡◌, ℕ, List, refl, ap, ◌∙◌, Option, None, Some, ◌⊎◌, inl, inr}
use Rattle.std.proofs.Math.Path.{fun_ext}
use Rattle.redl_inputs.specs.Readers.{Reader, IsReader, IsTreeOf, IsJournalOf, IsCommandOf}
use Rattle.redl_journal.specs.Journals.{Journal, IsJournal, HasNoJournal}
use Rattle.redl_journal.proofs.Lines.{one_reading as one_journal, journal_or_none}
use Rattle.redl_tree.specs.Model.Nodes.{Nodes}
use Rattle.redl_words.proofs.CommandLaws.{command_takes, command_again, at_most_one}
use Rattle.redl_words.specs.Commands.{Command, IsCommand, HasNoCommand}
use Rattle.redl_words.specs.Reading.Commands.{command_in}
use Rattle.redl_xml.specs.Readings.{IsReading, HasNoReading}
use Rattle.redl_xml.proofs.Answered.{tree_or_none}
use Rattle.redl_xml.proofs.Documents.{one_tree}

-- ---- a reader

tree_read : (text : List ℕ) → (tree : Option Nodes) × IsTreeOf text tree
tree_read text = of (tree_or_none text) where
  of : ((nodes : Nodes) × IsReading text nodes) ⊎ HasNoReading text → (tree : Option Nodes) × IsTreeOf text tree
  of (inl (nodes, is)) = (Some nodes, is)
  of (inr none) = (None, none)

journal_read : (text : List ℕ) → (journal : Option Journal) × IsJournalOf text journal
journal_read text = of (journal_or_none text) where
  of : ((journal : Journal) × IsJournal text journal) ⊎ HasNoJournal text → (journal : Option Journal) × IsJournalOf text journal
  of (inl (journal, is)) = (Some journal, is)
  of (inr none) = (None, none)

command_read : (words : List (List ℕ)) → (command : Option Command) × IsCommandOf words command
command_read words = of (command_in words) (command_takes words) (command_again words)
  where
    of : (found : Option Command) → ((command : Command) → found ≡ Some command → IsCommand words command) → ((command : Command) → IsCommand words command → found ≡ Some command)
        → (command : Option Command) × IsCommandOf words command
    of (Some command) takes again = (Some command, takes command refl)
    of None takes again = (None, λ command is. absurd (cc (again command is)))

-- texts and words can be read: there is a reader
pub a_reader : (reader : Reader) × IsReader reader
a_reader = (
  record { tree = λ text. (tree_read text).0; journal = λ text. (journal_read text).0; command = λ words. (command_read words).0 },
  record { trees = λ text. (tree_read text).1; journals = λ text. (journal_read text).1; commands = λ words. (command_read words).1 },
)

-- ---- all readers agree

same_tree : (text : List ℕ) (x y : Option Nodes) → IsTreeOf text x → IsTreeOf text y → x ≡ y
same_tree text None None is other = refl
same_tree text None (Some v) is other = absurd (is v other)
same_tree text (Some u) None is other = absurd (other u is)
same_tree text (Some u) (Some v) is other = ap Some (one_tree text u v is other)

same_journal : (text : List ℕ) (x y : Option Journal) → IsJournalOf text x → IsJournalOf text y → x ≡ y
same_journal text None None is other = refl
same_journal text None (Some v) is other = absurd (is v other)
same_journal text (Some u) None is other = absurd (other u is)
same_journal text (Some u) (Some v) is other = ap Some (one_journal text u v is other)

same_command : (words : List (List ℕ)) (x y : Option Command) → IsCommandOf words x → IsCommandOf words y → x ≡ y
same_command words None None is other = refl
same_command words None (Some v) is other = absurd (is v other)
same_command words (Some u) None is other = absurd (other u is)
same_command words (Some u) (Some v) is other = ap Some (at_most_one words u v is other)

-- any two readers are the same: the definitions leave none of their answers open
pub one_reader : (reader other : Reader) → IsReader reader → IsReader other → reader ≡ other
one_reader reader other is too =
    let trees : reader.tree ≡ other.tree = fun_ext (λ text. same_tree text (reader.tree text) (other.tree text) (is.trees text) (too.trees text)) in
    let journals : reader.journal ≡ other.journal = fun_ext (λ text. same_journal text (reader.journal text) (other.journal text) (is.journals text) (too.journals text)) in
    let commands : reader.command ≡ other.command = fun_ext (λ words. same_command words (reader.command words) (other.command words) (is.commands words) (too.commands words)) in
    ap (λ tree. record { tree = tree; journal = reader.journal; command = reader.command }) trees
    ∙ ap (λ journal. record { tree = other.tree; journal = journal; command = reader.command }) journals
    ∙ ap (λ command. record { tree = other.tree; journal = other.journal; command = command }) commands

-- the command that a reader reads is the one of the words
pub reads_command : (reader : Reader) (words : List (List ℕ)) (command : Command) → IsReader reader → IsCommand words command → reader.command words ≡ Some command
reads_command reader words command is found = same_command words (reader.command words) (Some command) (is.commands words) found

-- a reader reads no command where the words are none
pub reads_no_command : (reader : Reader) (words : List (List ℕ)) → IsReader reader → HasNoCommand words → reader.command words ≡ None
reads_no_command reader words is none = same_command words (reader.command words) None (is.commands words) none
