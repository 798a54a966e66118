-- How texts are read: the tree of an XML text, the journal of a text, and the command of a list of words.
use Rattle.std.specs.Prelude.{ℕ, List, Option, None, Some}
use Rattle.redl_journal.specs.Journals.{Journal, IsJournal, HasNoJournal}
use Rattle.redl_tree.specs.Model.Nodes.{Nodes}
use Rattle.redl_words.specs.Commands.{Command, IsCommand, HasNoCommand}
use Rattle.redl_xml.specs.Readings.{IsReading, HasNoReading}

-- the tree of an XML text, the journal of a text, and the command of words, where they have one
pub record Reader : Type 0 where
  pub tree : List ℕ → Option Nodes
  pub journal : List ℕ → Option Journal
  pub command : List (List ℕ) → Option Command

abbrev pub IsTreeOf : List ℕ → Option Nodes → Type 0
IsTreeOf text (Some nodes) = IsReading text nodes
IsTreeOf text None = HasNoReading text

abbrev pub IsJournalOf : List ℕ → Option Journal → Type 0
IsJournalOf text (Some journal) = IsJournal text journal
IsJournalOf text None = HasNoJournal text

abbrev pub IsCommandOf : List (List ℕ) → Option Command → Type 0
IsCommandOf words (Some command) = IsCommand words command
IsCommandOf words None = HasNoCommand words

-- Each text is read as what it is the text of, and words as their command. A text has one tree and one journal at most, and
-- words have one command at most, so all readers agree.
pub record IsReader (reader : Reader) : Type 0 where
  pub trees : (text : List ℕ) → IsTreeOf text (reader.tree text)
  pub journals : (text : List ℕ) → IsJournalOf text (reader.journal text)
  pub commands : (words : List (List ℕ)) → IsCommandOf words (reader.command words)
