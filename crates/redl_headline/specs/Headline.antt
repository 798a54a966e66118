-- What `write P J ..` promises, in one screen (ECMA-376 Part 1, 17.13.5). `docs/PROVED.md` has a reading order of the definitions below.
use Rattle.std.specs.Prelude.{◌≡◌, ◌⊎◌, ℕ, true, false, List, [], ◌∷◌, ◌++◌, length, map, Option, None, Some}
use Rattle.sha2.specs.Sha256.{sha256}
use Rattle.redl_index.specs.Numbers.{numbered_package, package_revisions}
use Rattle.redl_index.specs.Revisions.{revisions_of}
use Rattle.redl_io.specs.Shelf.{Files}
use Rattle.redl_join.specs.Books.{union}
use Rattle.redl_journal.specs.Journals.{Journal, IsJournal}
use Rattle.redl_journal.specs.declared.entry.Entry.{Entry}
use Rattle.redl_kinds.specs.declared.lock.Lock.{Lock}
use Rattle.redl_lines.specs.declared.status.Status.{Status}
use Rattle.redl_lines.specs.declared.status.Status.TheVariants.{Done, Refused}
use Rattle.redl_opc.specs.Shape.{refusal}
use Rattle.redl_reread_sound.specs.Again.{IsReread}
use Rattle.redl_reread_sound.specs.Together.{meet_well}
use Rattle.redl_rules.specs.Attributes.{rules}
use Rattle.redl_session.specs.Refusals.{admitted, refused}
use Rattle.redl_session.specs.Says.{says_of}
use Rattle.redl_stays_sound.specs.Decided.{decided as decided_among}
use Rattle.redl_stays_sound.specs.Kept.{kept_marks, marks}
use Rattle.redl_stays_sound.specs.Staying.{StayIn}
use Rattle.redl_tree.specs.Decisions.Packages.{pass_package, stories}
use Rattle.redl_tree.specs.Decisions.Survivors.{survivors, text_pieces}
use Rattle.redl_tree.specs.Model.Nodes.{Nodes}
use Rattle.redl_tree.specs.Model.Text.{text}
use Rattle.redl_tree.specs.Rules.Sound.{is_sound}
use Rattle.redl_tree.specs.declared.kinds.Say.{Say}
use Rattle.redl_words.specs.Commands.{IsCommand, write}
use Rattle.redl_xml.specs.Readings.{IsReading, HasNoReading}

-- the file of this name is the XML of a sound package with these nodes
pub record IsPackage (files : Files) (name whole : List ℕ) (nodes : Nodes) : Type 0 where
  pub file : files name ≡ Some whole
  pub read : IsReading whole nodes
  pub shape : refusal nodes ≡ None
  pub sound : is_sound rules nodes ≡ true

-- the file of this name is a journal of the package, by its digest and the number of its revisions
pub record IsJournalOf (files : Files) (whole : List ℕ) (nodes : Nodes) (name : List ℕ) (journal : Journal) : Type 0 where
  pub bytes : List ℕ
  pub file : files name ≡ Some bytes
  pub read : IsJournal bytes journal
  pub digest : journal.digest ≡ sha256 whole
  pub count : journal.count ≡ package_revisions nodes

-- these are the entries of the journals of these names, one journal after the other
abbrev pub AreEntries : Files → List ℕ → Nodes → List (List ℕ) → List Entry → Type 0
AreEntries files whole nodes [] entries = entries ≡ []
AreEntries files whole nodes (name ∷ names) entries =
    (journal : Journal) × IsJournalOf files whole nodes name journal
    × ((more : List Entry) × (entries ≡ journal.entries ++ more) × AreEntries files whole nodes names more)

-- what is said of each revision: the verdict of all entries together, but for those on revisions that a lock holds or that are not there
abbrev pub verdicts : Nodes → List Lock → List Entry → List Say
verdicts nodes locks entries = says_of (union [] (admitted (revisions_of nodes) locks entries)) (length (revisions_of nodes))

-- the status of a call that wrote all: Refused where some entries were refused
abbrev pub status_of : List Entry → Status
status_of [] = Done
status_of (entry ∷ entries) = Refused

-- `write` of this package with these locks and journals ended with this status, and wrote these bytes
pub record IsWriting (files : Files) (p : List ℕ) (locks : List Lock) (journals : List (List ℕ)) (ended : Status) (bytes : List ℕ) : Type 0 where
  pub whole : List ℕ
  pub nodes : Nodes
  pub package_file : IsPackage files p whole nodes
  pub entries : List Entry
  pub journal_files : AreEntries files whole nodes journals entries
  -- one pass over the original under the verdicts
  pub written : bytes ≡ text (pass_package (verdicts nodes locks entries) (numbered_package nodes))
  -- its text is what survives, and it keeps the rules of structure
  pub texts : map text_pieces (stories (pass_package (verdicts nodes locks entries) (numbered_package nodes)))
      ≡ map (survivors (verdicts nodes locks entries)) (stories (numbered_package nodes))
  pub sound : is_sound rules (pass_package (verdicts nodes locks entries) (numbered_package nodes)) ≡ true
  -- what stays marked, of content revisions and markers of moves: what is left as it is, in nothing that goes
  pub marked : map marks (stories (pass_package (verdicts nodes locks entries) (numbered_package nodes)))
      ≡ map (kept_marks (verdicts nodes locks entries)) (stories (numbered_package nodes))
  -- so does each member in properties, at least: one that is left as it is, unless what is around it goes or the end of its paragraph does
  pub members : StayIn (verdicts nodes locks entries) (stories (numbered_package nodes))
      (stories (pass_package (verdicts nodes locks entries) (numbered_package nodes)))
  -- and no member or marker of a revision that is decided
  pub decided : map (decided_among (verdicts nodes locks entries)) (stories (pass_package (verdicts nodes locks entries) (numbered_package nodes)))
      ≡ map (λ _. []) (stories (numbered_package nodes))
  -- where no stretches that meet form `]]>`, it is read again as a sound package of the same shape, with no more nodes
  pub again : meet_well (pass_package (verdicts nodes locks entries) (numbered_package nodes)) ≡ true → IsReread (verdicts nodes locks entries) nodes
  -- and where some do, the bytes have no tree
  pub no_tree : meet_well (pass_package (verdicts nodes locks entries) (numbered_package nodes)) ≡ false → HasNoReading bytes
  -- an entry is refused where it is on a revision that is held or not there
  pub status : ended ≡ status_of (refused (revisions_of nodes) locks entries)

-- A call of `write` over these files that ended with Done or Refused: the output has all that `write` wrote after what it had before.
abbrev pub Headline : List (List ℕ) → Option Files → Option (List ℕ) → Option (List ℕ) → Status → Type 0
Headline words held before after ended =
    (p : List ℕ) (locks : List Lock) (journals : List (List ℕ)) → IsCommand words (write p locks journals) → (ended ≡ Done) ⊎ (ended ≡ Refused)
    → (files : Files) (known : List ℕ) → held ≡ Some files → before ≡ Some known
    → (bytes : List ℕ) × IsWriting files p locks journals ended bytes × (after ≡ Some (known ++ bytes))
