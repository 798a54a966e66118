-- Sessions, as contracts see them, and what admitted entries make of them.
use Rattle.std.specs.Prelude.{◌≡◌, List, [], ◌∷◌, ◌++◌, None, is_none, length, refl, if◌then◌else◌}
use Rattle.std.specs.Coded.{Coded, code_by, coded_list, coded×}
use Rattle.redl_index.specs.Numbers.{numbered_package}
use Rattle.redl_index.specs.declared.revision.Revision.{Revision}
use Rattle.redl_join.specs.Books.{IsBook, with_entry}
use Rattle.redl_journal.specs.declared.entry.Entry.{Entry}
use Rattle.redl_opc.specs.Code.{nodes_code}
use Rattle.redl_rules.specs.Attributes.{broken_rule}
use Rattle.redl_kinds.specs.declared.lock.Lock.{Lock}
use Rattle.redl_session.specs.Refusals.{cause_of}
use Rattle.redl_session.specs.Says.{says_of}
use Rattle.redl_tree.specs.Model.Nodes.{Nodes, Tag}
use Rattle.redl_tree.specs.declared.kinds.Say.{Say}

-- the nodes of a package, its revisions, the locks, and the entries that were admitted
pub record SessionState : Type 0 where
  pub nodes : Nodes
  pub revisions : List Revision
  pub locks : List Lock
  pub book : List Entry

-- a code of `State`, with which a proof distinguishes two of them
abbrev pub state_code : Coded Tag → Coded Revision → Coded Lock → Coded Entry → Coded SessionState
state_code tag revision lock entry =
    code_by (Nodes × (List Revision × (List Lock × List Entry)))
    (coded× (nodes_code tag) (coded× (coded_list revision) (coded× (coded_list lock) (coded_list entry))))
    (λ state. (state.nodes, (state.revisions, (state.locks, state.book))))
    (λ code. record { nodes = code.0; revisions = code.1.0; locks = code.1.1.0; book = code.1.1.1 })
    (λ _. refl)

-- the say of each revision, in the order of their numbers
abbrev pub says : SessionState → List Say
says state = says_of state.book (length state.revisions)

-- a session after one entry: the book has it, unless it is refused
abbrev pub after_entry : SessionState → Entry → SessionState
after_entry state entry =
    if is_none (cause_of state.revisions state.locks entry) then record state { book = with_entry state.book entry } else state

-- a session after entries, one after another
abbrev pub after : SessionState → List Entry → SessionState
after state [] = state
after state (entry ∷ entries) = after (after_entry state entry) entries

-- a session took a first part of the entries
pub record StopsAfter (old new : SessionState) (entries : List Entry) : Type 0 where
  pub first : List Entry
  pub rest : List Entry
  pub splits : entries ≡ first ++ rest
  pub state : new ≡ after old first

-- the invariant of a session: its package has the numbers of its revisions and is sound, and its book is in order
pub record IsInOrder (nodes : Nodes) (book : List Entry) : Type 0 where
  pub numbered : numbered_package nodes ≡ nodes
  pub sound : broken_rule nodes ≡ None
  pub ordered : IsBook book
