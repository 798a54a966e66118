-- A session with an editor: a session whose says are kept.
use Rattle.std.specs.Prelude.{◌≡◌, List, ◌∷◌, ◌++◌, None, length}
use Rattle.redl_index.specs.declared.revision.Revision.{Revision}
use Rattle.redl_journal.specs.declared.entry.Entry.{Entry}
use Rattle.redl_session.specs.Says.{says_of}
use Rattle.redl_session.specs.Refusals.{cause_of}
use Rattle.redl_session.specs.Sessions.{IsInOrder, SessionState, after}
use Rattle.redl_tree.specs.Model.Nodes.{Nodes}
use Rattle.redl_tree.specs.declared.kinds.Say.{Say}

-- its invariant: that of a session, and the says are the book's
pub record IsConsistent (nodes : Nodes) (revisions : List Revision) (book : List Entry) (says : List Say) : Type 0 where
  pub session : IsInOrder nodes book
  pub decided : says ≡ says_of book (length revisions)

-- A session that stopped before an entry that is not refused: it is as after the entries before that one.
pub record StopsBefore (old new : SessionState) (entries : List Entry) : Type 0 where
  pub first : List Entry
  pub next : Entry
  pub rest : List Entry
  pub splits : entries ≡ first ++ next ∷ rest
  pub state : new ≡ after old first
  pub admitted : cause_of new.revisions new.locks next ≡ None
