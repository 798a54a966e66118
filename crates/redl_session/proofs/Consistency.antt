-- The book of a session, after entries.
use Rattle.std.proofs.Common.{◌≡◌, false, List, Result, Ok, Err, sym, ◌∙◌}
use Rattle.std.specs.Prelude.{not}
use Rattle.std.specs.Result.{OnErr, OnOk}
use Rattle.std.proofs.lemmas.Bool.{not-false}
use Rattle.redl_index.specs.declared.revision.Revision.{Revision}
use Rattle.redl_join.proofs.Unions.{book-union, kept-present}
use Rattle.redl_join.specs.Books.{IsBook, has_entry, union, with_entry}
use Rattle.redl_journal.specs.declared.entry.Entry.{Entry}
use Rattle.redl_kinds.specs.declared.lock.Lock.{Lock}
use Rattle.redl_session.specs.Refusals.{TakesFirst, admitted}

-- a repeat
pub book-repeat : (book new : List Entry) (entry : Entry) → IsBook book → new ≡ with_entry book entry → false ≡ not (has_entry book entry) → new ≡ book
book-repeat book new entry sorted is before = is ∙ kept-present book entry sorted (not-false (has_entry book entry) (sym before))

-- many entries, all of them or a first part
pub ordered-taken : {T E : Type 0} (result : Result T E) (revisions : List Revision) (locks : List Lock) (book new entries : List Entry) → IsBook book
    → OnOk result (new ≡ union book (admitted revisions locks entries)) → OnErr result (TakesFirst revisions locks book new entries) → IsBook new
ordered-taken (Ok x) revisions locks book new entries sorted all first = rw all (book-union book (admitted revisions locks entries) sorted)
ordered-taken (Err e) revisions locks book new entries sorted all first = rw first.taken (book-union book (admitted revisions locks first.first) sorted)
