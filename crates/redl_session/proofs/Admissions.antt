-- What admitted and refused entries come to, one after another.
use Rattle.std.proofs.Common.{◌≡◌, Bool, true, false, cond, List, [], ◌∷◌, ◌++◌, append-nil, None, Some, Contains, refl, sym, ap, ◌∙◌}
use Rattle.std.proofs.lemmas.List.Elements.{filter-append, filter_map-append}
use Rattle.std.specs.Prelude.{◌↔◌, ◌&&◌, is_none, length}
use Rattle.redl_index.specs.declared.revision.Revision.{Revision}
use Rattle.redl_join.specs.Books.{IsBook, union, with_entry}
use Rattle.redl_join.proofs.Unions.{has_entry-filter, has_entry-same, union-append, union-same}
use Rattle.redl_journal.specs.declared.entry.Entry.{Entry}
use Rattle.redl_kinds.specs.declared.lock.Lock.{Lock}
use Rattle.redl_session.specs.Refusals.{admitted, cause_of, refusal_of, refusals, TakesFirst}
use Rattle.redl_session.specs.Says.{says_of}
use Rattle.redl_session.specs.Sessions.{SessionState, StopsAfter, after, after_entry, says}
use Rattle.redl_session.specs.declared.refusal.AdmitError.{AdmitError}
use Rattle.redl_session.specs.declared.refusal.Refusal.{Refusal}

-- ---- one more entry

admitted-one : (revisions : List Revision) (locks : List Lock) (entries : List Entry) (entry : Entry)
    → admitted revisions locks (entries ++ entry ∷ []) ≡ admitted revisions locks entries ++ admitted revisions locks (entry ∷ [])
admitted-one revisions locks entries entry = filter-append (λ e. is_none (cause_of revisions locks e)) entries (entry ∷ [])

refusals-one : (revisions : List Revision) (locks : List Lock) (entries : List Entry) (entry : Entry)
    → refusals revisions locks (entries ++ entry ∷ []) ≡ refusals revisions locks entries ++ refusals revisions locks (entry ∷ [])
refusals-one revisions locks entries entry = filter_map-append (refusal_of revisions locks) entries (entry ∷ [])

-- an entry that is not refused
pub union-admits : (revisions : List Revision) (locks : List Lock) (book entries : List Entry) (entry : Entry) → cause_of revisions locks entry ≡ None
    → union book (admitted revisions locks (entries ++ entry ∷ [])) ≡ with_entry (union book (admitted revisions locks entries)) entry
union-admits revisions locks book entries entry none =
    let own : admitted revisions locks (entry ∷ []) ≡ entry ∷ [] = rw none refl in
    ap (union book) (admitted-one revisions locks entries entry ∙ ap (λ (es : List Entry). admitted revisions locks entries ++ es) own)
    ∙ union-append book (admitted revisions locks entries) (entry ∷ [])

pub refusals-admits : (revisions : List Revision) (locks : List Lock) (entries : List Entry) (entry : Entry) → cause_of revisions locks entry ≡ None
    → refusals revisions locks (entries ++ entry ∷ []) ≡ refusals revisions locks entries
refusals-admits revisions locks entries entry none =
    let own : refusals revisions locks (entry ∷ []) ≡ [] = rw none refl in
    refusals-one revisions locks entries entry ∙ ap (λ (rs : List Refusal). refusals revisions locks entries ++ rs) own ∙ append-nil (refusals revisions locks entries)

-- a refused one
pub admitted-refuses : (revisions : List Revision) (locks : List Lock) (entries : List Entry) (entry : Entry) (why : AdmitError) → cause_of revisions locks entry ≡ Some why
    → admitted revisions locks (entries ++ entry ∷ []) ≡ admitted revisions locks entries
admitted-refuses revisions locks entries entry why is =
    let own : admitted revisions locks (entry ∷ []) ≡ [] = rw is refl in
    admitted-one revisions locks entries entry ∙ ap (λ (es : List Entry). admitted revisions locks entries ++ es) own ∙ append-nil (admitted revisions locks entries)

pub refusals-refuses : (revisions : List Revision) (locks : List Lock) (entries : List Entry) (entry : Entry) (why : AdmitError) → cause_of revisions locks entry ≡ Some why
    → refusals revisions locks (entries ++ entry ∷ []) ≡ refusals revisions locks entries ++ record { entry = entry; why = why } ∷ []
refusals-refuses revisions locks entries entry why is =
    let own : refusals revisions locks (entry ∷ []) ≡ record { entry = entry; why = why } ∷ [] = rw is refl in
    refusals-one revisions locks entries entry ∙ ap (λ (rs : List Refusal). refusals revisions locks entries ++ rs) own

-- ---- all of them

-- entries that are admitted are added to the book, and nothing else changes
pub after-union : (state : SessionState) (entries : List Entry)
    → after state entries ≡ record state { book = union state.book (admitted state.revisions state.locks entries) }
after-union state [] = refl
after-union state (entry ∷ entries) = by (is_none (cause_of state.revisions state.locks entry)) (λ other. after-union other entries) where
  by : (free : Bool) → ((other : SessionState) → after other entries ≡ record other { book = union other.book (admitted other.revisions other.locks entries) })
      → after (cond {A = SessionState} free (record state { book = with_entry state.book entry }) state) entries
      ≡ record state { book = union state.book (cond free (entry ∷ admitted state.revisions state.locks entries) (admitted state.revisions state.locks entries)) }
  by true rest = rest (record state { book = with_entry state.book entry })
  by false rest = rest state

-- first some entries, then others
pub after-append : (state : SessionState) (entries others : List Entry) → after state (entries ++ others) ≡ after (after state entries) others
after-append state [] others = refl
after-append state (entry ∷ entries) others = after-append (after_entry state entry) entries others

pub stops_after : (state : SessionState) (book entries : List Entry) → TakesFirst state.revisions state.locks state.book book entries
    → StopsAfter state (record state { book = book }) entries
stops_after state book entries stopped = record {
  first = stopped.first;
  rest = stopped.rest;
  splits = stopped.splits;
  state = ap (λ (b : List Entry). record state { book = b }) stopped.taken ∙ sym (after-union state stopped.first);
}

-- ---- lists with the same entries

pub says-same : (state : SessionState) (entries others : List Entry) → IsBook state.book → ((entry : Entry) → Contains entries entry ↔ Contains others entry)
    → says (after state entries) ≡ says (after state others)
says-same state entries others sorted same =
    let free : Entry → Bool = λ e. is_none (cause_of state.revisions state.locks e) in
    let books : union state.book (admitted state.revisions state.locks entries) ≡ union state.book (admitted state.revisions state.locks others) =
    union-same state.book (admitted state.revisions state.locks entries) (admitted state.revisions state.locks others) sorted
    (λ q. has_entry-filter free entries q ∙ ap (λ (b : Bool). free q && b) (has_entry-same entries others same q) ∙ sym (has_entry-filter free others q)) in
    ap says (after-union state entries) ∙ ap (λ (b : List Entry). says_of b (length state.revisions)) books ∙ sym (ap says (after-union state others))
