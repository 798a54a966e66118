-- One entry more, admitted or refused.
use Rattle.std.proofs.Common.{◌≡◌, ◌∙◌, sym, ap, List, [], ◌∷◌, ◌++◌, None, refl}
use Rattle.redl_join.specs.Books.{with_entry}
use Rattle.redl_journal.specs.declared.entry.Entry.{Entry}
use Rattle.redl_session.proofs.Admissions.{after-append}
use Rattle.redl_live_session.specs.Consistency.{StopsBefore}
use Rattle.redl_session.specs.Refusals.{IsCause, cause_of}
use Rattle.redl_session.specs.Sessions.{SessionState, after, after_entry}
use Rattle.redl_session.specs.declared.refusal.AdmitError.{AdmitError}
use Rattle.redl_session.specs.declared.refusal.AdmitError.TheVariants.{Unknown, Locked, NoMemory}

-- ---- by itself

pub after-admitted : (old new : SessionState) (entry : Entry) → cause_of old.revisions old.locks entry ≡ None
    → new ≡ record old { book = with_entry old.book entry } → new ≡ after_entry old entry
after-admitted old new entry free made =
    let one : after_entry old entry ≡ record old { book = with_entry old.book entry } = rw free refl in
    made ∙ sym one

-- a refusal that has a cause
pub after-refused : (old new : SessionState) (entry : Entry) (why : AdmitError) → (why ≡ NoMemory → ⊥)
    → IsCause why (cause_of old.revisions old.locks entry) → new ≡ old → new ≡ after_entry old entry
after-refused old new entry Unknown caused is same =
    let one : after_entry old entry ≡ old = rw is refl in
    same ∙ sym one
after-refused old new entry (Locked bar) caused is same =
    let one : after_entry old entry ≡ old = rw is refl in
    same ∙ sym one
after-refused old new entry NoMemory caused is same = absurd (caused refl)

-- ---- after others

pub after-one : (start old new : SessionState) (entries : List Entry) (entry : Entry) → old ≡ after start entries → new ≡ after_entry old entry
    → new ≡ after start (entries ++ entry ∷ [])
after-one start old new entries entry is made =
    made ∙ ap (λ (state : SessionState). after_entry state entry) is ∙ sym (after-append start entries (entry ∷ []))

-- a session that stopped before an entry
pub stops-before : (start old new : SessionState) (entries : List Entry) (next : Entry) (rest all : List Entry) → old ≡ after start entries
    → entries ++ next ∷ rest ≡ all → new ≡ old → cause_of old.revisions old.locks next ≡ None → StopsBefore start new all
stops-before start old new entries next rest all is whole same free = record {
  first = entries;
  next = next;
  rest = rest;
  splits = sym whole;
  state = same ∙ is;
  admitted = rw same free;
}
