-- Journals in any order and with repeats come to the same.
use Rattle.std.proofs.Common.{◌≡◌, ◌⊎◌, ◌↔◌, inl, inr, ◌-◌, ◌&&◌, ℕ, zero, suc, nat_lt, List, [], ◌∷◌, ◌++◌, length, map, filter, Bool, true, false, Option, None, Some, is_some, is_none, Ordering, Less, Equal, Greater, Result, Ok, Err, Contains, refl, sym, ap, ◌∙◌, subst, arith, if◌then◌else◌}
use Rattle.std.proofs.lemmas.List.Elements.{Contains-append_left, Contains-append_right, Contains-append_cases}
use Rattle.std.specs.BTreeMap.{insert_entry}
use Rattle.std.specs.Ordering.{match_ordering}
use Rattle.redl_index.specs.declared.revision.Revision.{Revision}
use Rattle.redl_inputs.proofs.LeftLaws.{gathered_of}
use Rattle.redl_inputs.proofs.StepLaws.{both_ok, same_ok}
use Rattle.redl_inputs.specs.Admission.{Admission, admission_with, no_admission, opened_over, opened, sitting_over}
use Rattle.redl_inputs.specs.Journals.{AreSame, DocumentId, document_of, entries_of, gathered, gathered_with, journal_at}
use Rattle.redl_inputs.specs.Packages.{package_in}
use Rattle.redl_inputs.specs.Readers.{Reader}
use Rattle.redl_inputs.specs.Steps.{◌>>=◌, file, held, within}
use Rattle.redl_io.specs.Limits.{journal_bytes}
use Rattle.redl_io.specs.Shelf.{Files}
use Rattle.redl_join.proofs.Unions.{book-none, has_entry-filter, has_entry-same, union-same}
use Rattle.redl_join.specs.Books.{union, with_entry}
use Rattle.redl_journal.proofs.EntryOrder.{entry_order-exact}
use Rattle.redl_journal.specs.Order.{entry_order}
use Rattle.redl_journal.specs.declared.entry.Entry.{Entry}
use Rattle.redl_lines.specs.Failures.{Failure, caused, over}
use Rattle.redl_lines.specs.Refused.{with_refusals}
use Rattle.redl_lines.specs.declared.failure.Limit.{Limit}
use Rattle.redl_lines.specs.declared.failure.Limit.TheVariants.{JournalBytes}
use Rattle.redl_kinds.specs.declared.lock.Lock.{Lock}
use Rattle.redl_session.specs.Refusals.{admitted, cause_of, refused, refusals}
use Rattle.redl_session.specs.declared.refusal.AdmitError.{AdmitError}
use Rattle.redl_session.specs.declared.refusal.AdmitError.TheVariants.{Unknown}
use Rattle.redl_tree.specs.Model.Nodes.{Nodes}

-- ---- the entries of one journal

by_within : (longer : Bool) (limit : Limit) (whole text : List ℕ) → (let made : Result (List ℕ) Failure = if longer then Err (caused (over limit)) else Ok whole in made ≡ Ok text) → whole ≡ text
by_within true limit whole text is = absurd (cc is)
by_within false limit whole text is = same_ok is

-- a text that was read is the file's, whatever the limit was
pub file_is_held : (files : Files) (name : List ℕ) (most : ℕ) (limit : Limit) (text : List ℕ) → file files name most limit ≡ Ok text → held name (files name) ≡ Ok text
file_is_held files name most limit text is =
    let both = both_ok (held name (files name)) (within most limit) text is in
    both.first ∙ ap Ok (by_within (nat_lt most (length both.x)) limit both.x text both.second)

-- the journal of this name has these entries
pub record HasEntries (reader : Reader) (files : Files) (document : DocumentId) (name : List ℕ) (entries : List Entry) : Type 0 where
  pub whole : List ℕ
  pub is_held : held name (files name) ≡ Ok whole
  pub is_read : entries_of document name (reader.journal whole) ≡ Ok entries

-- entries that were read of a journal are those that its file has
pub has_entries : (reader : Reader) (files : Files) (document : DocumentId) (left : ℕ) (name : List ℕ) (first : List Entry × ℕ)
    → journal_at reader files document left name ≡ Ok first → HasEntries reader files document name first.0
has_entries reader files document left name first is =
    let text_ = both_ok (file files name left JournalBytes)
    (λ whole. entries_of document name (reader.journal whole) >>= (λ entries. Ok (entries, length whole))) first is in
    let read_ = both_ok (entries_of document name (reader.journal text_.x)) (λ entries. Ok (entries, length text_.x)) first text_.second in
    record {
      whole = text_.x;
      is_held = file_is_held files name left JournalBytes text_.x text_.first;
      is_read = read_.first ∙ ap Ok (ap (λ (x : List Entry × ℕ). x.0) (same_ok read_.second));
    }

-- a journal has one list of entries
pub one_list : (reader : Reader) (files : Files) (document : DocumentId) (name : List ℕ) (entries others : List Entry)
    → HasEntries reader files document name entries → HasEntries reader files document name others → entries ≡ others
one_list reader files document name entries others is other =
    let same : is.whole ≡ other.whole = same_ok (sym is.is_held ∙ other.is_held) in
    same_ok (sym is.is_read ∙ ap (λ text. entries_of document name (reader.journal text)) same ∙ other.is_read)

-- ---- the entries of several journals

nothing_in : {X : Type 0} (x : X) → Contains [] x → ⊥
nothing_in x (k, within_, is) = absurd (omega (arith, within_))

-- a list of one element contains no other
pub only_one : {X : Type 0} (x y : X) → Contains (x ∷ []) y → x ≡ y
only_one x y (zero, within_, is) = is
only_one x y (suc k, within_, is) = absurd (omega (arith, within_))

-- an entry of one of these journals
pub record IsEntryOf (reader : Reader) (files : Files) (document : DocumentId) (names : List (List ℕ)) (entry : Entry) : Type 0 where
  pub name : List ℕ
  pub among : Contains names name
  pub entries : List Entry
  pub has : HasEntries reader files document name entries
  pub there : Contains entries entry

-- each entry that was gathered is one of some journal
pub gathered_is_entry : (reader : Reader) (files : Files) (document : DocumentId) (left : ℕ) (names : List (List ℕ)) (entries : List Entry) (entry : Entry)
    → gathered reader files document left names ≡ Ok entries → Contains entries entry → IsEntryOf reader files document names entry
gathered_is_entry reader files document left [] entries entry is there =
    absurd (nothing_in entry (subst (λ (es : List Entry). Contains es entry) (sym (same_ok is)) there))
gathered_is_entry reader files document left (name ∷ names) entries entry is there =
    let first = both_ok (journal_at reader files document left name) (λ x. gathered reader files document (left - x.1) names >>= (λ more. Ok (x.0 ++ more))) entries is in
    let rest = both_ok (gathered reader files document (left - first.x.1) names) (λ more. Ok (first.x.0 ++ more)) entries first.second in
    let in_both : Contains (first.x.0 ++ rest.x) entry = subst (λ (es : List Entry). Contains es entry) (sym (same_ok rest.second)) there in
    by first.x rest.x (has_entries reader files document left name first.x first.first)
    (λ here. gathered_is_entry reader files document (left - first.x.1) names rest.x entry rest.first here) (Contains-append_cases first.x.0 rest.x entry in_both)
  where
    by : (x : List Entry × ℕ) (more : List Entry) → HasEntries reader files document name x.0 → (Contains more entry → IsEntryOf reader files document names entry)
        → Contains x.0 entry ⊎ Contains more entry → IsEntryOf reader files document (name ∷ names) entry
    by x more has later (inl here) = record { name = name; among = Contains-append_left (name ∷ []) names name (zero, omega arith, refl); entries = x.0; has = has; there = here }
    by x more has later (inr here) =
        let it = later here in
        record { name = it.name; among = Contains-append_right (name ∷ []) names it.name it.among; entries = it.entries; has = it.has; there = it.there }

-- the entries of a journal that was gathered are among those of all
pub record IsGathered (reader : Reader) (files : Files) (document : DocumentId) (name : List ℕ) (all : List Entry) : Type 0 where
  pub entries : List Entry
  pub has : HasEntries reader files document name entries
  pub among : (entry : Entry) → Contains entries entry → Contains all entry

-- each named journal of a call that read all of them was read by itself
pub name_is_gathered : (reader : Reader) (files : Files) (document : DocumentId) (left : ℕ) (names : List (List ℕ)) (entries : List Entry) (name : List ℕ)
    → gathered reader files document left names ≡ Ok entries → Contains names name → IsGathered reader files document name entries
name_is_gathered reader files document left [] entries name is among = absurd (nothing_in name among)
name_is_gathered reader files document left (other ∷ names) entries name is among =
    let first = both_ok (journal_at reader files document left other) (λ x. gathered reader files document (left - x.1) names >>= (λ more. Ok (x.0 ++ more))) entries is in
    let rest = both_ok (gathered reader files document (left - first.x.1) names) (λ more. Ok (first.x.0 ++ more)) entries first.second in
    by first.x rest.x (same_ok rest.second) (has_entries reader files document left other first.x first.first)
    (λ here. name_is_gathered reader files document (left - first.x.1) names rest.x name rest.first here) (Contains-append_cases (other ∷ []) names name among)
  where
    by : (x : List Entry × ℕ) (more : List Entry) → x.0 ++ more ≡ entries → HasEntries reader files document other x.0 → (Contains names name → IsGathered reader files document name more)
        → Contains (other ∷ []) name ⊎ Contains names name → IsGathered reader files document name entries
    by x more joined has later (inl here) = record {
      entries = x.0;
      has = subst (λ n. HasEntries reader files document n x.0) (only_one other name here) has;
      among = λ entry there. subst (λ (es : List Entry). Contains es entry) joined (Contains-append_left x.0 more entry there);
    }
    by x more joined has later (inr here) =
        let it = later here in
        record {
          entries = it.entries;
          has = it.has;
          among = λ entry there. subst (λ (es : List Entry). Contains es entry) joined (Contains-append_right x.0 more entry (it.among entry there));
        }

-- of journals whose names are among others, each entry is one of the others
pub gathered_among : (reader : Reader) (files : Files) (document : DocumentId) (left more : ℕ) (names others : List (List ℕ)) (entries all : List Entry)
    → ((name : List ℕ) → Contains names name → Contains others name)
    → gathered reader files document left names ≡ Ok entries → gathered reader files document more others ≡ Ok all
    → (entry : Entry) → Contains entries entry → Contains all entry
gathered_among reader files document left more names others entries all among is other entry there =
    let one = gathered_is_entry reader files document left names entries entry is there in
    let it = name_is_gathered reader files document more others all one.name other (among one.name one.among) in
    it.among entry (subst (λ (es : List Entry). Contains es entry) (one_list reader files document one.name one.entries it.entries one.has it.has) one.there)

-- ---- what a session makes of them

-- the cause of a refused entry; of any other it doesn't matter
abbrev why_of : Option AdmitError → AdmitError
why_of None = Unknown
why_of (Some why) = why

-- an entry with its cause
abbrev with_why : List Revision → List Lock → Entry → Entry × AdmitError
with_why revisions locks entry = (entry, why_of (cause_of revisions locks entry))

insert_with_why : (revisions : List Revision) (locks : List Lock) (book : List Entry) (entry : Entry)
    → insert_entry entry_order (map (with_why revisions locks) book) entry (why_of (cause_of revisions locks entry)) ≡ map (with_why revisions locks) (with_entry book entry)
insert_with_why revisions locks [] entry = refl
insert_with_why revisions locks (first ∷ book) entry = by (entry_order entry first) refl (insert_with_why revisions locks book entry)
  where
    why : AdmitError
    why = why_of (cause_of revisions locks entry)

    by : (o : Ordering) → entry_order entry first ≡ o
        → insert_entry entry_order (map (with_why revisions locks) book) entry why ≡ map (with_why revisions locks) (with_entry book entry)
        → match_ordering o ((entry, why) ∷ with_why revisions locks first ∷ map (with_why revisions locks) book) ((first, why) ∷ map (with_why revisions locks) book)
        (with_why revisions locks first ∷ insert_entry entry_order (map (with_why revisions locks) book) entry why)
        ≡ map (with_why revisions locks) (match_ordering o (entry ∷ first ∷ book) (first ∷ book) (first ∷ with_entry book entry))
    by Less is rest = refl
    by Equal is rest = ap (λ e. (first, why_of (cause_of revisions locks e)) ∷ map (with_why revisions locks) book) (entry_order-exact entry first is)
    by Greater is rest = ap (λ more. with_why revisions locks first ∷ more) rest

-- the refused entries with their causes are those of the set of refused entries
refusals_of_union : (revisions : List Revision) (locks : List Lock) (entries book : List Entry)
    → with_refusals (map (with_why revisions locks) book) (refusals revisions locks entries) ≡ map (with_why revisions locks) (union book (refused revisions locks entries))
refusals_of_union revisions locks [] book = refl
refusals_of_union revisions locks (entry ∷ entries) book = by (cause_of revisions locks entry) refl (refusals_of_union revisions locks entries)
  where
    Rest : Type 0
    Rest = (other : List Entry) → with_refusals (map (with_why revisions locks) other) (refusals revisions locks entries) ≡ map (with_why revisions locks) (union other (refused revisions locks entries))

    by : (cause : Option AdmitError) → cause_of revisions locks entry ≡ cause → Rest
        → with_refusals (map (with_why revisions locks) book) (refusals revisions locks (entry ∷ entries)) ≡ map (with_why revisions locks) (union book (refused revisions locks (entry ∷ entries)))
    by None is rest = rw is (rest book)
    by (Some why) is rest =
        let here : insert_entry entry_order (map (with_why revisions locks) book) entry why ≡ map (with_why revisions locks) (with_entry book entry) =
        subst (λ c. insert_entry entry_order (map (with_why revisions locks) book) entry (why_of c) ≡ map (with_why revisions locks) (with_entry book entry)) is (insert_with_why revisions locks book entry) in
        rw is (ap (λ kept. with_refusals kept (refusals revisions locks entries)) here ∙ rest (with_entry book entry))

-- filtered lists with the same entries make the same set
filtered_same : (test : Entry → Bool) (entries others : List Entry) → ((entry : Entry) → Contains entries entry ↔ Contains others entry)
    → union [] (filter test entries) ≡ union [] (filter test others)
filtered_same test entries others same =
    union-same [] (filter test entries) (filter test others) book-none
    (λ q. has_entry-filter test entries q ∙ ap (λ (b : Bool). test q && b) (has_entry-same entries others same q) ∙ sym (has_entry-filter test others q))

-- lists with the same entries come to the same admission
pub admits_same : (whole : List ℕ) (nodes : Nodes) (locks : List Lock) (entries others : List Entry) → ((entry : Entry) → Contains entries entry ↔ Contains others entry)
    → admission_with (no_admission whole nodes locks) entries ≡ admission_with (no_admission whole nodes locks) others
admits_same whole nodes locks entries others same =
    let before = no_admission whole nodes locks in
    let revisions = before.state.revisions in
    let books : union [] (admitted revisions locks entries) ≡ union [] (admitted revisions locks others) = filtered_same (λ entry. is_none (cause_of revisions locks entry)) entries others same in
    let refuses : with_refusals [] (refusals revisions locks entries) ≡ with_refusals [] (refusals revisions locks others) =
    refusals_of_union revisions locks entries [] ∙ ap (map (with_why revisions locks)) (filtered_same (λ entry. is_some (cause_of revisions locks entry)) entries others same)
    ∙ sym (refusals_of_union revisions locks others []) in
    ap (λ book. record before { state = record before.state { book = book }; remarks = record before.remarks { refused = with_refusals [] (refusals revisions locks entries) } }) books
    ∙ ap (λ kept. record before { state = record before.state { book = union [] (admitted revisions locks others) }; remarks = record before.remarks { refused = kept } }) refuses

-- ---- a session over a package

-- journals in any order and with repeats come to one admission, where their bytes are within the limit both times
pub opens_same : (reader : Reader) (files : Files) (locks : List Lock) (names others : List (List ℕ)) (whole : List ℕ) (one other : Admission) → AreSame names others
    → opened reader files locks names whole ≡ Ok one → opened reader files locks others whole ≡ Ok other → one ≡ other
opens_same reader files locks names others whole one other same is too =
    let read = both_ok (package_in reader whole) (λ nodes. opened_over reader files locks names whole nodes) one is in
    let again = both_ok (package_in reader whole) (λ nodes. opened_over reader files locks others whole nodes) other too in
    let nodes : again.x ≡ read.x = same_ok (sym again.first ∙ read.first) in
    let later : opened_over reader files locks others whole read.x ≡ Ok other = subst (λ n. opened_over reader files locks others whole n ≡ Ok other) nodes again.second in
    let document = document_of whole read.x in
    let entries = both_ok (gathered reader files document journal_bytes names) (λ entries. Ok (admission_with (no_admission whole read.x locks) entries)) one read.second in
    let all = both_ok (gathered reader files document journal_bytes others) (λ entries. Ok (admission_with (no_admission whole read.x locks) entries)) other later in
    sym (same_ok entries.second)
    ∙ admits_same whole read.x locks entries.x all.x
    (λ entry. (
      gathered_among reader files document journal_bytes journal_bytes names others entries.x all.x (λ name. (same name).0) entries.first all.first entry,
      gathered_among reader files document journal_bytes journal_bytes others names all.x entries.x (λ name. (same name).1) all.first entries.first entry,
    ))
    ∙ same_ok all.second

-- the same of a sitting, whose journals may have other bytes left both times
pub sits_same : (reader : Reader) (files : Files) (most more : ℕ) (names others : List (List ℕ)) (whole : List ℕ) (nodes : Nodes) (one other : Admission × ℕ) → AreSame names others
    → sitting_over reader files most names whole nodes ≡ Ok one → sitting_over reader files more others whole nodes ≡ Ok other → one.0 ≡ other.0
sits_same reader files most more names others whole nodes one other same is too =
    let document = document_of whole nodes in
    let taken : List Entry × ℕ → Result (Admission × ℕ) Failure = λ entries. Ok (admission_with (no_admission whole nodes []) entries.0, entries.1) in
    let entries = both_ok (gathered_with reader files document most names) taken one is in
    let all = both_ok (gathered_with reader files document more others) taken other too in
    let first = gathered_of reader files document most names entries.x entries.first in
    let again = gathered_of reader files document more others all.x all.first in
    ap (λ (x : Admission × ℕ). x.0) (sym (same_ok entries.second))
    ∙ admits_same whole nodes [] entries.x.0 all.x.0
    (λ entry. (
      gathered_among reader files document most more names others entries.x.0 all.x.0 (λ name. (same name).0) first again entry,
      gathered_among reader files document more most others names all.x.0 entries.x.0 (λ name. (same name).1) again first entry,
    ))
    ∙ ap (λ (x : Admission × ℕ). x.0) (same_ok all.second)
