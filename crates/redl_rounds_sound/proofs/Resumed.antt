-- A journal that was made of two sittings writes of the first package what the second sitting writes of the second one.
use Rattle.std.proofs.Common.{◌≡◌, ◌+◌, ◌-◌, ◌<◌, ◌≤◌, ℕ, zero, suc, List, [], ◌∷◌, ◌++◌, length, filter, Bool, true, false, cond, Option, None, Some, is_none, slice_get, nat_lt, option_map, filter_map, Result, Ok, Err, refl, sym, ap, ◌∙◌, subst, arith, bytes_eq, if◌then◌else◌}
use Rattle.std.proofs.lemmas.Bool.{cond-true, lt-ltb, ltb-true}
use Rattle.std.proofs.lemmas.List.Elements.{All-from_recursion}
use Rattle.std.specs.List.{AllByRecursion, cons_option}
use Rattle.sha2.proofs.Facts256.{length-sha256}
use Rattle.sha2.specs.Sha256.{sha256}
use Rattle.redl_commands.specs.Join.{book_text}
use Rattle.redl_commands.specs.Write.{left_text, resolved, written}
use Rattle.redl_commands.specs.Writing.{Writing, outcome_of}
use Rattle.redl_index.proofs.RevisionLaws.{length-revisions_of}
use Rattle.redl_index.specs.Numbers.{numbered_package, package_revisions}
use Rattle.redl_index.specs.Revisions.{revisions_of}
use Rattle.redl_index.specs.declared.revision.Revision.{Revision}
use Rattle.redl_inputs.proofs.AnyOrder.{admits_same, gathered_among, gathered_is_entry}
use Rattle.redl_inputs.proofs.LeftLaws.{gathered_of}
use Rattle.redl_inputs.proofs.StepLaws.{both_ok, same_ok}
use Rattle.redl_inputs.specs.Admission.{Admission, admission_with, no_admission, opened, opened_over, sitting_over}
use Rattle.redl_inputs.specs.Journals.{document_of, gathered, gathered_with}
use Rattle.redl_inputs.specs.Packages.{package_file, package_in}
use Rattle.redl_inputs.specs.Readers.{Reader, IsReader}
use Rattle.redl_inputs.specs.Steps.{◌>>=◌}
use Rattle.redl_io.specs.Limits.{journal_bytes}
use Rattle.redl_io.specs.Shelf.{Files}
use Rattle.redl_join.proofs.Unions.{book-none, book-union, union-own}
use Rattle.redl_join.specs.Books.{IsBook, union}
use Rattle.redl_join.specs.Verdicts.{verdict_at}
use Rattle.redl_journal.specs.Journals.{Journal, written_text}
use Rattle.redl_journal.specs.declared.entry.Entry.{Entry}
use Rattle.redl_journal_sound.specs.Writable.{IsWritable, IsWritableEntry}
use Rattle.redl_lines.specs.Ends.{written_status}
use Rattle.redl_lines.specs.Failures.{Failure, caused, not_written}
use Rattle.redl_lines.specs.Refused.{with_refusals}
use Rattle.redl_lines.specs.declared.status.Status.TheVariants as status
use Rattle.redl_sound.proofs.Locked.Opened.{shape-read}
use Rattle.redl_commands_shown.specs.Resume.{book_of, left_by, of_second, second_sitting, sitting_on, text_under}
use Rattle.redl_sound.proofs.Numbered.Lists.{there-is}
use Rattle.redl_outcome.proofs.LeftLaws.{is_made}
use Rattle.redl_outcome.proofs.SittingLaws.{sittings_agree}
use Rattle.redl_outcome.specs.Brought.{Brought}
use Rattle.redl_outcome.specs.Outcome.{outcome, writing_of}
use Rattle.redl_rounds_sound.proofs.Books.{all-contained, all-union}
use Rattle.redl_rounds_sound.proofs.Bounds.{AreBelow, numbered-below, passed-below}
use Rattle.redl_rounds_sound.proofs.Joined.{opened_by}
use Rattle.redl_rounds_sound.proofs.Mapped.{EachBelow, IsOn, firsts-below, mapped-on}
use Rattle.redl_rounds_sound.proofs.OneFile.{entry_writable, gathers_written}
use Rattle.redl_rounds_sound.proofs.Packages.{reads_package, revisions-few, sha256-bytes}
use Rattle.redl_rounds_sound.specs.Rounds.{ResumedStandsFor, StandsForBoth}
use Rattle.redl_session.specs.Refusals.{admitted, cause_of, cause_on, refusals}
use Rattle.redl_session.specs.Says.{says_of}
use Rattle.redl_session.specs.Sessions.{SessionState, says}
use Rattle.redl_session.specs.declared.refusal.AdmitError.{AdmitError}
use Rattle.redl_session.specs.declared.refusal.Refusal.{Refusal}
use Rattle.redl_sittings.specs.JoinedBooks.{deciding, is_decided, mapped_back}
use Rattle.redl_sittings.specs.SecondNumbers.{first_numbers}
use Rattle.redl_tree.specs.Decisions.Packages.{pass_package}
use Rattle.redl_tree.specs.Model.Nodes.{Nodes}
use Rattle.redl_tree.specs.Model.Text.{text}

-- ---- entries on revisions of the package, without locks

all-filter : (P : Entry → Type 0) (test : Entry → Bool) (entries : List Entry) → AllByRecursion P entries → AllByRecursion P (filter test entries)
all-filter P test [] all = tt
all-filter P test (entry ∷ entries) all = at (test entry) (all-filter P test entries all.1)
  where
    at : (b : Bool) → AllByRecursion P (filter test entries) → AllByRecursion P (cond b (entry ∷ filter test entries) (filter test entries))
    at true later = (all.0, later)
    at false later = later

-- an entry on one of these revisions is not refused
no-cause : (revisions : List Revision) (entry : Entry) → IsOn (1 + length revisions) entry → cause_of revisions [] entry ≡ None
no-cause revisions entry on =
    let some = on.some in
    let below = on.below in
    let found = there-is revisions (entry.rev - 1) (omega (arith, some, below)) in
    ap (cause_on []) (cond-true (nat_lt 0 entry.rev) _ _ (lt-ltb 0 entry.rev some) ∙ found.1)

admits-all : (revisions : List Revision) (entries : List Entry) → AllByRecursion (IsOn (1 + length revisions)) entries → admitted revisions [] entries ≡ entries
admits-all revisions [] all = refl
admits-all revisions (entry ∷ entries) all =
    ap (λ (cause : Option AdmitError). cond (is_none cause) (entry ∷ admitted revisions [] entries) (admitted revisions [] entries)) (no-cause revisions entry all.0)
    ∙ ap (λ (es : List Entry). entry ∷ es) (admits-all revisions entries all.1)

refuses-none : (revisions : List Revision) (entries : List Entry) → AllByRecursion (IsOn (1 + length revisions)) entries → refusals revisions [] entries ≡ []
refuses-none revisions [] all = refl
refuses-none revisions (entry ∷ entries) all =
    ap (λ (cause : Option AdmitError). cons_option (option_map (λ why. let r : Refusal = record { entry = entry; why = why } in r) cause) (refusals revisions [] entries)) (no-cause revisions entry all.0)
    ∙ refuses-none revisions entries all.1

-- an entry that was admitted is on one of the revisions
on-admitted : (revisions : List Revision) (entries : List Entry) → AllByRecursion IsWritableEntry entries → AllByRecursion (IsOn (1 + length revisions)) (admitted revisions [] entries)
on-admitted revisions [] all = tt
on-admitted revisions (entry ∷ entries) all = at (cause_of revisions [] entry) refl (on-admitted revisions entries all.1)
  where
    got : (rs : List Revision) (k : ℕ) (cause : Option Revision) → slice_get rs k ≡ cause → is_none (cause_on [] cause) ≡ true → k < length rs
    got [] k None e f = absurd (cc f)
    got [] k (Some r) e f = absurd (cc e)
    got (r ∷ rs) zero cause e f = omega arith
    got (r ∷ rs) (suc k) cause e f = let later = got rs k cause e f in omega (arith, later)

    place : (b : Bool) → nat_lt 0 entry.rev ≡ b → is_none (cause_on [] (if b then slice_get revisions (entry.rev - 1) else None)) ≡ true → IsOn (1 + length revisions) entry
    place true some is =
        let below = got revisions (entry.rev - 1) (slice_get revisions (entry.rev - 1)) refl is in
        let first = ltb-true 0 entry.rev some in
        record { writable = all.0; some = first; below = omega (arith, below, first) }
    place false none is = absurd (cc is)

    at : (cause : Option AdmitError) → cause_of revisions [] entry ≡ cause → AllByRecursion (IsOn (1 + length revisions)) (admitted revisions [] entries)
        → AllByRecursion (IsOn (1 + length revisions)) (cond (is_none cause) (entry ∷ admitted revisions [] entries) (admitted revisions [] entries))
    at None is later = (place (nat_lt 0 entry.rev) refl (ap is_none is), later)
    at (Some why) is later = later

-- ---- a sitting

-- a sitting over a package that was read: the entries that came, and what the session made of them
record Sits (reader : Reader) (files : Files) (left : ℕ) (names : List (List ℕ)) (whole : List ℕ) (nodes : Nodes) (one : Admission) : Type 0 where
  pub entries : List Entry
  pub gathers : gathered reader files (document_of whole nodes) left names ≡ Ok entries
  pub is : admission_with (no_admission whole nodes []) entries ≡ one

sits : (reader : Reader) (files : Files) (left : ℕ) (names : List (List ℕ)) (whole : List ℕ) (nodes : Nodes) (one : Admission × ℕ)
    → sitting_over reader files left names whole nodes ≡ Ok one → Sits reader files left names whole nodes one.0
sits reader files left names whole nodes one made =
    let taken : List Entry × ℕ → Result (Admission × ℕ) Failure = λ entries. Ok (admission_with (no_admission whole nodes []) entries.0, entries.1) in
    let entries = both_ok (gathered_with reader files (document_of whole nodes) left names) taken one made in
    record {
      entries = entries.x.0;
      gathers = gathered_of reader files (document_of whole nodes) left names entries.x entries.first;
      is = ap (λ (x : Admission × ℕ). x.0) (same_ok entries.second);
    }

-- the entries that came can be written
came-writable : (reader : Reader) (files : Files) (left : ℕ) (names : List (List ℕ)) (whole : List ℕ) (nodes : Nodes) (one : Admission) → IsReader reader
    → (it : Sits reader files left names whole nodes one) → AllByRecursion IsWritableEntry it.entries
came-writable reader files left names whole nodes one is it =
    all-contained IsWritableEntry it.entries
    (λ entry there. entry_writable reader files (document_of whole nodes) names entry is (gathered_is_entry reader files (document_of whole nodes) left names it.entries entry it.gathers there))

-- the entries of a session's book are on revisions of its package
book-on : (reader : Reader) (files : Files) (left : ℕ) (names : List (List ℕ)) (whole : List ℕ) (nodes : Nodes) (one : Admission) → IsReader reader
    → Sits reader files left names whole nodes one → AllByRecursion (IsOn (1 + length (revisions_of nodes))) one.state.book
book-on reader files left names whole nodes one is it =
    subst (λ (a : Admission). AllByRecursion (IsOn (1 + length (revisions_of nodes))) a.state.book) it.is
    (all-union (IsOn (1 + length (revisions_of nodes))) [] (admitted (revisions_of nodes) [] it.entries) tt (on-admitted (revisions_of nodes) it.entries (came-writable reader files left names whole nodes one is it)))

on-writable : (n : ℕ) (entries : List Entry) → AllByRecursion (IsOn n) entries → AllByRecursion IsWritableEntry entries
on-writable n [] all = tt
on-writable n (entry ∷ entries) all = (all.0.writable, on-writable n entries all.1)

-- ---- the joined book

module _ (reader : Reader) (is : IsReader reader) (files : Files) (whole second_whole : List ℕ) (nodes second_nodes : Nodes)
    (read : package_in reader whole ≡ Ok nodes)
    (left : ℕ) (firsts seconds : List (List ℕ)) (first_entries second_entries : List Entry)
    (first_gathers : gathered reader files (document_of whole nodes) journal_bytes firsts ≡ Ok first_entries)
    (second_gathers : gathered reader files (document_of second_whole second_nodes) left seconds ≡ Ok second_entries) where
  -- the two sessions
  abbrev first : Admission
  first = admission_with (no_admission whole nodes []) first_entries

  abbrev second : Admission
  second = admission_with (no_admission second_whole second_nodes []) second_entries

  abbrev revisions : List Revision
  revisions = revisions_of nodes

  abbrev book : List Entry
  book = book_of first.state second.state

  abbrev back : List ℕ
  back = first_numbers (pass_package (says first.state) first.state.nodes) second.state.nodes (length second.state.revisions)

  count : length revisions ≡ package_revisions nodes
  count = length-revisions_of nodes (shape-read reader whole nodes read)

  few : 1 + length revisions ≤ 4294967296
  few = let bound = revisions-few reader whole nodes is read in omega (arith, bound, count)

  back-below-count : EachBelow (1 + length revisions) back
  back-below-count =
      firsts-below (1 + length revisions) (pass_package (says first.state) first.state.nodes) second.state.nodes (length second.state.revisions) (omega arith)
      (passed-below (1 + length revisions) (says first.state) (numbered_package nodes)
      (subst (λ n. AreBelow (1 + n) (numbered_package nodes)) (sym count) (numbered-below whole nodes (reads_package reader whole nodes is read) (shape-read reader whole nodes read))))

  first-on : AllByRecursion (IsOn (1 + length revisions)) first.state.book
  first-on = book-on reader files journal_bytes firsts whole nodes first is (record { entries = first_entries; gathers = first_gathers; is = refl })

  second-writable : AllByRecursion IsWritableEntry second.state.book
  second-writable =
      on-writable (1 + length (revisions_of second_nodes)) second.state.book
      (book-on reader files left seconds second_whole second_nodes second is (record { entries = second_entries; gathers = second_gathers; is = refl }))

  -- each entry of the joined book is on a revision of the first package
  pub all-on : AllByRecursion (IsOn (1 + length revisions)) book
  all-on =
      all-union (IsOn (1 + length revisions)) (union [] (deciding first.state.book)) (filter_map (mapped_back back) second.state.book)
      (all-union (IsOn (1 + length revisions)) [] (deciding first.state.book) tt
      (all-filter (IsOn (1 + length revisions)) (λ entry. is_decided (verdict_at first.state.book entry.rev)) first.state.book first-on))
      (mapped-on (1 + length revisions) back second.state.book few back-below-count second-writable)

  is-book : IsBook book
  is-book =
      book-union (union [] (deciding first.state.book)) (filter_map (mapped_back back) second.state.book)
      (book-union [] (deciding first.state.book) book-none)

  -- the journal of the joined book
  abbrev pub journal : Journal
  journal = record { digest = sha256 whole; count = package_revisions nodes; entries = book }

  writable : IsWritable journal
  writable = record {
    digest = record { size = length-sha256 whole; bytes = sha256-bytes whole };
    count = let bound = revisions-few reader whole nodes is read in omega (arith, bound);
    entries = All-from_recursion IsWritableEntry book (on-writable (1 + length revisions) book all-on);
  }

  -- what the first package is under this journal
  abbrev under : Admission
  under = admission_with (no_admission whole nodes []) book

  pub opens-under : (name : List ℕ) → files name ≡ Some (written_text journal) → length (written_text journal) ≤ journal_bytes
      → opened reader files [] (name ∷ []) whole ≡ Ok under
  opens-under name there short =
      opened_by reader files [] (name ∷ []) whole nodes book read
      (gathers_written reader files (document_of whole nodes) journal_bytes name journal is writable there short refl refl)

  -- it is all admitted
  same-book : under.state.book ≡ book
  same-book = ap (union []) (admits-all revisions book all-on) ∙ union-own book is-book

  pub no-refusals : (outcome_of (Ok (resolved [] under))).status ≡ status.Done
  no-refusals = ap (λ (rs : List Refusal). written_status (with_refusals [] rs ++ [])) (refuses-none revisions book all-on)

  pub same-text : left_text under.state ≡ text_under first.state book
  same-text = ap (λ (b : List Entry). text (pass_package (says_of b (length revisions)) (numbered_package nodes))) same-book

-- ---- the calls

-- the steps of both sittings
left_is : (state : SessionState) (fetched whole : List ℕ) → left_by state fetched ≡ Ok whole → fetched ≡ whole
left_is state fetched whole is = by (bytes_eq fetched (left_text state)) is
  where
    by : (b : Bool) → cond b (Ok fetched) (Err (caused not_written)) ≡ Ok whole → fetched ≡ whole
    by true e = same_ok e
    by false e = absurd (cc e)

of_second-ok : {X : Type 0} (made : Result X Failure) (x : X) → of_second made ≡ Ok x → made ≡ Ok x
of_second-ok (Ok y) x e = e
of_second-ok (Err failure) x e = absurd (cc e)

-- the second sitting, over its own package
record SitsSecond (reader : Reader) (files : Files) (q : List ℕ) (left : ℕ) (journals : List (List ℕ)) (two : Admission) : Type 0 where
  pub whole : List ℕ
  pub nodes : Nodes
  pub file : package_file files q ≡ Ok whole
  pub read : package_in reader whole ≡ Ok nodes
  pub sits : Sits reader files left journals whole nodes two

sits-second : (reader : Reader) (files : Files) (q : List ℕ) (journals : List (List ℕ)) (one two : Admission × ℕ) → second_sitting reader files q journals one ≡ Ok two
    → SitsSecond reader files q one.1 journals two.0
sits-second reader files q journals one two made =
    let fetched = both_ok (package_file files q) (λ fetched. left_by one.0.state fetched >>= (λ whole. sitting_on reader files one.1 journals whole)) two made in
    let kept = both_ok (left_by one.0.state fetched.x) (λ whole. sitting_on reader files one.1 journals whole) two fetched.second in
    let over = both_ok (of_second (package_in reader kept.x)) (sitting_over reader files one.1 journals kept.x) two kept.second in
    record {
      whole = kept.x;
      nodes = over.x;
      file = fetched.first ∙ ap Ok (left_is one.0.state fetched.x kept.x kept.first);
      read = of_second-ok (package_in reader kept.x) over.x over.first;
      sits = sits reader files one.1 journals kept.x over.x two over.second;
    }

-- what `write` makes of the second package is what the second sitting left
second-written : (reader : Reader) (files : Files) (q : List ℕ) (left : ℕ) (journals : List (List ℕ)) (two : Admission) (writing : Writing) → SitsSecond reader files q left journals two
    → package_file files q >>= written reader files [] journals ≡ Ok writing → writing.bytes ≡ left_text two.state
second-written reader files q left journals two writing it made =
    let whole = both_ok (package_file files q) (written reader files [] journals) writing made in
    let same : whole.x ≡ it.whole = same_ok (sym whole.first ∙ it.file) in
    let again : written reader files [] journals it.whole ≡ Ok writing = subst (λ w. written reader files [] journals w ≡ Ok writing) same whole.second in
    let opens = both_ok (opened reader files [] journals it.whole) (λ admission. Ok (resolved [] admission)) writing again in
    let read = both_ok (package_in reader it.whole) (opened_over reader files [] journals it.whole) opens.x opens.first in
    let nodes : read.x ≡ it.nodes = same_ok (sym read.first ∙ it.read) in
    let over : opened_over reader files [] journals it.whole it.nodes ≡ Ok opens.x = subst (λ n. opened_over reader files [] journals it.whole n ≡ Ok opens.x) nodes read.second in
    let entries = both_ok (gathered reader files (document_of it.whole it.nodes) journal_bytes journals) (λ entries. Ok (admission_with (no_admission it.whole it.nodes []) entries)) opens.x over in
    let alike : opens.x ≡ two =
    sym (same_ok entries.second)
    ∙ admits_same it.whole it.nodes [] entries.x it.sits.entries
    (λ entry. (
      gathered_among reader files (document_of it.whole it.nodes) journal_bytes left journals journals entries.x it.sits.entries (λ name here. here) entries.first it.sits.gathers entry,
      gathered_among reader files (document_of it.whole it.nodes) left journal_bytes journals journals it.sits.entries entries.x (λ name here. here) it.sits.gathers entries.first entry,
    ))
    ∙ it.sits.is in
    ap (λ (w : Writing). w.bytes) (sym (same_ok opens.second)) ∙ ap (λ (a : Admission). left_text a.state) alike

pub resumed_stands_for : (reader : Reader) → IsReader reader → (files : Files) (brought : Brought) → ResumedStandsFor reader files brought
resumed_stands_for reader is files brought resumes one second p q name firsts journals is_resume is_one is_second file done =
    let agree = sittings_agree reader resumes files brought p q firsts journals is_resume file.done in
    let two = sits-second reader files q journals agree.sittings.one agree.sittings.two agree.sittings.second in
    let read = both_ok (package_in reader agree.sittings.whole) (sitting_over reader files journal_bytes firsts agree.sittings.whole) agree.sittings.one agree.sittings.first in
    let begun = sits reader files journal_bytes firsts agree.sittings.whole read.x agree.sittings.one read.second in
    let second_call = is_made (writing_of reader files brought (reader.command second)) done in
    let second_made : package_file files q >>= written reader files [] journals ≡ Ok second_call.0 = ap (writing_of reader files brought) (sym is_second) ∙ second_call.1 in
    let bytes = second-written reader files q agree.sittings.one.1 journals agree.sittings.two.0 second_call.0 two second_made in
    by agree.sittings.whole read.x agree.sittings.file read.first two.whole two.nodes agree.sittings.one.1 begun.entries begun.gathers two.sits.entries two.sits.gathers
    agree.sittings.one.0 begun.is agree.sittings.two.0 two.sits.is agree.journal agree.texts
    second_call bytes
  where
    by : (whole : List ℕ) (nodes : Nodes) → package_file files p ≡ Ok whole → (read : package_in reader whole ≡ Ok nodes) → (second_whole : List ℕ) (second_nodes : Nodes) (left : ℕ)
        (firsts_came : List Entry) (gathers : gathered reader files (document_of whole nodes) journal_bytes firsts ≡ Ok firsts_came)
        (seconds_came : List Entry) (later : gathered reader files (document_of second_whole second_nodes) left journals ≡ Ok seconds_came)
        (one_sits : Admission) → admission_with (no_admission whole nodes []) firsts_came ≡ one_sits → (two_sits : Admission) → admission_with (no_admission second_whole second_nodes []) seconds_came ≡ two_sits
        → (outcome reader resumes files brought).bytes ≡ book_text one_sits.document (book_of one_sits.state two_sits.state)
        → text_under one_sits.state (book_of one_sits.state two_sits.state) ≡ left_text two_sits.state
        → (call : (writing : Writing) × (writing_of reader files brought (reader.command second) ≡ Ok writing)) → call.0.bytes ≡ left_text two_sits.state
        → StandsForBoth reader files brought one second
    by whole nodes file_is read second_whole second_nodes left firsts_came gathers seconds_came later one_sits one_is two_sits two_is wrote texts call bytes =
        let a : Admission = admission_with (no_admission whole nodes []) firsts_came in
        let b : Admission = admission_with (no_admission second_whole second_nodes []) seconds_came in
        let made_bytes = (outcome reader resumes files brought).bytes in
        let own : made_bytes ≡ book_text a.document (book_of a.state b.state) =
        subst (λ (y : Admission). made_bytes ≡ book_text a.document (book_of a.state y.state)) (sym two_is)
        (subst (λ (x : Admission). made_bytes ≡ book_text x.document (book_of x.state two_sits.state)) (sym one_is) wrote) in
        let alike : text_under a.state (book_of a.state b.state) ≡ left_text b.state =
        subst (λ (y : Admission). text_under a.state (book_of a.state y.state) ≡ left_text y.state) (sym two_is)
        (subst (λ (x : Admission). text_under x.state (book_of x.state two_sits.state) ≡ left_text two_sits.state) (sym one_is) texts) in
        let opens = opens-under reader is files whole second_whole nodes second_nodes read left firsts journals firsts_came seconds_came gathers later name
        (file.held ∙ ap Some own) (subst (λ (t : List ℕ). length t ≤ journal_bytes) own file.short) in
        let last : Admission = admission_with (no_admission whole nodes []) (book_of a.state b.state) in
        let made : writing_of reader files brought (reader.command one) ≡ Ok (resolved [] last) =
        ap (writing_of reader files brought) is_one
        ∙ ap (λ (m : Result (List ℕ) Failure). m >>= written reader files [] (name ∷ [])) file_is
        ∙ ap (λ (m : Result Admission Failure). m >>= (λ admission. let r : Result Writing Failure = Ok (resolved [] admission) in r)) opens in
        record {
          done = ap (λ (m : Result Writing Failure). (outcome_of m).status) made
              ∙ no-refusals reader is files whole second_whole nodes second_nodes read left firsts journals firsts_came seconds_came gathers later;
          same = ap (λ (m : Result Writing Failure). (outcome_of m).bytes) made
              ∙ same-text reader is files whole second_whole nodes second_nodes read left firsts journals firsts_came seconds_came gathers later
              ∙ alike ∙ ap (λ (y : Admission). left_text y.state) two_is ∙ sym bytes
              ∙ sym (ap (λ (m : Result Writing Failure). (outcome_of m).bytes) call.1);
        }
