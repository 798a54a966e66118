-- A call comes to the same for journals in any order and with repeats.
use Rattle.std.proofs.Common.{◌≡◌, ◌⊎◌, inl, inr, ◌-◌, ◌==◌, not, ℕ, zero, List, [], ◌∷◌, ◌++◌, length, Bool, true, false, Option, None, Some, Result, Ok, Err, Contains, refl, sym, ap, ◌∙◌, subst, arith, if◌then◌else◌}
use Rattle.std.proofs.lemmas.Bool.{eqb-true}
use Rattle.std.proofs.lemmas.List.Elements.{Contains-append_left, Contains-append_right, Contains-append_cases}
use Rattle.std.proofs.lemmas.Slice.Eq.{bytes_eq-Decides}
use Rattle.std.specs.Str.{bytes_eq}
use Rattle.redl_outcome.proofs.LeftLaws.{is_made}
use Rattle.redl_outcome.specs.AnyOrder.{OrderDoesNotCount, with_journals}
use Rattle.redl_commands.specs.Decide.{book_written, with_choices}
use Rattle.redl_commands.specs.Join.{book_text, document_in, joined, union_of}
use Rattle.redl_commands_shown.specs.Report.{report_named, reported}
use Rattle.redl_commands_shown.specs.List.{listed, listing_named}
use Rattle.redl_commands_shown.specs.Page.{page_of}
use Rattle.redl_page.specs.Page.{heading_with}
use Rattle.redl_commands.specs.Write.{resolved}
use Rattle.redl_outcome.specs.Brought.{Brought}
use Rattle.redl_outcome.specs.Outcome.{carried_out, writing_of}
use Rattle.redl_outcome.specs.Plans.{has_asked, plan}
use Rattle.redl_commands.specs.Writing.{Writing, only_bytes, outcome_of}
use Rattle.redl_inputs.proofs.AnyOrder.{HasEntries, IsEntryOf, IsGathered, file_is_held, gathered_is_entry, name_is_gathered, one_list, only_one, opens_same}
use Rattle.redl_inputs.proofs.JournalLaws.{entries_of_it}
use Rattle.redl_inputs.proofs.StepLaws.{both_ok, same_ok}
use Rattle.redl_inputs.specs.Admission.{Admission, opened}
use Rattle.redl_inputs.specs.Journals.{AreSame, DocumentId, entries_in, entries_of, first_journal, gathered, journal_or_none}
use Rattle.redl_inputs.specs.Packages.{package_file}
use Rattle.redl_inputs.specs.Readers.{Reader}
use Rattle.redl_inputs.specs.Steps.{◌>>=◌, file, held}
use Rattle.redl_io.specs.Limits.{journal_bytes}
use Rattle.redl_io.specs.Shelf.{Files}
use Rattle.redl_join.proofs.Unions.{one_union, union-append}
use Rattle.redl_join.specs.Books.{union}
use Rattle.redl_journal.specs.Journals.{Journal}
use Rattle.redl_journal.specs.declared.entry.Entry.{Entry}
use Rattle.redl_lines.specs.Failures.{Failure}
use Rattle.redl_lines.specs.declared.failure.Limit.TheVariants.{JournalBytes}
use Rattle.redl_kinds.specs.declared.lock.Lock.{Lock}
use Rattle.redl_words.specs.Commands.{Command, settle, view_text, list, report, page, write, decide, resume, join, check, sample}

-- what a command makes of the session over its package, and of the journals
after_opening : (reader : Reader) (files : Files) (locks : List Lock) (names others : List (List ℕ)) (p : List ℕ) (next : Admission → Result Writing Failure) (one other : Writing) → AreSame names others
    → (package_file files p >>= (λ whole. opened reader files locks names whole >>= next)) ≡ Ok one
    → (package_file files p >>= (λ whole. opened reader files locks others whole >>= next)) ≡ Ok other → one ≡ other
after_opening reader files locks names others p next one other same is too =
    let first = both_ok (package_file files p) (λ whole. opened reader files locks names whole >>= next) one is in
    let second = both_ok (package_file files p) (λ whole. opened reader files locks others whole >>= next) other too in
    let whole : second.x ≡ first.x = same_ok (sym second.first ∙ first.first) in
    let later : opened reader files locks others first.x >>= next ≡ Ok other = subst (λ w. opened reader files locks others w >>= next ≡ Ok other) whole second.second in
    let opens = both_ok (opened reader files locks names first.x) next one first.second in
    let again = both_ok (opened reader files locks others first.x) next other later in
    let admission : opens.x ≡ again.x = opens_same reader files locks names others first.x opens.x again.x same opens.first again.first in
    same_ok (sym opens.second ∙ ap next admission ∙ again.second)

-- ---- joined journals

-- the file of this name has this journal
pub record HasJournal (reader : Reader) (files : Files) (name : List ℕ) (journal : Journal) : Type 0 where
  pub whole : List ℕ
  pub is_held : held name (files name) ≡ Ok whole
  pub is_read : reader.journal whole ≡ Some journal

-- a journal that is not refused was found
pub found_journal : (name : List ℕ) (found : Option Journal) (journal : Journal) → journal_or_none name found ≡ Ok journal → found ≡ Some journal
found_journal name None journal is = absurd (cc is)
found_journal name (Some other) journal is = ap Some (same_ok is)

has_journal : (reader : Reader) (files : Files) (most : ℕ) (name : List ℕ) (first : Journal × ℕ) → first_journal reader files most name ≡ Ok first → HasJournal reader files name first.0
has_journal reader files most name first is =
    let text_ = both_ok (file files name most JournalBytes) (λ whole. journal_or_none name (reader.journal whole) >>= (λ journal. Ok (journal, length whole))) first is in
    let read_ = both_ok (journal_or_none name (reader.journal text_.x)) (λ journal. Ok (journal, length text_.x)) first text_.second in
    record {
      whole = text_.x;
      is_held = file_is_held files name most JournalBytes text_.x text_.first;
      is_read = found_journal name (reader.journal text_.x) first.0 (read_.first ∙ ap Ok (ap (λ (x : Journal × ℕ). x.0) (same_ok read_.second)));
    }

-- a journal is one of its own document
own_entries : (reader : Reader) (files : Files) (name : List ℕ) (journal : Journal) → HasJournal reader files name journal
    → HasEntries reader files (document_in journal) name journal.entries
own_entries reader files name journal has = record {
  whole = has.whole;
  is_held = has.is_held;
  is_read = ap (entries_of (document_in journal) name) has.is_read
      ∙ entries_of_it (document_in journal) name journal (ap not ((bytes_eq-Decides journal.digest journal.digest).1 refl)) refl;
}

-- a journal that is one of a document is of that document
by_tests : (digests counts : Bool) (one two : Failure) (entries given : List Entry)
    → (let made : Result (List Entry) Failure = if not digests then Err one else if not counts then Err two else Ok entries in made ≡ Ok given) → (digests ≡ true) × (counts ≡ true)
by_tests true true one two entries given is = (refl, refl)
by_tests true false one two entries given is = absurd (cc is)
by_tests false counts one two entries given is = absurd (cc is)

-- a journal whose entries are taken is of the document
pub same_document : (document : DocumentId) (name : List ℕ) (journal : Journal) (given : List Entry) → entries_in document name journal ≡ Ok given → document_in journal ≡ document
same_document document name journal given is =
    let both = by_tests (bytes_eq journal.digest document.digest) (journal.count == document.count) _ _ journal.entries given is in
    let digests : journal.digest ≡ document.digest = (bytes_eq-Decides journal.digest document.digest).0 both.0 in
    let counts : journal.count ≡ document.count = eqb-true journal.count document.count both.1 in
    ap (λ (digest : List ℕ). let d : DocumentId = record { digest = digest; count = journal.count } in d) digests
    ∙ ap (λ (count : ℕ). let d : DocumentId = record { digest = document.digest; count = count } in d) counts

-- where a file has a journal and its entries are taken, the journal is of the document
pub of_document : (reader : Reader) (files : Files) (document : DocumentId) (name : List ℕ) (journal : Journal) (entries : List Entry)
    → HasJournal reader files name journal → HasEntries reader files document name entries → document_in journal ≡ document
of_document reader files document name journal entries has is =
    let same : is.whole ≡ has.whole = same_ok (sym is.is_held ∙ has.is_held) in
    let read : entries_in document name journal ≡ Ok entries =
    sym (ap (entries_of document name) has.is_read) ∙ ap (λ whole. entries_of document name (reader.journal whole)) (sym same) ∙ is.is_read in
    same_document document name journal entries read

-- what was joined: the first journal, and the entries of the others
pub record Joined (reader : Reader) (files : Files) (name : List ℕ) (names : List (List ℕ)) (writing : Writing) : Type 0 where
  pub journal : Journal
  pub has : HasJournal reader files name journal
  pub left : ℕ
  pub more : List Entry
  pub gathers : gathered reader files (document_in journal) left names ≡ Ok more
  pub written : only_bytes (book_text (document_in journal) (union [] (journal.entries ++ more))) ≡ writing

-- what `join` wrote, with the files and entries that it was made of
pub was_joined : (reader : Reader) (files : Files) (most : ℕ) (name : List ℕ) (names : List (List ℕ)) (writing : Writing)
    → joined reader files most (name ∷ names) ≡ Ok writing → Joined reader files name names writing
was_joined reader files most name names writing is =
    let first = both_ok (first_journal reader files most name) (λ one. union_of reader files most one names >>= (λ book. Ok (only_bytes (book_text (document_in one.0) book)))) writing is in
    let document = document_in first.x.0 in
    let book = both_ok (union_of reader files most first.x names) (λ book. Ok (only_bytes (book_text document book))) writing first.second in
    let more = both_ok (gathered reader files document (most - first.x.1) names) (λ entries. Ok (union (union [] first.x.0.entries) entries)) book.x book.first in
    record {
      journal = first.x.0;
      has = has_journal reader files most name first.x first.first;
      left = most - first.x.1;
      more = more.x;
      gathers = more.first;
      written = ap (λ b. only_bytes (book_text document b)) (union-append [] first.x.0.entries more.x ∙ same_ok more.second) ∙ same_ok book.second;
    }

-- each of the names has entries of the document, which are among those that were joined
pub each_name : (reader : Reader) (files : Files) (name : List ℕ) (names : List (List ℕ)) (writing : Writing) (it : Joined reader files name names writing) (one : List ℕ) → Contains (name ∷ names) one
    → IsGathered reader files (document_in it.journal) one (it.journal.entries ++ it.more)
each_name reader files name names writing it one among = by (Contains-append_cases (name ∷ []) names one among)
  where
    by : Contains (name ∷ []) one ⊎ Contains names one → IsGathered reader files (document_in it.journal) one (it.journal.entries ++ it.more)
    by (inl here) = record {
      entries = it.journal.entries;
      has = subst (λ n. HasEntries reader files (document_in it.journal) n it.journal.entries) (only_one name one here) (own_entries reader files name it.journal it.has);
      among = λ entry there. Contains-append_left it.journal.entries it.more entry there;
    }
    by (inr here) =
        let found = name_is_gathered reader files (document_in it.journal) it.left names it.more one it.gathers here in
        record {
          entries = found.entries;
          has = found.has;
          among = λ entry there. Contains-append_right it.journal.entries it.more entry (found.among entry there);
        }

-- each entry that was joined is one of some journal
pub each_entry : (reader : Reader) (files : Files) (name : List ℕ) (names : List (List ℕ)) (writing : Writing) (it : Joined reader files name names writing) (entry : Entry)
    → Contains (it.journal.entries ++ it.more) entry → IsEntryOf reader files (document_in it.journal) (name ∷ names) entry
each_entry reader files name names writing it entry there = by (Contains-append_cases it.journal.entries it.more entry there)
  where
    by : Contains it.journal.entries entry ⊎ Contains it.more entry → IsEntryOf reader files (document_in it.journal) (name ∷ names) entry
    by (inl here) = record {
      name = name;
      among = Contains-append_left (name ∷ []) names name (zero, omega arith, refl);
      entries = it.journal.entries;
      has = own_entries reader files name it.journal it.has;
      there = here;
    }
    by (inr here) =
        let found = gathered_is_entry reader files (document_in it.journal) it.left names it.more entry it.gathers here in
        record {
          name = found.name;
          among = Contains-append_right (name ∷ []) names found.name found.among;
          entries = found.entries;
          has = found.has;
          there = found.there;
        }

joined_among : (reader : Reader) (files : Files) (name other : List ℕ) (names others : List (List ℕ)) (one two : Writing)
    (it : Joined reader files name names one) (too : Joined reader files other others two) → document_in it.journal ≡ document_in too.journal
    → ((n : List ℕ) → Contains (name ∷ names) n → Contains (other ∷ others) n)
    → (entry : Entry) → Contains (it.journal.entries ++ it.more) entry → Contains (too.journal.entries ++ too.more) entry
joined_among reader files name other names others one two it too same among entry there =
    let from = each_entry reader files name names one it entry there in
    let found = each_name reader files other others two too from.name (among from.name from.among) in
    let has : HasEntries reader files (document_in too.journal) from.name from.entries = subst (λ d. HasEntries reader files d from.name from.entries) same from.has in
    found.among entry (subst (λ (es : List Entry). Contains es entry) (one_list reader files (document_in too.journal) from.name from.entries found.entries has found.has) from.there)

joins_same : (reader : Reader) (files : Files) (most : ℕ) (names others : List (List ℕ)) (one other : Writing) → AreSame names others
    → joined reader files most names ≡ Ok one → joined reader files most others ≡ Ok other → one ≡ other
joins_same reader files most [] others one other same is too = absurd (cc is)
joins_same reader files most (name ∷ names) [] one other same is too = absurd (cc too)
joins_same reader files most (name ∷ names) (second ∷ others) one other same is too =
    let first = was_joined reader files most name names one is in
    let again = was_joined reader files most second others other too in
    let here = each_name reader files second others other again name ((same name).0 (Contains-append_left (name ∷ []) names name (zero, omega arith, refl))) in
    let document : document_in first.journal ≡ document_in again.journal = of_document reader files (document_in again.journal) name first.journal here.entries first.has here.has in
    let books : union [] (first.journal.entries ++ first.more) ≡ union [] (again.journal.entries ++ again.more) =
    one_union (first.journal.entries ++ first.more) (again.journal.entries ++ again.more)
    (λ entry. (
      joined_among reader files name second names others one other first again document (λ n. (same n).0) entry,
      joined_among reader files second name others names other one again first (sym document) (λ n. (same n).1) entry,
    )) in
    sym first.written ∙ ap (λ d. only_bytes (book_text d (union [] (first.journal.entries ++ first.more)))) document
    ∙ ap (λ book. only_bytes (book_text (document_in again.journal) book)) books ∙ again.written

-- ---- every command

carried_same : (reader : Reader) (files : Files) (brought : Brought) (command : Command) (names others : List (List ℕ)) (one other : Writing) → AreSame names others
    → carried_out reader files brought (plan (with_journals names command)) ≡ Ok one → carried_out reader files brought (plan (with_journals others command)) ≡ Ok other → one ≡ other
carried_same reader files brought (settle accept p) names others one other same is too = same_ok (sym is ∙ too)
carried_same reader files brought (view_text p view) names others one other same is too = same_ok (sym is ∙ too)
carried_same reader files brought (list p format locks journals wanted) names others one other same is too =
    let asked = plan (list p format locks journals wanted) in
    let first = both_ok (has_asked brought asked) (λ there. package_file files p >>= (λ whole. listed reader files brought.formats format locks names wanted whole)) one is in
    let again = both_ok (has_asked brought asked) (λ there. package_file files p >>= (λ whole. listed reader files brought.formats format locks others wanted whole)) other too in
    after_opening reader files locks names others p (λ admission. listing_named brought.formats format wanted admission) one other same first.second again.second
carried_same reader files brought (report p format by_kind locks journals) names others one other same is too =
    let asked = plan (report p format by_kind locks journals) in
    let first = both_ok (has_asked brought asked) (λ there. package_file files p >>= (λ whole. reported reader files brought.reports format by_kind locks names whole)) one is in
    let again = both_ok (has_asked brought asked) (λ there. package_file files p >>= (λ whole. reported reader files brought.reports format by_kind locks others whole)) other too in
    after_opening reader files locks names others p (λ admission. report_named brought.reports format by_kind admission) one other same first.second again.second
carried_same reader files brought (page p title rank pictures locks journals) names others one other same is too =
    after_opening reader files locks names others p (λ admission. Ok (page_of brought.skin (heading_with title rank pictures) locks admission)) one other same is too
carried_same reader files brought (write p locks journals) names others one other same is too =
    after_opening reader files locks names others p (λ admission. Ok (resolved locks admission)) one other same is too
carried_same reader files brought (decide p reviewer journals locks choices rank) names others one other same is too =
    after_opening reader files locks names others p (λ before. with_choices reviewer rank choices before >>= (λ admission. Ok (book_written admission))) one other same is too
carried_same reader files brought (resume p q firsts journals) names others one other same is too = same_ok (sym is ∙ too)
carried_same reader files brought (join journals) names others one other same is too = joins_same reader files journal_bytes names others one other same is too
carried_same reader files brought (check p) names others one other same is too = same_ok (sym is ∙ too)
carried_same reader files brought (sample number) names others one other same is too = same_ok (sym is ∙ too)

-- the order in which journals are named does not count, for each command
pub order_does_not_count : (reader : Reader) (files : Files) (brought : Brought) → OrderDoesNotCount reader files brought
order_does_not_count reader files brought words others command names more same is too written again =
    let one = is_made (writing_of reader files brought (reader.command words)) written in
    let other = is_made (writing_of reader files brought (reader.command others)) again in
    let first : writing_of reader files brought (Some (with_journals names command)) ≡ Ok one.0 = ap (writing_of reader files brought) (sym is) ∙ one.1 in
    let second : writing_of reader files brought (Some (with_journals more command)) ≡ Ok other.0 = ap (writing_of reader files brought) (sym too) ∙ other.1 in
    ap outcome_of (one.1 ∙ ap Ok (carried_same reader files brought command names more one.0 other.0 same first second) ∙ sym other.1)
