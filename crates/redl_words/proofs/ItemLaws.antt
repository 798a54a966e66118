-- The items of a command: what was read is what the words are, and what the words are is read.
use Rattle.std.proofs.Common.{◌≡◌, ◌||◌, ℕ, ◌+◌, ◌≤◌, Bool, true, false, cond, List, [], ◌∷◌, ◌++◌, length, Option, Some, None, refl, sym, ap, subst, ◌∙◌, inl, inr, ◌⊎◌, arith, append-nil, append_assoc, All, IsUtf8, Bor, Result, Ok, Err}
use Rattle.std.specs.Prelude.{codes, decimal, option_to_list, IsErrAnd}
use Rattle.std.proofs.lemmas.List.Elements.{recursion_from_All, All-from_recursion}
use Rattle.std.specs.List.{flat_map, AllByRecursion}
use Rattle.std.specs.Str.{bytes_eq}
use Rattle.std.proofs.lemmas.Option.{same_Some, cond_some}
use Rattle.redl_journal.specs.declared.entry.Word.{Word}
use Rattle.redl_journal.specs.declared.entry.Word.TheVariants.{Accept, Reject, Withdraw}
use Rattle.redl_reading.specs.Steps.{◌>>=◌}
use Rattle.redl_reading.proofs.Steps.{bind_some}
use Rattle.redl_kinds.specs.Selections.{Selection}
use Rattle.redl_kinds.specs.declared.lock.Lock.{Lock}
use Rattle.redl_kinds.specs.declared.lock.Lock.TheVariants.{Author, Kind as OfKind, Span}
use Rattle.redl_words.specs.Selections.{Means, MeansLock}
use Rattle.redl_words.specs.Items.{Item, format, lock, journal, named_journal, choice, rank, by_kind, item_words, Admits, of_list, of_report, of_page, of_write, of_decide, Form as Kind, formats_of, locks_of, journals_of, choices_of, ranks_of, bys_of, if_so, is_name, option_of, lock_option, only, onlys_of, title, titles_of, no_pictures, no_pictures_of}
use Rattle.redl_words.specs.declared.options.Form.{Form}
use Rattle.redl_words.specs.declared.options.Form.TheVariants as forms
use Rattle.redl_words.specs.declared.options.Locked.{Locked}
use Rattle.redl_words.specs.declared.options.Locked.TheVariants as locked
use Rattle.redl_words.specs.declared.options.ItemOption.{ItemOption}
use Rattle.redl_words.specs.declared.options.ItemOption.TheVariants as options
use Rattle.redl_words.specs.declared.error.WordsError.{WordsError}
use Rattle.redl_words.specs.declared.error.WordsError.TheVariants.{Usage, NoMemory}
use Rattle.redl_words.specs.Reading.Answers.{Fails, Finds}
use Rattle.redl_words.specs.Reading.Locks.{lock_in}
use Rattle.redl_words.specs.Reading.Ranks.{rank_in}
use Rattle.redl_words.specs.Reading.Selections.{selection_in}
use Rattle.redl_words.specs.Reading.Items.{Goes, Gathered, nothing, with_journal, with_plain_journal, has_plain_journals, is_flag, with_flag, stands_alone, with_lone, reporting_option, deciding_option, paging_option, locking_option, option_of_form, lock_or, option_in, with_format, with_by, with_rank, with_title, with_option, with_word, gathered}
use Rattle.redl_words.specs.Reading.Shown.{only_in}
use Rattle.redl_words.specs.Shown.{Only, MeansOnly}
use Rattle.redl_words.proofs.LockLaws.{lock_on, locked_option, no_name, lock_takes, lock_again}
use Rattle.redl_words.proofs.RankLaws.{rank_takes, rank_again}
use Rattle.redl_words.proofs.ShownLaws.{only_takes, only_again}
use Rattle.redl_words.proofs.SelectionLaws.{bytes_same, pick, selection_takes, selection_again}

-- the form of the definition
abbrev pub form_of : Form → Kind
form_of forms.List = of_list
form_of forms.Report = of_report
form_of forms.Page = of_page
form_of forms.Write = of_write
form_of forms.Decide = of_decide

-- ---- one turn of the loop

pub goes_lone : (form : Form) (items more : Gathered) (word : List ℕ) (later : List (List ℕ)) → stands_alone form word ≡ true → with_lone form word items ≡ Some more
    → gathered form items (word ∷ later) ≡ gathered form more later
unfolding gathered
goes_lone form items more word [] alone e = rw (alone, e) refl
goes_lone form items more word (value ∷ later) alone e = rw (alone, e) refl

goes_plain : (form : Form) (items more : Gathered) (word : List ℕ) (later : List (List ℕ)) → is_name word ≡ true → with_plain_journal form word items ≡ Some more
    → gathered form items (word ∷ later) ≡ gathered form more later
unfolding with_lone
goes_plain form items more word later name e = goes_lone form items more word later (rw name refl) (rw name e)

pub stops_lone : (form : Form) (items : Gathered) (word : List ℕ) (later : List (List ℕ)) → stands_alone form word ≡ true → with_lone form word items ≡ None
    → gathered form items (word ∷ later) ≡ None
unfolding gathered
stops_lone form items word [] alone e = rw (alone, e) refl
stops_lone form items word (value ∷ later) alone e = rw (alone, e) refl

pub goes_pair : (form : Form) (items more : Gathered) (word value : List ℕ) (later : List (List ℕ)) → stands_alone form word ≡ false → with_word form word value items ≡ Some more
    → gathered form items (word ∷ value ∷ later) ≡ gathered form more later
unfolding gathered
goes_pair form items more word value later alone e = rw (alone, e) refl

pub stops_pair : (form : Form) (items : Gathered) (word value : List ℕ) (later : List (List ℕ)) → stands_alone form word ≡ false → with_word form word value items ≡ None
    → gathered form items (word ∷ value ∷ later) ≡ None
unfolding gathered
stops_pair form items word value later alone e = rw (alone, e) refl

pub stops_short : (form : Form) (items : Gathered) (word : List ℕ) → stands_alone form word ≡ false → gathered form items (word ∷ []) ≡ None
unfolding gathered
stops_short form items word alone = rw alone refl

pub no_words : (form : Form) (items : Gathered) → gathered form items [] ≡ Some items
unfolding gathered
no_words form items = refl

-- ---- what is read

-- the items say what was gathered after, on top of what was gathered before
pub record Says (before after : Gathered) (items : List Item) : Type 0 where
  pub format : option_to_list after.format ≡ option_to_list before.format ++ formats_of items
  pub locks : after.locks ≡ before.locks ++ locks_of items
  pub journals : after.journals ≡ before.journals ++ journals_of items
  pub choices : after.choices ≡ before.choices ++ choices_of items
  pub rank : option_to_list after.rank ≡ option_to_list before.rank ++ ranks_of items
  pub by_kind : if_so after.by_kind ≡ if_so before.by_kind ++ bys_of items
  pub onlys : after.onlys ≡ before.onlys ++ onlys_of items
  pub title : option_to_list after.title ≡ option_to_list before.title ++ titles_of items
  pub no_pictures : if_so after.no_pictures ≡ if_so before.no_pictures ++ no_pictures_of items

-- the words are those of one item that the form admits
pub record Turned (form : Form) (words : List (List ℕ)) (before after : Gathered) : Type 0 where
  pub item : Item
  pub written : words ≡ item_words item
  pub admitted : Admits (form_of form) item
  pub says : Says before after (item ∷ [])

says_same : (before after other : Gathered) (items : List Item) → other ≡ after → Says before other items → Says before after items
says_same before after other items e h = subst (λ (g : Gathered). Says before g items) e h

plain_takes : (form : Form) (word : List ℕ) (before after : Gathered) → is_name word ≡ true → with_plain_journal form word before ≡ Some after → Turned form (word ∷ []) before after
unfolding with_plain_journal
plain_takes form word before after name e = of form e where
  says : Says before (with_journal word before) (journal word ∷ [])
  says = record { format = sym (append-nil _); locks = sym (append-nil _); journals = refl; choices = sym (append-nil _); rank = sym (append-nil _); by_kind = sym (append-nil _); onlys = sym (append-nil _); title = sym (append-nil _); no_pictures = sym (append-nil _) }

  of : (form : Form) → cond (has_plain_journals form) (Some (with_journal word before)) None ≡ Some after → Turned form (word ∷ []) before after
  of forms.List e = record { item = journal word; written = refl; admitted = name; says = says_same before after (with_journal word before) (journal word ∷ []) (same_Some (with_journal word before) after e) says }
  of forms.Report e = record { item = journal word; written = refl; admitted = name; says = says_same before after (with_journal word before) (journal word ∷ []) (same_Some (with_journal word before) after e) says }
  of forms.Page e = record { item = journal word; written = refl; admitted = name; says = says_same before after (with_journal word before) (journal word ∷ []) (same_Some (with_journal word before) after e) says }
  of forms.Write e = record { item = journal word; written = refl; admitted = name; says = says_same before after (with_journal word before) (journal word ∷ []) (same_Some (with_journal word before) after e) says }
  of forms.Decide e = absurd cc

-- a flag of the form is the one of pages
flag_takes : (form : Form) (word : List ℕ) (before after : Gathered) → is_flag form word ≡ true → with_flag before.no_pictures before ≡ Some after → Turned form (word ∷ []) before after
flag_takes forms.List word before after flag e = absurd cc
flag_takes forms.Report word before after flag e = absurd cc
flag_takes forms.Write word before after flag e = absurd cc
flag_takes forms.Decide word before after flag e = absurd cc
flag_takes forms.Page word before after flag e = of before.no_pictures refl e where
  of : (b : Bool) → before.no_pictures ≡ b → with_flag b before ≡ Some after → Turned forms.Page (word ∷ []) before after
  of true is e = absurd cc
  of false is e =
      let made : Gathered = record before { no_pictures = true } in
      record {
        item = no_pictures;
        written = ap (λ (w : List ℕ). w ∷ []) (bytes_same word (codes "--no-pictures") flag);
        admitted = tt;
        says = says_same before after made (no_pictures ∷ []) (same_Some made after e) (record {
          format = sym (append-nil _);
          locks = sym (append-nil _);
          journals = sym (append-nil _);
          choices = sym (append-nil _);
          rank = sym (append-nil _);
          by_kind = sym (append-nil _);
          onlys = sym (append-nil _);
          title = sym (append-nil _);
          no_pictures = ap (λ (b : Bool). if_so b ++ true ∷ []) (sym is);
        });
      }

lone_takes : (form : Form) (word : List ℕ) (before after : Gathered) → stands_alone form word ≡ true → with_lone form word before ≡ Some after → Turned form (word ∷ []) before after
unfolding with_lone
lone_takes form word before after alone e = of (is_name word) refl alone e where
  of : (t : Bool) → is_name word ≡ t → (t || is_flag form word) ≡ true → cond t (with_plain_journal form word before) (with_flag before.no_pictures before) ≡ Some after → Turned form (word ∷ []) before after
  of true name alone e = plain_takes form word before after name e
  of false name alone e = flag_takes form word before after alone e

-- the word is the text of the option, and the form has it
abbrev Has : Form → List ℕ → ItemOption → Type 0
Has forms.List word options.Format = word ≡ codes "--format"
Has forms.List word options.Only = word ≡ codes "--only"
Has forms.Report word options.Format = word ≡ codes "--format"
Has forms.Report word options.By = word ≡ codes "--by"
Has forms.Page word options.Title = word ≡ codes "--title"
Has forms.Page word options.Rank = word ≡ codes "--rank"
Has form word (options.Lock on) = word ≡ locked_option on
Has forms.Decide word options.Journal = word ≡ codes "--journal"
Has forms.Decide word (options.Choice decision) = word ≡ option_of decision
Has forms.Decide word options.Rank = word ≡ codes "--rank"
Has _ _ _ = ⊥

deciding_takes : (word : List ℕ) (o : ItemOption) → deciding_option word ≡ Some o → Has forms.Decide word o
unfolding deciding_option
deciding_takes word o e =
    pick (Has forms.Decide word) (bytes_eq word (codes "--journal")) options.Journal _ o e (λ hit. bytes_same word (codes "--journal") hit) (λ e.
    pick (Has forms.Decide word) (bytes_eq word (option_of Accept)) (options.Choice Accept) _ o e (λ hit. bytes_same word (option_of Accept) hit) (λ e.
    pick (Has forms.Decide word) (bytes_eq word (option_of Reject)) (options.Choice Reject) _ o e (λ hit. bytes_same word (option_of Reject) hit) (λ e.
    pick (Has forms.Decide word) (bytes_eq word (option_of Withdraw)) (options.Choice Withdraw) _ o e (λ hit. bytes_same word (option_of Withdraw) hit) (λ e.
    pick (Has forms.Decide word) (bytes_eq word (codes "--rank")) options.Rank _ o e (λ hit. bytes_same word (codes "--rank") hit) (λ e. absurd cc)))))

reporting_takes : (word : List ℕ) (o : ItemOption) → reporting_option word ≡ Some o → Has forms.Report word o
unfolding reporting_option
reporting_takes word o e =
    pick (Has forms.Report word) (bytes_eq word (codes "--format")) options.Format _ o e (λ hit. bytes_same word (codes "--format") hit) (λ e.
    pick (Has forms.Report word) (bytes_eq word (codes "--by")) options.By _ o e (λ hit. bytes_same word (codes "--by") hit) (λ e. absurd cc))

paging_takes : (word : List ℕ) (o : ItemOption) → paging_option word ≡ Some o → Has forms.Page word o
unfolding paging_option
paging_takes word o e =
    pick (Has forms.Page word) (bytes_eq word (codes "--title")) options.Title _ o e (λ hit. bytes_same word (codes "--title") hit) (λ e.
    pick (Has forms.Page word) (bytes_eq word (codes "--rank")) options.Rank _ o e (λ hit. bytes_same word (codes "--rank") hit) (λ e. absurd cc))

locking_takes : (word : List ℕ) (on : Locked) → locking_option word ≡ Some on → word ≡ locked_option on
unfolding locking_option
locking_takes word on e =
    pick P (bytes_eq word (codes "--lock")) locked.Author _ on e (λ hit. bytes_same word (codes "--lock") hit) (λ e.
    pick P (bytes_eq word (codes "--lock-kind")) locked.Kind _ on e (λ hit. bytes_same word (codes "--lock-kind") hit) (λ e.
    pick P (bytes_eq word (codes "--lock-span")) locked.Span _ on e (λ hit. bytes_same word (codes "--lock-span") hit) (λ e. absurd cc))) where
      P : Locked → Type 0
      P on = word ≡ locked_option on

own_takes : (form : Form) (word : List ℕ) (o : ItemOption) → option_of_form form word ≡ Some o → Has form word o
own_takes forms.List word o e =
    pick (Has forms.List word) (bytes_eq word (codes "--format")) options.Format _ o e (λ hit. bytes_same word (codes "--format") hit) (λ e.
    pick (Has forms.List word) (bytes_eq word (codes "--only")) options.Only _ o e (λ hit. bytes_same word (codes "--only") hit) (λ e. absurd cc))
own_takes forms.Report word o e = reporting_takes word o e
own_takes forms.Page word o e = paging_takes word o e
own_takes forms.Write word o e = absurd cc
own_takes forms.Decide word o e = deciding_takes word o e

has_lock : (form : Form) (word : List ℕ) (on : Locked) → word ≡ locked_option on → Has form word (options.Lock on)
has_lock forms.List word on h = h
has_lock forms.Report word on h = h
has_lock forms.Page word on h = h
has_lock forms.Write word on h = h
has_lock forms.Decide word on h = h

option_takes : (form : Form) (word : List ℕ) (o : ItemOption) → option_in form word ≡ Some o → Has form word o
unfolding option_in
option_takes form word o e = of (locking_option word) refl e where
  of : (l : Option Locked) → locking_option word ≡ l → lock_or (option_of_form form word) l ≡ Some o → Has form word o
  of None is e = own_takes form word o e
  of (Some on) is e = subst (Has form word) (same_Some (options.Lock on) o e) (has_lock form word on (locking_takes word on is))

value_takes : (form : Form) (word value : List ℕ) (o : ItemOption) (before after : Gathered) → Has form word o → with_option o value before ≡ Some after → Turned form (word ∷ value ∷ []) before after
unfolding with_option
value_takes form word value options.Format before after has e = of form has before.format refl e where
  turned : (form : Form) → word ≡ codes "--format" → Admits (form_of form) (format value) → (f : Option (List ℕ)) → before.format ≡ f → with_format value f before ≡ Some after → Turned form (word ∷ value ∷ []) before after
  turned form has admits (Some other) is e = absurd cc
  turned form has admits None is e = record {
    item = format value;
    written = ap (λ (w : List ℕ). w ∷ value ∷ []) has;
    admitted = admits;
    says = says_same before after (record before { format = Some value }) (format value ∷ []) (same_Some (record before { format = Some value }) after e) (record {
      format = ap (λ (f : Option (List ℕ)). option_to_list f ++ value ∷ []) (sym is);
      locks = sym (append-nil _);
      journals = sym (append-nil _);
      choices = sym (append-nil _);
      rank = sym (append-nil _);
      by_kind = sym (append-nil _);
      onlys = sym (append-nil _);
      title = sym (append-nil _);
      no_pictures = sym (append-nil _);
    });
  }

  of : (form : Form) → Has form word options.Format → (f : Option (List ℕ)) → before.format ≡ f → with_format value f before ≡ Some after → Turned form (word ∷ value ∷ []) before after
  of forms.List has = turned forms.List has tt
  of forms.Report has = turned forms.Report has tt
  of forms.Page has = absurd has
  of forms.Write has = absurd has
  of forms.Decide has = absurd has
value_takes form word value options.By before after has e = of form has before.by_kind refl e where
  of : (form : Form) → Has form word options.By → (b : Bool) → before.by_kind ≡ b → with_by value b before ≡ Some after → Turned form (word ∷ value ∷ []) before after
  of forms.List has b is e = absurd has
  of forms.Report has true is e = absurd cc
  of forms.Report has false is e =
      let made : Gathered = record before { by_kind = true } in
      let c = cond_some (bytes_eq value (codes "kind")) made after e in
      record {
        item = by_kind;
        written = ap (λ (w : List ℕ). w ∷ value ∷ []) has ∙ ap (λ (w : List ℕ). codes "--by" ∷ w ∷ []) (bytes_same value (codes "kind") c.0);
        admitted = tt;
        says = says_same before after made (by_kind ∷ []) c.1 (record {
          format = sym (append-nil _);
          locks = sym (append-nil _);
          journals = sym (append-nil _);
          choices = sym (append-nil _);
          rank = sym (append-nil _);
          by_kind = ap (λ (b : Bool). if_so b ++ true ∷ []) (sym is);
          onlys = sym (append-nil _);
          title = sym (append-nil _);
          no_pictures = sym (append-nil _);
        });
      }
  of forms.Page has b is e = absurd has
  of forms.Write has b is e = absurd has
  of forms.Decide has b is e = absurd has
value_takes form word value (options.Lock on) before after has e = of form has where
  read : (l : Lock) × (lock_in on value ≡ Some l) × (Some (record before { locks = before.locks ++ l ∷ [] }) ≡ Some after)
  read = bind_some (lock_in on value) _ after e

  takes : (locked_option on ≡ lock_option read.0) × MeansLock value read.0
  takes = lock_takes on value read.0 read.1

  turned : (form : Form) → word ≡ locked_option on → Admits (form_of form) (lock value read.0) → Turned form (word ∷ value ∷ []) before after
  turned form has admits = record {
    item = lock value read.0;
    written = ap (λ (w : List ℕ). w ∷ value ∷ []) (has ∙ takes.0);
    admitted = admits;
    says = says_same before after (record before { locks = before.locks ++ read.0 ∷ [] }) (lock value read.0 ∷ []) (same_Some (record before { locks = before.locks ++ read.0 ∷ [] }) after read.2) (record {
      format = sym (append-nil _);
      locks = refl;
      journals = sym (append-nil _);
      choices = sym (append-nil _);
      rank = sym (append-nil _);
      by_kind = sym (append-nil _);
      onlys = sym (append-nil _);
      title = sym (append-nil _);
      no_pictures = sym (append-nil _);
    });
  }

  of : (form : Form) → Has form word (options.Lock on) → Turned form (word ∷ value ∷ []) before after
  of forms.List has = turned forms.List has takes.1
  of forms.Report has = turned forms.Report has takes.1
  of forms.Page has = turned forms.Page has takes.1
  of forms.Write has = turned forms.Write has takes.1
  of forms.Decide has = turned forms.Decide has takes.1
value_takes form word value options.Journal before after has e = of form has where
  of : (form : Form) → Has form word options.Journal → Turned form (word ∷ value ∷ []) before after
  of forms.List has = absurd has
  of forms.Report has = absurd has
  of forms.Page has = absurd has
  of forms.Write has = absurd has
  of forms.Decide has =
      let c = cond_some (is_name value) (with_journal value before) after e in
      record {
        item = named_journal value;
        written = ap (λ (w : List ℕ). w ∷ value ∷ []) has;
        admitted = c.0;
        says = says_same before after (with_journal value before) (named_journal value ∷ []) c.1 (record {
          format = sym (append-nil _);
          locks = sym (append-nil _);
          journals = refl;
          choices = sym (append-nil _);
          rank = sym (append-nil _);
          by_kind = sym (append-nil _);
          onlys = sym (append-nil _);
          title = sym (append-nil _);
          no_pictures = sym (append-nil _);
        });
      }
value_takes form word value (options.Choice decision) before after has e = of form has where
  of : (form : Form) → Has form word (options.Choice decision) → Turned form (word ∷ value ∷ []) before after
  of forms.List has = absurd has
  of forms.Report has = absurd has
  of forms.Page has = absurd has
  of forms.Write has = absurd has
  of forms.Decide has =
      let s = bind_some (selection_in value) _ after e in
      let made : Gathered = record before { choices = before.choices ++ (decision, s.0) ∷ [] } in
      record {
        item = choice decision value s.0;
        written = ap (λ (w : List ℕ). w ∷ value ∷ []) has;
        admitted = selection_takes value s.0 s.1;
        says = says_same before after made (choice decision value s.0 ∷ []) (same_Some made after s.2) (record {
          format = sym (append-nil _);
          locks = sym (append-nil _);
          journals = sym (append-nil _);
          choices = refl;
          rank = sym (append-nil _);
          by_kind = sym (append-nil _);
          onlys = sym (append-nil _);
          title = sym (append-nil _);
          no_pictures = sym (append-nil _);
        });
      }
value_takes form word value options.Rank before after has e = of form has before.rank refl e where
  turned : (form : Form) → word ≡ codes "--rank" → ((number : ℕ) → number ≤ 9 → Admits (form_of form) (rank number)) → (r : Option ℕ) → before.rank ≡ r → with_rank value r before ≡ Some after
      → Turned form (word ∷ value ∷ []) before after
  turned form has admits (Some other) is e = absurd cc
  turned form has admits None is e =
      let r = bind_some (rank_in value) _ after e in
      let takes = rank_takes value r.0 r.1 in
      let made : Gathered = record before { rank = Some r.0 } in
      record {
        item = rank r.0;
        written = ap (λ (w : List ℕ). w ∷ value ∷ []) has ∙ ap (λ (w : List ℕ). codes "--rank" ∷ w ∷ []) (sym takes.0);
        admitted = admits r.0 takes.1;
        says = says_same before after made (rank r.0 ∷ []) (same_Some made after r.2) (record {
          format = sym (append-nil _);
          locks = sym (append-nil _);
          journals = sym (append-nil _);
          choices = sym (append-nil _);
          rank = ap (λ (o : Option ℕ). option_to_list o ++ r.0 ∷ []) (sym is);
          by_kind = sym (append-nil _);
          onlys = sym (append-nil _);
          title = sym (append-nil _);
          no_pictures = sym (append-nil _);
        });
      }

  of : (form : Form) → Has form word options.Rank → (r : Option ℕ) → before.rank ≡ r → with_rank value r before ≡ Some after → Turned form (word ∷ value ∷ []) before after
  of forms.List has = absurd has
  of forms.Report has = absurd has
  of forms.Write has = absurd has
  of forms.Page has = turned forms.Page has (λ number low. low)
  of forms.Decide has = turned forms.Decide has (λ number low. low)
value_takes form word value options.Only before after has e = of form has where
  of : (form : Form) → Has form word options.Only → Turned form (word ∷ value ∷ []) before after
  of forms.Report has = absurd has
  of forms.Page has = absurd has
  of forms.Write has = absurd has
  of forms.Decide has = absurd has
  of forms.List has =
      let w = bind_some (only_in value) _ after e in
      let made : Gathered = record before { onlys = before.onlys ++ w.0 ∷ [] } in
      record {
        item = only value w.0;
        written = ap (λ (w : List ℕ). w ∷ value ∷ []) has;
        admitted = only_takes value w.0 w.1;
        says = says_same before after made (only value w.0 ∷ []) (same_Some made after w.2) (record {
          format = sym (append-nil _);
          locks = sym (append-nil _);
          journals = sym (append-nil _);
          choices = sym (append-nil _);
          rank = sym (append-nil _);
          by_kind = sym (append-nil _);
          onlys = refl;
          title = sym (append-nil _);
          no_pictures = sym (append-nil _);
        });
      }
value_takes form word value options.Title before after has e = of form has before.title refl e where
  of : (form : Form) → Has form word options.Title → (t : Option (List ℕ)) → before.title ≡ t → with_title value t before ≡ Some after → Turned form (word ∷ value ∷ []) before after
  of forms.List has t is e = absurd has
  of forms.Report has t is e = absurd has
  of forms.Write has t is e = absurd has
  of forms.Decide has t is e = absurd has
  of forms.Page has (Some other) is e = absurd cc
  of forms.Page has None is e =
      let made : Gathered = record before { title = Some value } in
      record {
        item = title value;
        written = ap (λ (w : List ℕ). w ∷ value ∷ []) has;
        admitted = tt;
        says = says_same before after made (title value ∷ []) (same_Some made after e) (record {
          format = sym (append-nil _);
          locks = sym (append-nil _);
          journals = sym (append-nil _);
          choices = sym (append-nil _);
          rank = sym (append-nil _);
          by_kind = sym (append-nil _);
          onlys = sym (append-nil _);
          title = ap (λ (f : Option (List ℕ)). option_to_list f ++ value ∷ []) (sym is);
          no_pictures = sym (append-nil _);
        });
      }

pair_takes : (form : Form) (word value : List ℕ) (before after : Gathered) → with_word form word value before ≡ Some after → Turned form (word ∷ value ∷ []) before after
unfolding with_word
pair_takes form word value before after e =
    let o = bind_some (option_in form word) (λ option. with_option option value before) after e in
    value_takes form word value o.0 before after (option_takes form word o.0 o.1) o.2

-- the words are those of these items
pub record Read (form : Form) (words : List (List ℕ)) (before after : Gathered) : Type 0 where
  pub items : List Item
  pub written : words ≡ flat_map item_words items
  pub admitted : AllByRecursion (Admits (form_of form)) items
  pub says : Says before after items

-- what one item more says
formats_more : (item : Item) (items : List Item) → formats_of (item ∷ items) ≡ formats_of (item ∷ []) ++ formats_of items
formats_more (format name) items = refl
formats_more (lock text of_lock) items = refl
formats_more (journal name) items = refl
formats_more (named_journal name) items = refl
formats_more (choice word text selection) items = refl
formats_more (rank number) items = refl
formats_more by_kind items = refl
formats_more (only text wanted) items = refl
formats_more (title text) items = refl
formats_more no_pictures items = refl

locks_more : (item : Item) (items : List Item) → locks_of (item ∷ items) ≡ locks_of (item ∷ []) ++ locks_of items
locks_more (format name) items = refl
locks_more (lock text of_lock) items = refl
locks_more (journal name) items = refl
locks_more (named_journal name) items = refl
locks_more (choice word text selection) items = refl
locks_more (rank number) items = refl
locks_more by_kind items = refl
locks_more (only text wanted) items = refl
locks_more (title text) items = refl
locks_more no_pictures items = refl

journals_more : (item : Item) (items : List Item) → journals_of (item ∷ items) ≡ journals_of (item ∷ []) ++ journals_of items
journals_more (format name) items = refl
journals_more (lock text of_lock) items = refl
journals_more (journal name) items = refl
journals_more (named_journal name) items = refl
journals_more (choice word text selection) items = refl
journals_more (rank number) items = refl
journals_more by_kind items = refl
journals_more (only text wanted) items = refl
journals_more (title text) items = refl
journals_more no_pictures items = refl

choices_more : (item : Item) (items : List Item) → choices_of (item ∷ items) ≡ choices_of (item ∷ []) ++ choices_of items
choices_more (format name) items = refl
choices_more (lock text of_lock) items = refl
choices_more (journal name) items = refl
choices_more (named_journal name) items = refl
choices_more (choice word text selection) items = refl
choices_more (rank number) items = refl
choices_more by_kind items = refl
choices_more (only text wanted) items = refl
choices_more (title text) items = refl
choices_more no_pictures items = refl

ranks_more : (item : Item) (items : List Item) → ranks_of (item ∷ items) ≡ ranks_of (item ∷ []) ++ ranks_of items
ranks_more (format name) items = refl
ranks_more (lock text of_lock) items = refl
ranks_more (journal name) items = refl
ranks_more (named_journal name) items = refl
ranks_more (choice word text selection) items = refl
ranks_more (rank number) items = refl
ranks_more by_kind items = refl
ranks_more (only text wanted) items = refl
ranks_more (title text) items = refl
ranks_more no_pictures items = refl

bys_more : (item : Item) (items : List Item) → bys_of (item ∷ items) ≡ bys_of (item ∷ []) ++ bys_of items
bys_more (format name) items = refl
bys_more (lock text of_lock) items = refl
bys_more (journal name) items = refl
bys_more (named_journal name) items = refl
bys_more (choice word text selection) items = refl
bys_more (rank number) items = refl
bys_more by_kind items = refl
bys_more (only text wanted) items = refl
bys_more (title text) items = refl
bys_more no_pictures items = refl

onlys_more : (item : Item) (items : List Item) → onlys_of (item ∷ items) ≡ onlys_of (item ∷ []) ++ onlys_of items
onlys_more (format name) items = refl
onlys_more (lock text of_lock) items = refl
onlys_more (journal name) items = refl
onlys_more (named_journal name) items = refl
onlys_more (choice word text selection) items = refl
onlys_more (rank number) items = refl
onlys_more by_kind items = refl
onlys_more (only text wanted) items = refl
onlys_more (title text) items = refl
onlys_more no_pictures items = refl

titles_more : (item : Item) (items : List Item) → titles_of (item ∷ items) ≡ titles_of (item ∷ []) ++ titles_of items
titles_more (format name) items = refl
titles_more (lock text of_lock) items = refl
titles_more (journal name) items = refl
titles_more (named_journal name) items = refl
titles_more (choice word text selection) items = refl
titles_more (rank number) items = refl
titles_more by_kind items = refl
titles_more (only text wanted) items = refl
titles_more (title text) items = refl
titles_more no_pictures items = refl

no_pictures_more : (item : Item) (items : List Item) → no_pictures_of (item ∷ items) ≡ no_pictures_of (item ∷ []) ++ no_pictures_of items
no_pictures_more (format name) items = refl
no_pictures_more (lock text of_lock) items = refl
no_pictures_more (journal name) items = refl
no_pictures_more (named_journal name) items = refl
no_pictures_more (choice word text selection) items = refl
no_pictures_more (rank number) items = refl
no_pictures_more by_kind items = refl
no_pictures_more (only text wanted) items = refl
no_pictures_more (title text) items = refl
no_pictures_more no_pictures items = refl

regroup : {A : Type 0} (before one more all between after : List A) → after ≡ between ++ more → between ≡ before ++ one → all ≡ one ++ more → after ≡ before ++ all
regroup before one more all between after e f g = e ∙ ap (λ l. l ++ more) f ∙ append_assoc before one more ∙ ap (λ l. before ++ l) (sym g)

one_more : (form : Form) (words later : List (List ℕ)) (before between after : Gathered) → Turned form words before between → Read form later between after → Read form (words ++ later) before after
one_more form words later before between after t r = record {
  items = t.item ∷ r.items;
  written = ap (λ (w : List (List ℕ)). w ++ later) t.written ∙ ap (λ (l : List (List ℕ)). item_words t.item ++ l) r.written;
  admitted = (t.admitted, r.admitted);
  says = record {
    format = regroup (option_to_list before.format) (formats_of (t.item ∷ [])) (formats_of r.items) (formats_of (t.item ∷ r.items)) (option_to_list between.format) (option_to_list after.format) r.says.format t.says.format (formats_more t.item r.items);
    locks = regroup before.locks (locks_of (t.item ∷ [])) (locks_of r.items) (locks_of (t.item ∷ r.items)) between.locks after.locks r.says.locks t.says.locks (locks_more t.item r.items);
    journals = regroup before.journals (journals_of (t.item ∷ [])) (journals_of r.items) (journals_of (t.item ∷ r.items)) between.journals after.journals r.says.journals t.says.journals (journals_more t.item r.items);
    choices = regroup before.choices (choices_of (t.item ∷ [])) (choices_of r.items) (choices_of (t.item ∷ r.items)) between.choices after.choices r.says.choices t.says.choices (choices_more t.item r.items);
    rank = regroup (option_to_list before.rank) (ranks_of (t.item ∷ [])) (ranks_of r.items) (ranks_of (t.item ∷ r.items)) (option_to_list between.rank) (option_to_list after.rank) r.says.rank t.says.rank (ranks_more t.item r.items);
    by_kind = regroup (if_so before.by_kind) (bys_of (t.item ∷ [])) (bys_of r.items) (bys_of (t.item ∷ r.items)) (if_so between.by_kind) (if_so after.by_kind) r.says.by_kind t.says.by_kind (bys_more t.item r.items);
    no_pictures = regroup (if_so before.no_pictures) (no_pictures_of (t.item ∷ [])) (no_pictures_of r.items) (no_pictures_of (t.item ∷ r.items)) (if_so between.no_pictures) (if_so after.no_pictures) r.says.no_pictures t.says.no_pictures (no_pictures_more t.item r.items);
    title = regroup (option_to_list before.title) (titles_of (t.item ∷ [])) (titles_of r.items) (titles_of (t.item ∷ r.items)) (option_to_list between.title) (option_to_list after.title) r.says.title t.says.title (titles_more t.item r.items);
    onlys = regroup before.onlys (onlys_of (t.item ∷ [])) (onlys_of r.items) (onlys_of (t.item ∷ r.items)) between.onlys after.onlys r.says.onlys t.says.onlys (onlys_more t.item r.items);
  };
}

nothing_more : (form : Form) (before after : Gathered) → before ≡ after → Read form [] before after
nothing_more form before after e = record {
  items = [];
  written = refl;
  admitted = tt;
  says = says_same before after before [] e (record { format = sym (append-nil _); locks = sym (append-nil _); journals = sym (append-nil _); choices = sym (append-nil _); rank = sym (append-nil _); by_kind = sym (append-nil _); onlys = sym (append-nil _); title = sym (append-nil _); no_pictures = sym (append-nil _) });
}

pub items_take : (form : Form) (words : List (List ℕ)) (before after : Gathered) → gathered form before words ≡ Some after → Read form words before after
unfolding gathered
items_take form [] before after e = nothing_more form before after (same_Some before after e)
items_take form (word ∷ []) before after e =
    let c = cond_bind (stands_alone form word) (with_lone form word before) None after e in
    elim c [
      | inl h ↦ one_more form (word ∷ []) [] before after after (lone_takes form word before after h.0 h.1) (nothing_more form after after refl)
      | inr h ↦ absurd (let none = h.1 in cc)
    ] where
      cond_bind : {A : Type 0} (t : Bool) (x y : Option A) (z : A) → cond t x y ≡ Some z → ((t ≡ true) × (x ≡ Some z)) ⊎ ((t ≡ false) × (y ≡ Some z))
      cond_bind true x y z e = inl (refl, e)
      cond_bind false x y z e = inr (refl, e)
items_take form (word ∷ value ∷ later) before after e =
    by (stands_alone form word) refl e (λ more h. items_take form (value ∷ later) more after h) (λ more h. items_take form later more after h) where
      by : (t : Bool) → stands_alone form word ≡ t
          → cond t (with_lone form word before >>= λ more. gathered form more (value ∷ later)) (with_word form word value before >>= λ more. gathered form more later) ≡ Some after
          → ((more : Gathered) → gathered form more (value ∷ later) ≡ Some after → Read form (value ∷ later) more after)
          → ((more : Gathered) → gathered form more later ≡ Some after → Read form later more after)
          → Read form (word ∷ value ∷ later) before after
      by true alone e lone pair =
          let m = bind_some (with_lone form word before) (λ more. gathered form more (value ∷ later)) after e in
          one_more form (word ∷ []) (value ∷ later) before m.0 after (lone_takes form word before m.0 alone m.1) (lone m.0 m.2)
      by false alone e lone pair =
          let m = bind_some (with_word form word value before) (λ more. gathered form more later) after e in
          one_more form (word ∷ value ∷ []) later before m.0 after (pair_takes form word value before m.0 m.1) (pair m.0 m.2)

-- ---- what is read again

-- what is gathered with an item more
abbrev with_item : Item → Gathered → Gathered
with_item (format name) items = record items { format = Some name }
with_item (lock text of_lock) items = record items { locks = items.locks ++ of_lock ∷ [] }
with_item (journal name) items = record items { journals = items.journals ++ name ∷ [] }
with_item (named_journal name) items = record items { journals = items.journals ++ name ∷ [] }
with_item (choice word text selection) items = record items { choices = items.choices ++ (word, selection) ∷ [] }
with_item (rank number) items = record items { rank = Some number }
with_item by_kind items = record items { by_kind = true }
with_item (only text wanted) items = record items { onlys = items.onlys ++ wanted ∷ [] }
with_item (title text) items = record items { title = Some text }
with_item no_pictures items = record items { no_pictures = true }

-- what is gathered with items more
abbrev pub with_items : List Item → Gathered → Gathered
with_items [] items = items
with_items (item ∷ more) items = with_items more (with_item item items)

-- a format comes at most once, and so do a rank, a title, that it goes by kind and that the pictures are left out
pub record Single (before : Gathered) (items : List Item) : Type 0 where
  pub format : length (option_to_list before.format) + length (formats_of items) ≤ 1
  pub rank : length (option_to_list before.rank) + length (ranks_of items) ≤ 1
  pub by_kind : length (if_so before.by_kind) + length (bys_of items) ≤ 1
  pub title : length (option_to_list before.title) + length (titles_of items) ≤ 1
  pub no_pictures : length (if_so before.no_pictures) + length (no_pictures_of items) ≤ 1

choice_option : (word : Word) (value : List ℕ) (items : Gathered) → with_word forms.Decide (option_of word) value items ≡ with_option (options.Choice word) value items
unfolding with_word option_in locking_option deciding_option
choice_option Accept value items = refl
choice_option Reject value items = refl
choice_option Withdraw value items = refl

takes_value : (word : Word) → stands_alone forms.Decide (option_of word) ≡ false
takes_value Accept = refl
takes_value Reject = refl
takes_value Withdraw = refl

with_choice : (word : Word) (text : List ℕ) (selection : Selection) (items : Gathered) → Means text selection
    → with_option (options.Choice word) text items ≡ Some (with_item (choice word text selection) items)
unfolding with_option
with_choice word text selection items h = rw (selection_again text selection h) refl

-- a lock's option is one in each form
lock_word : (form : Form) (of_lock : Lock) (text : List ℕ) (items : Gathered) → with_word form (lock_option of_lock) text items ≡ with_option (options.Lock (lock_on of_lock)) text items
unfolding with_word option_in locking_option
lock_word form (Author name) text items = refl
lock_word form (OfKind of_kind) text items = refl
lock_word form (Span start end) text items = refl

with_lock : (of_lock : Lock) (text : List ℕ) (items : Gathered) → MeansLock text of_lock → with_option (options.Lock (lock_on of_lock)) text items ≡ Some (with_item (lock text of_lock) items)
unfolding with_option
with_lock of_lock text items h = rw (lock_again text of_lock h) refl

-- and a value follows it
lock_takes_value : (form : Form) (of_lock : Lock) → stands_alone form (lock_option of_lock) ≡ false
lock_takes_value forms.List of_lock = rw (no_name of_lock) refl
lock_takes_value forms.Report of_lock = rw (no_name of_lock) refl
lock_takes_value forms.Page (Author name) = refl
lock_takes_value forms.Page (OfKind of_kind) = refl
lock_takes_value forms.Page (Span start end) = refl
lock_takes_value forms.Write of_lock = rw (no_name of_lock) refl
lock_takes_value forms.Decide of_lock = rw (no_name of_lock) refl

lock_again_in : (form : Form) (of_lock : Lock) (text : List ℕ) (before : Gathered) (later : List (List ℕ)) → MeansLock text of_lock
    → gathered form before (lock_option of_lock ∷ text ∷ later) ≡ gathered form (with_item (lock text of_lock) before) later
lock_again_in form of_lock text before later h =
    goes_pair form before (with_item (lock text of_lock) before) (lock_option of_lock) text later (lock_takes_value form of_lock) (lock_word form of_lock text before ∙ with_lock of_lock text before h)

rank_option : (value : List ℕ) (items : Gathered) → with_word forms.Decide (codes "--rank") value items ≡ with_option options.Rank value items
unfolding with_word option_in locking_option deciding_option
rank_option value items = refl

page_rank_option : (value : List ℕ) (items : Gathered) → with_word forms.Page (codes "--rank") value items ≡ with_option options.Rank value items
unfolding with_word option_in locking_option paging_option
page_rank_option value items = refl

with_one_rank : (number : ℕ) (items : Gathered) → number ≤ 9 → length (option_to_list items.rank) + 1 ≤ 1 → with_option options.Rank (decimal number) items ≡ Some (with_item (rank number) items)
unfolding with_option
with_one_rank number items low single = fresh items.rank refl single where
  fresh : (r : Option ℕ) → items.rank ≡ r → length (option_to_list r) + 1 ≤ 1 → with_rank (decimal number) r items ≡ Some (with_item (rank number) items)
  fresh None is single = rw (rank_again number low) refl
  fresh (Some other) is single = absurd (omega arith)

with_only : (text : List ℕ) (wanted : Only) (items : Gathered) → MeansOnly text wanted → with_option options.Only text items ≡ Some (with_item (only text wanted) items)
unfolding with_option
with_only text wanted items h = rw (only_again text wanted h) refl

only_option : (value : List ℕ) (items : Gathered) → with_word forms.List (codes "--only") value items ≡ with_option options.Only value items
unfolding with_word option_in locking_option
only_option value items = refl

turn_again : (form : Form) (item : Item) (before : Gathered) (later : List (List ℕ)) → Admits (form_of form) item → Single before (item ∷ [])
    → gathered form before (item_words item ++ later) ≡ gathered form (with_item item before) later
unfolding with_plain_journal with_lone with_word option_in locking_option reporting_option deciding_option paging_option with_option
turn_again forms.List (format name) before later h single = goes_pair forms.List before (with_item (format name) before) (codes "--format") name later refl (fresh before.format refl single.format) where
  fresh : (f : Option (List ℕ)) → before.format ≡ f → length (option_to_list f) + 1 ≤ 1 → with_format name f before ≡ Some (with_item (format name) before)
  fresh None is single = refl
  fresh (Some other) is single = absurd (omega arith)
turn_again forms.List (lock text of_lock) before later h single = lock_again_in forms.List of_lock text before later h
turn_again forms.List (journal name) before later h single = goes_plain forms.List before (with_item (journal name) before) name later h refl
turn_again forms.List (named_journal name) before later h single = absurd h
turn_again forms.List (choice word text selection) before later h single = absurd h
turn_again forms.List (rank number) before later h single = absurd h
turn_again forms.List by_kind before later h single = absurd h
turn_again forms.List (only text wanted) before later h single =
    goes_pair forms.List before (with_item (only text wanted) before) (codes "--only") text later refl (only_option text before ∙ with_only text wanted before h)
turn_again forms.List (title text) before later h single = absurd h
turn_again forms.List no_pictures before later h single = absurd h
turn_again forms.Report (format name) before later h single = goes_pair forms.Report before (with_item (format name) before) (codes "--format") name later refl (fresh before.format refl single.format) where
  fresh : (f : Option (List ℕ)) → before.format ≡ f → length (option_to_list f) + 1 ≤ 1 → with_format name f before ≡ Some (with_item (format name) before)
  fresh None is single = refl
  fresh (Some other) is single = absurd (omega arith)
turn_again forms.Report (lock text of_lock) before later h single = lock_again_in forms.Report of_lock text before later h
turn_again forms.Report (journal name) before later h single = goes_plain forms.Report before (with_item (journal name) before) name later h refl
turn_again forms.Report (named_journal name) before later h single = absurd h
turn_again forms.Report (choice word text selection) before later h single = absurd h
turn_again forms.Report (rank number) before later h single = absurd h
turn_again forms.Report (only text wanted) before later h single = absurd h
turn_again forms.Report by_kind before later h single = goes_pair forms.Report before (with_item by_kind before) (codes "--by") (codes "kind") later refl (fresh before.by_kind refl single.by_kind) where
  fresh : (b : Bool) → before.by_kind ≡ b → length (if_so b) + 1 ≤ 1 → with_by (codes "kind") b before ≡ Some (with_item by_kind before)
  fresh false is single = refl
  fresh true is single = absurd (omega arith)
turn_again forms.Report (title text) before later h single = absurd h
turn_again forms.Report no_pictures before later h single = absurd h
turn_again forms.Write (format name) before later h single = absurd h
turn_again forms.Write (lock text of_lock) before later h single = lock_again_in forms.Write of_lock text before later h
turn_again forms.Write (journal name) before later h single = goes_plain forms.Write before (with_item (journal name) before) name later h refl
turn_again forms.Write (named_journal name) before later h single = absurd h
turn_again forms.Write (choice word text selection) before later h single = absurd h
turn_again forms.Write (rank number) before later h single = absurd h
turn_again forms.Write by_kind before later h single = absurd h
turn_again forms.Write (only text wanted) before later h single = absurd h
turn_again forms.Write (title text) before later h single = absurd h
turn_again forms.Write no_pictures before later h single = absurd h
turn_again forms.Decide (format name) before later h single = absurd h
turn_again forms.Decide (lock text of_lock) before later h single = lock_again_in forms.Decide of_lock text before later h
turn_again forms.Decide (journal name) before later h single = absurd h
turn_again forms.Decide (named_journal name) before later h single = goes_pair forms.Decide before (with_item (named_journal name) before) (codes "--journal") name later refl (rw h refl)
turn_again forms.Decide (choice word text selection) before later h single =
    goes_pair forms.Decide before (with_item (choice word text selection) before) (option_of word) text later (takes_value word)
    (choice_option word text before ∙ with_choice word text selection before h)
turn_again forms.Decide (rank number) before later h single =
    goes_pair forms.Decide before (with_item (rank number) before) (codes "--rank") (decimal number) later refl (rank_option (decimal number) before ∙ with_one_rank number before h single.rank)
turn_again forms.Decide by_kind before later h single = absurd h
turn_again forms.Decide (only text wanted) before later h single = absurd h
turn_again forms.Decide (title text) before later h single = absurd h
turn_again forms.Decide no_pictures before later h single = absurd h
turn_again forms.Page (format name) before later h single = absurd h
turn_again forms.Page (lock text of_lock) before later h single = lock_again_in forms.Page of_lock text before later h
turn_again forms.Page (journal name) before later h single = goes_plain forms.Page before (with_item (journal name) before) name later h refl
turn_again forms.Page (named_journal name) before later h single = absurd h
turn_again forms.Page (choice word text selection) before later h single = absurd h
turn_again forms.Page (rank number) before later h single =
    goes_pair forms.Page before (with_item (rank number) before) (codes "--rank") (decimal number) later refl (page_rank_option (decimal number) before ∙ with_one_rank number before h single.rank)
turn_again forms.Page by_kind before later h single = absurd h
turn_again forms.Page (only text wanted) before later h single = absurd h
turn_again forms.Page (title text) before later h single = goes_pair forms.Page before (with_item (title text) before) (codes "--title") text later refl (fresh before.title refl single.title) where
  fresh : (t : Option (List ℕ)) → before.title ≡ t → length (option_to_list t) + 1 ≤ 1 → with_title text t before ≡ Some (with_item (title text) before)
  fresh None is single = refl
  fresh (Some other) is single = absurd (omega arith)
turn_again forms.Page no_pictures before later h single = goes_lone forms.Page before (with_item no_pictures before) (codes "--no-pictures") later refl (fresh before.no_pictures refl single.no_pictures) where
  fresh : (b : Bool) → before.no_pictures ≡ b → length (if_so b) + 1 ≤ 1 → with_flag b before ≡ Some (with_item no_pictures before)
  fresh false is single = refl
  fresh true is single = absurd (omega arith)

single_first : (item : Item) (before : Gathered) (more : List Item) → Single before (item ∷ more) → Single before (item ∷ [])
single_first (format name) before more h = record { format = omega arith; rank = omega arith; by_kind = omega arith; title = omega arith; no_pictures = omega arith }
single_first (lock text of_lock) before more h = record { format = omega arith; rank = omega arith; by_kind = omega arith; title = omega arith; no_pictures = omega arith }
single_first (journal name) before more h = record { format = omega arith; rank = omega arith; by_kind = omega arith; title = omega arith; no_pictures = omega arith }
single_first (named_journal name) before more h = record { format = omega arith; rank = omega arith; by_kind = omega arith; title = omega arith; no_pictures = omega arith }
single_first (choice word text selection) before more h = record { format = omega arith; rank = omega arith; by_kind = omega arith; title = omega arith; no_pictures = omega arith }
single_first (rank number) before more h = record { format = omega arith; rank = omega arith; by_kind = omega arith; title = omega arith; no_pictures = omega arith }
single_first by_kind before more h = record { format = omega arith; rank = omega arith; by_kind = omega arith; title = omega arith; no_pictures = omega arith }
single_first (only text wanted) before more h = record { format = omega arith; rank = omega arith; by_kind = omega arith; title = omega arith; no_pictures = omega arith }
single_first (title text) before more h = record { format = omega arith; rank = omega arith; by_kind = omega arith; title = omega arith; no_pictures = omega arith }
single_first no_pictures before more h = record { format = omega arith; rank = omega arith; by_kind = omega arith; title = omega arith; no_pictures = omega arith }

single_later : (item : Item) (before : Gathered) (more : List Item) → Single before (item ∷ more) → Single (with_item item before) more
single_later (format name) before more h = record { format = omega arith; rank = h.rank; by_kind = h.by_kind; title = h.title; no_pictures = h.no_pictures }
single_later (lock text of_lock) before more h = record { format = h.format; rank = h.rank; by_kind = h.by_kind; title = h.title; no_pictures = h.no_pictures }
single_later (journal name) before more h = record { format = h.format; rank = h.rank; by_kind = h.by_kind; title = h.title; no_pictures = h.no_pictures }
single_later (named_journal name) before more h = record { format = h.format; rank = h.rank; by_kind = h.by_kind; title = h.title; no_pictures = h.no_pictures }
single_later (choice word text selection) before more h = record { format = h.format; rank = h.rank; by_kind = h.by_kind; title = h.title; no_pictures = h.no_pictures }
single_later (rank number) before more h = record { format = h.format; rank = omega arith; by_kind = h.by_kind; title = h.title; no_pictures = h.no_pictures }
single_later by_kind before more h = record { format = h.format; rank = h.rank; by_kind = omega arith; title = h.title; no_pictures = h.no_pictures }
single_later (only text wanted) before more h = record { format = h.format; rank = h.rank; by_kind = h.by_kind; title = h.title; no_pictures = h.no_pictures }
single_later (title text) before more h = record { format = h.format; rank = h.rank; by_kind = h.by_kind; title = omega arith; no_pictures = h.no_pictures }
single_later no_pictures before more h = record { format = h.format; rank = h.rank; by_kind = h.by_kind; title = h.title; no_pictures = omega arith }

pub items_again : (form : Form) (items : List Item) (before : Gathered) → AllByRecursion (Admits (form_of form)) items → Single before items
    → gathered form before (flat_map item_words items) ≡ Some (with_items items before)
items_again form [] before h single = no_words form before
items_again form (item ∷ items) before h single =
    turn_again form item before (flat_map item_words items) h.0 (single_first item before items single)
    ∙ items_again form items (with_item item before) h.1 (single_later item before items single)

-- what items say on top of nothing
says_items : (items : List Item) (before : Gathered) → Single before items → Says before (with_items items before) items
says_items [] before single = record { format = sym (append-nil _); locks = sym (append-nil _); journals = sym (append-nil _); choices = sym (append-nil _); rank = sym (append-nil _); by_kind = sym (append-nil _); onlys = sym (append-nil _); title = sym (append-nil _); no_pictures = sym (append-nil _) }
says_items (item ∷ items) before single =
    let first = says_item item before (single_first item before items single) in
    let rest = says_items items (with_item item before) (single_later item before items single) in
    record {
      format = regroup (option_to_list before.format) (formats_of (item ∷ [])) (formats_of items) (formats_of (item ∷ items)) (option_to_list (with_item item before).format) (option_to_list (with_items (item ∷ items) before).format) rest.format first.format (formats_more item items);
      locks = regroup before.locks (locks_of (item ∷ [])) (locks_of items) (locks_of (item ∷ items)) (with_item item before).locks (with_items (item ∷ items) before).locks rest.locks first.locks (locks_more item items);
      journals = regroup before.journals (journals_of (item ∷ [])) (journals_of items) (journals_of (item ∷ items)) (with_item item before).journals (with_items (item ∷ items) before).journals rest.journals first.journals (journals_more item items);
      choices = regroup before.choices (choices_of (item ∷ [])) (choices_of items) (choices_of (item ∷ items)) (with_item item before).choices (with_items (item ∷ items) before).choices rest.choices first.choices (choices_more item items);
      rank = regroup (option_to_list before.rank) (ranks_of (item ∷ [])) (ranks_of items) (ranks_of (item ∷ items)) (option_to_list (with_item item before).rank) (option_to_list (with_items (item ∷ items) before).rank) rest.rank first.rank (ranks_more item items);
      by_kind = regroup (if_so before.by_kind) (bys_of (item ∷ [])) (bys_of items) (bys_of (item ∷ items)) (if_so (with_item item before).by_kind) (if_so (with_items (item ∷ items) before).by_kind) rest.by_kind first.by_kind (bys_more item items);
      no_pictures = regroup (if_so before.no_pictures) (no_pictures_of (item ∷ [])) (no_pictures_of items) (no_pictures_of (item ∷ items)) (if_so (with_item item before).no_pictures) (if_so (with_items (item ∷ items) before).no_pictures) rest.no_pictures first.no_pictures (no_pictures_more item items);
      title = regroup (option_to_list before.title) (titles_of (item ∷ [])) (titles_of items) (titles_of (item ∷ items)) (option_to_list (with_item item before).title) (option_to_list (with_items (item ∷ items) before).title) rest.title first.title (titles_more item items);
      onlys = regroup before.onlys (onlys_of (item ∷ [])) (onlys_of items) (onlys_of (item ∷ items)) (with_item item before).onlys (with_items (item ∷ items) before).onlys rest.onlys first.onlys (onlys_more item items);
    } where
      says_item : (item : Item) (before : Gathered) → Single before (item ∷ []) → Says before (with_item item before) (item ∷ [])
      says_item (format name) before single = record { format = fresh before.format single.format; locks = sym (append-nil _); journals = sym (append-nil _); choices = sym (append-nil _); rank = sym (append-nil _); by_kind = sym (append-nil _); onlys = sym (append-nil _); title = sym (append-nil _); no_pictures = sym (append-nil _) } where
        fresh : (f : Option (List ℕ)) → length (option_to_list f) + 1 ≤ 1 → name ∷ [] ≡ option_to_list f ++ name ∷ []
        fresh None single = refl
        fresh (Some other) single = absurd (omega arith)
      says_item (lock text of_lock) before single = record { format = sym (append-nil _); locks = refl; journals = sym (append-nil _); choices = sym (append-nil _); rank = sym (append-nil _); by_kind = sym (append-nil _); onlys = sym (append-nil _); title = sym (append-nil _); no_pictures = sym (append-nil _) }
      says_item (journal name) before single = record { format = sym (append-nil _); locks = sym (append-nil _); journals = refl; choices = sym (append-nil _); rank = sym (append-nil _); by_kind = sym (append-nil _); onlys = sym (append-nil _); title = sym (append-nil _); no_pictures = sym (append-nil _) }
      says_item (named_journal name) before single = record { format = sym (append-nil _); locks = sym (append-nil _); journals = refl; choices = sym (append-nil _); rank = sym (append-nil _); by_kind = sym (append-nil _); onlys = sym (append-nil _); title = sym (append-nil _); no_pictures = sym (append-nil _) }
      says_item (choice word text selection) before single = record { format = sym (append-nil _); locks = sym (append-nil _); journals = sym (append-nil _); choices = refl; rank = sym (append-nil _); by_kind = sym (append-nil _); onlys = sym (append-nil _); title = sym (append-nil _); no_pictures = sym (append-nil _) }
      says_item (rank number) before single = record { format = sym (append-nil _); locks = sym (append-nil _); journals = sym (append-nil _); choices = sym (append-nil _); rank = fresh before.rank single.rank; by_kind = sym (append-nil _); onlys = sym (append-nil _); title = sym (append-nil _); no_pictures = sym (append-nil _) } where
        fresh : (r : Option ℕ) → length (option_to_list r) + 1 ≤ 1 → number ∷ [] ≡ option_to_list r ++ number ∷ []
        fresh None single = refl
        fresh (Some other) single = absurd (omega arith)
      says_item by_kind before single = record { format = sym (append-nil _); locks = sym (append-nil _); journals = sym (append-nil _); choices = sym (append-nil _); rank = sym (append-nil _); by_kind = fresh before.by_kind single.by_kind; onlys = sym (append-nil _); title = sym (append-nil _); no_pictures = sym (append-nil _) } where
        fresh : (b : Bool) → length (if_so b) + 1 ≤ 1 → true ∷ [] ≡ if_so b ++ true ∷ []
        fresh false single = refl
        fresh true single = absurd (omega arith)
      says_item (only text wanted) before single = record { format = sym (append-nil _); locks = sym (append-nil _); journals = sym (append-nil _); choices = sym (append-nil _); rank = sym (append-nil _); by_kind = sym (append-nil _); onlys = refl; title = sym (append-nil _); no_pictures = sym (append-nil _) }
      says_item (title text) before single = record { format = sym (append-nil _); locks = sym (append-nil _); journals = sym (append-nil _); choices = sym (append-nil _); rank = sym (append-nil _); by_kind = sym (append-nil _); onlys = sym (append-nil _); title = fresh before.title single.title; no_pictures = sym (append-nil _) } where
        fresh : (t : Option (List ℕ)) → length (option_to_list t) + 1 ≤ 1 → text ∷ [] ≡ option_to_list t ++ text ∷ []
        fresh None single = refl
        fresh (Some other) single = absurd (omega arith)
      says_item no_pictures before single = record { format = sym (append-nil _); locks = sym (append-nil _); journals = sym (append-nil _); choices = sym (append-nil _); rank = sym (append-nil _); by_kind = sym (append-nil _); onlys = sym (append-nil _); title = sym (append-nil _); no_pictures = fresh before.no_pictures single.no_pictures } where
        fresh : (b : Bool) → length (if_so b) + 1 ≤ 1 → true ∷ [] ≡ if_so b ++ true ∷ []
        fresh false single = refl
        fresh true single = absurd (omega arith)

-- the words of items are read, and give what the items say
pub record ReadAgain (form : Form) (words : List (List ℕ)) (items : List Item) : Type 0 where
  pub after : Gathered
  pub reads : gathered form nothing words ≡ Some after
  pub format : option_to_list after.format ≡ formats_of items
  pub locks : after.locks ≡ locks_of items
  pub journals : after.journals ≡ journals_of items
  pub choices : after.choices ≡ choices_of items
  pub rank : option_to_list after.rank ≡ ranks_of items
  pub by_kind : if_so after.by_kind ≡ bys_of items
  pub onlys : after.onlys ≡ onlys_of items
  pub title : option_to_list after.title ≡ titles_of items
  pub no_pictures : if_so after.no_pictures ≡ no_pictures_of items

pub read_again : (form : Form) (items : List Item) (words : List (List ℕ)) → words ≡ flat_map item_words items → AllByRecursion (Admits (form_of form)) items
    → length (formats_of items) ≤ 1 → length (ranks_of items) ≤ 1 → length (bys_of items) ≤ 1 → length (titles_of items) ≤ 1 → length (no_pictures_of items) ≤ 1 → ReadAgain form words items
read_again form items words e h formats ranks bys titles flags =
    let one : Single nothing items = record { format = omega (arith, formats); rank = omega (arith, ranks); by_kind = omega (arith, bys); title = omega (arith, titles); no_pictures = omega (arith, flags) } in
    let says = says_items items nothing one in
    record {
      after = with_items items nothing;
      reads = ap (gathered form nothing) e ∙ items_again form items nothing h one;
      format = says.format;
      locks = says.locks;
      journals = says.journals;
      choices = says.choices;
      rank = says.rank;
      by_kind = says.by_kind;
      onlys = says.onlys;
      title = says.title;
      no_pictures = says.no_pictures;
    }

-- ---- the same from the facts of the code

pub fails_lone : (form : Form) (before : Gathered) (word : List ℕ) (later : List (List ℕ)) (e : WordsError) → stands_alone form word ≡ true → Fails e (with_lone form word before)
    → Fails e (gathered form before (word ∷ later))
fails_lone form before word later Usage alone h = stops_lone form before word later alone h
fails_lone form before word later NoMemory alone h = tt

pub fails_pair : (form : Form) (before : Gathered) (word value : List ℕ) (later : List (List ℕ)) (e : WordsError) → stands_alone form word ≡ false → Fails e (with_word form word value before)
    → Fails e (gathered form before (word ∷ value ∷ later))
fails_pair form before word value later Usage alone h = stops_pair form before word value later alone h
fails_pair form before word value later NoMemory alone h = tt

-- an error that is passed on
pub goes_fails : (form : Form) (before after : Gathered) (words : List (List ℕ)) (r : Result (Bor (List (List ℕ))) WordsError) (e : WordsError) → IsErrAnd r (λ x. x ≡ e)
    → Fails e (gathered form before words) → Goes form before words after r
goes_fails form before after words (Ok rest) e is h = absurd is
goes_fails form before after words (Err x) e is h = subst (λ (y : WordsError). Fails y (gathered form before words)) (sym is) h

pub finds_fails : {X Y : Type 0} (view : X → Y) (read : Option Y) (r : Result X WordsError) (e : WordsError) → IsErrAnd r (λ x. x ≡ e) → Fails e read → Finds view r read
finds_fails view read (Ok x) e is h = absurd is
finds_fails view read (Err x) e is h = subst (λ (y : WordsError). Fails y read) (sym is) h

-- words after the first
pub first_utf8 : (word : List ℕ) (later words : List (List ℕ)) → words ≡ word ∷ later → All IsUtf8 words → IsUtf8 word
first_utf8 word later words e h = let all : AllByRecursion IsUtf8 (word ∷ later) = recursion_from_All IsUtf8 (word ∷ later) (subst (All IsUtf8) e h) in all.0

pub later_utf8 : (word : List ℕ) (later words : List (List ℕ)) → words ≡ word ∷ later → All IsUtf8 words → All IsUtf8 later
later_utf8 word later words e h =
    let all : AllByRecursion IsUtf8 (word ∷ later) = recursion_from_All IsUtf8 (word ∷ later) (subst (All IsUtf8) e h) in
    All-from_recursion IsUtf8 later all.1

pub no_words_left : (form : Form) (items : Gathered) (words : List (List ℕ)) → length words ≡ 0 → gathered form items words ≡ Some items
no_words_left form items [] e = no_words form items
no_words_left form items (word ∷ words) e = absurd (omega arith)
