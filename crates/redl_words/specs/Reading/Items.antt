-- Reading the words after a verb: files, journals, choices and options.
use Rattle.std.specs.Borrow.{Bor}
use Rattle.std.specs.Prelude.{◌≡◌, ◌||◌, ℕ, Bool, true, false, List, [], ◌∷◌, ◌++◌, Option, Some, None, Result, Ok, Err, codes, if◌then◌else◌}
use Rattle.std.specs.Str.{bytes_eq}
use Rattle.redl_journal.specs.declared.entry.Word.{Word}
use Rattle.redl_journal.specs.declared.entry.Word.TheVariants.{Accept, Reject, Withdraw}
use Rattle.redl_reading.specs.Steps.{◌>>=◌}
use Rattle.redl_kinds.specs.Selections.{Selection}
use Rattle.redl_kinds.specs.declared.lock.Lock.{Lock}
use Rattle.redl_words.specs.declared.error.WordsError.{WordsError}
use Rattle.redl_words.specs.declared.options.Form.{Form}
use Rattle.redl_words.specs.declared.options.Form.TheVariants as forms
use Rattle.redl_words.specs.declared.options.Locked.{Locked}
use Rattle.redl_words.specs.declared.options.Locked.TheVariants as locked
use Rattle.redl_words.specs.declared.options.ItemOption.{ItemOption}
use Rattle.redl_words.specs.declared.options.ItemOption.TheVariants as options
use Rattle.redl_words.specs.declared.items.Items as code
use Rattle.redl_words.specs.Items.{is_name, option_of}
use Rattle.redl_words.specs.Views.{choices_view, onlys_view}
use Rattle.redl_words.specs.Reading.Answers.{Fails}
use Rattle.redl_words.specs.Reading.Locks.{lock_in}
use Rattle.redl_words.specs.Reading.Ranks.{rank_in}
use Rattle.redl_words.specs.Reading.Selections.{selection_in}
use Rattle.redl_words.specs.Reading.Shown.{only_in}
use Rattle.redl_words.specs.Shown.{Only}

-- what the items of a command say
pub record Gathered : Type 0 where
  pub format : Option (List ℕ)
  pub by_kind : Bool
  pub locks : List Lock
  pub journals : List (List ℕ)
  pub choices : List (Word × Selection)
  pub rank : Option ℕ
  pub onlys : List Only
  pub title : Option (List ℕ)
  pub no_pictures : Bool

-- the code's items as plain data
abbrev pub items_view : code.Items → Gathered
items_view items = record {
  format = items.format;
  by_kind = items.by_kind;
  locks = items.locks.items;
  journals = items.journals.items;
  choices = choices_view items.choices.items;
  rank = items.rank;
  onlys = onlys_view items.only.items;
  title = items.title;
  no_pictures = items.no_pictures;
}

abbrev pub nothing : Gathered
nothing = record { format = None; by_kind = false; locks = []; journals = []; choices = []; rank = None; onlys = []; title = None; no_pictures = false }

-- a command of this form may have journals without an option
abbrev pub has_plain_journals : Form → Bool
has_plain_journals forms.List = true
has_plain_journals forms.Report = true
has_plain_journals forms.Page = true
has_plain_journals forms.Write = true
has_plain_journals forms.Decide = false

-- with one journal more
abbrev pub with_journal : List ℕ → Gathered → Gathered
with_journal name items = record items { journals = items.journals ++ name ∷ [] }

-- with a journal that stands without an option
unfoldable pub with_plain_journal : Form → List ℕ → Gathered → Option Gathered
with_plain_journal form name items = if has_plain_journals form then Some (with_journal name items) else None

-- the word is a flag of a command of this form: an option that no value follows
abbrev pub is_flag : Form → List ℕ → Bool
is_flag forms.List word = false
is_flag forms.Report word = false
is_flag forms.Page word = bytes_eq word (codes "--no-pictures")
is_flag forms.Write word = false
is_flag forms.Decide word = false

-- without pictures, where that isn't said so far
abbrev pub with_flag : Bool → Gathered → Option Gathered
with_flag false items = Some (record items { no_pictures = true })
with_flag true items = None

-- the word is an item by itself: the name of a file, or a flag
abbrev pub stands_alone : Form → List ℕ → Bool
stands_alone form word = is_name word || is_flag form word

-- with an item of one word
unfoldable pub with_lone : Form → List ℕ → Gathered → Option Gathered
with_lone form word items = if is_name word then with_plain_journal form word items else with_flag items.no_pictures items

-- the option that a word is, in a command that decides
unfoldable pub deciding_option : List ℕ → Option ItemOption
deciding_option word =
    if bytes_eq word (codes "--journal") then Some options.Journal
    else if bytes_eq word (option_of Accept) then Some (options.Choice Accept)
    else if bytes_eq word (option_of Reject) then Some (options.Choice Reject)
    else if bytes_eq word (option_of Withdraw) then Some (options.Choice Withdraw)
    else if bytes_eq word (codes "--rank") then Some options.Rank
    else None

-- the option that a word is, in a report
unfoldable pub reporting_option : List ℕ → Option ItemOption
reporting_option word =
    if bytes_eq word (codes "--format") then Some options.Format
    else if bytes_eq word (codes "--by") then Some options.By
    else None

-- the option that a word is, for a page
unfoldable pub paging_option : List ℕ → Option ItemOption
paging_option word =
    if bytes_eq word (codes "--title") then Some options.Title
    else if bytes_eq word (codes "--rank") then Some options.Rank
    else None

-- what the option is on that a word is, if it is one of the three for locks
unfoldable pub locking_option : List ℕ → Option Locked
locking_option word =
    if bytes_eq word (codes "--lock") then Some locked.Author
    else if bytes_eq word (codes "--lock-kind") then Some locked.Kind
    else if bytes_eq word (codes "--lock-span") then Some locked.Span
    else None

-- the option that a word is, besides those for locks
abbrev pub option_of_form : Form → List ℕ → Option ItemOption
option_of_form forms.List word = if bytes_eq word (codes "--format") then Some options.Format else if bytes_eq word (codes "--only") then Some options.Only else None
option_of_form forms.Report word = reporting_option word
option_of_form forms.Page word = paging_option word
option_of_form forms.Write word = None
option_of_form forms.Decide word = deciding_option word

-- the option of a lock, or else another one
abbrev pub lock_or : Option ItemOption → Option Locked → Option ItemOption
lock_or other None = other
lock_or other (Some on) = Some (options.Lock on)

-- the option that a word is
unfoldable pub option_in : Form → List ℕ → Option ItemOption
option_in form word = lock_or (option_of_form form word) (locking_option word)

-- with a format, where there is none so far
abbrev pub with_format : List ℕ → Option (List ℕ) → Gathered → Option Gathered
with_format name None items = Some (record items { format = Some name })
with_format name (Some other) items = None

-- by kind, where it isn't said so far
abbrev pub with_by : List ℕ → Bool → Gathered → Option Gathered
with_by value false items = if bytes_eq value (codes "kind") then Some (record items { by_kind = true }) else None
with_by value true items = None

-- with a rank, where there is none so far
abbrev pub with_rank : List ℕ → Option ℕ → Gathered → Option Gathered
with_rank value None items = do
  rank ← rank_in value
  Some (record items { rank = Some rank })
with_rank value (Some other) items = None

-- with a title, where there is none so far
abbrev pub with_title : List ℕ → Option (List ℕ) → Gathered → Option Gathered
with_title text None items = Some (record items { title = Some text })
with_title text (Some other) items = None

-- with an option and its value
unfoldable pub with_option : ItemOption → List ℕ → Gathered → Option Gathered
with_option options.Format value items = with_format value items.format items
with_option options.By value items = with_by value items.by_kind items
with_option (options.Lock on) value items = do
  lock ← lock_in on value
  Some (record items { locks = items.locks ++ lock ∷ [] })
with_option options.Journal value items = if is_name value then Some (with_journal value items) else None
with_option (options.Choice word) value items = do
  selection ← selection_in value
  Some (record items { choices = items.choices ++ (word, selection) ∷ [] })
with_option options.Rank value items = with_rank value items.rank items
with_option options.Only value items = do
  wanted ← only_in value
  Some (record items { onlys = items.onlys ++ wanted ∷ [] })
with_option options.Title value items = with_title value items.title items

-- with the option that a word is, and its value
unfoldable pub with_word : Form → List ℕ → List ℕ → Gathered → Option Gathered
with_word form word value items = do
  option ← option_in form word
  with_option option value items

-- what the items in these words say, after others
unfoldable pub gathered : Form → Gathered → List (List ℕ) → Option Gathered
gathered form items [] = Some items
gathered form items (word ∷ []) = if stands_alone form word then with_lone form word items else None
gathered form items (word ∷ value ∷ later) =
    if stands_alone form word
    then (with_lone form word items >>= λ more. gathered form more (value ∷ later))
    else (with_word form word value items >>= λ more. gathered form more later)

-- after the first item, what is gathered from the words that are left is what is gathered from all of them
abbrev pub Goes : Form → Gathered → List (List ℕ) → Gathered → Result (Bor (List (List ℕ))) WordsError → Type 0
Goes form before words after (Ok rest) = gathered form before words ≡ gathered form after rest.now
Goes form before words after (Err error) = Fails error (gathered form before words)
