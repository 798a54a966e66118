-- File names, and items: what may come after a package's name in the words of a command (our own rule).
use Rattle.std.specs.Prelude.{◌≡◌, ◌≤◌, ℕ, Bool, true, false, not, ◌==◌, List, [], ◌∷◌, IsTrue, All, codes, decimal}
use Rattle.std.specs.List.{flat_map}
use Rattle.redl_journal.specs.declared.entry.Word.{Word}
use Rattle.redl_journal.specs.declared.entry.Word.TheVariants.{Accept, Reject, Withdraw}
use Rattle.redl_kinds.specs.Selections.{Selection}
use Rattle.redl_kinds.specs.declared.lock.Lock.{Lock}
use Rattle.redl_kinds.specs.declared.lock.Lock.TheVariants.{Author, Kind, Span}
use Rattle.redl_words.specs.Selections.{Means, MeansLock}
use Rattle.redl_words.specs.Shown.{Only, MeansOnly}

-- a file name: not empty, and it doesn't begin with a dash
abbrev pub is_name : List ℕ → Bool
is_name [] = false
is_name (first ∷ _) = not (first == 45)

-- ---- one item

-- what may come after a package's name
pub data Item : Type 0 where
  -- `--format` and the name of a format
  format : List ℕ → Item
  -- `--by kind`
  by_kind : Item
  -- `--lock`, `--lock-kind` or `--lock-span`, and the text of a lock
  lock : List ℕ → Lock → Item
  -- the name of a journal
  journal : List ℕ → Item
  -- `--journal` and the name of a journal
  named_journal : List ℕ → Item
  -- `--accept`, `--reject` or `--withdraw`, and the text of a selection
  choice : Word → List ℕ → Selection → Item
  -- `--rank` and a rank
  rank : ℕ → Item
  -- `--only` and the text of what is shown
  only : List ℕ → Only → Item
  -- `--title` and a title
  title : List ℕ → Item
  -- `--no-pictures`
  no_pictures : Item

-- the option that decides by this word
abbrev pub option_of : Word → List ℕ
option_of Accept = codes "--accept"
option_of Reject = codes "--reject"
option_of Withdraw = codes "--withdraw"

-- the option of a lock
abbrev pub lock_option : Lock → List ℕ
lock_option (Author name) = codes "--lock"
lock_option (Kind of_kind) = codes "--lock-kind"
lock_option (Span start end) = codes "--lock-span"

-- the words of an item
abbrev pub item_words : Item → List (List ℕ)
item_words (format name) = codes "--format" ∷ name ∷ []
item_words by_kind = codes "--by" ∷ codes "kind" ∷ []
item_words (lock text of_lock) = lock_option of_lock ∷ text ∷ []
item_words (journal name) = name ∷ []
item_words (named_journal name) = codes "--journal" ∷ name ∷ []
item_words (choice word text selection) = option_of word ∷ text ∷ []
item_words (rank number) = codes "--rank" ∷ decimal number ∷ []
item_words (only text wanted) = codes "--only" ∷ text ∷ []
item_words (title text) = codes "--title" ∷ text ∷ []
item_words no_pictures = codes "--no-pictures" ∷ []

-- the commands that have items
pub data Form : Type 0 where
  of_list : Form
  of_report : Form
  of_page : Form
  of_write : Form
  of_decide : Form

-- the command may have the item, and the item is well formed
abbrev pub Admits : Form → Item → Type 0
Admits of_list (format name) = Unit {0}
Admits of_list (lock text of_lock) = MeansLock text of_lock
Admits of_list (journal name) = IsTrue (is_name name)
Admits of_list (only text wanted) = MeansOnly text wanted
Admits of_report (format name) = Unit {0}
Admits of_report by_kind = Unit {0}
Admits of_report (lock text of_lock) = MeansLock text of_lock
Admits of_report (journal name) = IsTrue (is_name name)
Admits of_page (lock text of_lock) = MeansLock text of_lock
Admits of_page (journal name) = IsTrue (is_name name)
Admits of_page (rank number) = number ≤ 9
Admits of_page (title text) = Unit {0}
Admits of_page no_pictures = Unit {0}
Admits of_write (lock text of_lock) = MeansLock text of_lock
Admits of_write (journal name) = IsTrue (is_name name)
Admits of_decide (lock text of_lock) = MeansLock text of_lock
Admits of_decide (named_journal name) = IsTrue (is_name name)
Admits of_decide (choice word text selection) = Means text selection
Admits of_decide (rank number) = number ≤ 9
Admits _ _ = ⊥

-- ---- what items say, in their order

abbrev pub formats_of : List Item → List (List ℕ)
formats_of [] = []
formats_of (format name ∷ items) = name ∷ formats_of items
formats_of (_ ∷ items) = formats_of items

-- once for each time that they say that it goes by kind
abbrev pub bys_of : List Item → List Bool
bys_of [] = []
bys_of (by_kind ∷ items) = true ∷ bys_of items
bys_of (_ ∷ items) = bys_of items

-- once, if it is so
abbrev pub if_so : Bool → List Bool
if_so true = true ∷ []
if_so false = []

abbrev pub locks_of : List Item → List Lock
locks_of [] = []
locks_of (lock text of_lock ∷ items) = of_lock ∷ locks_of items
locks_of (_ ∷ items) = locks_of items

abbrev pub journals_of : List Item → List (List ℕ)
journals_of [] = []
journals_of (journal name ∷ items) = name ∷ journals_of items
journals_of (named_journal name ∷ items) = name ∷ journals_of items
journals_of (_ ∷ items) = journals_of items

abbrev pub choices_of : List Item → List (Word × Selection)
choices_of [] = []
choices_of (choice word text selection ∷ items) = (word, selection) ∷ choices_of items
choices_of (_ ∷ items) = choices_of items

abbrev pub ranks_of : List Item → List ℕ
ranks_of [] = []
ranks_of (rank number ∷ items) = number ∷ ranks_of items
ranks_of (_ ∷ items) = ranks_of items

abbrev pub onlys_of : List Item → List Only
onlys_of [] = []
onlys_of (only text wanted ∷ items) = wanted ∷ onlys_of items
onlys_of (_ ∷ items) = onlys_of items

abbrev pub titles_of : List Item → List (List ℕ)
titles_of [] = []
titles_of (title text ∷ items) = text ∷ titles_of items
titles_of (_ ∷ items) = titles_of items

-- once for each time that they leave the pictures out
abbrev pub no_pictures_of : List Item → List Bool
no_pictures_of [] = []
no_pictures_of (no_pictures ∷ items) = true ∷ no_pictures_of items
no_pictures_of (_ ∷ items) = no_pictures_of items

-- the words are those of these items, in any order and with repeats, and the command may have each of them
pub record AreItems (form : Form) (words : List (List ℕ)) (items : List Item) : Type 0 where
  pub written : words ≡ flat_map item_words items
  pub admitted : All (Admits form) items
