-- The words of each command (our own rule). They come without the program's name.
use Rattle.std.specs.Prelude.{◌≡◌, ◌≢◌, ◌^◌, ◌<◌, ◌≤◌, ◌⊎◌, ℕ, Bool, true, false, not, List, [], ◌∷◌, Option, option_to_list, IfSome, IsTrue, All, IsUtf8, codes, decimal}
use Rattle.std.specs.List.{flat_map}
use Rattle.redl_journal.specs.declared.entry.Word.{Word}
use Rattle.redl_journal.specs.Journals.{IsReviewer}
use Rattle.redl_kinds.specs.Selections.{Selection}
use Rattle.redl_kinds.specs.declared.lock.Lock.{Lock}
use Rattle.redl_kinds.specs.declared.lock.Lock.TheVariants.{Author, Kind, Span}
use Rattle.redl_words.specs.declared.command.View.{View}
use Rattle.redl_words.specs.declared.command.View.TheVariants.{Original, Final, Marked, Bare, Left, LeftJson}
use Rattle.redl_words.specs.Items.{Item, AreItems, Form, of_list, of_report, of_page, of_write, of_decide, is_name, formats_of, bys_of, if_so, locks_of, journals_of, choices_of, ranks_of, onlys_of, titles_of, no_pictures_of}
use Rattle.redl_words.specs.Shown.{Only}
use Rattle.redl_words.specs.Sittings.{SittingJournal, sitting_words, sitting_name, firsts_of, seconds_of}

-- what the words ask for; names, texts of authors and of formats are lists of bytes
pub data Command : Type 0 where
  -- the package of this name under accept, or else under reject, for all its revisions
  settle : Bool → List ℕ → Command
  -- the text of the package in this view
  view_text : List ℕ → View → Command
  -- the revisions of the package in the format of this name, with locks and journals, and of these what each shows
  list : List ℕ → List ℕ → List Lock → List (List ℕ) → List Only → Command
  -- a page of the package's revisions for a browser, with a title and a rank for what is decided there, if they are given, with its
  -- pictures or not, with locks and journals
  page : List ℕ → Option (List ℕ) → Option ℕ → Bool → List Lock → List (List ℕ) → Command
  -- where each reviewer and each author of the package's revisions stands, in the format of this name, by kind or not, with locks
  -- and journals
  report : List ℕ → List ℕ → Bool → List Lock → List (List ℕ) → Command
  -- the package under the joined verdicts, with locks and journals
  write : List ℕ → List Lock → List (List ℕ) → Command
  -- a journal of what a reviewer decides on the package's revisions: journals, locks, the choices in their order, and the rank
  decide : List ℕ → List ℕ → List (List ℕ) → List Lock → List (Word × Selection) → ℕ → Command
  -- one journal for the first of two packages, with its journals and those of the second one
  resume : List ℕ → List ℕ → List (List ℕ) → List (List ℕ) → Command
  -- the union of journals
  join : List (List ℕ) → Command
  -- whether the package is sound
  check : List ℕ → Command
  -- the summary of the sample with so many paragraphs
  sample : ℕ → Command

-- ---- the words of each

-- the word for the say of `settle`
abbrev pub say_word : Bool → List ℕ
say_word true = codes "accept"
say_word false = codes "reject"

-- `settle accept P` and `settle reject P`
pub record IsSettle (words : List (List ℕ)) (accept : Bool) (p : List ℕ) : Type 0 where
  pub written : words ≡ codes "settle" ∷ say_word accept ∷ p ∷ []
  pub name : IsTrue (is_name p)

-- the name of a view
abbrev pub view_name : View → List ℕ
view_name Original = codes "original"
view_name Final = codes "final"
view_name Marked = codes "marked"
view_name Bare = codes "bare"
view_name Left = codes "text"
view_name LeftJson = codes "json"

-- the command that writes a view, the option before its name, and what the command writes without that
abbrev pub view_word : View → List ℕ
view_word Left = codes "left"
view_word LeftJson = codes "left"
view_word _ = codes "text"

abbrev pub view_option : View → List ℕ
view_option Left = codes "--format"
view_option LeftJson = codes "--format"
view_option _ = codes "--view"

abbrev pub first_view : View → View
first_view Left = Left
first_view LeftJson = Left
first_view _ = Final

-- `text P`, which has the final view, and `text P --view NAME`; `left P`, which is a text, and `left P --format NAME`
pub record IsText (words : List (List ℕ)) (p : List ℕ) (view : View) : Type 0 where
  pub written : ((words ≡ view_word view ∷ p ∷ []) × (view ≡ first_view view)) ⊎ (words ≡ view_word view ∷ p ∷ view_option view ∷ view_name view ∷ [])
  pub name : IsTrue (is_name p)

-- this word, a package and items of this form; without `--format` the format is `text`, and it is given once at most, as is `--by kind`
pub record AsksFor (form : Form) (word : List ℕ) (words : List (List ℕ)) (p name : List ℕ) (by_kind : Bool) (locks : List Lock) (journals : List (List ℕ)) (onlys : List Only) : Type 0 where
  pub items : List Item
  pub rest : List (List ℕ)
  pub written : words ≡ word ∷ p ∷ rest
  pub package_name : IsTrue (is_name p)
  pub are_items : AreItems form rest items
  pub format : ((formats_of items ≡ []) × (name ≡ codes "text")) ⊎ (formats_of items ≡ name ∷ [])
  pub kinds : if_so by_kind ≡ bys_of items
  pub locks_are : locks ≡ locks_of items
  pub journals_are : journals ≡ journals_of items
  pub onlys_are : onlys ≡ onlys_of items

-- `page P` and items; a title is given once at most, and so is a rank; `--no-pictures` comes once at most, and without it there are pictures
pub record IsPage (words : List (List ℕ)) (p : List ℕ) (name : Option (List ℕ)) (number : Option ℕ) (pictures : Bool) (locks : List Lock) (journals : List (List ℕ)) : Type 0 where
  pub items : List Item
  pub rest : List (List ℕ)
  pub written : words ≡ codes "page" ∷ p ∷ rest
  pub package_name : IsTrue (is_name p)
  pub are_items : AreItems of_page rest items
  pub title_is : option_to_list name ≡ titles_of items
  pub rank_is : option_to_list number ≡ ranks_of items
  pub pictures_are : if_so (not pictures) ≡ no_pictures_of items
  pub locks_are : locks ≡ locks_of items
  pub journals_are : journals ≡ journals_of items

-- `list P` and items
abbrev pub IsList : List (List ℕ) → List ℕ → List ℕ → List Lock → List (List ℕ) → List Only → Type 0
IsList words p name locks journals onlys = AsksFor of_list (codes "list") words p name false locks journals onlys

-- `report P` and items
abbrev pub IsReport : List (List ℕ) → List ℕ → List ℕ → Bool → List Lock → List (List ℕ) → Type 0
IsReport words p name by_kind locks journals = AsksFor of_report (codes "report") words p name by_kind locks journals []

-- `write P` and items
pub record IsWrite (words : List (List ℕ)) (p : List ℕ) (locks : List Lock) (journals : List (List ℕ)) : Type 0 where
  pub items : List Item
  pub rest : List (List ℕ)
  pub written : words ≡ codes "write" ∷ p ∷ rest
  pub package_name : IsTrue (is_name p)
  pub are_items : AreItems of_write rest items
  pub locks_are : locks ≡ locks_of items
  pub journals_are : journals ≡ journals_of items

-- `decide P REVIEWER` and items, at least one choice among them; without `--rank` the rank is 0, and it is given once at most
pub record IsDecide (words : List (List ℕ)) (p reviewer : List ℕ) (journals : List (List ℕ)) (locks : List Lock) (choices : List (Word × Selection)) (number : ℕ) : Type 0 where
  pub items : List Item
  pub rest : List (List ℕ)
  pub written : words ≡ codes "decide" ∷ p ∷ reviewer ∷ rest
  pub package_name : IsTrue (is_name p)
  pub reviewer_name : IsReviewer reviewer
  pub are_items : AreItems of_decide rest items
  pub journals_are : journals ≡ journals_of items
  pub locks_are : locks ≡ locks_of items
  pub choices_are : choices ≡ choices_of items
  pub rank : ((ranks_of items ≡ []) × (number ≡ 0)) ⊎ (ranks_of items ≡ number ∷ [])
  pub some : choices ≢ []

-- `resume P Q` and journals of both, in any order
pub record IsResume (words : List (List ℕ)) (p q : List ℕ) (firsts journals : List (List ℕ)) : Type 0 where
  pub named : List SittingJournal
  pub rest : List (List ℕ)
  pub written : words ≡ codes "resume" ∷ p ∷ q ∷ rest
  pub first_name : IsTrue (is_name p)
  pub second_name : IsTrue (is_name q)
  pub journals_written : rest ≡ flat_map sitting_words named
  pub names : All (λ journal. IsTrue (is_name (sitting_name journal))) named
  pub firsts_are : firsts ≡ firsts_of named
  pub journals_are : journals ≡ seconds_of named

-- `join J ..`, one journal or more
pub record IsJoin (words journals : List (List ℕ)) : Type 0 where
  pub written : words ≡ codes "join" ∷ journals
  pub names : All (λ name. IsTrue (is_name name)) journals
  pub some : journals ≢ []

-- `check P`
pub record IsCheck (words : List (List ℕ)) (p : List ℕ) : Type 0 where
  pub written : words ≡ codes "check" ∷ p ∷ []
  pub name : IsTrue (is_name p)

-- `sample N`, a number up to 4294967295 in decimal digits without leading zeros
pub record IsSample (words : List (List ℕ)) (number : ℕ) : Type 0 where
  pub written : words ≡ codes "sample" ∷ decimal number ∷ []
  pub small : number < 2 ^ 32

-- the words are a command line of this command
abbrev pub IsCommand : List (List ℕ) → Command → Type 0
IsCommand words (settle accept p) = IsSettle words accept p
IsCommand words (view_text p view) = IsText words p view
IsCommand words (list p name locks journals onlys) = IsList words p name locks journals onlys
IsCommand words (page p name number pictures locks journals) = IsPage words p name number pictures locks journals
IsCommand words (report p name by_kind locks journals) = IsReport words p name by_kind locks journals
IsCommand words (write p locks journals) = IsWrite words p locks journals
IsCommand words (decide p reviewer journals locks choices number) = IsDecide words p reviewer journals locks choices number
IsCommand words (resume p q firsts journals) = IsResume words p q firsts journals
IsCommand words (join journals) = IsJoin words journals
IsCommand words (check p) = IsCheck words p
IsCommand words (sample number) = IsSample words number

-- the words are the command line of no command
abbrev pub HasNoCommand : List (List ℕ) → Type 0
HasNoCommand words = (command : Command) → IsCommand words command → ⊥

-- the lock's author is UTF-8
abbrev pub LockHasUtf8 : Lock → Type 0
LockHasUtf8 (Author name) = IsUtf8 name
LockHasUtf8 (Kind of_kind) = Unit {0}
LockHasUtf8 (Span start end) = Unit {0}

-- the texts of the command are UTF-8, its reviewer is one that a journal may hold, and so is its rank; a union is of some journal
abbrev pub HasUtf8 : Command → Type 0
HasUtf8 (settle accept p) = IsUtf8 p
HasUtf8 (view_text p view) = IsUtf8 p
HasUtf8 (list p name locks journals onlys) = IsUtf8 p × IsUtf8 name × All LockHasUtf8 locks × All IsUtf8 journals
HasUtf8 (page p name number pictures locks journals) = IsUtf8 p × IfSome name IsUtf8 × IfSome number (λ n. n ≤ 9) × All LockHasUtf8 locks × All IsUtf8 journals
HasUtf8 (report p name by_kind locks journals) = IsUtf8 p × IsUtf8 name × All LockHasUtf8 locks × All IsUtf8 journals
HasUtf8 (write p locks journals) = IsUtf8 p × All LockHasUtf8 locks × All IsUtf8 journals
HasUtf8 (decide p reviewer journals locks choices number) = IsUtf8 p × IsReviewer reviewer × All IsUtf8 journals × All LockHasUtf8 locks × (number ≤ 9)
HasUtf8 (resume p q firsts journals) = IsUtf8 p × IsUtf8 q × All IsUtf8 firsts × All IsUtf8 journals
HasUtf8 (join journals) = All IsUtf8 journals × (journals ≢ [])
HasUtf8 (check p) = IsUtf8 p
HasUtf8 (sample number) = Unit {0}
