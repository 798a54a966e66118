-- Reading the words of a command line from the left, as functions on lists.
use Rattle.std.specs.Prelude.{◌&&◌, ℕ, Bool, true, false, List, [], ◌∷◌, Option, Some, None, codes, if◌then◌else◌, option_map, not}
use Rattle.std.specs.List.{list_all}
use Rattle.std.specs.Str.{bytes_eq}
use Rattle.redl_journal.specs.declared.entry.Word.{Word}
use Rattle.redl_journal.specs.Reading.{number_in, is_reviewer}
use Rattle.redl_reading.specs.Steps.{◌>>=◌}
use Rattle.redl_kinds.specs.Selections.{Selection}
use Rattle.redl_kinds.specs.declared.lock.Lock.{Lock}
use Rattle.redl_words.specs.declared.options.Form.{Form}
use Rattle.redl_words.specs.declared.options.Form.TheVariants as forms
use Rattle.redl_words.specs.declared.reading.Asked as code
use Rattle.redl_words.specs.declared.verb.Verb.{Verb}
use Rattle.redl_words.specs.declared.verb.Verb.TheVariants as verbs
use Rattle.redl_words.specs.declared.command.View.{View}
use Rattle.redl_words.specs.declared.command.View.TheVariants.{Original, Final, Marked, Bare, Left, LeftJson}
use Rattle.redl_words.specs.Commands.{Command, settle, view_text, list, report, page, write, decide, resume, join, check, sample, say_word, view_name}
use Rattle.redl_words.specs.Items.{is_name}
use Rattle.redl_words.specs.Reading.Items.{Gathered, nothing, gathered}
use Rattle.redl_words.specs.Shown.{Only}
use Rattle.redl_words.specs.Views.{onlys_view}
use Rattle.redl_words.specs.Reading.Sittings.{no_sittings, sittings_in}

unfoldable pub verb_in : List ℕ → Option Verb
verb_in word =
    if bytes_eq word (codes "settle") then Some verbs.Settle
    else if bytes_eq word (codes "text") then Some verbs.Text
    else if bytes_eq word (codes "left") then Some verbs.Left
    else if bytes_eq word (codes "list") then Some verbs.List
    else if bytes_eq word (codes "report") then Some verbs.Report
    else if bytes_eq word (codes "page") then Some verbs.Page
    else if bytes_eq word (codes "write") then Some verbs.Write
    else if bytes_eq word (codes "decide") then Some verbs.Decide
    else if bytes_eq word (codes "resume") then Some verbs.Resume
    else if bytes_eq word (codes "join") then Some verbs.Join
    else if bytes_eq word (codes "check") then Some verbs.Check
    else if bytes_eq word (codes "sample") then Some verbs.Sample
    else None

-- the say of `settle`: whether it is accept
unfoldable pub say_in : List ℕ → Option Bool
say_in word = if bytes_eq word (say_word true) then Some true else if bytes_eq word (say_word false) then Some false else None

unfoldable pub settle_in : List (List ℕ) → Option Command
settle_in (say ∷ p ∷ []) = if is_name p then option_map (λ accept. settle accept p) (say_in say) else None
settle_in _ = None

-- the view of this name
unfoldable pub view_in : List ℕ → Option View
view_in name =
    if bytes_eq name (view_name Original) then Some Original
    else if bytes_eq name (view_name Final) then Some Final
    else if bytes_eq name (view_name Marked) then Some Marked
    else if bytes_eq name (view_name Bare) then Some Bare
    else None

-- the text of this package, where there is a view
abbrev pub text_with : List ℕ → Option View → Option Command
text_with p None = None
text_with p (Some view) = if is_name p then Some (view_text p view) else None

unfoldable pub text_in : List (List ℕ) → Option Command
text_in (p ∷ []) = text_with p (Some Final)
text_in (p ∷ option ∷ name ∷ []) = if bytes_eq option (codes "--view") then text_with p (view_in name) else None
text_in _ = None

-- the form of this name
unfoldable pub form_in : List ℕ → Option View
form_in name = if bytes_eq name (view_name Left) then Some Left else if bytes_eq name (view_name LeftJson) then Some LeftJson else None

unfoldable pub left_in : List (List ℕ) → Option Command
left_in (p ∷ []) = text_with p (Some Left)
left_in (p ∷ option ∷ name ∷ []) = if bytes_eq option (codes "--format") then text_with p (form_in name) else None
left_in _ = None

-- the format of this name, or `text` without one
abbrev pub format_or_text : Option (List ℕ) → List ℕ
format_or_text None = codes "text"
format_or_text (Some name) = name

-- what is asked of a package
pub record Asked : Type 0 where
  pub package_name : List ℕ
  pub format : List ℕ
  pub by_kind : Bool
  pub locks : List Lock
  pub journals : List (List ℕ)
  pub onlys : List Only

abbrev pub asked_view : code.Asked → Asked
asked_view asked = record { package_name = asked.package_name; format = asked.format; by_kind = asked.by_kind; locks = asked.locks.items; journals = asked.journals.items; onlys = onlys_view asked.only.items }

abbrev pub asked_of : List ℕ → Gathered → Asked
asked_of p items = record { package_name = p; format = format_or_text items.format; by_kind = items.by_kind; locks = items.locks; journals = items.journals; onlys = items.onlys }

-- the words after `list` or `report`
unfoldable pub asked_in : Form → List (List ℕ) → Option Asked
asked_in form [] = None
asked_in form (p ∷ rest) = if is_name p then option_map (asked_of p) (gathered form nothing rest) else None

abbrev pub as_list : Asked → Command
as_list asked = list asked.package_name asked.format asked.locks asked.journals asked.onlys

abbrev pub as_report : Asked → Command
as_report asked = report asked.package_name asked.format asked.by_kind asked.locks asked.journals

abbrev pub list_in : List (List ℕ) → Option Command
list_in rest = option_map as_list (asked_in forms.List rest)

abbrev pub report_in : List (List ℕ) → Option Command
report_in rest = option_map as_report (asked_in forms.Report rest)

unfoldable pub page_in : List (List ℕ) → Option Command
page_in [] = None
page_in (p ∷ rest) = if is_name p then option_map (λ items. page p items.title items.rank (not items.no_pictures) items.locks items.journals) (gathered forms.Page nothing rest) else None

unfoldable pub write_in : List (List ℕ) → Option Command
write_in [] = None
write_in (p ∷ rest) = if is_name p then option_map (λ items. write p items.locks items.journals) (gathered forms.Write nothing rest) else None

-- the rank, or 0 without one
abbrev pub rank_or_0 : Option ℕ → ℕ
rank_or_0 None = 0
rank_or_0 (Some rank) = rank

-- the command with these items, which needs a choice
abbrev pub decide_with : List ℕ → List ℕ → List (List ℕ) → List Lock → List (Word × Selection) → ℕ → Option Command
decide_with p reviewer journals locks [] rank = None
decide_with p reviewer journals locks (choice ∷ choices) rank = Some (decide p reviewer journals locks (choice ∷ choices) rank)

unfoldable pub decide_in : List (List ℕ) → Option Command
decide_in (p ∷ reviewer ∷ rest) =
    if is_name p && is_reviewer reviewer
    then (gathered forms.Decide nothing rest >>= λ items. decide_with p reviewer items.journals items.locks items.choices (rank_or_0 items.rank))
    else None
decide_in _ = None

unfoldable pub resume_in : List (List ℕ) → Option Command
resume_in (p ∷ q ∷ rest) =
    if is_name p && is_name q then option_map (λ sittings. resume p q sittings.firsts sittings.seconds) (sittings_in no_sittings rest) else None
resume_in _ = None

-- the words, where each can name a file
abbrev pub names_in : List (List ℕ) → Option (List (List ℕ))
names_in words = if list_all is_name words then Some words else None

unfoldable pub join_in : List (List ℕ) → Option Command
join_in [] = None
join_in (name ∷ names) = option_map join (names_in (name ∷ names))

unfoldable pub check_in : List (List ℕ) → Option Command
check_in (p ∷ []) = if is_name p then Some (check p) else None
check_in _ = None

unfoldable pub sample_in : List (List ℕ) → Option Command
sample_in (digits ∷ []) = option_map sample (number_in digits)
sample_in _ = None

-- the command of these words after its verb
abbrev pub command_with : Verb → List (List ℕ) → Option Command
command_with verbs.Settle rest = settle_in rest
command_with verbs.Text rest = text_in rest
command_with verbs.Left rest = left_in rest
command_with verbs.List rest = list_in rest
command_with verbs.Report rest = report_in rest
command_with verbs.Page rest = page_in rest
command_with verbs.Write rest = write_in rest
command_with verbs.Decide rest = decide_in rest
command_with verbs.Resume rest = resume_in rest
command_with verbs.Join rest = join_in rest
command_with verbs.Check rest = check_in rest
command_with verbs.Sample rest = sample_in rest

-- the command of these words
unfoldable pub command_in : List (List ℕ) → Option Command
command_in [] = None
command_in (word ∷ rest) = verb_in word >>= λ verb. command_with verb rest
