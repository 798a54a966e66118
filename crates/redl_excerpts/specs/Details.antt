-- Details: what a listing shows of a revision beside its row, its text and the last words of its reviewers (our own rule).
use Rattle.std.specs.Prelude.{ℕ, ◌+◌, Bool, false, List, [], ◌∷◌, map, All, IfSome, Option, None, Some, if◌then◌else◌}
use Rattle.std.specs.Option.{option_map}
use Rattle.std.specs.Str.{IsUtf8, is_utf8}
use Rattle.redl_changed.specs.Changed.{nothing_changed}
use Rattle.redl_places.specs.Places.{place_on}
use Rattle.redl_places.specs.declared.place.StoryPlace.{StoryPlace}
use Rattle.redl_places.specs.declared.place.StoryPlace.TheVariants.{Document}
use Rattle.redl_excerpts.specs.declared.excerpt.Excerpt.{Excerpt}
use Rattle.redl_said.specs.Phrases.{kept_text}
use Rattle.redl_excerpts.specs.Excerpts.{excerpts_of}
use Rattle.redl_excerpts.specs.Remarks.{IsRemark, Remarks, no_remarks}
use Rattle.redl_index.specs.declared.revision.Revision.{Revision}
use Rattle.redl_join.specs.LastWords.{last_words}
use Rattle.redl_journal.specs.declared.entry.Entry.{Entry}
use Rattle.redl_tree.specs.Model.Nodes.{Nodes}
use Rattle.redl_excerpts.specs.declared.last_word.LastWord.{LastWord}
use Rattle.redl_excerpts.specs.declared.detail.Detail.{Detail}

-- The bytes, where they are UTF-8, and else nothing. What is read of a package and of journals is UTF-8.
abbrev pub text_or_nothing : List ℕ → List ℕ
text_or_nothing bytes = if is_utf8 bytes then bytes else []

-- who said what
abbrev pub last_word_of : Entry → LastWord
last_word_of entry = record { reviewer = text_or_nothing entry.reviewer; word = entry.word }

-- the detail of a revision with this excerpt and at this place, where these are the last words on it
abbrev pub detail_of : Excerpt → StoryPlace → List Entry → Detail
detail_of excerpt place entries = record {
  words = text_or_nothing (kept_text excerpt.words);
  before = text_or_nothing excerpt.before;
  after = text_or_nothing excerpt.behind;
  id = option_map text_or_nothing excerpt.id;
  changed = excerpt.changed;
  clause = None;
  edit = 0;
  hidden = false;
  place = place;
  says = map last_word_of entries;
  remarks = no_remarks;
}

-- no detail
abbrev pub no_detail : Detail
no_detail = record { words = []; before = []; after = []; id = None; changed = nothing_changed; clause = None; edit = 0; hidden = false; place = Document; says = []; remarks = no_remarks }

-- the detail of a revision, if there is an excerpt of it
abbrev pub detail_if : Option Excerpt → StoryPlace → List Entry → Detail
detail_if None place entries = no_detail
detail_if (Some excerpt) place entries = detail_of excerpt place entries

-- the same with this clause
abbrev pub with_clause : Detail → Option (List ℕ) → Detail
with_clause detail clause = record detail { clause = clause }

-- the same with this edit
abbrev pub with_edit : Detail → ℕ → Detail
with_edit detail edit = record detail { edit = edit }

-- the same where it is hidden or not
abbrev pub with_hidden : Detail → Bool → Detail
with_hidden detail hidden = record detail { hidden = hidden }

-- the same with these comments
abbrev pub with_remarks : Detail → Remarks → Detail
with_remarks detail remarks = record detail { remarks = remarks }

-- the details of revisions, of which the first has this number
abbrev pub details_from : ℕ → List (Option Excerpt) → (ℕ → StoryPlace) → (ℕ → List Entry) → List Detail
details_from number [] place_on entries_on = []
details_from number (excerpt ∷ more) place_on entries_on =
    detail_if excerpt (place_on number) (entries_on number) ∷ details_from (number + 1) more place_on entries_on

-- the details of the revisions from number 1 on
abbrev pub details_of : List (Option Excerpt) → (ℕ → StoryPlace) → (ℕ → List Entry) → List Detail
details_of excerpts place_on entries_on = details_from 1 excerpts place_on entries_on

-- what a detail keeps: its texts are UTF-8
pub record IsDetail (detail : Detail) : Type 0 where
  pub words : IsUtf8 detail.words
  pub before : IsUtf8 detail.before
  pub after : IsUtf8 detail.after
  pub id : IfSome detail.id IsUtf8
  pub clause : IfSome detail.clause IsUtf8
  pub says : All (λ (said : LastWord). IsUtf8 said.reviewer) detail.says
  pub remarks : All IsRemark detail.remarks.first

-- the details of the revisions of a package that are wanted, on which a book has these entries, and none of each other one
abbrev pub package_details : Nodes → List Revision → List Bool → List Entry → List Detail
package_details nodes revisions wanted book = details_of (excerpts_of nodes revisions wanted) (place_on nodes) (last_words book)
