-- Excerpts: what a listing shows of the text of each revision of a package (our own rule).
use Rattle.std.specs.Prelude.{◌≡◌, ℕ, ◌+◌, ◌-◌, ◌==◌, Bool, true, false, List, [], ◌∷◌, map, slice_get, unwrap_or, Option, None, Some, if◌then◌else◌}
use Rattle.std.specs.List.{flat_map}
use Rattle.std.specs.Option.{option_map}
use Rattle.redl_changed.specs.Changed.{nothing_changed}
use Rattle.redl_kinds.specs.declared.rev_kind.RevKind.{RevKind}
use Rattle.redl_kinds.specs.declared.rev_kind.RevKind.TheVariants.{Content, Move, Mark, Row, Cell, Change}
use Rattle.redl_index.specs.declared.revision.Revision.{Revision}
use Rattle.redl_tree.specs.Decisions.Packages.{stories}
use Rattle.redl_tree.specs.Model.Nodes.{Nodes}
use Rattle.redl_excerpts.specs.declared.excerpt.Excerpt.{Excerpt}
use Rattle.redl_excerpts.specs.Mentions.{Mention, mentions, outside}
use Rattle.redl_said.specs.Phrases.{heard, nothing_heard}

-- with one mention more
abbrev pub told : Excerpt → Mention → Excerpt
told excerpt mention = record {
  words = heard excerpt.words mention.said;
  id = if excerpt.begun then excerpt.id else mention.id;
  before = if excerpt.begun then excerpt.before else mention.before;
  behind = mention.behind;
  changed = if excerpt.begun then excerpt.changed else mention.changed;
  begun = true;
}

abbrev pub told_all : Excerpt → List Mention → Excerpt
told_all excerpt [] = excerpt
told_all excerpt (mention ∷ more) = told_all (told excerpt mention) more

-- The words of run content and of a paragraph's mark may begin with white space. Those of a row, a cell or a change do not.
abbrev pub is_stretch : RevKind → Bool
is_stretch (Content trace) = true
is_stretch Move = true
is_stretch (Mark trace) = true
is_stretch (Row trace) = false
is_stretch (Cell trace) = false
is_stretch (Change prop) = false

abbrev pub is_trimmed : RevKind → Bool
is_trimmed kind = if is_stretch kind then false else true

-- nothing is told so far; there is room for 200 characters
abbrev pub nothing_told : RevKind → Excerpt
nothing_told kind = record { words = nothing_heard 200 (is_trimmed kind); id = None; before = []; behind = []; changed = nothing_changed; begun = false }

abbrev pub is_move : RevKind → Bool
is_move Move = true
is_move _ = false

-- what a package tells of the revision with this number
abbrev pub package_mentions : Bool → ℕ → Nodes → List Mention
package_mentions moved v nodes = flat_map (λ story. mentions moved v outside story.kids) (stories nodes)

-- the excerpt of a revision
abbrev pub excerpt_of : Nodes → Revision → Excerpt
excerpt_of nodes revision = told_all (nothing_told revision.kind) (package_mentions (is_move revision.kind) revision.number nodes)

-- the excerpt of the revision with this number is wanted: there is a flag for each number from 1 on, and it is set
abbrev pub is_wanted : List Bool → ℕ → Bool
is_wanted wanted v = if v == 0 then false else unwrap_or (slice_get wanted (v - 1)) false

-- the excerpt of a revision, if it is wanted
abbrev pub wanted_excerpt : Nodes → List Bool → Revision → Option Excerpt
wanted_excerpt nodes wanted revision = if is_wanted wanted revision.number then Some (excerpt_of nodes revision) else None

-- those of the revisions of a package: one for each revision that is wanted, and none for each other one
abbrev pub excerpts_of : Nodes → List Revision → List Bool → List (Option Excerpt)
excerpts_of nodes revisions wanted = map (wanted_excerpt nodes wanted) revisions

-- ---- many at once

-- before a story tells: nothing is told of a revision that is wanted
abbrev pub wanted_nothing : List Bool → Revision → Option Excerpt
wanted_nothing wanted revision = if is_wanted wanted revision.number then Some (nothing_told revision.kind) else None

-- an excerpt is there
abbrev pub is_there : Option (Option Excerpt) → Bool
is_there None = false
is_there (Some None) = false
is_there (Some (Some excerpt)) = true

-- an excerpt of the revision with this number is made; the first of these is that of revision 1
abbrev pub is_made : List (Option Excerpt) → ℕ → Bool
is_made excerpts v = if v == 0 then false else is_there (slice_get excerpts (v - 1))

-- these mentions are told, if an excerpt is made
abbrev pub told_if_made : List Mention → Option Excerpt → Option Excerpt
told_if_made mentions excerpt = option_map (λ excerpt. told_all excerpt mentions) excerpt

-- whether the revision with this number is a move
abbrev pub moved_one : Option Revision → Bool
moved_one None = false
moved_one (Some revision) = is_move revision.kind

abbrev pub is_moved : List Revision → ℕ → Bool
is_moved revisions v = moved_one (slice_get revisions (v - 1))

-- each excerpt that is made is told what there is of the revision with its number; the first is that of revision 1
abbrev pub TellsEach : List (Option Excerpt) → List (Option Excerpt) → (ℕ → List Mention) → Type 0
TellsEach old new mentions_of = (k : ℕ) → slice_get new k ≡ option_map (told_if_made (mentions_of (k + 1))) (slice_get old k)
