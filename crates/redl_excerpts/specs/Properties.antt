-- What the changes of properties of a package change, each in one line of words (our own rule).
use Rattle.std.specs.Prelude.{ℕ, Bool, true, false, List, [], map, Option, None, Some}
use Rattle.redl_excerpts.specs.declared.excerpt.Excerpt.{Excerpt}
use Rattle.redl_excerpts.specs.Excerpts.{excerpts_of}
use Rattle.redl_index.specs.declared.revision.Revision.{Revision}
use Rattle.redl_kinds.specs.declared.rev_kind.RevKind.{RevKind}
use Rattle.redl_kinds.specs.declared.rev_kind.RevKind.TheVariants.{Change}
use Rattle.redl_tree.specs.Model.Nodes.{Nodes}

-- a change of properties
abbrev pub is_change : RevKind → Bool
is_change (Change prop) = true
is_change _ = false

-- whether each revision is one
abbrev pub changes_among : List Revision → List Bool
changes_among revisions = map (λ revision. is_change revision.kind) revisions

-- the words on what the first member of a revision with this excerpt changes
abbrev pub changed_words : Option Excerpt → List ℕ
changed_words None = []
changed_words (Some excerpt) = excerpt.changed.line

-- the words for each revision of a package; of what is no change of properties there are none
abbrev pub changed_lines : Nodes → List Revision → List (List ℕ)
changed_lines nodes revisions = map changed_words (excerpts_of nodes revisions (changes_among revisions))
