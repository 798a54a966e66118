-- The ids of the comments on revisions, those of each in one line (our own rule).
use Rattle.std.specs.Prelude.{ℕ, List, [], ◌∷◌, drop, map, slice_get, Option, Some, None}
use Rattle.std.specs.List.{flat_map, range_with_len}
use Rattle.redl_tree.specs.Model.Nodes.{Nodes}
use Rattle.redl_commented.specs.Package.{package_remarks}
use Rattle.redl_comments.specs.Comments.{comments_of}
use Rattle.redl_comments.specs.declared.comment.Comment.{Comment}

-- the id of a comment, with a space before it
abbrev pub spaced_id : Option Comment → List ℕ
spaced_id None = []
spaced_id (Some comment) = 32 ∷ comment.id

abbrev pub spaced_ids : List Comment → List ℕ → List ℕ
spaced_ids comments places = flat_map (λ place. spaced_id (slice_get comments place)) places

-- the ids of the comments at these places, with a space between two
abbrev pub ids_line : List Comment → List ℕ → List ℕ
ids_line comments places = drop 1 (spaced_ids comments places)

-- those of the comments on the revision with this number, at most 20
abbrev pub ids_on : Nodes → ℕ → List ℕ
ids_on nodes v = ids_line (comments_of nodes) (package_remarks nodes v).kept

-- those of each of so many revisions, in the order of their numbers
unfoldable pub remark_ids : Nodes → ℕ → List (List ℕ)
remark_ids nodes count = map (ids_on nodes) (range_with_len 1 count)
