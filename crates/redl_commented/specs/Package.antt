-- The comments on the revisions of a package (our own rule).
use Rattle.std.specs.Prelude.{ℕ, List, map}
use Rattle.redl_tree.specs.Model.Nodes.{Nodes}
use Rattle.redl_comments.specs.Comments.{comments_of}
use Rattle.redl_comments.specs.Threads.{Threads, package_threads}
use Rattle.redl_comments.specs.declared.comment.Comment.{Comment}
use Rattle.redl_spans.specs.Stories.{package_walked}
use Rattle.redl_commented.specs.On.{Remarks, remarks_on}
use Rattle.redl_commented.specs.Ranges.{own_ranges, ranged_of}
use Rattle.redl_commented.specs.declared.range.Ranged.{Ranged}

abbrev pub ids_of : List Comment → List (List ℕ)
ids_of comments = map (λ comment. comment.id) comments

-- those of these comments with these threads that have a range in a package
abbrev pub ranged_among : Nodes → List Comment → Threads → List Ranged
ranged_among nodes comments threads = ranged_of (own_ranges (package_walked nodes).places (ids_of comments)) threads

-- those of them on the revision with this number
abbrev pub remarks_among : Nodes → List Comment → Threads → ℕ → Remarks
remarks_among nodes comments threads v = remarks_on (package_walked nodes).spans (ranged_among nodes comments threads) v

-- the comments on the revision with this number
abbrev pub package_remarks : Nodes → ℕ → Remarks
package_remarks nodes v = remarks_among nodes (comments_of nodes) (package_threads nodes) v
