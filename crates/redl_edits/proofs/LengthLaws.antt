-- Each revision has an edit.
use Rattle.std.proofs.Common.{◌≡◌, ◌+◌, ◌∙◌, List, length, arith, length-drop}
use Rattle.std.specs.List.{range_with_len}
use Rattle.std.proofs.lemmas.List.FromFn.{length-range_with_len}
use Rattle.redl_classes.proofs.TogetherLaws.{length-least_numbers_of}
use Rattle.redl_classes.specs.Least.{least_numbers_of}
use Rattle.redl_index.specs.declared.revision.Revision.{Revision}
use Rattle.redl_tree.specs.Decisions.Packages.{stories}
use Rattle.redl_tree.specs.Model.Nodes.{Nodes}
use Rattle.redl_tree.specs.Model.View.{Element}
use Rattle.redl_edits.specs.Edits.{edits, package_edits, pairs}
use Rattle.redl_edits.specs.Facts.{Facts, facts_of}

pub edits-length : (facts : Facts) (roots : List Element) → length (edits facts roots) ≡ length facts.revisions
edits-length facts roots =
    let count = length facts.revisions + 1 in
    let size : length (least_numbers_of count (pairs facts roots)) ≡ count =
    length-least_numbers_of count (pairs facts roots) (range_with_len 0 count) (length-range_with_len 0 count) in
    length-drop 1 (least_numbers_of count (pairs facts roots)) ∙ omega (arith, size)

pub package_edits-length : (nodes : Nodes) (revisions : List Revision) → length (package_edits nodes revisions) ≡ length revisions
package_edits-length nodes revisions = edits-length (facts_of (stories nodes) revisions) (stories nodes)
