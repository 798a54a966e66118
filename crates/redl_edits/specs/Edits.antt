-- Edits: what one act of an editor made is one edit, whose number is the least one of its revisions (our own rule).
use Rattle.std.specs.Prelude.{ℕ, ◌+◌, List, ◌++◌, drop, length}
use Rattle.redl_classes.specs.Least.{least_numbers_of}
use Rattle.redl_classes.specs.declared.pair.Pair.{Pair}
use Rattle.redl_index.specs.declared.revision.Revision.{Revision}
use Rattle.redl_tree.specs.Decisions.Packages.{stories}
use Rattle.redl_tree.specs.Model.Nodes.{Nodes}
use Rattle.redl_tree.specs.Model.View.{Element}
use Rattle.redl_edits.specs.Beside.{beside_pairs}
use Rattle.redl_edits.specs.Enclosed.{enclosed_pairs}
use Rattle.redl_edits.specs.Facts.{Facts, facts_of}
use Rattle.redl_edits.specs.Formatted.{formatted_pairs}
use Rattle.redl_edits.specs.Tabled.{tabled_pairs}

-- the revisions that belong together, two by two
abbrev pub pairs : Facts → List Element → List Pair
pairs facts roots =
    (beside_pairs facts.revisions facts.spans ++ enclosed_pairs facts.revisions facts.spans)
    ++ (formatted_pairs facts ++ tabled_pairs facts.revisions roots)

-- of each revision the least number of those that it belongs to; number 0 is no revision
abbrev pub edits : Facts → List Element → List ℕ
edits facts roots = drop 1 (least_numbers_of (length facts.revisions + 1) (pairs facts roots))

abbrev pub package_pairs : Nodes → List Revision → List Pair
package_pairs nodes revisions = pairs (facts_of (stories nodes) revisions) (stories nodes)

-- the edit of each of these revisions of a package
abbrev pub package_edits : Nodes → List Revision → List ℕ
package_edits nodes revisions = edits (facts_of (stories nodes) revisions) (stories nodes)
