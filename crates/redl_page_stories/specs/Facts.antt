-- What a page takes of a package besides the nodes of a story: its revisions, the signs of its notes, and what its styles hide.
use Rattle.std.specs.Prelude.{List}
use Rattle.redl_tree.specs.Model.Nodes.{Nodes}
use Rattle.redl_index.specs.declared.revision.Revision.{Revision}
use Rattle.redl_places.specs.Places.{Signs, package_signs}
use Rattle.redl_hidden.specs.Styles.{HiddenStyles, package_hidden}

pub record Facts : Type 0 where
  pub revisions : List Revision
  pub signs : Signs
  pub hidden : HiddenStyles

-- those of a package with these nodes and these revisions
abbrev pub package_facts : List Revision → Nodes → Facts
package_facts revisions nodes = record { revisions = revisions; signs = package_signs nodes; hidden = package_hidden nodes }
