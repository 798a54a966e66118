-- The same of one node.
use Rattle.std.specs.Prelude.{ℕ, Bool, List, [], ◌++◌}
use Rattle.redl_classes.specs.declared.pair.Pair.{Pair}
use Rattle.redl_index.specs.declared.revision.Revision.{Revision}
use Rattle.redl_spans.specs.Units.{holds_text}
use Rattle.redl_tree.specs.Model.IdleTexts.{idle_nodes}
use Rattle.redl_tree.specs.Model.Nodes.{Nodes, Item, bytes_item, element_item, idle_item}
use Rattle.redl_edits.specs.Formats.{formats, own_format}
use Rattle.redl_edits.specs.Passed.{end_bytes, if_open, passed, start_bytes, text_bytes}
use Rattle.redl_edits.specs.Tabled.{own_tabled, tabled_in}
use Rattle.redl_edits.specs.Tables.{in_table, table_revisions}
use Rattle.redl_edits.specs.declared.formats.Format.{Format}

-- no idle element is in a revision or a table
abbrev pub item_table_revisions : Item → List ℕ
item_table_revisions (bytes_item b) = []
item_table_revisions (element_item tag kids) = in_table tag (table_revisions kids)
item_table_revisions (idle_item t) = []

abbrev pub item_tabled : List Revision → Item → List Pair
item_tabled revisions (bytes_item b) = []
item_tabled revisions (element_item tag kids) = own_tabled revisions tag kids ++ tabled_in revisions kids
item_tabled revisions (idle_item t) = []

-- no idle element is a change of properties
abbrev pub item_own_formats : Nodes → Item → List Format
item_own_formats present (bytes_item b) = []
item_own_formats present (element_item tag kids) = own_format present kids tag.rev tag.kind
item_own_formats present (idle_item t) = []

-- those below one node
abbrev pub item_kids_formats : Item → List Format
item_kids_formats (bytes_item b) = []
item_kids_formats (element_item tag kids) = formats kids kids
item_kids_formats (idle_item t) = []

abbrev pub item_passed : Bool → Item → List ℕ
item_passed in_text (bytes_item b) = text_bytes in_text b
item_passed in_text (element_item tag kids) = if_open tag (start_bytes tag kids ++ (passed (holds_text tag) kids ++ end_bytes tag))
item_passed in_text (idle_item t) = passed in_text (idle_nodes t)
