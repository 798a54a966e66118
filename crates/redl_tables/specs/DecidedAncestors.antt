-- What a walk over a story knows of the ancestors of some nodes. `ancestors` is the list of their tags, the nearest first.
use Rattle.std.specs.Prelude.{List, Bool, ◌&&◌, ◌||◌, not}
use Rattle.std.specs.List.{list_any}
use Rattle.redl_tree.specs.Model.Nodes.{Tag}
use Rattle.redl_tree.specs.Roles.Kinds.{is_old_content, is_free, is_leave}
use Rattle.redl_tree.specs.Roles.Sites.{site_of, site_inside}
use Rattle.redl_tree.specs.Decisions.Fates.{fate_of}
use Rattle.redl_tree.specs.declared.kinds.Say.{Say}
use Rattle.redl_tables.specs.declared.decided_ancestors.DecidedAncestors.{DecidedAncestors}

-- a content revision of old matter that is freed
abbrev pub frees : List Say → Tag → Bool
frees says tag = is_old_content tag.kind && is_free (fate_of says tag)

-- a content revision of old matter that is left
abbrev pub leaves : List Say → Tag → Bool
leaves says tag = is_old_content tag.kind && is_leave (fate_of says tag)

-- the summary of the ancestors under these says
abbrev pub ancestors_of : List Say → List Tag → DecidedAncestors
ancestors_of says ancestors = record {
  site = site_of ancestors;
  freed = list_any (frees says) ancestors;
  left = list_any (leaves says) ancestors;
}

-- the same for the kids of an element
abbrev pub decided_inside : List Say → Tag → DecidedAncestors → DecidedAncestors
decided_inside says tag summary = record {
  site = site_inside tag summary.site;
  freed = frees says tag || summary.freed;
  left = leaves says tag || summary.left;
}

-- deleted text is live again there
abbrev pub revives : DecidedAncestors → Bool
revives summary = not summary.site.quiet && summary.freed && not summary.left
