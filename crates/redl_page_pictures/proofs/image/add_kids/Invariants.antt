use Rattle.std.proofs.Common.{◌≡◌, ◌++◌, drop}
use Rattle.redl_tree.specs.Model.View.{nodes_of, tag_of}
use Rattle.redl_page_pictures.specs.Pictures.{image_in}
use Rattle.redl_page_pictures.proofs.ItemLaws.{read_all}
use Rattle.redl_page_pictures.proofs.image.add_kids.Given as goal

-- what was read so far, and then what is read of the nodes that are left
abbrev pub invariant-loop-node : goal.invariant-loop-node
invariant-loop-node l = l.images.items ++ read_all (image_in (tag_of l.part)) (nodes_of (drop l.node-index l.kids)) ≡ l.initial.images.items ++ read_all (image_in (tag_of l.part)) (nodes_of l.kids)
