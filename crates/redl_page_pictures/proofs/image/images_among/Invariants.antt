use Rattle.std.proofs.Common.{◌≡◌, ◌++◌, drop}
use Rattle.redl_tree.specs.Model.View.{nodes_of}
use Rattle.redl_page_pictures.specs.Pictures.{images_of}
use Rattle.redl_page_pictures.proofs.ItemLaws.{read_all}
use Rattle.redl_page_pictures.proofs.image.images_among.Given as goal

-- what was read so far, and then what is read of the nodes that are left
abbrev pub invariant-loop-node : goal.invariant-loop-node
invariant-loop-node l = l.images.items ++ read_all images_of (nodes_of (drop l.node-index l.nodes)) ≡ read_all images_of (nodes_of l.nodes)
