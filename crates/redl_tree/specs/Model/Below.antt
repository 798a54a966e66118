-- How deep nodes are, by which a walk down the kids of an element is seen to end.
use Rattle.std.specs.Prelude.{◌<◌, List}
use denote.Param.Weighed.{most}
use Rattle.redl_tree.specs.declared.node.Node.{Node, size-Node}
use Rattle.redl_tree.specs.declared.node.Elem.{Elem, size-Elem}
use Rattle.redl_tree.specs.declared.node.Body.{Body, size-Body}

-- none of the nodes is as deep as the element
abbrev pub AreBelow : List Node → Elem → Type 0
AreBelow nodes elem = most (λ node. size-Node node) nodes < size-Elem elem

-- none of the nodes is as deep as what the element holds
abbrev pub AreWithin : List Node → Body → Type 0
AreWithin nodes body = most (λ node. size-Node node) nodes < size-Body body
