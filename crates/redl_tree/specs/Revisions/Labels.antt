-- Labels: the kind and the number of an element. A text doesn't have them, and nothing but the pass looks at them.
use Rattle.redl_tree.specs.Model.Nodes.{Tag, Nodes, no_nodes, bytes, element}
use Rattle.redl_tree.specs.declared.kinds.Kind.TheVariants.{Plain}

-- a tag without its label
abbrev pub unlabelled_tag : Tag → Tag
unlabelled_tag tag = record tag { kind = Plain; rev = 0 }

-- nodes without the labels of their elements
abbrev pub unlabelled : Nodes → Nodes
unlabelled no_nodes = no_nodes
unlabelled (bytes b rest) = bytes b (unlabelled rest)
unlabelled (element tag kids rest) = element (unlabelled_tag tag) (unlabelled kids) (unlabelled rest)
