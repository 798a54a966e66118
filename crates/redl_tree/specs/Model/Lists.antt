-- A list of nodes as plain data, where every text is the list of its bytes.
use Rattle.std.specs.Prelude.{ℕ, List}
use Rattle.redl_tree.specs.declared.kinds.Space.{Space}
use Rattle.redl_tree.specs.declared.kinds.Kind.{Kind}

-- how an element is closed: by `/>` in its start tag, or by an end tag, which has this white space after the name
pub data Close : Type 0 where
  Empty : Close
  End : List ℕ → Close

-- all of an element but its kids
pub record Tag : Type 0 where
  pub prefix : List ℕ
  pub local : List ℕ
  pub space : Space
  pub tail : List ℕ
  pub close : Close
  pub kind : Kind
  pub rev : ℕ

-- A list of nodes: none, or a first one and the nodes after it.
-- The first one is a bytes node, or an element with its tag and its kids.
pub data Nodes : Type 0 where
  no_nodes : Nodes
  bytes : List ℕ → Nodes → Nodes
  element : Tag → Nodes → Nodes → Nodes

-- two lists of nodes, one after the other
infixr 12 ◌⊕◌
abbrev pub ◌⊕◌ : Nodes → Nodes → Nodes
no_nodes ⊕ ys = ys
bytes b rest ⊕ ys = bytes b (rest ⊕ ys)
element tag kids rest ⊕ ys = element tag kids (rest ⊕ ys)
