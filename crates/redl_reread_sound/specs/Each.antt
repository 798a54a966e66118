-- What holds of each tag in the scope of the tags round it, of each stretch, and of how each element is closed.
use Rattle.std.specs.Prelude.{ℕ, List}
use Rattle.redl_tree.specs.Model.Nodes.{Tag, Nodes, no_nodes, bytes, element, Close}

-- the first holds of each tag, where its kids stand in what its tail makes of the scope; the second of each stretch; and the third of how
-- each element is closed, by its kids
abbrev pub EachIn : {S : Type 0} → (List ℕ → S → S) → (S → Tag → Type 0) → (List ℕ → Type 0) → (Close → Nodes → Type 0) → S → Nodes → Type 0
EachIn enter P Q C s no_nodes = Unit {0}
EachIn enter P Q C s (bytes b rest) = Q b × EachIn enter P Q C s rest
EachIn enter P Q C s (element tag kids rest) = P s tag × C tag.close kids × EachIn enter P Q C (enter tag.tail s) kids × EachIn enter P Q C s rest
