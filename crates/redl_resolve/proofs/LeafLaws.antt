-- Kids among which no element is: they stay as they are, and tell nothing.
use Prim.Native.String.{String}
use Rattle.std.proofs.Common.{◌≡◌, refl, ap, List, [], false, true≢false, None}
use Rattle.redl_tree.specs.Model.Nodes.{Tag, Nodes, no_nodes, bytes, element}
use Rattle.redl_tree.specs.Model.Kids.{has_element}
use Rattle.redl_tree.specs.Decisions.Pass.{pass}
use Rattle.redl_tree.specs.Decisions.Restored.{rejected}
use Rattle.redl_tree.specs.Decisions.Tables.{own}
use Rattle.redl_tree.specs.declared.kinds.Say.{Say}
use Rattle.redl_tree.specs.declared.lists.Reach.{Reach}
use Rattle.redl_tables.specs.Asked.{answer}
use Rattle.redl_tables.specs.Owners.{unit_name, unit_goes, found_of}
use Rattle.redl_tables.specs.declared.owned.Finding.TheVariants.{Nothing}
use Rattle.redl_tables.specs.declared.questions.Question.{Question}

pub pass-leaf : (says : List Say) (ancestors : List Tag) (nodes : Nodes) → has_element nodes ≡ false → pass says ancestors nodes ≡ nodes
pass-leaf says ancestors no_nodes leaf = refl
pass-leaf says ancestors (bytes b rest) leaf = ap (bytes b) (pass-leaf says ancestors rest leaf)
pass-leaf says ancestors (element tag kids rest) leaf = absurd (true≢false leaf)

pub rejected-leaf : (says : List Say) (nodes : Nodes) → has_element nodes ≡ false → rejected says nodes ≡ None
rejected-leaf says no_nodes leaf = refl
rejected-leaf says (bytes b rest) leaf = rejected-leaf says rest leaf
rejected-leaf says (element tag kids rest) leaf = absurd (true≢false leaf)

own-leaf : (name : String) (reach : Reach) (nodes : Nodes) → has_element nodes ≡ false → own name reach nodes ≡ []
own-leaf name reach no_nodes leaf = refl
own-leaf name reach (bytes b rest) leaf = own-leaf name reach rest leaf
own-leaf name reach (element tag kids rest) leaf = absurd (true≢false leaf)

pub answer-leaf : (says : List Say) (here : Question) (nodes : Nodes) → has_element nodes ≡ false → answer says here nodes ≡ Nothing
answer-leaf says here nodes leaf = ap (found_of (unit_goes here.unit says)) (own-leaf (unit_name here.unit) here.reach nodes leaf)
