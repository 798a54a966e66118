-- What contracts see of an editor: the package in the original, and what is said of its revisions at present.
use Rattle.std.specs.Prelude.{ℕ, ◌≡◌, List, [], map, slice_get, Option, Some, None, true, refl}
use Rattle.std.specs.Coded.{Coded, code_by, coded_list, coded×}
use Rattle.redl_opc.specs.Code.{nodes_code}
use Rattle.redl_opc.specs.Shape.{refusal}
use Rattle.redl_tree.specs.Decisions.Packages.{roots_are_plain, stories}
use Rattle.redl_tree.specs.Leaves.Leaf.{leaves}
use Rattle.redl_tree.specs.Leaves.Present.{present_leaf}
use Rattle.redl_tree.specs.Model.Nodes.{Tag, Nodes}
use Rattle.redl_tree.specs.Model.View.{Element}
use Rattle.redl_tree.specs.Revisions.Markers.{Value}
use Rattle.redl_tree.specs.Revisions.Numbers.{IsIndexed}
use Rattle.redl_tree.specs.declared.kinds.Say.{Say}
use Rattle.redl_tree.specs.declared.node.Node.{Node}
use Rattle.redl_editor.specs.Kept.{AreKept, count_of}
use Rattle.redl_editor.specs.Parts.{story_parts}
use Rattle.redl_editor.specs.Stories.{original_package}
use Rattle.redl_editor.specs.declared.story.Story.{Story}
use Rattle.redl_editor.specs.declared.table.Table.{Table}

-- the nodes of the package, and the say of each revision
pub record Document : Type 0 where
  pub nodes : Nodes
  pub says : List Say

-- a code of `Document`, with which a proof distinguishes two of them
abbrev pub document_code : Coded Tag → Coded Say → Coded Document
document_code tag say =
    code_by (Nodes × List Say) (coded× (nodes_code tag) (coded_list say)) (λ document. (document.nodes, document.says))
    (λ code. record { nodes = code.0; says = code.1 }) (λ _. refl)

-- the revisions of a package have their numbers, by the values of its attributes
pub record IsNumbered (nodes : Nodes) : Type 0 where
  pub value : Value
  pub indexed : IsIndexed value nodes

-- what is kept is that of a numbered package under these says, and its parts with these numbers are the stories
pub record IsConsistent (nodes : List Node) (taken : List Story) (tables : List Table) (says : List Say) (numbers : List ℕ) : Type 0 where
  pub shape : refusal (original_package nodes taken) ≡ None
  pub numbered : IsNumbered (original_package nodes taken)
  pub plain : roots_are_plain [] (original_package nodes taken) ≡ true
  pub kept : AreKept says (stories (original_package nodes taken)) taken tables
  pub parts : numbers ≡ story_parts (original_package nodes taken)

-- ---- leaves by their numbers

-- the present leaf of a story with this number
abbrev pub leaf_of : List Say → Option Element → ℕ → Option Nodes
leaf_of says None place = None
leaf_of says (Some story) place = slice_get (map (present_leaf says) (leaves story)) place

-- the same in a document, where stories are numbered in the order of the package
abbrev pub count_at : Document → ℕ → ℕ
count_at document story = count_of (slice_get (stories document.nodes) story)

abbrev pub present_at : Document → ℕ → ℕ → Option Nodes
present_at document story place = leaf_of document.says (slice_get (stories document.nodes) story) place
