-- Rows by hand: the leaves of small lists of properties, the names of attributes, and which leaves are kept.
use Rattle.std.proofs.Common.{◌≡◌, [], ◌∷◌, codes, false, true, None, Some, refl}
use Rattle.redl_properties.specs.declared.attribute.Leaf.{Leaf}
use Rattle.redl_tree.specs.Model.Nodes.{no_nodes, ◌⊕◌}
use Rattle.redl_tree.specs.declared.kinds.Prop.TheVariants.{Run, Para, Cell}
use Rattle.redl_tree.specs.declared.kinds.Space.TheVariants.{Other}
use Rattle.redl_tree.proofs.Model.Build.{opened}
use Rattle.redl_changed.specs.Changed.{changed_between, not_compared}
use Rattle.redl_changed.specs.Kept.{kept_after, nothing_kept}
use Rattle.redl_changed.specs.Leaves.{leaf_of, leaves_in}
use Rattle.redl_changed.specs.Paths.{attribute_name, name_in_path}

row_leaf : leaves_in Run [] (opened "vanish" no_nodes) ≡ leaf_of (codes "vanish") [] ∷ []
row_leaf = refl

-- a leaf in an element is known by both
row_nested : leaves_in Para [] (opened "pBdr" (opened "top" no_nodes ⊕ opened "left" no_nodes)) ≡ leaf_of (codes "pBdr/top") [] ∷ leaf_of (codes "pBdr/left") [] ∷ []
row_nested = refl

-- the properties of a paragraph's mark and of its section are left out of those of a paragraph
row_left_out : leaves_in Para [] (opened "rPr" (opened "b" no_nodes) ⊕ (opened "sectPr" no_nodes ⊕ opened "jc" no_nodes)) ≡ leaf_of (codes "jc") [] ∷ []
row_left_out = refl

-- marks of revisions are left out, at any depth
row_marks : leaves_in Para [] (opened "numPr" (opened "numId" no_nodes ⊕ opened "ins" no_nodes)) ≡ leaf_of (codes "numPr/numId") [] ∷ []
row_marks = refl

-- a change is left out, with what it holds
row_change : leaves_in Run [] (opened "b" no_nodes ⊕ opened "rPrChange" (opened "rPr" (opened "i" no_nodes))) ≡ leaf_of (codes "b") [] ∷ []
row_change = refl

row_side : leaves_in Cell [] (opened "tcBorders" (opened "start" no_nodes)) ≡ leaf_of (codes "tcBorders/left") [] ∷ []
row_side = refl

row_foreign : name_in_path Other (codes "w14") (codes "start") ≡ codes "w14:start"
row_foreign = refl

row_indent : attribute_name (codes "ind") (codes "endChars") ≡ codes "rightChars"
row_indent = refl

row_other : attribute_name (codes "pgNumType") (codes "start") ≡ codes "start"
row_other = refl

-- ---- which leaves are kept

-- a leaf without attributes
abbrev bare : Leaf
bare = record { path = codes "b"; attributes = [] }

-- a leaf that is too large isn't kept, and those behind it are
row_too_large : kept_after nothing_kept (None ∷ Some bare ∷ []) ≡ record { leaves = bare ∷ []; size = 1; is_cut = true }
row_too_large = refl

-- the last leaf that has room
row_last : kept_after (record { leaves = []; size = 499; is_cut = false }) (Some bare ∷ []) ≡ record { leaves = bare ∷ []; size = 500; is_cut = false }
row_last = refl

row_no_room : kept_after (record { leaves = []; size = 500; is_cut = false }) (Some bare ∷ []) ≡ record { leaves = []; size = 500; is_cut = true }
row_no_room = refl

-- where a leaf isn't kept, nothing is said of those that are
row_cut : changed_between (kept_after nothing_kept (Some bare ∷ None ∷ [])) nothing_kept ≡ not_compared
row_cut = refl

row_former_cut : changed_between nothing_kept (kept_after nothing_kept (None ∷ [])) ≡ not_compared
row_former_cut = refl
