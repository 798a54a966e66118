-- Worked rows: the leaves of documents, their sizes and paths, what they are under says, and what setting says may cost.
use Rattle.std.proofs.Common.{◌≡◌, ℕ, List, [], ◌∷◌, ◌==◌, Bool, map, codes, refl}
use Rattle.redl_tree.specs.Model.Nodes.{Nodes, ◌⊕◌}
use Rattle.redl_tree.specs.Model.Text.{text}
use Rattle.redl_tree.specs.Decisions.Packages.{changed_package, pass_package}
use Rattle.redl_tree.specs.Leaves.Containers.{opens, opens_outer}
use Rattle.redl_tree.specs.Leaves.Leaf.{LeafPath, leaves, outer_leaves, leaf_size, path_length}
use Rattle.redl_tree.specs.Leaves.Present.{present_leaf}
use Rattle.redl_tree.specs.Leaves.Rebuilt.{rebuild_rule}
use Rattle.redl_tree.specs.Leaves.Settings.{set_each, is_among, setting_cost}
use Rattle.redl_tree.specs.declared.kinds.Say.{Say}
use Rattle.redl_tree.specs.declared.kinds.Say.TheVariants.{Keep, Accept, Reject}
use Rattle.redl_laws.proofs.Rows.Documents.{e, indexed, story}
use Rattle.redl_laws.proofs.Rows.Bodies.{three_paragraphs, row_2, row_7, row_9, row_10}
use Rattle.redl_laws.proofs.Rows.Tails.{value}
use Rattle.redl_laws.proofs.Leaves.Packages.{package-rebuilt, package-rebuilt_outer}

-- ---- what is asked of a document

-- the leaves of a document
abbrev leaves_of : Nodes → List LeafPath
leaves_of body = leaves (story (indexed body))

abbrev leaf_texts : Nodes → List (List ℕ)
leaf_texts body = map (λ path. text path.leaf.nodes) (leaves_of body)

abbrev present_texts : List Say → Nodes → List (List ℕ)
present_texts says body = map (λ path. text (present_leaf says path)) (leaves_of body)

abbrev leaf_sizes : Nodes → List ℕ
leaf_sizes body = map (λ path. leaf_size path.leaf) (leaves_of body)

abbrev path_lengths : Nodes → List ℕ
path_lengths body = map path_length (leaves_of body)

abbrev cost_of : (ℕ → Bool) → Nodes → ℕ
cost_of is_set body = setting_cost is_set (leaves_of body)

-- the same where the outer containers alone are opened
abbrev outer_leaves_of : Nodes → List LeafPath
outer_leaves_of body = outer_leaves (story (indexed body))

abbrev outer_sizes : Nodes → List ℕ
outer_sizes body = map (λ path. leaf_size path.leaf) (outer_leaves_of body)

abbrev outer_path_lengths : Nodes → List ℕ
outer_path_lengths body = map path_length (outer_leaves_of body)

abbrev outer_texts : List Say → Nodes → List (List ℕ)
outer_texts says body = map (λ path. text (present_leaf says path)) (outer_leaves_of body)

abbrev outer_cost_of : (ℕ → Bool) → Nodes → ℕ
outer_cost_of is_set body = setting_cost is_set (outer_leaves_of body)

-- ---- leaves

three_paragraphs_leaves :
    leaf_texts three_paragraphs
    ≡ codes "<w:p><w:pPr><w:rPr><w:del w:id=\"1\" w:author=\"Ann\" w:date=\"2024-05-06T07:08:09Z\"/></w:rPr></w:pPr><w:r><w:t>a</w:t></w:r></w:p><w:bookmarkStart w:id=\"5\" w:name=\"k\"/><w:p><w:pPr><w:rPr><w:ins w:id=\"2\" w:author=\"Bob\" w:date=\"2024-05-06T09:08:10+02:00\"/></w:rPr></w:pPr><w:r><w:t>b</w:t></w:r></w:p><w:p><w:pPr><w:jc w:val=\"right\"/></w:pPr></w:p>" ∷ []
three_paragraphs_leaves = refl

row_9_leaves :
    leaf_texts row_9
    ≡ codes "<w:trPr><w:ins w:id=\"1\" w:author=\"Ann\" w:date=\"2024-05-06T07:08:09Z\"/></w:trPr>" ∷ codes "<w:tcPr><w:cellDel w:id=\"2\" w:author=\"Bob\" w:date=\"2024-05-06T09:08:10+02:00\"/></w:tcPr>" ∷ codes "<w:p/>" ∷ codes "<w:p/>" ∷ []
row_9_leaves = refl

row_9_second_accepted :
    present_texts (Keep ∷ Accept ∷ []) row_9
    ≡ codes "" ∷ codes "" ∷ codes "" ∷ codes "<w:p/>" ∷ []
row_9_second_accepted = refl

row_9_rejected :
    present_texts (Reject ∷ Accept ∷ []) row_9
    ≡ codes "" ∷ codes "" ∷ codes "" ∷ codes "<w:p/>" ∷ []
row_9_rejected = refl

row_9_first_rejected :
    present_texts (Reject ∷ Reject ∷ []) row_9
    ≡ codes "" ∷ codes "" ∷ codes "" ∷ codes "<w:p/>" ∷ []
row_9_first_rejected = refl

row_9_second_rejected :
    present_texts (Keep ∷ Reject ∷ []) row_9
    ≡ codes "<w:trPr><w:ins w:id=\"1\" w:author=\"Ann\" w:date=\"2024-05-06T07:08:09Z\"/></w:trPr>" ∷ codes "<w:tcPr></w:tcPr>" ∷ codes "<w:p/>" ∷ codes "<w:p/>" ∷ []
row_9_second_rejected = refl

row_9_sizes : leaf_sizes row_9 ≡ 2 ∷ 2 ∷ 1 ∷ 1 ∷ []
row_9_sizes = refl

row_9_path_lengths : path_lengths row_9 ≡ 4 ∷ 5 ∷ 5 ∷ 2 ∷ []
row_9_path_lengths = refl

row_10_leaves :
    present_texts (Accept ∷ []) row_10
    ≡ codes "<w:p></w:p>" ∷ codes "<w:p><w:r><w:t>f</w:t></w:r></w:p>" ∷ []
row_10_leaves = refl

row_10_sizes : leaf_sizes row_10 ≡ 7 ∷ 7 ∷ []
row_10_sizes = refl

row_10_path_lengths : path_lengths row_10 ≡ 5 ∷ 2 ∷ []
row_10_path_lengths = refl

row_10_outer_sizes : outer_sizes row_10 ≡ 10 ∷ 7 ∷ []
row_10_outer_sizes = refl

row_10_outer_path_lengths : outer_path_lengths row_10 ≡ 2 ∷ 2 ∷ []
row_10_outer_path_lengths = refl

row_10_outer :
    outer_texts (Accept ∷ []) row_10
    ≡ codes "<w:tbl><w:tr><w:tc><w:p></w:p></w:tc></w:tr></w:tbl>" ∷ codes "<w:p><w:r><w:t>f</w:t></w:r></w:p>" ∷ []
row_10_outer = refl

three_paragraphs_leaf_accepted :
    present_texts (Accept ∷ Accept ∷ []) three_paragraphs
    ≡ codes "<w:p><w:pPr><w:rPr></w:rPr></w:pPr><w:r><w:t>a</w:t></w:r><w:bookmarkStart w:id=\"5\" w:name=\"k\"/><w:r><w:t>b</w:t></w:r></w:p><w:p><w:pPr><w:jc w:val=\"right\"/></w:pPr></w:p>" ∷ []
three_paragraphs_leaf_accepted = refl

-- a paragraph that was inserted, and one after it: two leaves
row_2_leaves : present_texts (Accept ∷ []) (row_2 ⊕ e "p") ≡ codes "<w:p><w:r><w:t>a</w:t></w:r></w:p>" ∷ codes "<w:p/>" ∷ []
row_2_leaves = refl

-- ---- costs

row_10_cost : cost_of (λ n. n == 1) row_10 ≡ 42
row_10_cost = refl

row_10_outer_cost : outer_cost_of (λ n. n == 1) row_10 ≡ 33
row_10_outer_cost = refl

row_9_cost : cost_of (λ n. n == 2) row_9 ≡ 22
row_9_cost = refl

-- a leaf that holds two of the revisions that are set is counted once: 27 nodes and a path of 2
three_paragraphs_cost :
    cost_of (is_among (record { rev = 1; say = Accept } ∷ record { rev = 2; say = Reject } ∷ [])) three_paragraphs
    ≡ cost_of (λ n. n == 2) three_paragraphs
three_paragraphs_cost = refl

-- ---- says that are set

set_three :
    set_each (Keep ∷ Keep ∷ Keep ∷ []) (record { rev = 2; say = Accept } ∷ record { rev = 3; say = Reject } ∷ record { rev = 2; say = Reject } ∷ [])
    ≡ Keep ∷ Reject ∷ Reject ∷ []
set_three = refl

-- ---- the law of rebuilding has documents that meet its conditions

rebuilt_7 : (says : List Say) → changed_package (rebuild_rule opens) says (indexed row_7) ≡ pass_package says (indexed row_7)
rebuilt_7 says = package-rebuilt value says (indexed row_7) refl refl

rebuilt_9 : (says : List Say) → changed_package (rebuild_rule opens) says (indexed row_9) ≡ pass_package says (indexed row_9)
rebuilt_9 says = package-rebuilt value says (indexed row_9) refl refl

rebuilt_10 : (says : List Say) → changed_package (rebuild_rule opens_outer) says (indexed row_10) ≡ pass_package says (indexed row_10)
rebuilt_10 says = package-rebuilt_outer value says (indexed row_10) refl refl
