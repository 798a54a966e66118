-- The sample has the shape of a package and keeps the nine rules of structure.
use lib.Utf8.{encode}
use Rattle.std.proofs.Common.{◌≡◌, ◌+◌, ◌<◌, ◌≤◌, ◌^◌, ℕ, zero, suc, Bool, true, false, List, [], ◌∷◌, codes, decimal, None, refl, ◌∙◌, arith}
use Rattle.std.specs.List.{list_all}
use Rattle.redl_grammar.specs.Characters.{is_name_start, is_name_character}
use Rattle.redl_grammar.specs.Names.{are_distinct, may_follow, may_start}
use Rattle.redl_opc.specs.Shape.{refusal}
use Rattle.redl_rules.specs.Attributes.{broken_rule, declares, has_id}
use Rattle.redl_sound.proofs.Sampled.Blocks.{Form, Plain, Insertion, Deletion, Mark, Both, Properties, Table, Move, id, by, named, shape_of, form_of, blocks_nodes}
use Rattle.redl_sound.proofs.Sampled.Legal.{digits_safe, is_safe, is_tag, legal_tag}
use Rattle.redl_sound.proofs.Sampled.Outside.{body_tag, document_tag, nothing_listed, part_listed}
use Rattle.redl_sound.proofs.Sampled.Readings.{body, digits_of_number, last, sample_nodes}
use Rattle.redl_sound.proofs.Sampled.Shapes.{Field, nodes_of, tail_of}
use Rattle.redl_tree.specs.Model.Nodes.{Tag, Nodes, no_nodes, element}
use Rattle.redl_tree.specs.Roles.Kinds.{is_change}
use Rattle.redl_tree.specs.Roles.Names.{is}
use Rattle.redl_tree.specs.Roles.Places.{role}
use Rattle.redl_tree.specs.Rules.Tests.{Test, everywhere, only_last}
use Rattle.redl_tree.specs.Rules.Sound.{test_1, test_2, test_3, test_4, test_5, test_6, test_7, test_8, test_9}

-- ---- the shape

pub shape_is : (number : ℕ) → refusal (sample_nodes number) ≡ None
shape_is number = rw part_listed refl

-- ---- blocks in the body

-- the ancestors of a block
abbrev ancestors : List Tag
ancestors = body_tag ∷ document_tag ∷ []

-- the rules that ask nothing of attributes
form_keeps : (form : Form) (digits : List ℕ) (rest : Nodes)
    → (everywhere test_1 ancestors (nodes_of digits (shape_of form) rest) ≡ everywhere test_1 ancestors rest)
    × (everywhere test_2 ancestors (nodes_of digits (shape_of form) rest) ≡ everywhere test_2 ancestors rest)
    × (everywhere test_3 ancestors (nodes_of digits (shape_of form) rest) ≡ everywhere test_3 ancestors rest)
    × (everywhere test_4 ancestors (nodes_of digits (shape_of form) rest) ≡ everywhere test_4 ancestors rest)
    × (everywhere test_5 ancestors (nodes_of digits (shape_of form) rest) ≡ everywhere test_5 ancestors rest)
    × (everywhere test_6 ancestors (nodes_of digits (shape_of form) rest) ≡ everywhere test_6 ancestors rest)
    × (everywhere test_8 ancestors (nodes_of digits (shape_of form) rest) ≡ everywhere test_8 ancestors rest)
form_keeps Plain digits rest = (refl, refl, refl, refl, refl, refl, refl)
form_keeps Insertion digits rest = (refl, refl, refl, refl, refl, refl, refl)
form_keeps Deletion digits rest = (refl, refl, refl, refl, refl, refl, refl)
form_keeps Mark digits rest = (refl, refl, refl, refl, refl, refl, refl)
form_keeps Both digits rest = (refl, refl, refl, refl, refl, refl, refl)
form_keeps Properties digits rest = (refl, refl, refl, refl, refl, refl, refl)
form_keeps Table digits rest = (refl, refl, refl, refl, refl, refl, refl)
form_keeps Move digits rest = (refl, refl, refl, refl, refl, refl, refl)

-- a marker holds no element, whether it has an id or not
form_keeps_7 : (f : List ℕ → Bool) (form : Form) (digits : List ℕ) (rest : Nodes)
    → f (tail_of digits named) ≡ true → f (tail_of digits (id ∷ [])) ≡ true
    → everywhere (test_7 f) ancestors (nodes_of digits (shape_of form) rest) ≡ everywhere (test_7 f) ancestors rest
form_keeps_7 f Plain digits rest move end = refl
form_keeps_7 f Insertion digits rest move end = refl
form_keeps_7 f Deletion digits rest move end = refl
form_keeps_7 f Mark digits rest move end = refl
form_keeps_7 f Both digits rest move end = refl
form_keeps_7 f Properties digits rest move end = refl
form_keeps_7 f Table digits rest move end = refl
form_keeps_7 f Move digits rest move end = rw (move, end) refl

-- no tag declares a namespace
form_keeps_9 : (f : List ℕ → Bool) (form : Form) (digits : List ℕ) (rest : Nodes)
    → f [] ≡ false → f (tail_of digits (by (codes "Ann"))) ≡ false → f (tail_of digits (by (codes "Bob"))) ≡ false → f (tail_of digits (by (codes "Cy"))) ≡ false
    → everywhere (test_9 f) ancestors (nodes_of digits (shape_of form) rest) ≡ everywhere (test_9 f) ancestors rest
form_keeps_9 f Plain digits rest none ann bob cy = rw none refl
form_keeps_9 f Insertion digits rest none ann bob cy = rw (none, ann) refl
form_keeps_9 f Deletion digits rest none ann bob cy = rw (none, bob) refl
form_keeps_9 f Mark digits rest none ann bob cy = rw none refl
form_keeps_9 f Both digits rest none ann bob cy = rw (none, ann, bob) refl
form_keeps_9 f Properties digits rest none ann bob cy = rw (none, cy) refl
form_keeps_9 f Table digits rest none ann bob cy = rw none refl
form_keeps_9 f Move digits rest none ann bob cy = rw (none, cy) refl

-- no block is a change or a section's properties
form_ends : (form : Form) (digits : List ℕ) (rest : Nodes)
    → (only_last (λ kid. is_change (role ancestors kid)) (nodes_of digits (shape_of form) rest) ≡ only_last (λ kid. is_change (role ancestors kid)) rest)
    × (only_last (is "sectPr") (nodes_of digits (shape_of form) rest) ≡ only_last (is "sectPr") rest)
form_ends Plain digits rest = (refl, refl)
form_ends Insertion digits rest = (refl, refl)
form_ends Deletion digits rest = (refl, refl)
form_ends Mark digits rest = (refl, refl)
form_ends Both digits rest = (refl, refl)
form_ends Properties digits rest = (refl, refl)
form_ends Table digits rest = (refl, refl)
form_ends Move digits rest = (refl, refl)

-- ---- all blocks

-- nodes with blocks before them, where no block changes what is asked
blocks_keep : (asked : Nodes → Bool)
    → ((form : Form) (digits : List ℕ) (rest : Nodes) → list_all is_safe digits ≡ true → asked (nodes_of digits (shape_of form) rest) ≡ asked rest)
    → (from size : ℕ) → from + size < 2 ^ 64 → (rest : Nodes) → asked (blocks_nodes from size rest) ≡ asked rest
blocks_keep asked step from zero small rest = refl
blocks_keep asked step from (suc size) small rest =
    step (form_of from) (decimal from) (blocks_nodes (from + 1) size rest) (digits_safe (decimal from) (digits_of_number from (omega (arith, small))))
    ∙ blocks_keep asked step (from + 1) size (omega (arith, small)) rest

-- what is asked of the attributes of blocks
has_id_in : (digits local : List ℕ) (fields : List Field) → list_all is_safe digits ≡ true → is_tag local (id ∷ fields) ≡ true → has_id (tail_of digits (id ∷ fields)) ≡ true
has_id_in digits local fields safe legal = rw (legal_tag digits local (id ∷ fields) safe legal).listed refl

declares_none : (digits local author : List ℕ) → list_all is_safe digits ≡ true → is_tag local (by author) ≡ true → declares (tail_of digits (by author)) ≡ false
declares_none digits local author safe legal = rw (legal_tag digits local (by author) safe legal).listed refl

-- the tests of attributes
named_is_tag : is_tag (codes "moveTo") named ≡ true
unfolding may_start may_follow is_name_start is_name_character encode are_distinct
named_is_tag = refl

id_is_tag : is_tag (codes "moveTo") (id ∷ []) ≡ true
unfolding may_start may_follow is_name_start is_name_character encode are_distinct
id_is_tag = refl

ann_is_tag : is_tag (codes "ins") (by (codes "Ann")) ≡ true
unfolding may_start may_follow is_name_start is_name_character encode are_distinct
ann_is_tag = refl

bob_is_tag : is_tag (codes "ins") (by (codes "Bob")) ≡ true
unfolding may_start may_follow is_name_start is_name_character encode are_distinct
bob_is_tag = refl

cy_is_tag : is_tag (codes "ins") (by (codes "Cy")) ≡ true
unfolding may_start may_follow is_name_start is_name_character encode are_distinct
cy_is_tag = refl

nothing_declared : declares [] ≡ false
nothing_declared = rw nothing_listed refl

-- ---- the rules

-- a test holds of the body
abbrev Keeps : Test → ℕ → Type 0
Keeps test number = everywhere test ancestors (body number) ≡ true

module _ (number : ℕ) (few : number ≤ 20000) where
  keeps : (test : Test) → ((form : Form) (digits : List ℕ) (rest : Nodes) → list_all is_safe digits ≡ true
      → everywhere test ancestors (nodes_of digits (shape_of form) rest) ≡ everywhere test ancestors rest)
      → everywhere test ancestors last ≡ true → Keeps test number
  keeps test step end = blocks_keep (everywhere test ancestors) step 0 number (omega (arith, few)) last ∙ end

  keeps_1 : Keeps test_1 number
  keeps_1 = keeps test_1 (λ form digits rest safe. (form_keeps form digits rest).0) refl

  keeps_2 : Keeps test_2 number
  keeps_2 = keeps test_2 (λ form digits rest safe. (form_keeps form digits rest).1) refl

  keeps_3 : Keeps test_3 number
  keeps_3 = keeps test_3 (λ form digits rest safe. (form_keeps form digits rest).2) refl

  keeps_4 : Keeps test_4 number
  keeps_4 = keeps test_4 (λ form digits rest safe. (form_keeps form digits rest).3) refl

  keeps_5 : Keeps test_5 number
  keeps_5 = keeps test_5 (λ form digits rest safe. (form_keeps form digits rest).4) refl

  keeps_6 : Keeps test_6 number
  keeps_6 = keeps test_6 (λ form digits rest safe. (form_keeps form digits rest).5) refl

  keeps_7 : Keeps (test_7 has_id) number
  keeps_7 = keeps (test_7 has_id)
      (λ form digits rest safe. form_keeps_7 has_id form digits rest
      (has_id_in digits (codes "moveTo") ((codes "author", (codes "Cy", false)) ∷ (codes "name", (codes "m", true)) ∷ []) safe named_is_tag) (has_id_in digits (codes "moveTo") [] safe id_is_tag)) refl

  keeps_8 : Keeps test_8 number
  keeps_8 = keeps test_8 (λ form digits rest safe. (form_keeps form digits rest).6) refl

  keeps_9 : Keeps (test_9 declares) number
  keeps_9 = keeps (test_9 declares)
      (λ form digits rest safe. form_keeps_9 declares form digits rest nothing_declared
      (declares_none digits (codes "ins") (codes "Ann") safe ann_is_tag) (declares_none digits (codes "ins") (codes "Bob") safe bob_is_tag)
      (declares_none digits (codes "ins") (codes "Cy") safe cy_is_tag)) (rw nothing_declared refl)

  no_change : only_last (λ kid. is_change (role ancestors kid)) (body number) ≡ true
  no_change = blocks_keep (only_last (λ kid. is_change (role ancestors kid))) (λ form digits rest safe. (form_ends form digits rest).0) 0 number (omega (arith, few)) last ∙ refl

  no_section : only_last (is "sectPr") (body number) ≡ true
  no_section = blocks_keep (only_last (is "sectPr")) (λ form digits rest safe. (form_ends form digits rest).1) 0 number (omega (arith, few)) last ∙ refl

  -- the story is the document
  abbrev story : Nodes
  story = element document_tag (element body_tag (body number) no_nodes) no_nodes

  holds_4 : everywhere test_4 [] story ≡ true
  holds_4 = rw (no_change, keeps_4) refl

  holds_6 : everywhere test_6 [] story ≡ true
  holds_6 = rw (no_section, keeps_6) refl

  pub sound_is : broken_rule (sample_nodes number) ≡ None
  sound_is = rw (keeps_1, keeps_2, keeps_3, holds_4, keeps_5, holds_6, keeps_7, keeps_8, keeps_9) refl
