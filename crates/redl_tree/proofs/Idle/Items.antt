-- The nodes that a list keeps as text are idle, whatever the text.
use Rattle.std.proofs.Common.{◌≡◌, ◌≢◌, ◌∙◌, ℕ, zero, suc, refl, sym, ap, List, Bool, true, false, true≢false, ◌&&◌, ◌==◌, not, codes, if◌then◌else◌}
use Rattle.std.proofs.lemmas.Bool.{and_parts, and_from, eqb-true}
use Rattle.redl_tree.specs.Model.Nodes.{Tag, Nodes, no_nodes, element, ◌⊕◌}
use Rattle.redl_tree.specs.Model.Elements.{elements}
use Rattle.redl_tree.specs.Model.Kids.{has_element, some_element}
use Rattle.redl_tree.specs.Model.Text.{text}
use Rattle.redl_tree.specs.Model.Folds.{nodes_at, nodes_in, Reads}
use Rattle.redl_tree.specs.Model.IdleTexts.{is_idle_text, idle_nodes}
use Rattle.redl_tree.specs.Roles.Names.{of_w}
use Rattle.redl_tree.specs.Roles.Idle.{is_idle}
use Rattle.redl_tree.specs.declared.kinds.Space.TheVariants.{W}
use Rattle.redl_grammar.specs.References.{is_there}
use Rattle.redl_tree.proofs.Model.Laws.{⊕-no_nodes}
use Rattle.redl_tree.proofs.Reading.FoldLaws.{text_of_nodes_in}
use Rattle.redl_tree.proofs.Idle.Lists.{NoneIs, element_there, has_past, some_past}

-- that there is none is false
there : (n : ℕ) → not (n == 0) ≡ true → n ≢ 0
there zero h e = true≢false (sym h)
there (suc n) h e = absurd cc

-- they are, and there is an element
pub nodes_are_idle : (t : List ℕ) → is_idle (idle_nodes t) ≡ true
unfolding idle_nodes
nodes_are_idle t = by (is_idle_text t) refl where
  by : (b : Bool) → is_idle_text t ≡ b → is_idle (if b then nodes_in W t else element (of_w (codes "r")) no_nodes no_nodes) ≡ true
  by true e = (and_parts (is_idle (nodes_in W t)) (not (elements (nodes_in W t) == 0)) (and_parts (is_there (nodes_at W t)) (is_idle (nodes_in W t) && not (elements (nodes_in W t) == 0)) e).1).0
  by false e = refl

-- idle nodes that are kept as text hold an element
pub element_among : (t : List ℕ) → has_element (idle_nodes t) ≡ true
unfolding idle_nodes
element_among t = by (is_idle_text t) refl where
  by : (b : Bool) → is_idle_text t ≡ b → has_element (if b then nodes_in W t else element (of_w (codes "r")) no_nodes no_nodes) ≡ true
  by true e = element_there (nodes_in W t) (there (elements (nodes_in W t)) (and_parts (is_idle (nodes_in W t)) (not (elements (nodes_in W t) == 0)) (and_parts (is_there (nodes_at W t)) (is_idle (nodes_in W t) && not (elements (nodes_in W t) == 0)) e).1).1)
  by false e = refl

-- where they come first, there is an element
pub element_first : (t : List ℕ) (rest : Nodes) → has_element (idle_nodes t ⊕ rest) ≡ true
element_first t rest = has_past (idle_nodes t) rest (element_among t)

-- none of them passes a test that idle elements don't pass
pub none_idle : (test : Tag → Bool) → NoneIs false test → (t : List ℕ) → some_element test (idle_nodes t) ≡ false
none_idle test none t =
    ap (some_element test) (sym (⊕-no_nodes (idle_nodes t))) ∙ some_past false test none (idle_nodes t) no_nodes (nodes_are_idle t)

-- ---- a text of idle elements

is_reading : (t : List ℕ) → is_idle_text t ≡ true → idle_nodes t ≡ nodes_in W t
unfolding idle_nodes
is_reading t h = ap (λ b. if b then nodes_in W t else element (of_w (codes "r")) no_nodes no_nodes) h

-- a text that is kept as idle reads as the nodes that it stands for
pub laid_nodes : (t : List ℕ) → is_idle_text t ≡ true → nodes_in W t ≡ idle_nodes t
laid_nodes t h = sym (is_reading t h)

pub idle_reads : (t : List ℕ) → is_idle_text t ≡ true → Reads W t
idle_reads t h = (and_parts (is_there (nodes_at W t)) (is_idle (nodes_in W t) && not (elements (nodes_in W t) == 0)) h).0

pub text_of_idle : (t : List ℕ) → is_idle_text t ≡ true → text (idle_nodes t) ≡ t
text_of_idle t h = ap text (is_reading t h) ∙ text_of_nodes_in W t (idle_reads t h)

-- what is read is such a text
pub record ReadsIdle (t : List ℕ) : Type 0 where
  pub is : is_idle_text t ≡ true
  pub nodes : idle_nodes t ≡ nodes_in W t

-- a text that is read as idle nodes, an element among them, is kept as text and stands for these nodes
pub idle_text : (t : List ℕ) → Reads W t → is_idle (nodes_in W t) ≡ true → elements (nodes_in W t) ≢ 0 → ReadsIdle t
idle_text t reads idle some =
    let h : is_idle_text t ≡ true = and_from (is_there (nodes_at W t)) (is_idle (nodes_in W t) && not (elements (nodes_in W t) == 0)) reads (and_from (is_idle (nodes_in W t)) (not (elements (nodes_in W t) == 0)) idle (not_none (elements (nodes_in W t)) some)) in
    record { is = h; nodes = is_reading t h }
  where
    not_none : (n : ℕ) → n ≢ 0 → not (n == 0) ≡ true
    not_none n h = by (n == 0) refl where
      by : (b : Bool) → (n == 0) ≡ b → not b ≡ true
      by true e = absurd (h (eqb-true n 0 e))
      by false e = refl
