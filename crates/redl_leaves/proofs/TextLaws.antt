-- The text of slots, one by one.
use Rattle.std.proofs.Common.{◌≡◌, ◌∙◌, ◌++◌, [], ◌∷◌, ℕ, List, refl, sym, ap, append_assoc}
use Rattle.std.proofs.lemmas.List.{append-nil}
use Rattle.redl_tree.specs.Leaves.States.{States, shown}
use Rattle.redl_tree.specs.Model.Nodes.{Tag, Close, Empty, End, ◌⊕◌}
use Rattle.redl_tree.specs.Model.Text.{text, start_text, opened_text, open_text, end_text, rest_text, element_text}
use Rattle.redl_tree.proofs.Model.Laws.{text-⊕}
use Rattle.redl_leaves.specs.Inside.Texts.{shown_view}
use Rattle.redl_leaves.specs.View.{SlotView, leaf_view, container_view, before}

shown-before : (x : SlotView) (rest : States) → shown (before x rest) ≡ shown_view x ⊕ shown rest
shown-before (leaf_view leaf present) rest = refl
shown-before (container_view tag tally inner) rest = refl

pub text-before : (x : SlotView) (rest : States) → text (shown (before x rest)) ≡ text (shown_view x) ++ text (shown rest)
text-before x rest = ap text (shown-before x rest) ∙ text-⊕ (shown_view x) (shown rest)

-- an element that has an end tag with this white space
pub element-ended : (tag : Tag) (space kids : List ℕ) → tag.close ≡ End space → open_text tag ++ (kids ++ end_text tag space) ≡ element_text tag kids
element-ended tag space kids is =
    append_assoc (start_text tag) (opened_text tag.close) (kids ++ end_text tag space)
    ∙ ap (λ c. start_text tag ++ (opened_text c ++ (kids ++ end_text tag space))) is
    ∙ ap (λ c. start_text tag ++ rest_text tag c kids) (sym is)

-- one that is closed in its start tag
pub element-closed : (tag : Tag) (kids : List ℕ) → tag.close ≡ Empty → open_text tag ≡ element_text tag kids
element-closed tag kids is =
    ap (λ c. start_text tag ++ opened_text c) is ∙ ap (λ c. start_text tag ++ rest_text tag c kids) (sym is)

-- what comes after the start tag
abbrev pub after_open : Tag → Close → List ℕ → List ℕ
after_open tag Empty kids = []
after_open tag (End space) kids = kids ++ end_text tag space

-- the text of an element is its opening, and what follows that
pub element-opened : (tag : Tag) (kids : List ℕ) → element_text tag kids ≡ open_text tag ++ after_open tag tag.close kids
element-opened tag kids = at tag.close
  where
    at : (c : Close) → start_text tag ++ rest_text tag c kids ≡ (start_text tag ++ opened_text c) ++ after_open tag c kids
    at Empty = sym (append-nil (start_text tag ++ 47 ∷ 62 ∷ []))
    at (End space) = sym (append_assoc (start_text tag) (62 ∷ []) (kids ++ end_text tag space))
