-- What is noted of the letters of the properties that are on.
use Rattle.std.proofs.Common.{◌≡◌, ◌∙◌, refl, sym, ap, ℕ, List, [], ◌++◌, Bool, true, false, ◌&&◌, ◌||◌, ◌==◌, not, codes, bytes_eq, if◌then◌else◌}
use Rattle.std.proofs.Math.Bool.{or_assoc, or-false}
use Rattle.std.proofs.lemmas.List.Folds.{list_any-append}
use Rattle.redl_tree.specs.Model.Nodes.{Tag, Nodes, no_nodes, bytes, element}
use Rattle.redl_tree.specs.Model.Laid.{AreLaid}
use Rattle.redl_tree.specs.Model.IdleTexts.{idle_nodes}
use Rattle.redl_tree.specs.Roles.Names.{is, is_w, of_w}
use Rattle.redl_tree.specs.declared.kinds.Space.TheVariants.{W}
use Rattle.redl_idle.specs.Shows.{shows}
use Rattle.redl_idle.proofs.AheadLaws.{idle_laid}
use Rattle.redl_stamp.specs.Attribute.{written_value}
use Rattle.redl_page_stories.specs.declared.emphasis.Level.TheVariants.{Kids, Properties, Below}
use Rattle.redl_page_stories.specs.Inside.Emphasis.{emphasis_rule, has_byte, letters_on, tag_with}
use Rattle.redl_page_stories.specs.Shapes.{has_property, switched_on, switches}
use Rattle.redl_page_stories.specs.Values.{is_off}

-- ---- one tag

-- an element of W does what one with its local name and its tail does
switches_same : (name : List ℕ) (tag : Tag) → tag.space ≡ W → switches name tag ≡ switches name (tag_with tag.local tag.tail)
switches_same name tag e = ap (λ s. (is_w s && bytes_eq tag.local name) && not (is_off (written_value tag.tail (codes "val")))) e

is_same : (tag : Tag) → tag.space ≡ W → is "rPr" tag ≡ is "rPr" (of_w tag.local)
is_same tag e = ap (λ s. is_w s && bytes_eq tag.local (codes "rPr")) e

bold_noted : (tag : Tag) → has_byte 98 (letters_on Properties tag) ≡ switches (codes "b") tag
bold_noted tag = by (switches (codes "b") tag) (switches (codes "i") tag) where
  by : (b i : Bool) → has_byte 98 ((if b then codes "b" else []) ++ (if i then codes "i" else [])) ≡ b
  by true true = refl
  by true false = refl
  by false true = refl
  by false false = refl

italic_noted : (tag : Tag) → has_byte 105 (letters_on Properties tag) ≡ switches (codes "i") tag
italic_noted tag = by (switches (codes "b") tag) (switches (codes "i") tag) where
  by : (b i : Bool) → has_byte 105 ((if b then codes "b" else []) ++ (if i then codes "i" else [])) ≡ i
  by true true = refl
  by true false = refl
  by false true = refl
  by false false = refl

-- ---- nodes

below_shows : (nodes : Nodes) → shows emphasis_rule Below nodes ≡ []
below_shows no_nodes = refl
below_shows (bytes b rest) = below_shows rest
below_shows (element tag kids rest) = ap (λ (l : List ℕ). (l ++ []) ++ shows emphasis_rule Below rest) (below_shows kids) ∙ below_shows rest

-- a property, by the byte of its letter
module _ (byte : ℕ) (name : List ℕ) (noted : (tag : Tag) → has_byte byte (letters_on Properties tag) ≡ switches name tag) where
  has-append : (xs ys : List ℕ) → has_byte byte (xs ++ ys) ≡ (has_byte byte xs || has_byte byte ys)
  has-append xs ys = list_any-append (λ b. b == byte) xs ys

  pub properties_note : (nodes : Nodes) → AreLaid W nodes → has_byte byte (shows emphasis_rule Properties nodes) ≡ switched_on name nodes
  properties_note no_nodes h = refl
  properties_note (bytes b rest) h = properties_note rest h.2
  properties_note (element tag kids rest) h =
      let own = letters_on Properties (tag_with tag.local tag.tail) in
      let later = shows emphasis_rule Properties rest in
      ap (λ (l : List ℕ). has_byte byte ((own ++ (l ++ [])) ++ later)) (below_shows kids)
      ∙ has-append (own ++ []) later
      ∙ ap (λ b. b || has_byte byte later) (has-append own [] ∙ or-false (has_byte byte own) ∙ noted (tag_with tag.local tag.tail) ∙ sym (switches_same name tag h.0.of_space))
      ∙ ap (λ b. switches name tag || b) (properties_note rest h.3)

  held_note : (props : Bool) (kids : Nodes) → AreLaid W kids → has_byte byte (shows emphasis_rule (if props then Properties else Below) kids) ≡ (props && switched_on name kids)
  held_note true kids h = properties_note kids h
  held_note false kids h = ap (has_byte byte) (below_shows kids)

  pub run_notes : (nodes : Nodes) → AreLaid W nodes → has_byte byte (shows emphasis_rule Kids nodes) ≡ has_property name nodes
  run_notes no_nodes h = refl
  run_notes (bytes b rest) h = run_notes rest h.2
  run_notes (element tag kids rest) h =
      let props = is "rPr" (of_w tag.local) in
      let inner = shows emphasis_rule (if props then Properties else Below) kids in
      let later = shows emphasis_rule Kids rest in
      has-append (inner ++ []) later
      ∙ ap (λ b. b || has_byte byte later) (has-append inner [] ∙ or-false (has_byte byte inner) ∙ held_note props kids h.2)
      ∙ ap (λ p. (p && switched_on name kids) || has_byte byte later) (sym (is_same tag h.0.of_space))
      ∙ ap (λ b. (is "rPr" tag && switched_on name kids) || b) (run_notes rest h.3)

pub bold_in_run : (nodes : Nodes) → AreLaid W nodes → has_byte 98 (shows emphasis_rule Kids nodes) ≡ has_property (codes "b") nodes
bold_in_run nodes h = run_notes 98 (codes "b") bold_noted nodes h

pub italic_in_run : (nodes : Nodes) → AreLaid W nodes → has_byte 105 (shows emphasis_rule Kids nodes) ≡ has_property (codes "i") nodes
italic_in_run nodes h = run_notes 105 (codes "i") italic_noted nodes h

pub bold_idle : (t : List ℕ) → has_byte 98 (shows emphasis_rule Properties (idle_nodes t)) ≡ switched_on (codes "b") (idle_nodes t)
bold_idle t = properties_note 98 (codes "b") bold_noted (idle_nodes t) (idle_laid t)

pub italic_idle : (t : List ℕ) → has_byte 105 (shows emphasis_rule Properties (idle_nodes t)) ≡ switched_on (codes "i") (idle_nodes t)
italic_idle t = properties_note 105 (codes "i") italic_noted (idle_nodes t) (idle_laid t)

-- ---- the loops

-- one node more: what was found before it or is in it was found, and it or those after it have what they have
pub found_more : (found here later own all now : Bool) → own ≡ (found || here) → now ≡ (here || later) → (found || now) ≡ all → (own || later) ≡ all
found_more found here later own all now is next left = ap (λ b. b || later) is ∙ or_assoc found here later ∙ ap (λ b. found || b) (sym next) ∙ left
