-- What is passed in nodes one after the other, and in idle elements that a list keeps as text.
use Rattle.std.proofs.Common.{◌≡◌, ◌∙◌, refl, sym, ap, ℕ, List, [], ◌∷◌, ◌++◌, append_assoc, append-nil, Bool, true, false, ◌&&◌, ◌||◌, not, codes, if◌then◌else◌}
use Rattle.std.proofs.Math.Bool.{or-false}
use Rattle.std.specs.List.{list_any}
use Rattle.redl_idle.proofs.RoleLaws.{by_local, name_same, quiet_same}
use Rattle.redl_idle.specs.Shows.{shows}
use Rattle.redl_spans.proofs.MemberLaws.{idle_property_members}
use Rattle.redl_spans.specs.Members.{has_edge, has_own_edge}
use Rattle.redl_spans.specs.Units.{holds_text}
use Rattle.redl_tree.proofs.Idle.Items.{nodes_are_idle}
use Rattle.redl_tree.proofs.Idle.Tags.{Idle, idle_parts, has-not}
use Rattle.redl_tree.proofs.Reading.SameBytes.{same_bytes}
use Rattle.redl_tree.specs.Model.IdleTexts.{idle_nodes}
use Rattle.redl_tree.specs.Model.Nodes.{Tag, Nodes, no_nodes, bytes, element, Item, bytes_item, element_item, idle_item, in_front, ◌⊕◌}
use Rattle.redl_tree.specs.Model.View.{Element}
use Rattle.redl_tree.specs.Roles.Idle.{is_idle_in}
use Rattle.redl_tree.specs.Roles.Names.{is, of_w}
use Rattle.redl_edits.specs.Inside.Idle.{beside, idle_rule, inside_idle}
use Rattle.redl_edits.specs.Inside.Items.{item_passed}
use Rattle.redl_edits.specs.Passed.{edge_bytes, end_bytes, if_open, name_bytes, own_bytes, passed, start_bytes, stories_passed, story_passed, text_bytes}
use Rattle.redl_edits.specs.declared.kept.Below.{Below}

-- ---- one after the other

abbrev pub element_passed : Tag → Nodes → List ℕ
element_passed tag kids = if_open tag (start_bytes tag kids ++ (passed (holds_text tag) kids ++ end_bytes tag))

passed-⊕ : (in_text : Bool) (x y : Nodes) → passed in_text (x ⊕ y) ≡ passed in_text x ++ passed in_text y
passed-⊕ in_text no_nodes y = refl
passed-⊕ in_text (bytes b rest) y =
    ap (λ (bs : List ℕ). text_bytes in_text b ++ bs) (passed-⊕ in_text rest y)
    ∙ sym (append_assoc (text_bytes in_text b) (passed in_text rest) (passed in_text y))
passed-⊕ in_text (element tag kids rest) y =
    ap (λ (bs : List ℕ). element_passed tag kids ++ bs) (passed-⊕ in_text rest y)
    ∙ sym (append_assoc (element_passed tag kids) (passed in_text rest) (passed in_text y))

pub passed-in_front : (in_text : Bool) (x : Item) (rest : Nodes) → passed in_text (in_front x rest) ≡ item_passed in_text x ++ passed in_text rest
passed-in_front in_text (bytes_item b) rest = refl
passed-in_front in_text (element_item tag kids) rest = refl
passed-in_front in_text (idle_item t) rest = passed-⊕ in_text (idle_nodes t) rest

pub stories_passed-append : (xs ys : List Element) → stories_passed (xs ++ ys) ≡ stories_passed xs ++ stories_passed ys
stories_passed-append [] ys = refl
stories_passed-append (x ∷ xs) ys =
    ap (λ (bs : List ℕ). story_passed x ++ bs) (stories_passed-append xs ys)
    ∙ sym (append_assoc (story_passed x) (stories_passed xs) (stories_passed ys))

-- ---- one idle element

start_same : (in_run : Bool) (tag : Tag) → Idle in_run tag → own_bytes tag ≡ name_bytes tag.local
start_same in_run tag i = by_local (λ w local. if w then name_bytes local else []) in_run tag i

-- it holds text only as a `t`
text_same : (in_run : Bool) (tag : Tag) → Idle in_run tag → holds_text tag ≡ is "t" (of_w tag.local)
text_same in_run tag i =
    ap (λ d. is "t" tag || (d || false)) (has-not "delText" in_run tag i refl)
    ∙ or-false (is "t" tag) ∙ name_same in_run tag i (codes "t")

no_edge : (in_run : Bool) (tag : Tag) (kids : Nodes) → Idle in_run tag → is_idle_in (is "r" tag) kids ≡ true → edge_bytes tag kids ≡ []
no_edge in_run tag kids i below =
    ap (λ b. if b then [] else if has_edge kids then codes "-" else []) (has-not "p" in_run tag i refl)
    ∙ ap (λ ms. if list_any has_own_edge ms then codes "-" else []) (idle_property_members (is "r" tag) kids below)

no_end : (in_run : Bool) (tag : Tag) → Idle in_run tag → end_bytes tag ≡ []
no_end in_run tag i = ap (λ b. if b then 10 ∷ [] else []) (has-not "p" in_run tag i refl)

-- ---- the walk over the text

-- nothing in the properties of a run
quiet_passes : (nodes : Nodes) (below : Below) → below.quiet ≡ true → below.in_text ≡ false → shows idle_rule below nodes ≡ []
quiet_passes no_nodes below q s = refl
quiet_passes (bytes b rest) below q s = ap (λ x. text_bytes x b ++ shows idle_rule below rest) s ∙ quiet_passes rest below q s
quiet_passes (element tag kids rest) below q s =
    let own = is "rPr" (of_w tag.local) in
    let inner : shows idle_rule (inside_idle below tag.local) kids ≡ [] =
    quiet_passes kids (inside_idle below tag.local) (ap (λ x. x || own) q) (ap (λ x. not (x || own) && is "t" (of_w tag.local)) q) in
    ap (λ x. ((if x then [] else name_bytes tag.local) ++ (shows idle_rule (inside_idle below tag.local) kids ++ [])) ++ shows idle_rule below rest) q
    ∙ ap (λ (i : List ℕ). (i ++ []) ++ shows idle_rule below rest) inner ∙ quiet_passes rest below q s

-- nothing is passed at the start of properties
no_start : (local : List ℕ) → is "rPr" (of_w local) ≡ true → name_bytes local ≡ []
no_start local e = ap name_bytes (same_bytes local (codes "rPr") e)

module _ (in_text in_run : Bool) (tag : Tag) (kids : Nodes) (i : Idle in_run tag) (idle_below : is_idle_in (is "r" tag) kids ≡ true) where
  open_same : start_bytes tag kids ++ (passed (holds_text tag) kids ++ end_bytes tag) ≡ name_bytes tag.local ++ passed (holds_text tag) kids
  open_same =
      ap (λ (bs : List ℕ). (bs ++ own_bytes tag) ++ (passed (holds_text tag) kids ++ end_bytes tag)) (no_edge in_run tag kids i idle_below)
      ∙ ap (λ (bs : List ℕ). bs ++ (passed (holds_text tag) kids ++ end_bytes tag)) (start_same in_run tag i)
      ∙ ap (λ (bs : List ℕ). name_bytes tag.local ++ (passed (holds_text tag) kids ++ bs)) (no_end in_run tag i)
      ∙ ap (λ (bs : List ℕ). name_bytes tag.local ++ bs) (append-nil (passed (holds_text tag) kids))

  -- given what is passed in its kids
  one_passes : passed (holds_text tag) kids ≡ shows idle_rule (beside (holds_text tag)) kids
      → element_passed tag kids ≡ name_bytes tag.local ++ (shows idle_rule (inside_idle (beside in_text) tag.local) kids ++ [])
  one_passes inner = by_case (is "rPr" (of_w tag.local)) refl
    where
      by_case : (q : Bool) → is "rPr" (of_w tag.local) ≡ q
          → element_passed tag kids ≡ name_bytes tag.local ++ (shows idle_rule (inside_idle (beside in_text) tag.local) kids ++ [])
      by_case true e =
          let nothing : shows idle_rule (inside_idle (beside in_text) tag.local) kids ≡ [] =
          quiet_passes kids (inside_idle (beside in_text) tag.local) e (ap (λ q. not q && is "t" (of_w tag.local)) e) in
          ap (λ q. if q then [] else start_bytes tag kids ++ (passed (holds_text tag) kids ++ end_bytes tag)) (quiet_same in_run tag i ∙ e)
          ∙ sym (ap (λ (s : List ℕ). s ++ (shows idle_rule (inside_idle (beside in_text) tag.local) kids ++ [])) (no_start tag.local e) ∙ ap (λ (s : List ℕ). s ++ []) nothing)
      by_case false e =
          ap (λ q. if q then [] else start_bytes tag kids ++ (passed (holds_text tag) kids ++ end_bytes tag)) (quiet_same in_run tag i ∙ e)
          ∙ open_same
          ∙ ap (λ (s : List ℕ). name_bytes tag.local ++ s) (inner ∙ ap (λ b. shows idle_rule (beside b) kids) (text_same in_run tag i))
          ∙ ap (λ q. name_bytes tag.local ++ shows idle_rule (record { quiet = q; in_text = not q && is "t" (of_w tag.local) }) kids) (sym e)
          ∙ ap (λ (s : List ℕ). name_bytes tag.local ++ s) (sym (append-nil (shows idle_rule (inside_idle (beside in_text) tag.local) kids)))

passes_idle : (in_text in_run : Bool) (x : Nodes) → is_idle_in in_run x ≡ true → passed in_text x ≡ shows idle_rule (beside in_text) x
passes_idle in_text in_run no_nodes h = refl
passes_idle in_text in_run (bytes b rest) h = ap (λ (s : List ℕ). text_bytes in_text b ++ s) (passes_idle in_text in_run rest h)
passes_idle in_text in_run (element tag kids rest) h =
    let p = idle_parts in_run tag kids rest h in
    let inner = passes_idle (holds_text tag) (is "r" tag) kids p.below in
    ap (λ (s : List ℕ). s ++ passed in_text rest) (one_passes in_text in_run tag kids p.own p.below inner)
    ∙ ap (λ (s : List ℕ). (name_bytes tag.local ++ (shows idle_rule (inside_idle (beside in_text) tag.local) kids ++ [])) ++ s) (passes_idle in_text in_run rest p.later)

-- the walk over a text passes what is passed in its nodes
pub passed_kept : (in_text : Bool) (t : List ℕ) → passed in_text (idle_nodes t) ≡ shows idle_rule (beside in_text) (idle_nodes t)
passed_kept in_text t = passes_idle in_text false (idle_nodes t) (nodes_are_idle t)
