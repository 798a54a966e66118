-- Idle nodes are thin siblings, each by itself, and what is read of their text is closed as its tags say.
use Rattle.std.proofs.Common.{◌≡◌, ◌∙◌, ℕ, List, [], ◌∷◌, ◌++◌, Bool, false, true, ◌&&◌, ◌||◌, if◌then◌else◌, refl, ap, subst}
use Rattle.std.proofs.lemmas.Bool.{or_from, and_right}
use Rattle.redl_tree.specs.Leaves.Containers.{opens, opens_outer, is_control}
use Rattle.redl_tree.specs.Leaves.Slots.{Slots, Sibling, thin_sibling, thick_sibling, para_sibling, open_sibling, has_mark, sibling, siblings, slots_in}
use Rattle.redl_laid.specs.Firsts.{first_item}
use Rattle.redl_tree.specs.Model.Folds.{nodes_in}
use Rattle.redl_tree.specs.Model.Laid.{ClosesBy, AreLaid}
use Rattle.redl_tree.specs.Model.Nodes.{Tag, Nodes, no_nodes, bytes, element, in_front, ◌⊕◌}
use Rattle.redl_tree.specs.Model.View.{close_of}
use Rattle.redl_tree.specs.Roles.Names.{is}
use Rattle.redl_tree.specs.Roles.Idle.{is_idle_in}
use Rattle.redl_tree.specs.Roles.Lists.{place, in_blocks, in_rows, in_cells, is_wrapper, is_thick}
use Rattle.redl_tree.specs.declared.kinds.Space.TheVariants.{W}
use Rattle.redl_laid.specs.declared.laid.First.{First}
use Rattle.redl_laid.specs.declared.laid.First.TheVariants.{Bytes, Elem}
use Rattle.redl_tree.proofs.Reading.FoldLaws.{always_laid}
use Rattle.redl_tree.proofs.Idle.Tags.{Idle, idle_parts, has-not}
use Rattle.redl_tree.proofs.Idle.Lists.{names_none, thick_none}
use Rattle.redl_leaves.specs.Inside.Opens.{IsClosed}
use Rattle.redl_leaves.specs.Inside.Splits.{thin_siblings}

-- ---- idle elements are no containers

no_outer : (ancestors : List Tag) (tag : Tag) → Idle false tag → opens_outer ancestors tag ≡ false
no_outer [] tag i = refl
no_outer (root ∷ []) tag i =
    or_from ((is "document" root && is "body" tag) || (is "footnotes" root && is "footnote" tag) || (is "endnotes" root && is "endnote" tag)) (is "comments" root && is "comment" tag)
    (or_from ((is "document" root && is "body" tag) || (is "footnotes" root && is "footnote" tag)) (is "endnotes" root && is "endnote" tag)
    (or_from (is "document" root && is "body" tag) (is "footnotes" root && is "footnote" tag)
    (and_right (is "document" root) (is "body" tag) (has-not "body" false tag i refl))
    (and_right (is "footnotes" root) (is "footnote" tag) (has-not "footnote" false tag i refl)))
    (and_right (is "endnotes" root) (is "endnote" tag) (has-not "endnote" false tag i refl)))
    (and_right (is "comments" root) (is "comment" tag) (has-not "comment" false tag i refl))
no_outer (root ∷ other ∷ ancestors) tag i = refl

no_wrapper : (tag : Tag) → Idle false tag → is_wrapper tag ≡ false
no_wrapper tag i = names_none ("sdt" ∷ "customXml" ∷ []) false refl tag i

never_opens : (ancestors : List Tag) (tag : Tag) → Idle false tag → opens ancestors tag ≡ false
never_opens ancestors tag i =
    or_from (opens_outer ancestors tag || (in_blocks ancestors && (is "tbl" tag || is_wrapper tag)) || (in_rows ancestors && is "tr" tag) || (in_cells ancestors && is "tc" tag) || (is_wrapper tag && (in_rows ancestors || in_cells ancestors)))
    (is_control (place ancestors).reach && is "sdtContent" tag)
    (or_from (opens_outer ancestors tag || (in_blocks ancestors && (is "tbl" tag || is_wrapper tag)) || (in_rows ancestors && is "tr" tag) || (in_cells ancestors && is "tc" tag))
    (is_wrapper tag && (in_rows ancestors || in_cells ancestors))
    (or_from (opens_outer ancestors tag || (in_blocks ancestors && (is "tbl" tag || is_wrapper tag)) || (in_rows ancestors && is "tr" tag)) (in_cells ancestors && is "tc" tag)
    (or_from (opens_outer ancestors tag || (in_blocks ancestors && (is "tbl" tag || is_wrapper tag))) (in_rows ancestors && is "tr" tag)
    (or_from (opens_outer ancestors tag) (in_blocks ancestors && (is "tbl" tag || is_wrapper tag)) (no_outer ancestors tag i)
    (and_right (in_blocks ancestors) (is "tbl" tag || is_wrapper tag) (or_from (is "tbl" tag) (is_wrapper tag) (has-not "tbl" false tag i refl) (no_wrapper tag i))))
    (and_right (in_rows ancestors) (is "tr" tag) (has-not "tr" false tag i refl)))
    (and_right (in_cells ancestors) (is "tc" tag) (has-not "tc" false tag i refl)))
    (ap (λ b. b && (in_rows ancestors || in_cells ancestors)) (no_wrapper tag i)))
    (and_right (is_control (place ancestors).reach) (is "sdtContent" tag) (has-not "sdtContent" false tag i refl))

is_thin : (ancestors : List Tag) (tag : Tag) (kids : Nodes) (inner : Slots) → Idle false tag → sibling opens ancestors tag kids inner ≡ thin_sibling (element tag kids no_nodes)
is_thin ancestors tag kids inner i =
    let node = element tag kids no_nodes in
    let unless_thick = λ (thick : Bool). if thick then thick_sibling node else thin_sibling node in
    ap (λ opened. if opened then open_sibling tag kids inner else if is "p" tag && in_blocks ancestors then para_sibling (has_mark kids) node else unless_thick (is_thick tag)) (never_opens ancestors tag i)
    ∙ ap (λ p. if p && in_blocks ancestors then para_sibling (has_mark kids) node else unless_thick (is_thick tag)) (has-not "p" false tag i refl)
    ∙ ap unless_thick (thick_none false tag i)

-- idle nodes before others
pub thin_past : (ancestors : List Tag) (x y : Nodes) → is_idle_in false x ≡ true → siblings opens ancestors (x ⊕ y) ≡ thin_siblings x ++ siblings opens ancestors y
thin_past ancestors no_nodes y h = refl
thin_past ancestors (bytes b rest) y h = ap (λ (ss : List Sibling). thin_sibling (bytes b no_nodes) ∷ ss) (thin_past ancestors rest y h)
thin_past ancestors (element tag kids rest) y h =
    let p = idle_parts false tag kids rest h in
    ap (λ (s : Sibling). s ∷ siblings opens ancestors (rest ⊕ y)) (is_thin ancestors tag kids (slots_in opens (tag ∷ ancestors) kids) p.own)
    ∙ ap (λ (ss : List Sibling). thin_sibling (element tag kids no_nodes) ∷ ss) (thin_past ancestors rest y p.later)

-- ---- the first node of a text

pub closed_first : (t : List ℕ) (x : First) (rest : Nodes) → nodes_in W t ≡ in_front (first_item x) rest → IsClosed x
closed_first t (Bytes b) rest is = tt
closed_first t (Elem elem) rest is = λ none.
    let laid : AreLaid W (in_front (first_item (Elem elem)) rest) = subst (AreLaid W) is (always_laid W t) in
    subst (λ close. ClosesBy close (nodes_in W elem.kids)) (ap close_of none) laid.1
