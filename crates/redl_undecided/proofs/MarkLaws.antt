-- Marks among nodes one after the other, and what the walk over kept text counts of them.
use Rattle.std.proofs.Common.{◌≡◌, ◌∙◌, refl, ap, ℕ, ◌+◌, List, [], ◌++◌, length, length-append, append-nil, Bool, true, false, ◌&&◌, arith}
use Rattle.redl_tree.specs.Model.Nodes.{Tag, Nodes, no_nodes, bytes, element, ◌⊕◌, Item, bytes_item, element_item, idle_item, in_front}
use Rattle.redl_tree.specs.Model.IdleTexts.{idle_nodes}
use Rattle.redl_tree.specs.Roles.Idle.{is_idle_in, is_plain_kind}
use Rattle.redl_tree.specs.Roles.Names.{is, is_w}
use Rattle.redl_tree.specs.declared.kinds.Kind.{Kind}
use Rattle.redl_tree.proofs.Idle.Tags.{Idle, idle_parts}
use Rattle.redl_tree.proofs.Idle.Items.{nodes_are_idle}
use Rattle.redl_idle.specs.Shows.{shows}
use Rattle.redl_undecided.specs.Idle.{idle_rule, mark_shown}
use Rattle.redl_undecided.specs.Undecided.{is_mark_name, is_undecided, one_if, undecided_marks}
use Rattle.redl_undecided.specs.declared.count.Idle.{Idle as Below}

-- ---- nodes one after the other

pub marks-⊕ : (x y : Nodes) → undecided_marks (x ⊕ y) ≡ undecided_marks x + undecided_marks y
marks-⊕ no_nodes y = omega arith
marks-⊕ (bytes b rest) y = marks-⊕ rest y
marks-⊕ (element tag kids rest) y = omega (arith, marks-⊕ rest y)

pub marks-in_front : (x : Item) (ys : Nodes) → undecided_marks (in_front x ys) ≡ undecided_marks (in_front x no_nodes) + undecided_marks ys
marks-in_front (bytes_item b) ys = omega arith
marks-in_front (element_item tag kids) ys = omega arith
marks-in_front (idle_item t) ys = omega (arith, marks-⊕ (idle_nodes t) ys, marks-⊕ (idle_nodes t) no_nodes)

-- ---- idle elements

pub own_idle : (in_run : Bool) (tag : Tag) → Idle in_run tag → is_undecided tag ≡ is_mark_name tag.local
own_idle in_run tag i =
    ap (λ (k : Kind). is_plain_kind k && (is_w tag.space && is_mark_name tag.local)) i.kind
    ∙ ap (λ b. b && is_mark_name tag.local) i.space

own_shown : (b : Bool) → length (mark_shown b) ≡ one_if b
own_shown true = refl
own_shown false = refl

shown_in : (below : Below) (in_run : Bool) (x : Nodes) → is_idle_in in_run x ≡ true → length (shows idle_rule below x) ≡ undecided_marks x
shown_in below in_run no_nodes h = refl
shown_in below in_run (bytes b rest) h = shown_in below in_run rest h
shown_in below in_run (element tag kids rest) h =
    let p = idle_parts in_run tag kids rest h in
    let own = mark_shown (is_mark_name tag.local) in
    let inner = shows idle_rule below kids in
    omega (
      arith,
      length-append (own ++ (inner ++ [])) (shows idle_rule below rest),
      length-append own (inner ++ []),
      ap length (append-nil inner),
      own_shown (is_mark_name tag.local),
      ap one_if (own_idle in_run tag p.own),
      shown_in below (is "r" tag) kids p.below,
      shown_in below in_run rest p.later,
    )

-- the walk over a kept text shows a byte for each of its marks
pub shown_idle : (below : Below) (t : List ℕ) → length (shows idle_rule below (idle_nodes t)) ≡ undecided_marks (idle_nodes t)
shown_idle below t = shown_in below false (idle_nodes t) (nodes_are_idle t)
