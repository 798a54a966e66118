-- Node by node, and what a list keeps as text at once.
use Rattle.std.proofs.Common.{◌≡◌, ◌+◌, ◌++◌, ap, refl, sym, ◌∙◌, arith, subst, drop, [], ℕ, List, Bool, true, codes, OnOk, if◌then◌else◌}
use Rattle.std.proofs.lemmas.Result.{on_ok_weaker}
use Rattle.redl_tree.specs.Model.IdleTexts.{idle_nodes}
use Rattle.redl_tree.specs.Model.Nodes.{Nodes, Item, no_nodes, in_front}
use Rattle.redl_tree.specs.Model.View.{nodes_of, item_of, tag_of, kids_of}
use Rattle.redl_tree.proofs.Model.Laws.{nodes_here, nodes_end, item_of-Bytes, item_of-Plain, ⊕-no_nodes, in_front-⊕}
use Rattle.redl_left.specs.Alike.{NameAlike}
use Rattle.redl_stamp.specs.Attribute.{attribute_value}
use Rattle.redl_tree.specs.declared.kinds.Space.{Space}
use Rattle.redl_left.specs.Finds.{Find, finds, found, element_finds, is_part_name, value_or_nothing}
use Rattle.redl_left.specs.Lines.{naming, noted_all}
use Rattle.redl_left.specs.Seen.{tables_of}
use Rattle.redl_left.proofs.AlikeLaws.{alike, alike_all, alike_then}
use Rattle.redl_left.proofs.FindLaws.{finds-⊕}
use Rattle.redl_left.proofs.NameLaws.{none_told}
use Rattle.redl_left.proofs.NotedLaws.{noted-append}
use Rattle.redl_left.proofs.gather.+gather.Goals as goal

pub gather_node-returns-in-Plain-clause-noted : goal.gather_node-returns-in-Plain-clause-noted
gather_node-returns-in-Plain-clause-noted t c =
    let nodes = idle_nodes c.in-Plain.plain in
    let old = tables_of c.args.seen.now in
    let new = tables_of c.gather_kept.new.seen in
    let found : Nodes → List Find = finds naming c.args.part.now c.args.parent.now in
    let Noted : Nodes → Type 0 = λ ns. OnOk c.gather_kept.result (NameAlike new (noted_all old (found ns))) in
    let NotedItem : Item → Type 0 = λ item. Noted (in_front item no_nodes) in
    let noted : Noted nodes = on_ok_weaker c.gather_kept.result (λ e. alike new (noted_all old (found nodes)) e) (c.gather_kept.ensures.noted c.args.parent.now) in
    subst NotedItem (sym (ap item_of c.in-Plain.is ∙ item_of-Plain c.in-Plain.plain)) (subst Noted (sym (⊕-no_nodes nodes)) noted)

pub gather_node-returns-in-Bytes-clause-noted : goal.gather_node-returns-in-Bytes-clause-noted
gather_node-returns-in-Bytes-clause-noted t c =
    let old = tables_of c.args.seen.now in
    let part = c.args.part.now in
    let found : Item → List Find = λ item. finds naming part c.args.parent.now (in_front item no_nodes) in
    let none : found (item_of c.args.node.now) ≡ [] = ap found (ap item_of c.in-Bytes.is ∙ item_of-Bytes c.in-Bytes.field-0)
    ∙ ap (λ (f : List Find). f ++ []) (none_told naming (λ value. refl) part c.in-Bytes.field-0.now) in
    alike old (noted_all old (found (item_of c.args.node.now))) (ap (noted_all old) (sym none))

pub gather_elem-returns-then-is_part_name-clause-noted : goal.gather_elem-returns-then-is_part_name-clause-noted
gather_elem-returns-then-is_part_name-clause-noted t c =
    let tag = tag_of c.args.elem.now in
    let Noted : List ℕ → Type 0 = λ part. OnOk c.gather_inside.result (NameAlike (tables_of c.gather_inside.new.seen)
    (noted_all (tables_of c.args.seen.now) (element_finds naming part c.args.parent.now tag (kids_of c.args.elem.now)))) in
    let is : is_part_name tag.space tag.local ≡ true =
    ap (λ (local : List ℕ). is_part_name tag.space local) (sym c.local.ensures) ∙ ap (λ (space : Space). is_part_name space c.local.result.now) (sym c.space.ensures)
    ∙ sym c.is_part_name.ensures ∙ c.if-is_part_name.true in
    let named : List ℕ → List ℕ = λ tail. value_or_nothing (attribute_value tail (codes "name")) in
    subst Noted (c.as_bytes.ensures ∙ c.in_ok-name.ensures ∙ ap named c.tail.ensures ∙ sym (ap (λ (b : Bool). if b then named tag.tail else c.args.part.now) is))
    c.gather_inside.ensures.noted

pub gather_inside-returns-clause-noted : goal.gather_inside-returns-clause-noted
gather_inside-returns-clause-noted t c =
    let part = c.args.part.now in
    let elem = c.args.elem.now in
    let old = tables_of c.args.seen.now in
    let mid = tables_of c.gather_own.new.seen in
    let new = tables_of c.gather_nodes.new.seen in
    let own = found naming part c.args.parent.now (tag_of elem) (kids_of elem) in
    let below : List ℕ → Nodes → List Find = finds naming part in
    let inner = below c.local.result.now (nodes_of c.kids.result.now) in
    let whole : noted_all (noted_all old own) inner ≡ noted_all old (own ++ below (tag_of elem).local (kids_of elem)) =
    ap (λ (local : List ℕ). noted_all (noted_all old own) (below local (nodes_of c.kids.result.now))) c.local.ensures
    ∙ ap (λ (nodes : Nodes). noted_all (noted_all old own) (below (tag_of elem).local nodes)) c.kids.ensures.kids
    ∙ sym (noted-append old own (below (tag_of elem).local (kids_of elem))) in
    let all = noted_all old (own ++ below (tag_of elem).local (kids_of elem)) in
    let first : NameAlike (noted_all mid inner) all = alike_then (noted_all mid inner) (noted_all (noted_all old own) inner) all
    (alike_all mid (noted_all old own) inner c.in_ok-gather_own.ensures) (alike (noted_all (noted_all old own) inner) all whole) in
    on_ok_weaker c.gather_nodes.result (λ e. alike_then new (noted_all mid inner) all e first) c.gather_nodes.ensures.noted

pub gather_nodes-loop-node-init : goal.gather_nodes-loop-node-init
gather_nodes-loop-node-init t c =
    let all = noted_all (tables_of c.args.seen.now) (finds naming c.args.part.now c.args.parent.now (nodes_of c.args.nodes.now)) in
    record { known = c.requires; noted = alike all all refl }

pub gather_nodes-loop-node-preserved : goal.gather_nodes-loop-node-preserved
gather_nodes-loop-node-preserved t c =
    let items = c.args.nodes.now in
    let i = c.loop-node.node-index in
    let x = c.node-item.result in
    let own = in_front (item_of x) no_nodes in
    let more = nodes_of (drop (i + 1) items) in
    let found : Nodes → List Find = finds naming c.args.part.now c.args.parent.now in
    let tables = tables_of c.loop-node.seen in
    let new = tables_of c.gather_node.new.seen in
    let mid = noted_all tables (found own) in
    let left = noted_all tables (found (nodes_of (drop i items))) in
    let all = noted_all (tables_of c.args.seen.now) (found (nodes_of items)) in
    let here = nodes_here items i x (omega arith) c.node-item.is in
    let whole : noted_all mid (found more) ≡ left = sym (noted-append tables (found own) (found more))
    ∙ ap (λ (f : List Find). noted_all tables f) (sym (finds-⊕ naming c.args.part.now c.args.parent.now own more))
    ∙ ap (λ (ns : Nodes). noted_all tables (found ns)) (in_front-⊕ (item_of x) no_nodes more ∙ sym here) in
    record {
      known = c.in_ok-gather_node.ensures.known;
      noted = alike_then (noted_all new (found more)) (noted_all mid (found more)) all (alike_all new mid (found more) c.in_ok-gather_node.ensures.noted)
          (alike_then (noted_all mid (found more)) left all (alike (noted_all mid (found more)) left whole) c.loop-node.invariant.noted);
    }

pub gather_nodes-returns-clause-noted : goal.gather_nodes-returns-clause-noted
gather_nodes-returns-clause-noted t c =
    let found : Nodes → List Find = finds naming c.args.part.now c.args.parent.now in
    let Noted : Nodes → Type 0 = λ ns. NameAlike (noted_all (tables_of c.loop-node.seen) (found ns)) (noted_all (tables_of c.args.seen.now) (found (nodes_of c.args.nodes.now))) in
    subst Noted (nodes_end c.args.nodes.now c.loop-node.node-index (omega arith)) c.loop-node.invariant.noted
