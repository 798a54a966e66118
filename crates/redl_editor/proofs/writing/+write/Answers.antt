-- What is written is the text with each story as it is now. It is long because a sink can fail before, in and after an element.
use Rattle.std.proofs.Common.{◌≡◌, ◌+◌, ◌++◌, ◌∷◌, ◌&&◌, List, [], false, refl, sym, ap, ◌∙◌, drop, map, arith}
use Rattle.std.proofs.lemmas.List.{append-nil}
use Rattle.redl_io.proofs.Puts.{puts_then, puts_fails, so_far_begins, so_far_goes_on, so_far_stops, so_far_ends}
use Rattle.redl_tree.proofs.Model.Laws.{nodes_here, nodes_end}
use Rattle.redl_tree.specs.Decisions.Packages.{is_root, level_of, level_below, is_data_level, is_story_root, stories_in, left_after, changed_in}
use Rattle.redl_tree.specs.Decisions.StoryWalk.{changed_kids, changed_item, item_stories}
use Rattle.redl_tree.specs.Leaves.Shown.{shown_rule}
use Rattle.redl_tree.specs.Leaves.States.{States}
use Rattle.redl_tree.specs.Model.Text.{text, item_text}
use Rattle.redl_tree.specs.Model.View.{nodes_of, item_of, tag_of, kids_of, close_of}
use Rattle.redl_leaves.proofs.TextLaws.{element-ended, element-opened}
use Rattle.redl_editor.proofs.WriteLaws.{text-changed, left-more}
use Rattle.redl_editor.specs.Stories.{states_kept}
use Rattle.redl_editor.proofs.writing.+write.Goals as goal

pub write_among-loop-node-init : goal.write_among-loop-node-init
write_among-loop-node-init g t c = record { text = λ ancestors is. so_far_begins _ _; next = λ ancestors is. refl }

pub write_among-returns-in_err-next-clause-text : goal.write_among-returns-in_err-next-clause-text
write_among-returns-in_err-next-clause-text g t c = λ ancestors is.
    let x = c.node-item.result in
    let each = drop c.loop-node.next (map states_kept c.args.stories.now) in
    let here = nodes_here c.args.nodes.now c.loop-node.node-index x (omega arith) c.node-item.is in
    let rest = nodes_of (drop (c.loop-node.node-index + 1) c.args.nodes.now) in
    so_far_stops (item_text (changed_item shown_rule each ancestors (item_of x)))
    (text (changed_in shown_rule (left_after shown_rule each (item_stories ancestors (item_of x))) ancestors rest))
    (ap (λ ns. text (changed_in shown_rule each ancestors ns)) here ∙ text-changed shown_rule each ancestors (item_of x) rest)
    c.from_residual.ensures.1 (c.loop-node.invariant.text ancestors is) (c.in_err-next.ensures.text ancestors is)

pub write_among-loop-node-preserved : goal.write_among-loop-node-preserved
write_among-loop-node-preserved g t c =
    let x = c.node-item.result in
    let all = map states_kept c.args.stories.now in
    let each = drop c.loop-node.next all in
    let here = nodes_here c.args.nodes.now c.loop-node.node-index x (omega arith) c.node-item.is in
    let rest = nodes_of (drop (c.loop-node.node-index + 1) c.args.nodes.now) in
    record {
      text = λ ancestors is.
          so_far_goes_on (item_text (changed_item shown_rule each ancestors (item_of x))) _
          (ap (λ ns. text (changed_in shown_rule each ancestors ns)) here ∙ text-changed shown_rule each ancestors (item_of x) rest
          ∙ ap (λ (s : List States). item_text (changed_item shown_rule each ancestors (item_of x)) ++ text (changed_in shown_rule s ancestors rest))
          (sym (c.in_ok-next.ensures.next ancestors is)))
          (c.loop-node.invariant.text ancestors is) (c.in_ok-next.ensures.text ancestors is);
      next = λ ancestors is.
          ap (λ (s : List States). left_after shown_rule s (stories_in ancestors rest)) (c.in_ok-next.ensures.next ancestors is)
          ∙ left-more shown_rule each ancestors (item_of x) rest
          ∙ ap (λ ns. left_after shown_rule each (stories_in ancestors ns)) (sym here)
          ∙ c.loop-node.invariant.next ancestors is;
    }

pub write_among-returns-clause-text : goal.write_among-returns-clause-text
write_among-returns-clause-text g t c = λ ancestors is.
    let each = drop c.loop-node.next (map states_kept c.args.stories.now) in
    so_far_ends (ap (λ ns. text (changed_in shown_rule each ancestors ns)) (nodes_end c.args.nodes.now c.loop-node.node-index (omega arith)))
    (c.loop-node.invariant.text ancestors is)

pub write_among-returns-clause-next : goal.write_among-returns-clause-next
write_among-returns-clause-next g t c = λ ancestors is.
    let each = drop c.loop-node.next (map states_kept c.args.stories.now) in
    sym (ap (λ ns. left_after shown_rule each (stories_in ancestors ns)) (nodes_end c.args.nodes.now c.loop-node.node-index (omega arith)))
    ∙ c.loop-node.invariant.next ancestors is

pub write_elem-returns-in_err-write_open-clause-text : goal.write_elem-returns-in_err-write_open-clause-text
write_elem-returns-in_err-write_open-clause-text g t c = λ ancestors is.
    let kids = text (changed_kids shown_rule (drop c.args.first (map states_kept c.args.stories.now)) ancestors (tag_of c.args.elem.now) (kids_of c.args.elem.now)) in
    puts_fails _ (element-opened (tag_of c.args.elem.now) kids) c.from_residual.ensures.1 c.in_err-write_open.ensures

pub write_elem-returns-in_err-next-in-Some-clause-text : goal.write_elem-returns-in_err-next-in-Some-clause-text
write_elem-returns-in_err-next-in-Some-clause-text g t c = λ ancestors is.
    let close = sym c.close.ensures ∙ ap close_of c.in-Some.is in
    let kids = text (changed_kids shown_rule (drop c.args.first (map states_kept c.args.stories.now)) ancestors (tag_of c.args.elem.now) (kids_of c.args.elem.now)) in
    puts_then (sym (element-ended (tag_of c.args.elem.now) c.in-Some.space.now kids close)) c.in_ok-write_open.ensures
    (puts_fails _ refl c.from_residual-in_err-next-in-Some.ensures.1 (c.in_err-next-in-Some.ensures.text ancestors is))

pub write_elem-returns-in_err-write_close-in-Some-clause-text : goal.write_elem-returns-in_err-write_close-in-Some-clause-text
write_elem-returns-in_err-write_close-in-Some-clause-text g t c = λ ancestors is.
    let close = sym c.close.ensures ∙ ap close_of c.in-Some.is in
    let kids = text (changed_kids shown_rule (drop c.args.first (map states_kept c.args.stories.now)) ancestors (tag_of c.args.elem.now) (kids_of c.args.elem.now)) in
    puts_then (sym (element-ended (tag_of c.args.elem.now) c.in-Some.space.now kids close)) c.in_ok-write_open.ensures
    (puts_then refl (c.in_ok-next-in-Some.ensures.text ancestors is)
    (puts_fails [] (sym (append-nil _)) c.from_residual-in_err-write_close-in-Some.ensures.1 c.in_err-write_close-in-Some.ensures))

pub write_kids-returns-clause-text : goal.write_kids-returns-clause-text
write_kids-returns-clause-text g t c = λ ancestors is.
    let tag = tag_of c.args.elem.now in
    let not_root : is_root ancestors tag ≡ false = ap (λ l. is_data_level l && is_story_root tag) (sym is) ∙ sym c.is_root.ensures ∙ c.if-is_root.false in
    let below : c.below.result ≡ level_of (tag ∷ ancestors) = c.below.ensures ∙ ap (λ l. level_below l tag) is in
    rw (not_root, ← c.kids.ensures.kids) (c.write_among.ensures.text (tag ∷ ancestors) below)
