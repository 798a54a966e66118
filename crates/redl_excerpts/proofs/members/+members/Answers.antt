-- Each node tells after those before it. It is long because a member tells its words and, as a paragraph, what is around it.
use Rattle.std.proofs.Common.{◌≡◌, ◌<◌, ◌≤◌, ◌∙◌, ◌+◌, ◌-◌, ◌++◌, ℕ, zero, suc, List, Option, [], ◌∷◌, append-nil, drop, length, take, refl, sym, ap, subst, arith, false, true}
use Rattle.std.proofs.Math.ListN.{set}
use Rattle.std.proofs.lemmas.Option.{slice_get_read}
use denote.Param.Weighed.{most}
use Rattle.redl_tree.specs.Model.View.{item_of, kids_of, nodes_of, tag_of}
use Rattle.redl_tree.specs.declared.node.Node.{Node, size-Node}
use Rattle.redl_tree.proofs.Model.Laws.{nodes_here}
use Rattle.redl_said.specs.Ears.{along-more}
use Rattle.redl_excerpts.specs.Excerpts.{TellsEach, is_moved}
use Rattle.redl_excerpts.specs.declared.excerpt.Excerpt.{Excerpt}
use Rattle.redl_excerpts.specs.Inside.Around.{closed_if, first_if}
use Rattle.redl_excerpts.specs.Inside.Flat.{are_flat}
use Rattle.redl_said.specs.Lines.{along, behind}
use Rattle.redl_excerpts.specs.Mentions.{Mention, Where, element_mentions, inside, item_mentions, member_told, mentions, stretch_in}
use Rattle.redl_said.specs.Said.{item_said, said}
use Rattle.redl_excerpts.specs.Inside.Views.{where_of}
use Rattle.redl_excerpts.proofs.FlatLaws.{flat_mentions}
use Rattle.redl_excerpts.proofs.AroundLaws.{inside-around, member-around, tells-around, tells-keep}
use Rattle.redl_excerpts.proofs.TellLaws.{made-still, tells-as, tells-where_made}
use Rattle.redl_excerpts.proofs.MemberLaws.{mentions-in_front, tells-begins, tells-goes_on}
use Rattle.redl_said.proofs.SaidLaws.{said-in_front}
use Rattle.redl_excerpts.proofs.members.+members.Goals as goal

pub tell_members-loop-node-init : goal.tell_members-loop-node-init
tell_members-loop-node-init t c = record { told = tells-begins _ _; place = refl }

pub tell_members-loop-node-preserved : goal.tell_members-loop-node-preserved
tell_members-loop-node-preserved t c =
    let nodes = c.args.nodes.now in
    let i = c.loop-node.node-index in
    let x = c.node-item.result in
    let rest = nodes_of (drop (i + 1) nodes) in
    let here = nodes_here nodes i x (omega arith) c.node-item.is in
    let at = c.loop-node.place in
    let moved = λ (v : ℕ). is_moved c.args.revisions.now v in
    record {
      told = tells-goes_on c.args.excerpts.now.items c.loop-node.excerpts.items c.tell_member_node.new.excerpts.items _
          (λ v. mentions (moved v) v (where_of c.args.here at) (nodes_of (drop i nodes)))
          (λ v. item_mentions (moved v) v (where_of c.args.here at) (item_of x))
          (λ v. mentions (moved v) v (where_of c.args.here c.in_ok-place.place) rest)
          c.loop-node.invariant.told c.in_ok-place.ensures.told
          (λ v. ap (λ ns. mentions (moved v) v (where_of c.args.here at) ns) here ∙ mentions-in_front (moved v) v (where_of c.args.here at) (item_of x) rest
          ∙ ap (λ p. item_mentions (moved v) v (where_of c.args.here at) (item_of x) ++ mentions (moved v) v (where_of c.args.here p) rest) (sym c.in_ok-place.ensures.place));
      place =
          ap (λ p. along p (said true c.args.here.in_text rest)) c.in_ok-place.ensures.place
          ∙ along-more at (item_said true c.args.here.in_text (item_of x)) (said true c.args.here.in_text rest)
          ∙ ap (along at) (sym (ap (said true c.args.here.in_text) here ∙ said-in_front true c.args.here.in_text (item_of x) rest))
          ∙ c.loop-node.invariant.place;
    }

pub tell_member_elem-returns-in-Some-clause-told : goal.tell_member_elem-returns-in-Some-clause-told
tell_member_elem-returns-in-Some-clause-told t c =
    let tag = tag_of c.args.elem.now in
    let kids = kids_of c.args.elem.now in
    let here = where_of c.args.here c.args.place in
    let moved = λ (v : ℕ). is_moved c.args.revisions.now v in
    tells-where_made c.args.excerpts.now.items c.tell_member.new.excerpts.items (λ v. member_told (moved v) v here tag kids) (λ v. element_mentions (moved v) v here tag kids)
    (λ v made. sym (append-nil (member_told (moved v) v here tag kids))
    ∙ ap (λ (ms : List Mention). member_told (moved v) v here tag kids ++ ms) (sym (flat_mentions c.tell_member.new.excerpts.items (moved v) v (inside here tag kids) kids
    (made-still c.args.excerpts.now.items c.tell_member.new.excerpts.items (λ v. member_told (moved v) v here tag kids) c.in_ok-end.ensures.told v ∙ made)
    (subst (λ (excerpts : List (Option Excerpt)). are_flat excerpts kids ≡ true) c.deref-2.ensures.value (c.in-Some.ensures.flat refl)))))
    c.in_ok-end.ensures.told

-- the first nodes are no deeper than all
most_take : (measure : Node → ℕ) (nodes : List Node) (n : ℕ) → most measure (take n nodes) ≤ most measure nodes
most_take measure nodes zero = omega arith
most_take measure [] (suc n) = omega arith
most_take measure (x ∷ xs) (suc n) = let later : most measure (take n xs) ≤ most measure xs = most_take measure xs n in omega (arith, later)

pub tell_paragraph-tell_members-requires : goal.tell_paragraph-tell_members-requires
tell_paragraph-tell_members-requires t c =
    let fewer : most (λ node. size-Node node) (take c.count_telling-count.result c.kids-held.result.now) ≤ most (λ node. size-Node node) c.kids-held.result.now =
    most_take (λ node. size-Node node) c.kids-held.result.now c.count_telling-count.result in
    (omega (arith, fewer, c.kids-held.ensures.below, c.decreases), tt)

pub tell_around-index_mut-requires-2 : goal.tell_around-index_mut-requires-2
tell_around-index_mut-requires-2 t c =
    let at : ℕ = c.rev.result - 1 in
    let below = nodes_of c.kids-held.result.now in
    let there : Where = record { in_text = false; siblings = below; owner = below; owner_place = c.args.place; place = c.args.place; whole = c.args.here.whole.now } in
    let inner : ℕ → List Mention = λ v. mentions (is_moved c.args.revisions.now v) v there below in
    let bound : at < length c.args.excerpts.now.items = omega (arith, c.rev.ensures, c.requires.around.numbered, c.requires.around.within) in
    let kept : at < length c.tell_members.new.excerpts.items = tells-keep c.args.excerpts.now.items c.tell_members.new.excerpts.items at c.begin_around.new.excerpt inner bound c.in_ok-end.ensures.told in
    omega (arith, kept, c.tell_members.new.excerpts.ok.0)

pub tell_around-returns-clause-told : goal.tell_around-returns-clause-told
tell_around-returns-clause-told t c =
    let old = c.args.excerpts.now.items in
    let mid = c.tell_members.new.excerpts.items in
    let tag = tag_of c.args.elem.now in
    let kids = kids_of c.args.elem.now in
    let below = nodes_of c.kids-held.result.now in
    let here = where_of c.args.here c.args.place in
    let around = c.requires.around in
    let moved = λ (v : ℕ). is_moved c.args.revisions.now v in
    let at : ℕ = c.rev.result - 1 in
    let own : Mention = stretch_in here.whole tag here.place kids in
    let there : Where = record { in_text = false; siblings = below; owner = below; owner_place = here.place; place = here.place; whole = here.whole } in
    let first : ℕ → List Mention = λ v. member_told (moved v) v here tag kids in
    let inner : ℕ → List Mention = λ v. mentions (moved v) v there below in
    let bound : at < length old = omega (arith, c.rev.ensures, around.numbered, around.within) in
    let number : suc at ≡ tag.rev = omega (arith, c.rev.ensures, around.numbered) in
    let kept : at < length mid = tells-keep old mid at c.begin_around.new.excerpt inner bound c.in_ok-end.ensures.told in
    let found = slice_get_read old (length old) at c.index_mut.result.now refl bound c.index_mut.ensures.value in
    let within = slice_get_read mid (length mid) at c.index_mut-2.result.now refl kept c.index_mut-2.ensures.value in
    let opened_told = subst (λ x. TellsEach (set old at x) mid inner) c.in_ok-away.ensures.opened c.in_ok-end.ensures.told in
    let end : c.in_ok-end.end ≡ along here.place (said true false kids) = c.in_ok-end.ensures.place ∙ ap (λ ns. along here.place (said true false ns)) c.kids-held.ensures.kids in
    let is : c.end_around.new.excerpt ≡ closed_if c.index_mut-2.result.now (first_if own c.index_mut.result.now) own.behind =
    c.in_ok-end_around.ensures ∙ ap (λ a. closed_if c.index_mut-2.result.now a (behind here.whole c.in_ok-end.end)) c.in_ok-away.ensures.away
    ∙ ap (λ p. closed_if c.index_mut-2.result.now (first_if own c.index_mut.result.now) (behind here.whole p)) end in
    let inside_is = inside-around c.args.revisions.now (length old) here tag kids below around c.kids-held.ensures.kids in
    tells-as old (set mid at c.end_around.new.excerpt) (λ v. first v ++ inner v) (λ v. element_mentions (moved v) v here tag kids)
    (λ v. ap (λ w. first v ++ mentions (moved v) v w below) inside_is ∙ ap (λ ns. first v ++ mentions (moved v) v (inside here tag kids) ns) c.kids-held.ensures.kids)
    (tells-around old mid at c.index_mut.result.now c.index_mut-2.result.now c.end_around.new.excerpt own first inner bound found opened_told within
    (member-around c.args.revisions.now at (length old) here tag kids around number) is)
