-- Rules 3, 7, 8 and 9 hold again after a pass, by the law on ancestors.
use Rattle.std.proofs.Common.{◌≡◌, ℕ, List, [], ◌∷◌, Bool, true, false, ◌&&◌, ◌||◌, not, inl, inr, Option, Some, None, is_some, refl, sym, ap, ◌∙◌, true≢false}
use Rattle.std.proofs.lemmas.Bool.{and_parts, and_from, or_left, or_right, false_from_ne_true}
use Rattle.redl_tree.specs.Model.Nodes.{Tag, Nodes, no_nodes, bytes, element, ◌⊕◌}
use Rattle.redl_tree.specs.Roles.Names.{is}
use Rattle.redl_tree.specs.Model.Kids.{only, has_element}
use Rattle.redl_tree.specs.Roles.Places.{is_open, is_range_edge, trace_of, prop_of, props_name, in_props, placed, first_role, role}
use Rattle.redl_tree.specs.Roles.Kinds.{is_content, is_change}
use Rattle.redl_tree.specs.Decisions.Restored.{rejected, after_change}
use Rattle.redl_tree.specs.Decisions.Pass.{pieces, pass}
use Rattle.redl_tree.specs.Rules.Tests.{Test, everywhere, open_one}
use Rattle.redl_tree.specs.Rules.Sound.{is_marker, former_declares, change_declares, below_change, test_7, test_8, test_9}
use Rattle.redl_tree.specs.declared.kinds.Say.{Say}
use Rattle.redl_tree.specs.declared.kinds.Prop.{Prop}
use Rattle.redl_tree.specs.declared.kinds.Kind.{Kind}
use Rattle.redl_tree.specs.declared.kinds.Kind.TheVariants.{Plain, Content, Mark, Row, Cell, Change, Marker}
use Rattle.redl_tree.proofs.Roles.Named.{by_name}
use Rattle.redl_tree.proofs.Roles.Fits.{true_false}
use Rattle.redl_laws.proofs.Soundness.AlikeTags.{Like, Own, like_self, like_edge, like_trace, like_prop}
use Rattle.redl_laws.proofs.Soundness.Ancestors.{Came, Stood, free3, kid_3, kid_3_from, came_3, came_8, came_open, change_came, content_role, change_role, change_first, at_props, implies_from, implies_of, not_of, not_to}
use Rattle.redl_laws.proofs.Soundness.Walk.{Holds, Ground, Kept, made, change_shut, grouped_good, GoodPieces, change_name}
use Rattle.redl_laws.proofs.Soundness.ShutLists.{rule_8_of, below_none_rejected, shut_pass, former_pass}

-- RULE 3, as one of the kid

pub kept_3 : (ext : Test) → (says : List Say) → Kept ext says kid_3
kept_3 ext says = record {
  stays = λ old new a b kids c pr mk h g s o. kid_3_from new b (made says old a kids) (came_3 old new a b c o.like (free3 old a kids h.rule_3));
  alone = λ old new a b kids c pr h g e o. kid_3_from new b (pass says (a ∷ old) kids) (came_3 old new a b c o.like (free3 old a kids h.rule_3));
  joined = λ new a cl kids more e h none. h;
  former = λ old new a kids c e h g m. kid_3_from new a kids (came_3 old new a a c (like_self a) (free3 old a kids h.rule_3));
}

-- RULE 8

pub kept_8 : (ext : Test) → (says : List Say) → Kept ext says test_8
kept_8 ext says = record {
  stays = λ old new a b kids c pr mk h g s o. came_8 old new a b kids (made says old a kids) c o.like h.rule_8;
  alone = λ old new a b kids c pr h g e o. came_8 old new a b kids (pass says (a ∷ old) kids) c o.like h.rule_8;
  joined = λ new a cl kids more e h none. h;
  former = λ old new a kids c e h g m. came_8 old new a a kids kids c (like_self a) h.rule_8;
}

-- RULE 7

abbrev never : Test
never ancestors tag kids = false

never_none : (ancestors : List Tag) (xs : Nodes) → everywhere never ancestors xs ≡ true → has_element xs ≡ false
never_none ancestors no_nodes e = refl
never_none ancestors (bytes b rest) e = never_none ancestors rest e
never_none ancestors (element tag kids rest) e = absurd (true≢false (sym e))

bare_pieces : (says : List Say) (ancestors new : List Tag) (xs : Nodes) → has_element xs ≡ false → GoodPieces never new (pieces says ancestors xs)
bare_pieces says ancestors new no_nodes e = tt
bare_pieces says ancestors new (bytes b rest) e = ((refl, λ b e. refl), bare_pieces says ancestors new rest e)
bare_pieces says ancestors new (element tag kids rest) e = absurd (true≢false e)

bare_pass : (says : List Say) (ancestors : List Tag) (xs : Nodes) → has_element xs ≡ false → has_element (pass says ancestors xs) ≡ false
bare_pass says ancestors xs e =
    never_none [] (pass says ancestors xs)
    (grouped_good never (λ new a c kids more p h none. h) [] false None (pieces says ancestors xs) (bare_pieces says ancestors [] xs e) tt)

bare_rejected : (says : List Say) (xs : Nodes) → has_element xs ≡ false → rejected says xs ≡ None
bare_rejected says no_nodes e = refl
bare_rejected says (bytes b rest) e = bare_rejected says rest e
bare_rejected says (element tag kids rest) e = absurd (true≢false e)

bare_made : (says : List Say) (old : List Tag) (a : Tag) (kids : Nodes) → has_element kids ≡ false → has_element (made says old a kids) ≡ false
bare_made says old a kids e = rw (bare_rejected says kids e) (bare_pass says (a ∷ old) kids e)

module _ (has_id : List ℕ → Bool) where
  marker_edge : (ancestors : List Tag) (tag : Tag) → is_marker has_id ancestors tag ≡ true → (is_open ancestors ≡ true) × (is_range_edge tag ≡ true)
  marker_edge ancestors tag e = and_parts (is_open ancestors) (is_range_edge tag) (and_parts (is_open ancestors && is_range_edge tag) (has_id tag.tail) e).0

  p_no_marker : (ancestors : List Tag) (a : Tag) → is "p" a ≡ true → is_marker has_id ancestors a ≡ true → ⊥
  p_no_marker ancestors a e m = true_false (is_range_edge a) (marker_edge ancestors a m).1 (by_name (λ t. is_range_edge t ≡ false) "p" a e refl)

  marker_came : (old new : List Tag) (a b : Tag) → Came old new → Own a b → is_marker has_id new b ≡ is_marker has_id old a
  marker_came old new a b c o = rw (came_open old new c, like_edge a b o.like, o.tail) refl

  pub kept_7 : (says : List Say) → Kept (test_7 has_id) says (test_7 has_id)
  kept_7 says = record {
    stays = λ old new a b kids c pr mk h g s o. implies_from _ _ (λ m.
        let bare : has_element kids ≡ false = false_from_ne_true (has_element kids) (not_to (has_element kids) (implies_of _ _ h.own (sym (marker_came old new a b c o) ∙ m))) in
        not_of (has_element (made says old a kids)) (λ w. true≢false (sym w ∙ bare_made says old a kids bare)));
    alone = λ old new a b kids c pr h g e o. implies_from _ _ (λ m. absurd (p_no_marker new b (o.like.name "p" refl ∙ e) m));
    joined = λ new a cl kids more e h none. implies_from _ _ (λ m. absurd (p_no_marker new a e m));
    former = λ old new a kids c e h g m. implies_from _ _ (λ w. absurd (true_false (is_open new) (marker_edge new a w).0 (came_open old new c ∙ change_shut old e)));
  }

-- RULE 9

abbrev tags_decided : List Tag → Tag → Bool
tags_decided ancestors tag = open_one "p" ancestors tag || is_content (role ancestors tag) || is_change (role ancestors tag)

or3 : (x y z : Bool) (X : Type 0) → ((x || y) || z) ≡ true → (x ≡ true → X) → (y ≡ true → X) → (z ≡ true → X) → X
or3 true y z X e f g h = f refl
or3 false true z X e f g h = g refl
or3 false false true X e f g h = h refl
or3 false false false X e f g h = absurd (true≢false (sym e))

module _ (ext : Test) (old new : List Tag) (a b : Tag) (kids : Nodes) (c : Came old new) (l : Like a b) (h : Holds ext old a kids) where
  -- a change of the result was one
  was_change : is_change (role new b) ≡ true → (is_change (role old a) ≡ true) × (below_change old ≡ false)
  was_change e =
      let up : below_change old ≡ false = false_from_ne_true (below_change old) (λ w.
      true_false (is_some (prop_of a)) (ap is_some (sym (like_prop a b l)) ∙ change_name new b e) (rule_8_of old a kids h.rule_8 w).prop) in
      (at up (change_came old new a b c l e), up)
    where
      at : below_change old ≡ false → Stood old (is_change (role old a)) → is_change (role old a) ≡ true
      at up (inl s) = s
      at up (inr s) = absurd (true_false (below_change old) s up)

  was_decided : tags_decided new b ≡ true → tags_decided old a ≡ true
  was_decided e =
      or3 (open_one "p" new b) (is_content (role new b)) (is_change (role new b)) (tags_decided old a ≡ true) e
      (λ p. or_left (open_one "p" old a || is_content (role old a)) (is_change (role old a)) (or_left (open_one "p" old a) (is_content (role old a)) (rw (l.name "p" refl, came_open old new c) at p)))
      (λ p. or_left (open_one "p" old a || is_content (role old a)) (is_change (role old a)) (or_right (open_one "p" old a) (is_content (role old a))
      (content_role old a ∙ sym (rw (came_open old new c, like_trace a b l) refl) ∙ sym (content_role new b) ∙ p)))
      (λ p. or_right (open_one "p" old a || is_content (role old a)) (is_change (role old a)) (was_change p).0)

p_no_change : (new : List Tag) (a : Tag) → is "p" a ≡ true → is_change (role new a) ≡ true → ⊥
p_no_change new a e r = true_false (is_some (prop_of a)) (change_name new a r) (by_name (λ t. is_some (prop_of t) ≡ false) "p" a e refl)

-- a change is one of the properties that its name tells
role_prop : (ancestors : List Tag) (tag : Tag) (prop : Prop) → role ancestors tag ≡ Change prop → prop_of tag ≡ Some prop
role_prop ancestors tag prop e = at (prop_of tag) refl
  where
    same : (x : Bool) (p : Prop) → first_role (placed x (Some (Change p)) ∷ []) ≡ Change prop → p ≡ prop
    same true p h = cc
    same false p h = cc

    at : (p : Option Prop) → prop_of tag ≡ p → prop_of tag ≡ Some prop
    at None h = absurd (true≢false (sym (ap is_change e) ∙ change_role ancestors tag ∙ ap (at_props ancestors) h))
    at (Some p) h = h ∙ ap Some (same (in_props p ancestors) p (sym (change_first ancestors tag p h) ∙ e))

prop_role : (ancestors : List Tag) (tag : Tag) (prop : Prop) → is_change (role ancestors tag) ≡ true → prop_of tag ≡ Some prop → role ancestors tag ≡ Change prop
prop_role ancestors tag prop r e = change_first ancestors tag prop e ∙ at (in_props prop ancestors) (sym (ap is_change (change_first ancestors tag prop e)) ∙ r)
  where
    at : (x : Bool) → is_change (first_role (placed x (Some (Change prop)) ∷ [])) ≡ true → first_role (placed x (Some (Change prop)) ∷ []) ≡ Change prop
    at true h = refl
    at false h = absurd (true≢false (sym h))

-- what a change declares, by the properties that it is of
declares_not : (declares : List ℕ → Bool) (k : Kind) (kids : Nodes) → ((prop : Prop) → k ≡ Change prop → former_declares declares (props_name prop) kids ≡ false) →
    change_declares declares k kids ≡ false
declares_not declares Plain kids h = refl
declares_not declares (Content t) kids h = refl
declares_not declares (Mark t) kids h = refl
declares_not declares (Row t) kids h = refl
declares_not declares (Cell t) kids h = refl
declares_not declares (Change prop) kids h = h prop refl
declares_not declares Marker kids h = refl

no_change_declares : (declares : List ℕ → Bool) (k : Kind) (kids : Nodes) → (is_change k ≡ true → ⊥) → not (change_declares declares k kids) ≡ true
no_change_declares declares k kids h = ap not (declares_not declares k kids (λ prop e. absurd (h (ap is_change e))))

no_former : (ext : Test) → (declares : List ℕ → Bool) (says : List Say) (old new : List Tag) (a b : Tag) (kids : Nodes) → Came old new → Like a b → Holds ext old a kids → Ground ext (a ∷ old) kids →
    not (change_declares declares (role old a) kids) ≡ true → change_declares declares (role new b) (made says old a kids) ≡ false
no_former ext declares says old new a b kids c l h g own =
    declares_not declares (role new b) (made says old a kids) (λ prop e.
    let w = was_change ext old new a b kids c l h (ap is_change e) in
    let below : below_change (a ∷ old) ≡ true = or_left (is_change (role old a)) (below_change old) w.0 in
    let old_role : role old a ≡ Change prop = prop_role old a prop w.0 (sym (like_prop a b l) ∙ role_prop new b prop e) in
    let none : change_declares declares (role old a) kids ≡ false = false_from_ne_true (change_declares declares (role old a) kids) (not_to (change_declares declares (role old a) kids) own) in
    ap (λ u. former_declares declares (props_name prop) (after_change old a u (pass says (a ∷ old) kids))) (below_none_rejected ext says (a ∷ old) kids below g)
    ∙ ap (former_declares declares (props_name prop)) (shut_pass says (a ∷ old) kids (change_shut (a ∷ old) below))
    ∙ former_pass ext declares says a old (props_name prop) kids w.0 below g
    ∙ (sym (ap (λ k. change_declares declares k kids) old_role) ∙ none))

pub kept_9 : (declares : List ℕ → Bool) (says : List Say) → Kept (test_9 declares) says (test_9 declares)
kept_9 declares says = record {
  stays = λ old new a b kids c pr mk h g s o.
      and_from _ _
      (implies_from (tags_decided new b) (not (declares b.tail)) (λ e. ap (λ t. not (declares t)) o.tail ∙ implies_of _ _ (and_parts _ _ h.own).0 (was_decided (test_9 declares) old new a b kids c o.like h e)))
      (ap not (no_former (test_9 declares) declares says old new a b kids c o.like h g (and_parts _ _ h.own).1));
  alone = λ old new a b kids c pr h g e o.
      and_from _ _
      (implies_from (tags_decided new b) (not (declares b.tail)) (λ w. ap (λ t. not (declares t)) o.tail ∙ implies_of _ _ (and_parts _ _ h.own).0 (was_decided (test_9 declares) old new a b kids c o.like h w)))
      (no_change_declares declares (role new b) (pass says (a ∷ old) kids) (p_no_change new b (o.like.name "p" refl ∙ e)));
  joined = λ new a cl kids more e h none.
      and_from _ _ (and_parts _ _ h).0 (no_change_declares declares (role new a) (only (is "pPr") kids ⊕ more) (p_no_change new a e));
  former = λ old new a kids c e h g m.
      let shut : is_open new ≡ false = came_open old new c ∙ change_shut old e in
      let none : is_change (role new a) ≡ true → ⊥ = λ w. true_false (is_some (prop_of a)) (change_name new a w) (rule_8_of old a kids h.rule_8 e).prop in
      and_from _ _
      (implies_from _ _ (λ w. absurd (or3 (open_one "p" new a) (is_content (role new a)) (is_change (role new a)) ⊥ w
      (λ p. true_false (is_open new) (and_parts (is "p" a) (is_open new) p).1 shut)
      (λ p. true_false (is_open new) (and_parts (is_open new) (is_some (trace_of a)) (sym (content_role new a) ∙ p)).0 shut)
      none)))
      (no_change_declares declares (role new a) kids none);
}
