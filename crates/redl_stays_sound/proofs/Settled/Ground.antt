-- What the rules of structure say of each element of a sound package, as the walk over it asks for them.
use Rattle.std.proofs.Common.{◌≡◌, ℕ, List, [], ◌∷◌, Bool, true, false, ◌&&◌, not, is_some, refl, sym, ◌∙◌, true≢false}
use Rattle.std.proofs.lemmas.Bool.{and_from, and_parts, false_from_ne_true, or_parts}
use Rattle.redl_laws.proofs.Soundness.AllRules.{NineHold, ground}
use Rattle.redl_laws.proofs.Soundness.Ancestors.{Free3, among-past, blocks_open, content_role, free3, implies_from, implies_of, kid_3, not_of, not_to, past_content, past_open}
use Rattle.redl_laws.proofs.Soundness.Walk.{Ground}
use Rattle.redl_laws.proofs.Survival.Indexed.{AreStories}
use Rattle.redl_tree.proofs.Roles.Fits.{true_false}
use Rattle.redl_tree.specs.Model.Kids.{some_element}
use Rattle.redl_tree.specs.Model.Nodes.{Nodes, Tag, bytes, element, no_nodes}
use Rattle.redl_tree.specs.Model.View.{Element}
use Rattle.redl_tree.specs.Roles.Kinds.{is_content}
use Rattle.redl_tree.specs.Roles.Lists.{in_blocks, is_thick}
use Rattle.redl_tree.specs.Roles.Places.{is_open, role, trace_of}
use Rattle.redl_tree.specs.Rules.Sound.{among_blocks, holds, in_content, test_1, test_2, test_3, test_4, test_5, test_6, test_8}
use Rattle.redl_tree.specs.Rules.Tests.{Test, everywhere}

-- ---- rule 3, as one of the kids of a content revision

open-among : (ancestors : List Tag) → among_blocks ancestors ≡ true → is_open ancestors ≡ true
open-among ancestors e = sym (past_open ancestors) ∙ blocks_open (past_content ancestors) (sym (among-past ancestors) ∙ e)

-- content among blocks has no thick kid
abbrev NoThick : List Tag → Nodes → Type 0
NoThick ancestors nodes = in_content ancestors ≡ true → among_blocks ancestors ≡ true → some_element is_thick nodes ≡ false

among-on : (tag : Tag) (ancestors : List Tag) → is_some (trace_of tag) ≡ true → among_blocks (tag ∷ ancestors) ≡ among_blocks ancestors
among-on tag ancestors e = rw e refl

to-kids : (ancestors : List Tag) (nodes : Nodes) → NoThick ancestors nodes → everywhere test_3 ancestors nodes ≡ true → everywhere kid_3 ancestors nodes ≡ true
to-kids ancestors no_nodes h e = refl
to-kids ancestors (bytes b rest) h e = to-kids ancestors rest h e
to-kids ancestors (element tag kids rest) h e =
    let x = and_parts (test_3 ancestors tag kids && everywhere test_3 (tag ∷ ancestors) kids) (everywhere test_3 ancestors rest) e in
    let y = and_parts (test_3 ancestors tag kids) (everywhere test_3 (tag ∷ ancestors) kids) x.0 in
    let z = and_parts _ _ y.0 in
    let own : kid_3 ancestors tag kids ≡ true =
    and_from _ _ z.0 (implies_from (is_thick tag && in_content ancestors) (not (in_blocks (past_content ancestors))) (λ t.
    let both = and_parts (is_thick tag) (in_content ancestors) t in
    not_of (in_blocks (past_content ancestors)) (λ b.
    true_false (is_thick tag) both.0 (or_parts (is_thick tag) (some_element is_thick rest) (h both.1 (among-past ancestors ∙ b))).0)))
    in
    and_from _ _ (and_from _ _ own (to-kids (tag ∷ ancestors) kids (λ i a.
    let among = sym (among-on tag ancestors i) ∙ a in
    false_from_ne_true (some_element is_thick kids) (not_to (some_element is_thick kids)
    (implies_of _ _ z.1 (and_from (is_content (role ancestors tag)) (among_blocks ancestors) (content_role ancestors tag ∙ and_from (is_open ancestors) (is_some (trace_of tag)) (open-among ancestors among) i) among))))
    y.1))
    (to-kids ancestors rest (λ i a. (or_parts (is_thick tag) (some_element is_thick rest) (h i a)).1) x.1)

-- ---- story by story

-- a test of the first of some stories, of its root and of what is below it, and of the others
record IsFirst (test : Test) (story : Element) (later : List Element) : Type 0 where
  root : test [] story.tag story.kids ≡ true
  below : everywhere test (story.tag ∷ []) story.kids ≡ true
  others : holds test later ≡ true

first : (test : Test) (story : Element) (later : List Element) → holds test (story ∷ later) ≡ true → IsFirst test story later
first test story later e =
    let both = and_parts (everywhere test [] (element story.tag story.kids no_nodes)) (holds test later) e in
    let whole = and_parts (test [] story.tag story.kids && everywhere test (story.tag ∷ []) story.kids) true both.0 in
    let parts = and_parts (test [] story.tag story.kids) (everywhere test (story.tag ∷ []) story.kids) whole.0 in
    record { root = parts.0; below = parts.1; others = both.1 }

kids-hold : (stories : List Element) → holds test_3 stories ≡ true → holds kid_3 stories ≡ true
kids-hold [] e = refl
kids-hold (story ∷ later) e =
    let both = and_parts (everywhere test_3 [] (element story.tag story.kids no_nodes)) (holds test_3 later) e in
    and_from _ _ (to-kids [] (element story.tag story.kids no_nodes) (λ i a. absurd (true≢false (sym i))) both.0) (kids-hold later both.1)

-- what is known of each story of a sound package
abbrev pub AreGrounded : List Element → Type 0
AreGrounded [] = Unit {0}
AreGrounded (story ∷ later) = Free3 [] story.tag × Ground test_8 (story.tag ∷ []) story.kids × AreGrounded later

-- the rules that the walk asks for
record SevenHold (stories : List Element) : Type 0 where
  rule_1 : holds test_1 stories ≡ true
  rule_2 : holds test_2 stories ≡ true
  kids : holds kid_3 stories ≡ true
  rule_4 : holds test_4 stories ≡ true
  rule_5 : holds test_5 stories ≡ true
  rule_6 : holds test_6 stories ≡ true
  rule_8 : holds test_8 stories ≡ true

grounded-each : (stories : List Element) → AreStories stories → SevenHold stories → AreGrounded stories
grounded-each [] are h = tt
grounded-each (story ∷ later) are h =
    let r1 = first test_1 story later h.rule_1 in
    let r2 = first test_2 story later h.rule_2 in
    let r3 = first kid_3 story later h.kids in
    let r4 = first test_4 story later h.rule_4 in
    let r5 = first test_5 story later h.rule_5 in
    let r6 = first test_6 story later h.rule_6 in
    let r8 = first test_8 story later h.rule_8 in (
      free3 [] story.tag story.kids r3.root,
      ground test_8 (story.tag ∷ []) story.kids are.0.fits
          (record { rule_1 = r1.below; rule_2 = r2.below; rule_3 = r3.below; rule_4 = r4.below; rule_5 = r5.below; rule_6 = r6.below; rule_8 = r8.below; own = r8.below }),
      grounded-each later are.1
          (record { rule_1 = r1.others; rule_2 = r2.others; kids = r3.others; rule_4 = r4.others; rule_5 = r5.others; rule_6 = r6.others; rule_8 = r8.others }),
    )

pub grounded : (has_id declares : List ℕ → Bool) (stories : List Element) → AreStories stories → NineHold has_id declares stories → AreGrounded stories
grounded has_id declares stories are n =
    grounded-each stories are
    (record { rule_1 = n.rule_1; rule_2 = n.rule_2; kids = kids-hold stories n.rule_3; rule_4 = n.rule_4; rule_5 = n.rule_5; rule_6 = n.rule_6; rule_8 = n.rule_8 })
