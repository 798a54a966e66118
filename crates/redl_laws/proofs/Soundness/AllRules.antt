-- The law of soundness: each of the nine rules holds of a passed package where all nine hold of the original.
use Rattle.std.proofs.Common.{◌≡◌, ℕ, List, [], ◌∷◌, map, Bool, true, false, ◌&&◌, not, is_some, refl, sym, ap, ◌∙◌, true≢false}
use Rattle.std.proofs.lemmas.Bool.{and_parts, and_from, or_parts, or_from, false_from_ne_true}
use Rattle.redl_tree.specs.Model.Nodes.{Tag, Nodes, no_nodes, bytes, element}
use Rattle.redl_tree.specs.Model.View.{Element}
use Rattle.redl_tree.specs.Roles.Names.{is}
use Rattle.redl_tree.specs.Model.Kids.{some_element}
use Rattle.redl_tree.specs.Roles.Places.{is_quiet, is_open, trace_of, role}
use Rattle.redl_tree.specs.Roles.Lists.{is_thick, in_blocks}
use Rattle.redl_tree.specs.Roles.Kinds.{is_content}
use Rattle.redl_tree.specs.Decisions.Tables.{goes_at}
use Rattle.redl_tree.specs.Decisions.Pass.{pass}
use Rattle.redl_tree.specs.Decisions.Packages.{is_story_root, stories, pass_package}
use Rattle.redl_tree.specs.Revisions.Markers.{Value}
use Rattle.redl_tree.specs.Revisions.Numbers.{IsIndexed, numbered_package_by}
use Rattle.redl_tree.specs.Rules.Tests.{Test, everywhere}
use Rattle.redl_tree.specs.Rules.Sound.{in_content, among_blocks, holds, tests, is_sound, test_1, test_2, test_3, test_4, test_5, test_6, test_7, test_8, test_9}
use Rattle.redl_tree.specs.declared.kinds.Say.{Say}
use Rattle.redl_tree.proofs.Model.Build.{one}
use Rattle.redl_tree.proofs.Roles.Named.{by_names}
use Rattle.redl_tree.proofs.Roles.Fits.{AllFit, true_false, open_∷, open_none_rejected}
use Rattle.redl_laws.proofs.Soundness.AlikeTags.{Own, like_self}
use Rattle.redl_laws.proofs.Soundness.Ancestors.{Came, top, kept, Free3, past_content, among-past, past_open, blocks_open, kid_3, free3, content_role, implies_from, implies_of, not_of, not_to}
use Rattle.redl_laws.proofs.Survival.Indexed.{AreStories, indexed_stories, stories-pass, passed}
use Rattle.redl_laws.proofs.Soundness.Walk.{Holds, Ground, Kept, walked, settled_kept, everywhere-one}
use Rattle.redl_laws.proofs.Soundness.Rules.{kept_3, kept_7, kept_8, kept_9}
use Rattle.redl_laws.proofs.Soundness.Properties.{kept_4, kept_5, kept_6}
use Rattle.redl_laws.proofs.Soundness.RowLaws.{kept_2}
use Rattle.redl_laws.proofs.Soundness.Ends.{kept_1}
use Rattle.redl_tree.proofs.Revisions.NumberLaws.{numbered-indexed, sound-numbered}

-- Rule 3 says of a content revision what the form of the walk says of its kids.

open_among : (ancestors : List Tag) → among_blocks ancestors ≡ true → is_open ancestors ≡ true
open_among ancestors e = sym (past_open ancestors) ∙ blocks_open (past_content ancestors) (sym (among-past ancestors) ∙ e)

-- content among blocks has no thick kid
abbrev NoThick : List Tag → Nodes → Type 0
NoThick ancestors nodes = in_content ancestors ≡ true → among_blocks ancestors ≡ true → some_element is_thick nodes ≡ false

among_on : (tag : Tag) (ancestors : List Tag) → is_some (trace_of tag) ≡ true → among_blocks (tag ∷ ancestors) ≡ among_blocks ancestors
among_on tag ancestors e = rw e refl

to_kid_3 : (ancestors : List Tag) (nodes : Nodes) → NoThick ancestors nodes → everywhere test_3 ancestors nodes ≡ true → everywhere kid_3 ancestors nodes ≡ true
to_kid_3 ancestors no_nodes h e = refl
to_kid_3 ancestors (bytes b rest) h e = to_kid_3 ancestors rest h e
to_kid_3 ancestors (element tag kids rest) h e =
    let x = and_parts (test_3 ancestors tag kids && everywhere test_3 (tag ∷ ancestors) kids) (everywhere test_3 ancestors rest) e in
    let y = and_parts (test_3 ancestors tag kids) (everywhere test_3 (tag ∷ ancestors) kids) x.0 in
    let z = and_parts _ _ y.0 in
    let own : kid_3 ancestors tag kids ≡ true =
    and_from _ _ z.0 (implies_from (is_thick tag && in_content ancestors) (not (in_blocks (past_content ancestors))) (λ t.
    let both = and_parts (is_thick tag) (in_content ancestors) t in
    not_of (in_blocks (past_content ancestors)) (λ b.
    true_false (is_thick tag) both.0 (or_parts (is_thick tag) (some_element is_thick rest) (h both.1 (among-past ancestors ∙ b))).0)))
    in
    and_from _ _ (and_from _ _ own (to_kid_3 (tag ∷ ancestors) kids (λ i a.
    let among = sym (among_on tag ancestors i) ∙ a in
    false_from_ne_true (some_element is_thick kids) (not_to (some_element is_thick kids)
    (implies_of _ _ z.1 (and_from (is_content (role ancestors tag)) (among_blocks ancestors) (content_role ancestors tag ∙ and_from (is_open ancestors) (is_some (trace_of tag)) (open_among ancestors among) i) among))))
    y.1))
    (to_kid_3 ancestors rest (λ i a. (or_parts (is_thick tag) (some_element is_thick rest) (h i a)).1) x.1)

no_thick : (ancestors : List Tag) (nodes : Nodes) → everywhere kid_3 ancestors nodes ≡ true → NoThick ancestors nodes
no_thick ancestors no_nodes e i a = refl
no_thick ancestors (bytes b rest) e i a = no_thick ancestors rest e i a
no_thick ancestors (element tag kids rest) e i a =
    let x = and_parts (kid_3 ancestors tag kids && everywhere kid_3 (tag ∷ ancestors) kids) (everywhere kid_3 ancestors rest) e in
    let y = and_parts (kid_3 ancestors tag kids) (everywhere kid_3 (tag ∷ ancestors) kids) x.0 in
    or_from (is_thick tag) (some_element is_thick rest)
    (false_from_ne_true (is_thick tag) (λ t. (free3 ancestors tag kids y.0).blocks t i (sym (among-past ancestors) ∙ a)))
    (no_thick ancestors rest x.1 i a)

from_kid_3 : (ancestors : List Tag) (nodes : Nodes) → everywhere kid_3 ancestors nodes ≡ true → everywhere test_3 ancestors nodes ≡ true
from_kid_3 ancestors no_nodes e = refl
from_kid_3 ancestors (bytes b rest) e = from_kid_3 ancestors rest e
from_kid_3 ancestors (element tag kids rest) e =
    let x = and_parts (kid_3 ancestors tag kids && everywhere kid_3 (tag ∷ ancestors) kids) (everywhere kid_3 ancestors rest) e in
    let y = and_parts (kid_3 ancestors tag kids) (everywhere kid_3 (tag ∷ ancestors) kids) x.0 in
    let z = and_parts _ _ y.0 in
    let own : test_3 ancestors tag kids ≡ true =
    and_from _ _ z.0 (implies_from (is_content (role ancestors tag) && among_blocks ancestors) (not (some_element is_thick kids)) (λ t.
    let both = and_parts (is_content (role ancestors tag)) (among_blocks ancestors) t in
    let trace = (and_parts (is_open ancestors) (is_some (trace_of tag)) (sym (content_role ancestors tag) ∙ both.0)).1 in
    ap not (no_thick (tag ∷ ancestors) kids y.1 trace (among_on tag ancestors trace ∙ both.1))))
    in
    and_from _ _ (and_from _ _ own (from_kid_3 (tag ∷ ancestors) kids y.1)) (from_kid_3 ancestors rest x.1)

-- The rules of some nodes

pub record AllRules (ext : Test) (ancestors : List Tag) (nodes : Nodes) : Type 0 where
  pub rule_1 : everywhere test_1 ancestors nodes ≡ true
  pub rule_2 : everywhere test_2 ancestors nodes ≡ true
  pub rule_3 : everywhere kid_3 ancestors nodes ≡ true
  pub rule_4 : everywhere test_4 ancestors nodes ≡ true
  pub rule_5 : everywhere test_5 ancestors nodes ≡ true
  pub rule_6 : everywhere test_6 ancestors nodes ≡ true
  pub rule_8 : everywhere test_8 ancestors nodes ≡ true
  pub own : everywhere ext ancestors nodes ≡ true

record Split (test : Test) (ancestors : List Tag) (tag : Tag) (kids rest : Nodes) : Type 0 where
  own : test ancestors tag kids ≡ true
  below : everywhere test (tag ∷ ancestors) kids ≡ true
  after : everywhere test ancestors rest ≡ true

split : (test : Test) (ancestors : List Tag) (tag : Tag) (kids rest : Nodes) → everywhere test ancestors (element tag kids rest) ≡ true → Split test ancestors tag kids rest
split test ancestors tag kids rest e =
    let x = and_parts (test ancestors tag kids && everywhere test (tag ∷ ancestors) kids) (everywhere test ancestors rest) e in
    let y = and_parts (test ancestors tag kids) (everywhere test (tag ∷ ancestors) kids) x.0 in
    record { own = y.0; below = y.1; after = x.1 }

-- of one element, of its kids, and of the nodes behind it
record Three (ext : Test) (ancestors : List Tag) (tag : Tag) (kids rest : Nodes) : Type 0 where
  own : Holds ext ancestors tag kids
  below : AllRules ext (tag ∷ ancestors) kids
  after : AllRules ext ancestors rest

three : (ext : Test) (ancestors : List Tag) (tag : Tag) (kids rest : Nodes) → AllRules ext ancestors (element tag kids rest) → Three ext ancestors tag kids rest
three ext ancestors tag kids rest r =
    let s1 = split test_1 ancestors tag kids rest r.rule_1 in
    let s2 = split test_2 ancestors tag kids rest r.rule_2 in
    let s3 = split kid_3 ancestors tag kids rest r.rule_3 in
    let s4 = split test_4 ancestors tag kids rest r.rule_4 in
    let s5 = split test_5 ancestors tag kids rest r.rule_5 in
    let s6 = split test_6 ancestors tag kids rest r.rule_6 in
    let s8 = split test_8 ancestors tag kids rest r.rule_8 in
    let sx = split ext ancestors tag kids rest r.own in
    record {
      own = record { rule_1 = s1.own; rule_2 = s2.own; rule_3 = s3.own; rule_4 = s4.own; rule_5 = s5.own; rule_6 = s6.own; rule_8 = s8.own; own = sx.own };
      below = record { rule_1 = s1.below; rule_2 = s2.below; rule_3 = s3.below; rule_4 = s4.below; rule_5 = s5.below; rule_6 = s6.below; rule_8 = s8.below; own = sx.below };
      after = record { rule_1 = s1.after; rule_2 = s2.after; rule_3 = s3.after; rule_4 = s4.after; rule_5 = s5.after; rule_6 = s6.after; rule_8 = s8.after; own = sx.after };
    }

-- where every rule holds, each element below the root stands as it has to
pub ground : (ext : Test) (ancestors : List Tag) (nodes : Nodes) → AllFit ancestors nodes → AllRules ext ancestors nodes → Ground ext ancestors nodes
ground ext ancestors no_nodes f r = tt
ground ext ancestors (bytes b rest) f r =
    ground ext ancestors rest f (record { rule_1 = r.rule_1; rule_2 = r.rule_2; rule_3 = r.rule_3; rule_4 = r.rule_4; rule_5 = r.rule_5; rule_6 = r.rule_6; rule_8 = r.rule_8; own = r.own })
ground ext ancestors (element tag kids rest) f r =
    let t = three ext ancestors tag kids rest r in
    (record { fits = f.0; rules = t.own }, ground ext (tag ∷ ancestors) kids f.1 t.below, ground ext ancestors rest f.2 t.after)

-- the law of soundness for one story and one rule
pub sound_story : (ext : Test) (says : List Say) (test : Test) → Kept ext says test → (root : Tag) (kids : Nodes) → is_story_root root ≡ true → is_quiet root ≡ false →
    AllFit (root ∷ []) kids → AllRules ext [] (one root kids) → everywhere test [] (one root (pass says (root ∷ []) kids)) ≡ true
sound_story ext says test k root kids name loud fit rules =
    let t = three ext [] root kids no_nodes rules in
    let g = ground ext (root ∷ []) kids fit t.below in
    let c : Came [] [] = top in
    let c' = kept root root c (like_self root) (free3 [] root kids t.own.rule_3) (λ p q. absurd (true≢false (sym q))) in
    let own : Own root root = record { like = like_self root; tail = refl } in
    let none = open_none_rejected says (root ∷ []) kids (open_∷ root [] loud) fit in
    let lives = by_names (λ t. goes_at says [] t kids ≡ false) ("document" ∷ "hdr" ∷ "ftr" ∷ "footnotes" ∷ "endnotes" ∷ "comments" ∷ []) root name (refl, (refl, (refl, (refl, (refl, (refl, tt)))))) in
    let other = by_names (λ t. is "p" t ≡ false) ("document" ∷ "hdr" ∷ "ftr" ∷ "footnotes" ∷ "endnotes" ∷ "comments" ∷ []) root name (refl, (refl, (refl, (refl, (refl, (refl, tt)))))) in
    let here = k.stays [] [] root root kids c (λ p q. absurd (true≢false (sym q))) (λ q. refl) t.own g (record { lives = lives; other = other }) own in
    everywhere-one test [] root (pass says (root ∷ []) kids) (rw none at here) (walked ext says test k (root ∷ []) (root ∷ []) kids c' (settled_kept [] [] root root c (like_self root)) g)

-- Packages

abbrev AllSound : Test → List Element → Type 0
AllSound ext [] = Unit {0}
AllSound ext (story ∷ rest) = AllRules ext [] (one story.tag story.kids) × AllSound ext rest

passed_holds : (ext : Test) (says : List Say) (test : Test) → Kept ext says test → (xs : List Element) → AreStories xs → AllSound ext xs → holds test (map (passed says) xs) ≡ true
passed_holds ext says test k [] h r = refl
passed_holds ext says test k (x ∷ xs) h r =
    and_from _ _ (sound_story ext says test k x.tag x.kids h.0.root h.0.loud h.0.fits r.0) (passed_holds ext says test k xs h.1 r.1)

rules_of : (x : Element) (xs : List Element) (test : Test) → holds test (x ∷ xs) ≡ true → (everywhere test [] (one x.tag x.kids) ≡ true) × (holds test xs ≡ true)
rules_of x xs test e = and_parts (everywhere test [] (one x.tag x.kids)) (holds test xs) e

kids_hold : (xs : List Element) → holds test_3 xs ≡ true → holds kid_3 xs ≡ true
kids_hold [] e = refl
kids_hold (x ∷ xs) e =
    let r = rules_of x xs test_3 e in
    and_from _ _ (to_kid_3 [] (one x.tag x.kids) (λ i a. absurd (true≢false (sym i))) r.0) (kids_hold xs r.1)

content_holds : (xs : List Element) → holds kid_3 xs ≡ true → holds test_3 xs ≡ true
content_holds [] e = refl
content_holds (x ∷ xs) e =
    let r = rules_of x xs kid_3 e in
    and_from _ _ (from_kid_3 [] (one x.tag x.kids) r.0) (content_holds xs r.1)

-- the nine rules of a list of stories
pub record NineHold (has_id declares : List ℕ → Bool) (xs : List Element) : Type 0 where
  pub rule_1 : holds test_1 xs ≡ true
  pub rule_2 : holds test_2 xs ≡ true
  pub rule_3 : holds test_3 xs ≡ true
  pub rule_4 : holds test_4 xs ≡ true
  pub rule_5 : holds test_5 xs ≡ true
  pub rule_6 : holds test_6 xs ≡ true
  pub rule_7 : holds (test_7 has_id) xs ≡ true
  pub rule_8 : holds test_8 xs ≡ true
  pub rule_9 : holds (test_9 declares) xs ≡ true

record EightHold (ext : Test) (xs : List Element) : Type 0 where
  rule_1 : holds test_1 xs ≡ true
  rule_2 : holds test_2 xs ≡ true
  rule_3 : holds kid_3 xs ≡ true
  rule_4 : holds test_4 xs ≡ true
  rule_5 : holds test_5 xs ≡ true
  rule_6 : holds test_6 xs ≡ true
  rule_8 : holds test_8 xs ≡ true
  own : holds ext xs ≡ true

all_sound : (ext : Test) (xs : List Element) → EightHold ext xs → AllSound ext xs
all_sound ext [] n = tt
all_sound ext (x ∷ xs) n =
    let r1 = rules_of x xs test_1 n.rule_1 in
    let r2 = rules_of x xs test_2 n.rule_2 in
    let r3 = rules_of x xs kid_3 n.rule_3 in
    let r4 = rules_of x xs test_4 n.rule_4 in
    let r5 = rules_of x xs test_5 n.rule_5 in
    let r6 = rules_of x xs test_6 n.rule_6 in
    let r8 = rules_of x xs test_8 n.rule_8 in
    let rx = rules_of x xs ext n.own in (
      record { rule_1 = r1.0; rule_2 = r2.0; rule_3 = r3.0; rule_4 = r4.0; rule_5 = r5.0; rule_6 = r6.0; rule_8 = r8.0; own = rx.0 },
      all_sound ext xs (record { rule_1 = r1.1; rule_2 = r2.1; rule_3 = r3.1; rule_4 = r4.1; rule_5 = r5.1; rule_6 = r6.1; rule_8 = r8.1; own = rx.1 }),
    )

-- a package that is sound keeps each of the nine rules
pub nine : (has_id declares : List ℕ → Bool) (nodes : Nodes) → is_sound (tests has_id declares) nodes ≡ true → NineHold has_id declares (stories nodes)
nine has_id declares nodes e =
    let a = and_parts (holds test_1 (stories nodes)) _ e in
    let b = and_parts (holds test_2 (stories nodes)) _ a.1 in
    let c = and_parts (holds test_3 (stories nodes)) _ b.1 in
    let d = and_parts (holds test_4 (stories nodes)) _ c.1 in
    let f = and_parts (holds test_5 (stories nodes)) _ d.1 in
    let g = and_parts (holds test_6 (stories nodes)) _ f.1 in
    let h = and_parts (holds (test_7 has_id) (stories nodes)) _ g.1 in
    let i = and_parts (holds test_8 (stories nodes)) _ h.1 in
    let j = and_parts (holds (test_9 declares) (stories nodes)) _ i.1 in
    record { rule_1 = a.0; rule_2 = b.0; rule_3 = c.0; rule_4 = d.0; rule_5 = f.0; rule_6 = g.0; rule_7 = h.0; rule_8 = i.0; rule_9 = j.0 }

-- what the rules say of the roots of stories and of what is below them
abbrev pub AreGrounded : List Element → Type 0
AreGrounded [] = Unit {0}
AreGrounded (story ∷ rest) = Free3 [] story.tag × Ground test_8 (story.tag ∷ []) story.kids × AreGrounded rest

grounded : (xs : List Element) → AreStories xs → AllSound test_8 xs → AreGrounded xs
grounded [] h r = tt
grounded (x ∷ xs) h r =
    let t = three test_8 [] x.tag x.kids no_nodes r.0 in
    (free3 [] x.tag x.kids t.own.rule_3, ground test_8 (x.tag ∷ []) x.kids h.0.fits t.below, grounded xs h.1 r.1)

-- a sound, indexed package
pub record IsSoundPackage (value : Value) (has_id declares : List ℕ → Bool) (nodes : Nodes) : Type 0 where
  pub indexed : IsIndexed value nodes
  pub sound : is_sound (tests has_id declares) nodes ≡ true

-- a sound package that is numbered is sound and indexed
pub numbered_sound : (value : Value) (has_id declares : List ℕ → Bool) (nodes : Nodes) → is_sound (tests has_id declares) nodes ≡ true →
    IsSoundPackage value has_id declares (numbered_package_by value nodes)
numbered_sound value has_id declares nodes e = record {
  indexed = numbered-indexed value nodes;
  sound = sound-numbered value has_id declares nodes ∙ e;
}

module _ (value : Value) (has_id declares : List ℕ → Bool) (says : List Say) (nodes : Nodes) (p : IsSoundPackage value has_id declares nodes) where
  eight : (ext : Test) → holds ext (stories nodes) ≡ true → EightHold ext (stories nodes)
  eight ext e =
      let n = nine has_id declares nodes p.sound in
      record { rule_1 = n.rule_1; rule_2 = n.rule_2; rule_3 = kids_hold (stories nodes) n.rule_3; rule_4 = n.rule_4; rule_5 = n.rule_5; rule_6 = n.rule_6; rule_8 = n.rule_8; own = e }

  -- what the rules say of each story's root and of what is below it
  pub all-grounded : AreGrounded (stories nodes)
  all-grounded =
      grounded (stories nodes) (indexed_stories value nodes p.indexed)
      (all_sound test_8 (stories nodes) (eight test_8 (nine has_id declares nodes p.sound).rule_8))

  again_by : (ext test : Test) → holds ext (stories nodes) ≡ true → Kept ext says test → holds test (stories (pass_package says nodes)) ≡ true
  again_by ext test e k =
      ap (holds test) (stories-pass says nodes)
      ∙ passed_holds ext says test k (stories nodes) (indexed_stories value nodes p.indexed) (all_sound ext (stories nodes) (eight ext e))

  nine_now : NineHold has_id declares (stories nodes)
  nine_now = nine has_id declares nodes p.sound

  -- the law of soundness, rule by rule: each holds again after a pass over a sound, indexed package, under any says
  pub again_1 : holds test_1 (stories (pass_package says nodes)) ≡ true
  again_1 = again_by test_1 test_1 nine_now.rule_1 (kept_1 test_1 says)

  -- rule 2
  pub again_2 : holds test_2 (stories (pass_package says nodes)) ≡ true
  again_2 = again_by test_1 test_2 nine_now.rule_1 (kept_2 test_1 says)

  -- rule 3
  pub again_3 : holds test_3 (stories (pass_package says nodes)) ≡ true
  again_3 = content_holds (stories (pass_package says nodes)) (again_by test_1 kid_3 nine_now.rule_1 (kept_3 test_1 says))

  -- rule 4
  pub again_4 : holds test_4 (stories (pass_package says nodes)) ≡ true
  again_4 = again_by test_1 test_4 nine_now.rule_1 (kept_4 test_1 says)

  -- rule 5
  pub again_5 : holds test_5 (stories (pass_package says nodes)) ≡ true
  again_5 = again_by test_1 test_5 nine_now.rule_1 (kept_5 test_1 says)

  -- rule 6
  pub again_6 : holds test_6 (stories (pass_package says nodes)) ≡ true
  again_6 = again_by test_1 test_6 nine_now.rule_1 (kept_6 test_1 says)

  -- rule 7
  pub again_7 : holds (test_7 has_id) (stories (pass_package says nodes)) ≡ true
  again_7 = again_by (test_7 has_id) (test_7 has_id) nine_now.rule_7 (kept_7 has_id says)

  -- rule 8
  pub again_8 : holds test_8 (stories (pass_package says nodes)) ≡ true
  again_8 = again_by test_1 test_8 nine_now.rule_1 (kept_8 test_1 says)

  -- rule 9
  pub again_9 : holds (test_9 declares) (stories (pass_package says nodes)) ≡ true
  again_9 = again_by (test_9 declares) (test_9 declares) nine_now.rule_9 (kept_9 declares says)

  -- the law of soundness: a pass over a sound, indexed package leaves a sound one, under any says
  pub soundness : is_sound (tests has_id declares) (pass_package says nodes) ≡ true
  soundness =
      and_from _ _ again_1 (and_from _ _ again_2 (and_from _ _ again_3 (and_from _ _ again_4 (and_from _ _ again_5
      (and_from _ _ again_6 (and_from _ _ again_7 (and_from _ _ again_8 (and_from _ _ again_9 refl))))))))
