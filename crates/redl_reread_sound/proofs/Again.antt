-- What a pass leaves of a package that was read is read again.
use Rattle.std.proofs.Common.{◌≡◌, ◌≤◌, ◌∙◌, refl, sym, ap, subst, arith, ℕ, ◌+◌, ◌*◌, max, List, [], ◌∷◌, ◌++◌, append-nil, true, false}
use Rattle.std.proofs.lemmas.Bool.{and_from, and_parts, both_ways}
use Rattle.redl_grammar.specs.Characters.{IsText}
use Rattle.redl_grammar.specs.declared.section.Section.TheVariants.{BeforeRoot, AfterRoot}
use Rattle.redl_laws.proofs.Soundness.AllRules.{nine, numbered_sound, soundness}
use Rattle.redl_laws.proofs.Survival.Indexed.{indexed_stories}
use Rattle.redl_opc.proofs.NumberLaws.{shape-numbered}
use Rattle.redl_rules.specs.Attributes.{has_id, declares, rules}
use Rattle.redl_stamp.specs.Attribute.{attribute_value}
use Rattle.redl_tree.specs.Decisions.Packages.{StoryRule, changed_in, changed_package, pass_package, pass_rule, stories}
use Rattle.redl_tree.specs.Model.Count.{count}
use Rattle.redl_tree.specs.Model.Nodes.{Tag, Nodes, no_nodes, bytes, element, ◌⊕◌}
use Rattle.redl_tree.specs.Model.Shapes.{depth_of}
use Rattle.redl_tree.specs.Model.Text.{element_text, text}
use Rattle.redl_tree.specs.Revisions.Labels.{unlabelled_tag, unlabelled}
use Rattle.redl_tree.specs.Revisions.Numbers.{number_rule, numbered_package_by}
use Rattle.redl_tree.specs.Rules.Sound.{is_sound}
use Rattle.redl_tree.specs.declared.kinds.Say.{Say}
use Rattle.redl_tree.proofs.Decisions.StoryLaws.{unlabelled-changed}
use Rattle.redl_tree.proofs.Revisions.LabelLaws.{text-unlabelled}
use Rattle.redl_tree.proofs.Revisions.NumberLaws.{unlabelled-numbered, unlabelled-story}
use Rattle.redl_xml.specs.Readings.{IsReading, HasNoReading, IsStretchOrNone, ClosesBy}
use Rattle.redl_xml.specs.Scopes.{scope_in}
use Rattle.redl_reread_sound.specs.Again.{again, left, IsReread}
use Rattle.redl_reread_sound.specs.Together.{together, meet_well}
use Rattle.redl_reread_sound.proofs.Alone.{sound-again}
use Rattle.redl_reread_sound.proofs.AloneShape.{shape-again}
use Rattle.redl_reread_sound.proofs.Counts.{package-few}
use Rattle.redl_reread_sound.proofs.Depths.{package-depth}
use Rattle.redl_reread_sound.proofs.Legal.{read-live, read-close, closes-stays, closes-ended, read-unlabelled, read-labelled, element-text, nodes-text, read-tag, none-together, legal-together}
use Rattle.redl_reread_sound.proofs.OneText.{kids-meet}
use Rattle.redl_reread_sound.proofs.Parts.{refusal-changed}
use Rattle.redl_reread_sound.proofs.PassedScopes.{undeclared, stories-declare}
use Rattle.redl_reread_sound.proofs.ReadNodes.{IsReadTag, IsReadStretch, AreRead, IsReadDocument, document-read}
use Rattle.redl_reread_sound.proofs.Scoped.{InStories, in-stories, all-changed, none-inside}
use Rattle.redl_reread_sound.proofs.Texts.{text-append}
use Rattle.redl_reread_sound.proofs.TogetherLaws.{text-together, depth-together, count-together}

-- ---- the top of a document: nothing but the kids of its root changes

abbrev document : Nodes → Tag → Nodes → Nodes → Nodes
document before root kids after = before ⊕ element root kids after

module _ (before after : Nodes) (root : Tag) (is_before : IsStretchOrNone BeforeRoot before) (is_after : IsStretchOrNone AfterRoot after) where
  -- what is so of a stretch, or of none, at both ends is so of the whole
  by_ends : (P : Nodes → Nodes → Type 0) → P no_nodes no_nodes → ((a : List ℕ) → P no_nodes (bytes a no_nodes)) → ((b : List ℕ) → P (bytes b no_nodes) no_nodes)
      → ((b a : List ℕ) → P (bytes b no_nodes) (bytes a no_nodes)) → P before after
  by_ends P none last first both = at before after is_before is_after
    where
      at : (x y : Nodes) → IsStretchOrNone BeforeRoot x → IsStretchOrNone AfterRoot y → P x y
      at no_nodes no_nodes h g = none
      at no_nodes (bytes a no_nodes) h g = last a
      at no_nodes (bytes a (bytes c rest)) h g = absurd g
      at no_nodes (bytes a (element tag kids rest)) h g = absurd g
      at no_nodes (element tag kids rest) h g = absurd g
      at (bytes b no_nodes) no_nodes h g = first b
      at (bytes b no_nodes) (bytes a no_nodes) h g = both b a
      at (bytes b no_nodes) (bytes a (bytes c rest)) h g = absurd g
      at (bytes b no_nodes) (bytes a (element tag kids rest)) h g = absurd g
      at (bytes b no_nodes) (element tag kids rest) h g = absurd g
      at (bytes b (bytes c rest)) y h g = absurd h
      at (bytes b (element tag kids rest)) y h g = absurd h
      at (element tag kids rest) y h g = absurd h

  changed-document : {S : Type 0} (rule : StoryRule S) (given : S) (kids : Nodes)
      → changed_package rule given (document before root kids after) ≡ document before root (changed_in rule given (root ∷ []) kids) after
  changed-document rule given kids =
      by_ends (λ x y. changed_package rule given (document x root kids y) ≡ document x root (changed_in rule given (root ∷ []) kids) y) refl (λ a. refl) (λ b. refl) (λ b a. refl)

  inside-document : (kids : Nodes) → InStories declares [] (document before root kids after) → InStories declares (root ∷ []) kids
  inside-document kids =
      by_ends (λ x y. InStories declares [] (document x root kids y) → InStories declares (root ∷ []) kids) (λ h. h.0) (λ a h. h.0) (λ b h. h.0) (λ b a h. h.0)

  again-document : (kids : Nodes) → again (document before root kids after) ≡ document before (unlabelled_tag root) (again kids) after
  again-document kids =
      by_ends (λ x y. again (document x root kids y) ≡ document x (unlabelled_tag root) (again kids) y) refl (λ a. refl) (λ b. refl) (λ b a. refl)

  well-document : (kids : Nodes) → meet_well (document before root kids after) ≡ true → meet_well kids ≡ true
  well-document kids =
      by_ends (λ x y. meet_well (document x root kids y) ≡ true → meet_well kids ≡ true)
      (λ h. (and_parts (meet_well kids) true h).0) (λ a h. (and_parts (meet_well kids) true h).0) (λ b h. (and_parts (meet_well kids) true h).0) (λ b a h. (and_parts (meet_well kids) true h).0)

  meet-document : (kids : Nodes) → meet_well kids ≡ true → meet_well (document before root kids after) ≡ true
  meet-document kids h =
      by_ends (λ x y. meet_well (document x root kids y) ≡ true)
      (and_from (meet_well kids) true h refl) (λ a. and_from (meet_well kids) true h refl) (λ b. and_from (meet_well kids) true h refl) (λ b a. and_from (meet_well kids) true h refl)

  text-document : (kids : Nodes) → text (document before root kids after) ≡ text before ++ (element_text root (text kids) ++ text after)
  text-document kids =
      by_ends (λ x y. text (document x root kids y) ≡ text x ++ (element_text root (text kids) ++ text y)) refl (λ a. refl)
      (λ b. ap (λ (z : List ℕ). z ++ (element_text root (text kids) ++ [])) (sym (append-nil b)))
      (λ b a. ap (λ (z : List ℕ). z ++ (element_text root (text kids) ++ (a ++ []))) (sym (append-nil b)))

-- ---- the pass

module _ (whole : List ℕ) (nodes : Nodes) (says : List Say) (reading : IsReading whole nodes) (sound : is_sound rules nodes ≡ true) where
  it : IsReadDocument nodes
  it = document-read whole nodes reading

  -- the kids of the root with their numbers
  numbered : Nodes
  numbered = changed_in (number_rule attribute_value) 1 (it.root ∷ []) it.kids

  numbered-is : numbered_package_by attribute_value nodes ≡ document it.before it.root numbered it.after
  unfolding numbered
  numbered-is =
      ap (numbered_package_by attribute_value) it.whole
      ∙ changed-document it.before it.after it.root it.is_before it.is_after (number_rule attribute_value) 1 it.kids

  numbered-same : unlabelled numbered ≡ unlabelled it.kids
  unfolding numbered
  numbered-same = unlabelled-changed (number_rule attribute_value) (unlabelled-story attribute_value) 1 (it.root ∷ []) it.kids

  numbered-read : AreRead (scope_in it.root.tail []) numbered
  numbered-read =
      read-labelled (scope_in it.root.tail []) numbered
      (subst (λ (x : Nodes). AreRead (scope_in it.root.tail []) x) (sym numbered-same) (read-unlabelled (scope_in it.root.tail []) it.kids it.kids_read))

  none_declare : InStories declares (it.root ∷ []) numbered
  none_declare =
      let package_ = numbered_sound attribute_value has_id declares nodes sound in
      let made = numbered_package_by attribute_value nodes in
      let in_all : InStories declares [] made =
      in-stories declares [] made (stories-declare (stories made) (indexed_stories attribute_value made package_.indexed) (nine has_id declares made package_.sound).rule_9) in
      inside-document it.before it.after it.root it.is_before it.is_after numbered (subst (λ (x : Nodes). InStories declares [] x) numbered-is in_all)

  -- what the pass leaves of them
  passed : Nodes
  passed = changed_in pass_rule says (it.root ∷ []) numbered

  passed-is : left says nodes ≡ document it.before it.root passed it.after
  unfolding passed
  passed-is = ap (pass_package says) numbered-is ∙ changed-document it.before it.after it.root it.is_before it.is_after pass_rule says numbered

  passed-read : AreRead (scope_in it.root.tail []) passed
  unfolding passed
  passed-read =
      all-changed _ scope_in IsReadTag IsReadStretch ClosesBy declares undeclared read-live read-close closes-stays closes-ended says (it.root ∷ []) (scope_in it.root.tail []) numbered
      none_declare numbered-read

  passed-closed : ClosesBy it.root.close passed
  unfolding passed numbered
  passed-closed =
      closes-stays it.root.close it.kids passed it.closed
      (λ e. none-inside says (it.root ∷ []) numbered (none-numbered e))
    where
      none-numbered : it.kids ≡ no_nodes → numbered ≡ no_nodes
      none-numbered e = ap (λ (k : Nodes). changed_in (number_rule attribute_value) 1 (it.root ∷ []) k) e

  written : IsText (text (left says nodes))
  written =
      subst (λ (z : List ℕ). IsText z) (sym (ap text passed-is ∙ text-document it.before it.after it.root it.is_before it.is_after passed)) whole_text
    where
      whole_text : IsText (text it.before ++ (element_text it.root (text passed) ++ text it.after))
      whole_text = text-append (text it.before) (element_text it.root (text passed) ++ text it.after) it.before_text
          (text-append (element_text it.root (text passed)) (text it.after)
          (element-text [] it.root passed (text passed) it.root_read passed-closed (nodes-text (scope_in it.root.tail []) passed passed-read)) it.after_text)

  again-is : again (left says nodes) ≡ document it.before (unlabelled_tag it.root) (again passed) it.after
  again-is = ap again passed-is ∙ again-document it.before it.after it.root it.is_before it.is_after passed

  read-again : meet_well (left says nodes) ≡ true → IsReading (text (left says nodes)) (again (left says nodes))
  read-again well = record {
    text = text-unlabelled (together (left says nodes)) ∙ text-together (left says nodes);
    characters = written;
    document = record {
      before = it.before;
      root = unlabelled_tag it.root;
      kids = again passed;
      after = it.after;
      whole = again-is;
      is_before = it.is_before;
      is_root = (
        read-tag [] it.root it.root_read,
        closes-stays it.root.close passed (again passed) passed-closed (none-together passed),
        legal-together (scope_in it.root.tail []) passed passed-read
            (well-document it.before it.after it.root it.is_before it.is_after passed (sym (ap meet_well passed-is) ∙ well)),
        tt,
      );
      is_after = it.is_after;
    };
  }

  -- where it has a tree, no stretches that meet form `]]>`
  pub unread : meet_well (left says nodes) ≡ false → HasNoReading (text (left says nodes))
  unread badly tree reading =
      let same : IsReading (text (document it.before it.root passed it.after)) tree = subst (λ (z : Nodes). IsReading (text z) tree) passed-is reading in
      let well = kids-meet it.before it.root passed it.after tree it.is_before it.root_read passed-closed passed-read it.is_after same in
      both_ways (meet_well (left says nodes)) badly (ap meet_well passed-is ∙ meet-document it.before it.after it.root it.is_before it.is_after passed well)

  -- the law
  pub reread : meet_well (left says nodes) ≡ true → IsReread says nodes
  reread well =
      let package_ = numbered_sound attribute_value has_id declares nodes sound in
      let made = numbered_package_by attribute_value nodes in
      record {
        reading = read-again well;
        shape = shape-again (left says nodes) ∙ refusal-changed pass_rule says made ∙ shape-numbered attribute_value nodes;
        sound = sound-again (left says nodes) has_id declares ∙ soundness attribute_value has_id declares says made package_;
        few = few;
        shallow = shallow;
      }
    where
      count-bare : (x : Nodes) → count (unlabelled x) ≡ count x
      count-bare no_nodes = refl
      count-bare (bytes b rest) = ap (λ n. 1 + n) (count-bare rest)
      count-bare (element tag kids rest) = omega (arith, count-bare kids, count-bare rest)

      few : count (again (left says nodes)) ≤ count nodes
      few =
          let same : count (numbered_package_by attribute_value nodes) ≡ count nodes =
          sym (count-bare (numbered_package_by attribute_value nodes)) ∙ ap count (unlabelled-numbered attribute_value nodes) ∙ count-bare nodes in
          omega (arith, count-bare (together (left says nodes)), count-together (left says nodes), package-few says (numbered_package_by attribute_value nodes), same)

      depth-bare : (x : Nodes) → depth_of (unlabelled x) ≡ depth_of x
      depth-bare no_nodes = refl
      depth-bare (bytes b rest) = depth-bare rest
      depth-bare (element tag kids rest) =
          ap (λ n. max (n + 1) (depth_of (unlabelled rest))) (depth-bare kids) ∙ ap (λ n. max (depth_of kids + 1) n) (depth-bare rest)

      shallow : depth_of (again (left says nodes)) ≤ 2 * depth_of nodes
      shallow =
          let made = numbered_package_by attribute_value nodes in
          let same : depth_of made ≡ depth_of nodes = sym (depth-bare made) ∙ ap depth_of (unlabelled-numbered attribute_value nodes) ∙ depth-bare nodes in
          omega (arith, depth-bare (together (left says nodes)), depth-together (left says nodes), package-depth says made, same)
