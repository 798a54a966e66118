-- Laws of packages whose stories are changed by a rule, one after the other.
use Rattle.std.proofs.Common.{◌≡◌, List, [], ◌∷◌, ◌++◌, map, Bool, true, false, refl, sym, ap, ◌∙◌, if◌then◌else◌}
use Rattle.redl_tree.specs.Model.Nodes.{Tag, Nodes, no_nodes, bytes, element, Item, bytes_item, element_item, idle_item, in_front, ◌⊕◌}
use Rattle.redl_tree.specs.Model.IdleTexts.{idle_nodes}
use Rattle.redl_tree.specs.Model.View.{Element}
use Rattle.redl_tree.specs.Revisions.Labels.{unlabelled_tag, unlabelled}
use Rattle.redl_tree.specs.Decisions.Packages.{is_root, stories_in, element_stories, StoryRule, left_after, changed_stories, changed_in}
use Rattle.redl_tree.specs.Decisions.StoryWalk.{changed_item, item_stories}
use Rattle.redl_tree.proofs.Model.Laws.{⊕-no_nodes}
use Rattle.redl_tree.proofs.Idle.Stories.{stories_past, changed_past}
use Rattle.redl_tree.proofs.Idle.Items.{nodes_are_idle}

-- ---- a node at a time

-- the stories of a list are those of its first node, then those of the others
pub stories_in-in_front : (ancestors : List Tag) (x : Item) (ys : Nodes) → stories_in ancestors (in_front x ys) ≡ item_stories ancestors x ++ stories_in ancestors ys
stories_in-in_front ancestors (bytes_item b) ys = refl
stories_in-in_front ancestors (element_item tag kids) ys = refl
stories_in-in_front ancestors (idle_item t) ys = stories_past ancestors false (idle_nodes t) ys (nodes_are_idle t)

module _ {S : Type 0} (rule : StoryRule S) where
  -- what is left after two lists of stories is what the second leaves of what the first left
  pub left_after-append : (given : S) (xs ys : List Element) → left_after rule given (xs ++ ys) ≡ left_after rule (left_after rule given xs) ys
  left_after-append given [] ys = refl
  left_after-append given (story ∷ xs) ys = left_after-append (rule.left given story.tag story.kids) xs ys

  -- nodes are changed item by item
  pub changed_in-in_front : (given : S) (ancestors : List Tag) (x : Item) (ys : Nodes)
      → changed_in rule given ancestors (in_front x ys)
      ≡ in_front (changed_item rule given ancestors x) no_nodes ⊕ changed_in rule (left_after rule given (item_stories ancestors x)) ancestors ys
  changed_in-in_front given ancestors (bytes_item b) ys = refl
  changed_in-in_front given ancestors (element_item tag kids) ys = refl
  changed_in-in_front given ancestors (idle_item t) ys =
      changed_past rule given ancestors false (idle_nodes t) ys (nodes_are_idle t)
      ∙ ap (λ (ns : Nodes). ns ⊕ changed_in rule given ancestors ys) (sym (⊕-no_nodes (idle_nodes t)))

  -- ---- the stories of a changed package

  changed_stories-append : (given : S) (xs ys : List Element)
      → changed_stories rule given (xs ++ ys) ≡ changed_stories rule given xs ++ changed_stories rule (left_after rule given xs) ys
  changed_stories-append given [] ys = refl
  changed_stories-append given (story ∷ xs) ys =
      ap (λ more. record { tag = story.tag; kids = rule.kids given story.tag story.kids } ∷ more)
      (changed_stories-append (rule.left given story.tag story.kids) xs ys)

  -- the stories of changed nodes are the stories of the original, changed in their order
  pub stories-changed : (given : S) (ancestors : List Tag) (nodes : Nodes)
      → stories_in ancestors (changed_in rule given ancestors nodes) ≡ changed_stories rule given (stories_in ancestors nodes)
  stories-changed given ancestors no_nodes = refl
  stories-changed given ancestors (bytes b rest) = stories-changed given ancestors rest
  stories-changed given ancestors (element tag kids rest) =
      at (is_root ancestors tag) (stories-changed given (tag ∷ ancestors) kids) (λ left. stories-changed left ancestors rest)
    where
      at : (b : Bool) → stories_in (tag ∷ ancestors) (changed_in rule given (tag ∷ ancestors) kids) ≡ changed_stories rule given (stories_in (tag ∷ ancestors) kids) →
          ((left : S) → stories_in ancestors (changed_in rule left ancestors rest) ≡ changed_stories rule left (stories_in ancestors rest)) →
          (if b then record { tag = tag; kids = if b then rule.kids given tag kids else changed_in rule given (tag ∷ ancestors) kids } ∷ []
          else stories_in (tag ∷ ancestors) (if b then rule.kids given tag kids else changed_in rule given (tag ∷ ancestors) kids))
          ++ stories_in ancestors (changed_in rule (left_after rule given (if b then record { tag = tag; kids = kids } ∷ [] else stories_in (tag ∷ ancestors) kids)) ancestors rest)
          ≡ changed_stories rule given ((if b then record { tag = tag; kids = kids } ∷ [] else stories_in (tag ∷ ancestors) kids) ++ stories_in ancestors rest)
      at true below later =
          ap (λ more. record { tag = tag; kids = rule.kids given tag kids } ∷ more) (later (rule.left given tag kids))
      at false below later =
          let inner = stories_in (tag ∷ ancestors) kids in
          ap (λ xs. xs ++ stories_in ancestors (changed_in rule (left_after rule given inner) ancestors rest)) below
          ∙ ap (λ xs. changed_stories rule given inner ++ xs) (later (left_after rule given inner))
          ∙ sym (changed_stories-append given inner (stories_in ancestors rest))

  -- they have the roots of the original
  pub changed-roots : (given : S) (xs : List Element) → map (λ story. story.tag) (changed_stories rule given xs) ≡ map (λ story. story.tag) xs
  changed-roots given [] = refl
  changed-roots given (story ∷ later) = ap (λ roots. story.tag ∷ roots) (changed-roots (rule.left given story.tag story.kids) later)

  -- ---- rules that set labels alone

  -- where a rule sets labels alone, a changed package is the original but for labels
  pub unlabelled-changed : ((given : S) (tag : Tag) (kids : Nodes) → unlabelled (rule.kids given tag kids) ≡ unlabelled kids)
      → (given : S) (ancestors : List Tag) (nodes : Nodes) → unlabelled (changed_in rule given ancestors nodes) ≡ unlabelled nodes
  unlabelled-changed same given ancestors no_nodes = refl
  unlabelled-changed same given ancestors (bytes b rest) = ap (bytes b) (unlabelled-changed same given ancestors rest)
  unlabelled-changed same given ancestors (element tag kids rest) =
      ap (λ xs. element (unlabelled_tag tag) xs (unlabelled (changed_in rule (left_after rule given (element_stories ancestors tag kids)) ancestors rest)))
      (at (is_root ancestors tag) (unlabelled-changed same given (tag ∷ ancestors) kids))
      ∙ ap (element (unlabelled_tag tag) (unlabelled kids)) (unlabelled-changed same (left_after rule given (element_stories ancestors tag kids)) ancestors rest)
    where
      at : (b : Bool) → unlabelled (changed_in rule given (tag ∷ ancestors) kids) ≡ unlabelled kids
          → unlabelled (if b then rule.kids given tag kids else changed_in rule given (tag ∷ ancestors) kids) ≡ unlabelled kids
      at true below = same given tag kids
      at false below = below

  -- ---- rules that change nothing the second time

  left_after-again : ((given : S) (tag : Tag) (kids : Nodes) → rule.left given tag (rule.kids given tag kids) ≡ rule.left given tag kids)
      → (given : S) (xs : List Element) → left_after rule given (changed_stories rule given xs) ≡ left_after rule given xs
  left_after-again again given [] = refl
  left_after-again again given (story ∷ later) =
      let left = rule.left given story.tag story.kids in
      ap (λ l. left_after rule l (changed_stories rule left later)) (again given story.tag story.kids) ∙ left_after-again again left later

  -- where that holds of each story, it holds of a package
  pub changed_in-again : ((given : S) (tag : Tag) (kids : Nodes) → rule.kids given tag (rule.kids given tag kids) ≡ rule.kids given tag kids)
      → ((given : S) (tag : Tag) (kids : Nodes) → rule.left given tag (rule.kids given tag kids) ≡ rule.left given tag kids)
      → (given : S) (ancestors : List Tag) (nodes : Nodes) → changed_in rule given ancestors (changed_in rule given ancestors nodes) ≡ changed_in rule given ancestors nodes
  changed_in-again again left_again given ancestors no_nodes = refl
  changed_in-again again left_again given ancestors (bytes b rest) = ap (bytes b) (changed_in-again again left_again given ancestors rest)
  changed_in-again again left_again given ancestors (element tag kids rest) =
      at (is_root ancestors tag) (changed_in-again again left_again given (tag ∷ ancestors) kids) (λ left. changed_in-again again left_again left ancestors rest)
    where
      at : (b : Bool) → changed_in rule given (tag ∷ ancestors) (changed_in rule given (tag ∷ ancestors) kids) ≡ changed_in rule given (tag ∷ ancestors) kids →
          ((left : S) → changed_in rule left ancestors (changed_in rule left ancestors rest) ≡ changed_in rule left ancestors rest) →
          element tag
          (if b then rule.kids given tag (if b then rule.kids given tag kids else changed_in rule given (tag ∷ ancestors) kids)
          else changed_in rule given (tag ∷ ancestors) (if b then rule.kids given tag kids else changed_in rule given (tag ∷ ancestors) kids))
          (changed_in rule
          (left_after rule given
          (if b then record { tag = tag; kids = if b then rule.kids given tag kids else changed_in rule given (tag ∷ ancestors) kids } ∷ []
          else stories_in (tag ∷ ancestors) (if b then rule.kids given tag kids else changed_in rule given (tag ∷ ancestors) kids)))
          ancestors
          (changed_in rule (left_after rule given (if b then record { tag = tag; kids = kids } ∷ [] else stories_in (tag ∷ ancestors) kids)) ancestors rest))
          ≡ element tag (if b then rule.kids given tag kids else changed_in rule given (tag ∷ ancestors) kids)
          (changed_in rule (left_after rule given (if b then record { tag = tag; kids = kids } ∷ [] else stories_in (tag ∷ ancestors) kids)) ancestors rest)
      at true below later =
          let left = rule.left given tag kids in
          let made = rule.kids given tag kids in
          ap (λ xs. element tag xs (changed_in rule (rule.left given tag made) ancestors (changed_in rule left ancestors rest))) (again given tag kids)
          ∙ ap (λ l. element tag made (changed_in rule l ancestors (changed_in rule left ancestors rest))) (left_again given tag kids)
          ∙ ap (element tag made) (later left)
      at false below later =
          let inner = stories_in (tag ∷ ancestors) kids in
          let made = changed_in rule given (tag ∷ ancestors) kids in
          let left = left_after rule given inner in
          ap (λ xs. element tag xs (changed_in rule (left_after rule given (stories_in (tag ∷ ancestors) made)) ancestors (changed_in rule left ancestors rest))) below
          ∙ ap (λ l. element tag made (changed_in rule l ancestors (changed_in rule left ancestors rest)))
          (ap (left_after rule given) (stories-changed given (tag ∷ ancestors) kids) ∙ left_after-again left_again given inner)
          ∙ ap (element tag made) (later left)

-- ---- two rules that make the same of each story

-- two rules make the same kids of each of these stories, one after the other
abbrev pub Agree : {S T : Type 0} → StoryRule S → StoryRule T → S → T → List Element → Type 0
Agree r q given other [] = Unit {0}
Agree r q given other (story ∷ later) =
    (r.kids given story.tag story.kids ≡ q.kids other story.tag story.kids)
    × Agree r q (r.left given story.tag story.kids) (q.left other story.tag story.kids) later

module _ {S T : Type 0} (r : StoryRule S) (q : StoryRule T) where
  Agree-append : (given : S) (other : T) (xs ys : List Element) → Agree r q given other (xs ++ ys)
      → Agree r q given other xs × Agree r q (left_after r given xs) (left_after q other xs) ys
  Agree-append given other [] ys agree = (tt, agree)
  Agree-append given other (story ∷ xs) ys agree =
      let more = Agree-append (r.left given story.tag story.kids) (q.left other story.tag story.kids) xs ys agree.1 in
      ((agree.0, more.0), more.1)

  -- they make the same of a package
  pub changed_in-agree : (given : S) (other : T) (ancestors : List Tag) (nodes : Nodes) → Agree r q given other (stories_in ancestors nodes)
      → changed_in r given ancestors nodes ≡ changed_in q other ancestors nodes
  changed_in-agree given other ancestors no_nodes agree = refl
  changed_in-agree given other ancestors (bytes b rest) agree = ap (bytes b) (changed_in-agree given other ancestors rest agree)
  changed_in-agree given other ancestors (element tag kids rest) agree =
      let inner = element_stories ancestors tag kids in
      let split = Agree-append given other inner (stories_in ancestors rest) agree in
      ap (λ xs. element tag xs (changed_in r (left_after r given inner) ancestors rest))
      (at (is_root ancestors tag) split.0 (changed_in-agree given other (tag ∷ ancestors) kids))
      ∙ ap (element tag (if is_root ancestors tag then q.kids other tag kids else changed_in q other (tag ∷ ancestors) kids))
      (changed_in-agree (left_after r given inner) (left_after q other inner) ancestors rest split.1)
    where
      at : (b : Bool) → Agree r q given other (if b then record { tag = tag; kids = kids } ∷ [] else stories_in (tag ∷ ancestors) kids)
          → (Agree r q given other (stories_in (tag ∷ ancestors) kids) → changed_in r given (tag ∷ ancestors) kids ≡ changed_in q other (tag ∷ ancestors) kids)
          → (if b then r.kids given tag kids else changed_in r given (tag ∷ ancestors) kids)
          ≡ (if b then q.kids other tag kids else changed_in q other (tag ∷ ancestors) kids)
      at true agree below = agree.0
      at false agree below = below agree
