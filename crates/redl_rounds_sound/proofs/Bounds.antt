-- The number on each element of a numbered package, and of what a pass leaves of it, is at most that of the last revision.
use Rattle.std.proofs.Common.{◌≡◌, ℕ, ◌+◌, ◌<◌, ◌≤◌, List, [], ◌∷◌, ◌++◌, Bool, true, false, Option, None, Some, unwrap_or, refl, sym, subst, arith, codes, ◌==◌, if◌then◌else◌}
use Rattle.redl_reread_sound.proofs.Scoped.{NoneDeclare, StoriesDeclare, all-package}
use Rattle.redl_reread_sound.specs.Each.{EachIn}
use Rattle.redl_stamp.specs.Attribute.{attribute_value}
use Rattle.redl_index.proofs.RevisionLaws.{next-revisions}
use Rattle.redl_index.specs.Numbers.{numbered_package, package_revisions}
use Rattle.redl_opc.specs.Shape.{refusal}
use Rattle.redl_tree.proofs.Decisions.StoryLaws.{left_after-append}
use Rattle.redl_tree.specs.Decisions.Fates.{live_name}
use Rattle.redl_tree.specs.Decisions.Packages.{is_root, stories_in, stories, element_stories, left_after, changed_in, pass_package}
use Rattle.redl_tree.specs.Model.Count.{count}
use Rattle.redl_tree.specs.Model.Nodes.{Tag, Nodes, no_nodes, bytes, element, ◌⊕◌}
use Rattle.redl_tree.specs.Model.Seen.{Spot, spot, seen_one, root_spots, seen, tags}
use Rattle.redl_tree.specs.Model.View.{Element}
use Rattle.redl_tree.specs.Revisions.Markers.{Value, moves_among}
use Rattle.redl_tree.specs.Revisions.Moves.{Pair}
use Rattle.redl_tree.specs.Revisions.Numbers.{Membership, in_none, in_own, in_move, Numbered, Numbering, number_of_move, number_for, counted_move, counted, revision_of, numbering_after, labelled, labelled_story, start_with, number_rule}
use Rattle.redl_tree.specs.Roles.Names.{is, named}
use Rattle.redl_tree.specs.Roles.Places.{props_name}
use Rattle.redl_tree.specs.Rules.Sound.{former_declares}
use Rattle.redl_tree.specs.declared.kinds.Say.{Say}
use Rattle.redl_grammar.specs.declared.section.Section.{Section}
use Rattle.redl_xml.specs.Readings.{AreLegal, IsReading, IsStretchOrNone}
use Rattle.redl_xml.specs.Scopes.{Scope, scope_in}

-- no scope, and what holds of a tag in it
abbrev pub same_scope : List ℕ → Unit {0} → Unit {0}
same_scope tail s = s

abbrev pub IsBelow : ℕ → Unit {0} → Tag → Type 0
IsBelow n s tag = tag.rev < n

-- the number of each element is below this one
abbrev pub AreBelow : ℕ → Nodes → Type 0
AreBelow n no_nodes = Unit {0}
AreBelow n (bytes b rest) = AreBelow n rest
AreBelow n (element tag kids rest) = IsBelow n tt tag × AreBelow n kids × AreBelow n rest

-- that is what holds of each tag, where nothing is asked of stretches and of how elements are closed
abbrev EachBelow : ℕ → Nodes → Type 0
EachBelow n nodes = EachIn same_scope (IsBelow n) (λ b. Unit {0}) (λ close kids. Unit {0}) tt nodes

each-below : (n : ℕ) (nodes : Nodes) → AreBelow n nodes → EachBelow n nodes
each-below n no_nodes h = tt
each-below n (bytes b rest) h = (tt, each-below n rest h)
each-below n (element tag kids rest) h = (h.0, tt, each-below n kids h.1, each-below n rest h.2)

below-each : (n : ℕ) (nodes : Nodes) → EachBelow n nodes → AreBelow n nodes
below-each n no_nodes h = tt
below-each n (bytes b rest) h = below-each n rest h.1
below-each n (element tag kids rest) h = (h.0, below-each n kids h.2, below-each n rest h.3)

below-more : (n m : ℕ) (nodes : Nodes) → n ≤ m → AreBelow n nodes → AreBelow m nodes
below-more n m no_nodes more h = tt
below-more n m (bytes b rest) more h = below-more n m rest more h
below-more n m (element tag kids rest) more h = (let here = h.0 in omega (arith, here, more), below-more n m kids more h.1, below-more n m rest more h.2)

-- ---- numbering a story

-- the numbers of the moves that have one are below this one
abbrev MovesBelow : ℕ → List Numbered → Type 0
MovesBelow n [] = Unit {0}
MovesBelow n (move ∷ moves) = (move.number < n) × MovesBelow n moves

moves-more : (n m : ℕ) (moves : List Numbered) → n ≤ m → MovesBelow n moves → MovesBelow m moves
moves-more n m [] more h = tt
moves-more n m (move ∷ moves) more h = (let here = h.0 in omega (arith, here, more), moves-more n m moves more h.1)

found-below : (n : ℕ) (moves : List Numbered) (start number : ℕ) → MovesBelow n moves → number_of_move moves start ≡ Some number → number < n
found-below n [] start number h e = absurd (cc e)
found-below n (move ∷ moves) start number h e = at (move.start == start) e (λ later. found-below n moves start number h.1 later)
  where
    at : (b : Bool) → (if b then Some move.number else number_of_move moves start) ≡ Some number → (number_of_move moves start ≡ Some number → number < n) → number < n
    at true is later = let same : move.number ≡ number = cc is in subst (λ k. k < n) same h.0
    at false is later = later is

-- after one element the next number is no less, and above all that were given
abbrev Counts : Membership → Numbering → Type 0
Counts m s =
    (s.next ≤ (counted m s).next) × MovesBelow (counted m s).next (counted m s).moves × (number_for m s < (counted m s).next)
    × ((counted m s).next ≤ s.next + 1)

counts : (m : Membership) (s : Numbering) → 0 < s.next → MovesBelow s.next s.moves → Counts m s
counts in_none s some h = (omega arith, h, some, omega arith)
counts in_own s some h = (omega arith, moves-more s.next (s.next + 1) s.moves (omega arith) h, omega arith, omega arith)
counts (in_move start) s some h = at (number_of_move s.moves start) refl
  where
    at : (o : Option ℕ) → number_of_move s.moves start ≡ o
        → (s.next ≤ (counted_move start o s).next) × MovesBelow (counted_move start o s).next (counted_move start o s).moves × (unwrap_or o s.next < (counted_move start o s).next)
        × ((counted_move start o s).next ≤ s.next + 1)
    at (Some number) is = (omega arith, h, found-below s.next s.moves start number h is, omega arith)
    at None is = (omega arith, (omega arith, moves-more s.next (s.next + 1) s.moves (omega arith) h), omega arith, omega arith)

-- after nodes the next number is no less, and above all on them
record Labels (value : Value) (moves : List Pair) (ancestors : List Spot) (at : ℕ) (s : Numbering) (nodes : Nodes) : Type 0 where
  pub grows : s.next ≤ (numbering_after value moves ancestors at s nodes).next
  pub few : (numbering_after value moves ancestors at s nodes).next ≤ s.next + count nodes
  pub moved : MovesBelow (numbering_after value moves ancestors at s nodes).next (numbering_after value moves ancestors at s nodes).moves
  pub below : AreBelow (numbering_after value moves ancestors at s nodes).next (labelled value moves ancestors at s nodes)

labels : (value : Value) (moves : List Pair) (ancestors : List Spot) (at : ℕ) (s : Numbering) (nodes : Nodes) → 0 < s.next → MovesBelow s.next s.moves → Labels value moves ancestors at s nodes
labels value moves ancestors at s no_nodes some h = record { grows = omega arith; few = omega arith; moved = h; below = tt }
labels value moves ancestors at s (bytes b rest) some h =
    let later = labels value moves ancestors at s rest some h in
    record { grows = later.grows; few = (let l = later.few in omega (arith, l)); moved = later.moved; below = later.below }
labels value moves ancestors at s (element tag kids rest) some h =
    let m = revision_of value moves (seen_one ancestors at tag kids) in
    let one = counts m s some h in
    let inner = labels value moves (spot at tag kids ∷ ancestors) (at + 1) (counted m s) kids (omega (arith, one.0, some)) one.1 in
    let after = numbering_after value moves (spot at tag kids ∷ ancestors) (at + 1) (counted m s) kids in
    let later = labels value moves ancestors (at + 2 + tags kids) after rest (omega (arith, one.0, some, inner.grows)) inner.moved in
    let last = (numbering_after value moves ancestors (at + 2 + tags kids) after rest).next in
    record {
      grows = omega (arith, one.0, inner.grows, later.grows);
      few = omega (arith, one.3, inner.few, later.few);
      moved = later.moved;
      below = (
        omega (arith, one.2, inner.grows, later.grows),
        below-more after.next last (labelled value moves (spot at tag kids ∷ ancestors) (at + 1) (counted m s) kids) later.grows inner.below,
        later.below,
      );
    }

-- ---- numbering a package

record Numbers (value : Value) (ancestors : List Tag) (next : ℕ) (nodes : Nodes) : Type 0 where
  pub grows : next ≤ left_after (number_rule value) next (stories_in ancestors nodes)
  pub few : left_after (number_rule value) next (stories_in ancestors nodes) ≤ next + count nodes
  pub below : AreBelow (left_after (number_rule value) next (stories_in ancestors nodes)) (changed_in (number_rule value) next ancestors nodes)

numbers : (value : Value) (ancestors : List Tag) (next : ℕ) (nodes : Nodes) → 0 < next → AreBelow 1 nodes → Numbers value ancestors next nodes
numbers value ancestors next no_nodes some h = record { grows = omega arith; few = omega arith; below = tt }
numbers value ancestors next (bytes b rest) some h =
    let later = numbers value ancestors next rest some h in
    record { grows = later.grows; few = (let l = later.few in omega (arith, l)); below = later.below }
numbers value ancestors next (element tag kids rest) some h =
    let rule = number_rule value in
    let mid = left_after rule next (element_stories ancestors tag kids) in
    let inner = at (is_root ancestors tag) (numbers value (tag ∷ ancestors) next kids some h.1) in
    let later = numbers value ancestors mid rest (omega (arith, some, inner.0)) h.2 in
    let last = left_after rule mid (stories_in ancestors rest) in
    let same : last ≡ left_after rule next (element_stories ancestors tag kids ++ stories_in ancestors rest) = sym (left_after-append rule next (element_stories ancestors tag kids) (stories_in ancestors rest)) in
    let own = h.0 in
    record {
      grows = subst (λ n. next ≤ n) same (omega (arith, inner.0, later.grows));
      few = subst (λ n. n ≤ next + (1 + count kids + count rest)) same (omega (arith, inner.2, later.few));
      below = subst (λ n. AreBelow n (changed_in rule next ancestors (element tag kids rest))) same (
        omega (arith, own, some, inner.0, later.grows),
        below-more mid last (if is_root ancestors tag then labelled_story value next tag kids else changed_in rule next (tag ∷ ancestors) kids) later.grows inner.1,
        later.below,
      );
    }
  where
    at : (b : Bool) → Numbers value (tag ∷ ancestors) next kids
        → (next ≤ left_after (number_rule value) next (if b then record { tag = tag; kids = kids } ∷ [] else stories_in (tag ∷ ancestors) kids))
        × AreBelow (left_after (number_rule value) next (if b then record { tag = tag; kids = kids } ∷ [] else stories_in (tag ∷ ancestors) kids))
        (if b then labelled_story value next tag kids else changed_in (number_rule value) next (tag ∷ ancestors) kids)
        × (left_after (number_rule value) next (if b then record { tag = tag; kids = kids } ∷ [] else stories_in (tag ∷ ancestors) kids) ≤ next + count kids)
    at true below = let story = labels value (moves_among value (seen tag kids)) (root_spots tag kids) 1 (start_with next) kids some tt in (story.grows, story.below, story.few)
    at false below = (below.grows, below.below, below.few)

-- ---- a package that was read has no numbers

legal-below : (scope : Scope) (nodes : Nodes) → AreLegal scope nodes → AreBelow 1 nodes
legal-below scope no_nodes h = tt
legal-below scope (bytes b rest) h = legal-below scope rest h.2
legal-below scope (element tag kids rest) h =
    (let none = h.0.rev in omega (arith, none), legal-below (scope_in tag.tail scope) kids h.2, legal-below scope rest h.3)

stretch-below : (place : Section) (nodes : Nodes) → IsStretchOrNone place nodes → AreBelow 1 nodes
stretch-below place no_nodes h = tt
stretch-below place (bytes b no_nodes) h = tt
stretch-below place (bytes b (bytes c rest)) h = absurd h
stretch-below place (bytes b (element tag kids rest)) h = absurd h
stretch-below place (element tag kids rest) h = absurd h

below-⊕ : (n : ℕ) (xs ys : Nodes) → AreBelow n xs → AreBelow n ys → AreBelow n (xs ⊕ ys)
below-⊕ n no_nodes ys h g = g
below-⊕ n (bytes b rest) ys h g = below-⊕ n rest ys h g
below-⊕ n (element tag kids rest) ys h g = (h.0, h.1, below-⊕ n rest ys h.2 g)

read-below : (whole : List ℕ) (nodes : Nodes) → IsReading whole nodes → AreBelow 1 nodes
read-below whole nodes is =
    let document = is.document in
    let root = legal-below [] (element document.root document.kids no_nodes) document.is_root in
    subst (λ (n : Nodes). AreBelow 1 n) (sym document.whole)
    (below-⊕ 1 document.before (element document.root document.kids document.after) (stretch-below _ document.before document.is_before)
    (root.0, root.1, stretch-below _ document.after document.is_after))

-- the numbers of a package that was read are at most those of its revisions
pub numbered-below : (whole : List ℕ) (nodes : Nodes) → IsReading whole nodes → refusal nodes ≡ None → AreBelow (1 + package_revisions nodes) (numbered_package nodes)
numbered-below whole nodes is shape =
    subst (λ n. AreBelow n (numbered_package nodes)) (next-revisions nodes shape)
    (numbers attribute_value [] 1 nodes (omega arith) (read-below whole nodes is)).below

-- a package that was read has no more revisions than nodes
pub revisions-counted : (whole : List ℕ) (nodes : Nodes) → IsReading whole nodes → refusal nodes ≡ None → package_revisions nodes ≤ count nodes
revisions-counted whole nodes is shape =
    let last = next-revisions nodes shape in
    let few = (numbers attribute_value [] 1 nodes (omega arith) (read-below whole nodes is)).few in
    omega (arith, last, few)

-- ---- a pass

abbrev none : List ℕ → Bool
none tail = false

former-none : (name : List ℕ) (nodes : Nodes) → former_declares none name nodes ≡ false
former-none name no_nodes = refl
former-none name (bytes b rest) = former-none name rest
former-none name (element tag kids rest) = at (named name tag) (former-none name rest)
  where
    at : (b : Bool) → former_declares none name rest ≡ false → (if b then false else former_declares none name rest) ≡ false
    at true later = refl
    at false later = later

none-declare : (ancestors : List Tag) (nodes : Nodes) → NoneDeclare none ancestors nodes
none-declare ancestors no_nodes = tt
none-declare ancestors (bytes b rest) = none-declare ancestors rest
none-declare ancestors (element tag kids rest) = (
  record { para = λ h. refl; content = λ h. refl; change = λ prop h. (refl, former-none (props_name prop) kids) },
  none-declare (tag ∷ ancestors) kids,
  none-declare ancestors rest,
)

stories-declare : (xs : List Element) → StoriesDeclare none xs
stories-declare [] = tt
stories-declare (story ∷ later) = (none-declare (story.tag ∷ []) story.kids, stories-declare later)

live-below : (n : ℕ) (s : Unit {0}) (tag : Tag) → IsBelow n s tag → IsBelow n s (live_name tag)
live-below n s tag h = at (is "delText" tag) (is "delInstrText" tag)
  where
    at : (b c : Bool) → (if b then record tag { local = codes "t" } else if c then record tag { local = codes "instrText" } else tag).rev < n
    at true c = h
    at false true = h
    at false false = h

-- a pass brings no numbers
pub passed-below : (n : ℕ) (says : List Say) (nodes : Nodes) → AreBelow n nodes → AreBelow n (pass_package says nodes)
passed-below n says nodes h =
    below-each n (pass_package says nodes)
    (all-package (Unit {0}) same_scope (IsBelow n) (λ b. Unit {0}) (λ close kids. Unit {0}) none (λ tail e s. refl) (live-below n) (λ s tag close below. below)
    (λ close old new h empty. tt) (λ close old new h. tt) says tt nodes (stories-declare (stories nodes)) (each-below n nodes h))
