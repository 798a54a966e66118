-- A pass changes nothing above the kids of the stories' roots, so a passed package has the shape and the parts of the original.
use Rattle.std.proofs.Common.{◌≡◌, ◌≤◌, ◌&&◌, ◌||◌, ℕ, zero, suc, Bool, true, false, List, [], ◌∷◌, map, Option, Some, None, is_some, option_map, if◌then◌else◌, codes, refl, sym, ap, ◌∙◌, arith}
use Rattle.std.specs.List.{list_all, list_any}
use Rattle.redl_opc.specs.Elements.{Element, elements_of, only, only_element}
use Rattle.redl_opc.specs.Shape.{elements_in, has_attribute, is_data, is_data_alone, is_document, is_document_root, is_part, package_in, package_of, parts_of, parts_refusal, refusal, refusal_of, root_in, story_of, story_root}
use Rattle.redl_tree.specs.Decisions.Packages.{StoryRule, changed_in, changed_package, element_stories, is_data_level, is_root, is_story_root, left_after, level_below, level_of, named_pkg}
use Rattle.redl_tree.specs.Model.Nodes.{Nodes, Tag, bytes, element, no_nodes}
use Rattle.redl_tree.specs.declared.level.Level.{Level}
use Rattle.redl_tree.specs.declared.level.Level.TheVariants.{Below, Data, Package, Part, Top}

-- ---- the upper levels of nodes

-- nodes without what is deeper than this
frame : ℕ → Nodes → Nodes
frame n no_nodes = no_nodes
frame n (bytes b rest) = bytes b (frame n rest)
frame zero (element tag kids rest) = element tag no_nodes (frame zero rest)
frame (suc n) (element tag kids rest) = element tag (frame n kids) (frame (suc n) rest)

-- no story's root is so near below nodes of this level
abbrev IsFar : ℕ → Level → Type 0
IsFar n Top = n ≤ 3
IsFar n Package = n ≤ 2
IsFar n Part = n ≤ 1
IsFar n Data = n ≤ 0
IsFar n Below = Unit {0}

far-below : (n : ℕ) (level : Level) (tag : Tag) → IsFar (suc n) level → IsFar n (level_below level tag)
far-below n Top tag far = at (named_pkg (codes "package") tag)
  where
    at : (b : Bool) → IsFar n (if b then Package else Below)
    at true = omega (arith, far)
    at false = tt
far-below n Package tag far = at (named_pkg (codes "part") tag)
  where
    at : (b : Bool) → IsFar n (if b then Part else Below)
    at true = omega (arith, far)
    at false = tt
far-below n Part tag far = at (named_pkg (codes "xmlData") tag)
  where
    at : (b : Bool) → IsFar n (if b then Data else Below)
    at true = omega (arith, far)
    at false = tt
far-below n Data tag far = tt
far-below n Below tag far = tt

no-data : (n : ℕ) (level : Level) → IsFar (suc n) level → is_data_level level ≡ false
no-data n Top far = refl
no-data n Package far = refl
no-data n Part far = refl
no-data n Data far = absurd (omega (arith, far))
no-data n Below far = refl

module _ {S : Type 0} (rule : StoryRule S) where
  frame-changed : (n : ℕ) (given : S) (ancestors : List Tag) (nodes : Nodes) → IsFar n (level_of ancestors) → frame n (changed_in rule given ancestors nodes) ≡ frame n nodes
  unfolding frame
  frame-changed n given ancestors no_nodes far = refl
  frame-changed n given ancestors (bytes b rest) far = ap (bytes b) (frame-changed n given ancestors rest far)
  frame-changed zero given ancestors (element tag kids rest) far =
      ap (element tag no_nodes) (frame-changed zero (left_after rule given (element_stories ancestors tag kids)) ancestors rest far)
  frame-changed (suc n) given ancestors (element tag kids rest) far =
      let root : is_root ancestors tag ≡ false = ap (λ b. b && is_story_root tag) (no-data n (level_of ancestors) far) in
      ap (λ b. element tag (frame n (if b then rule.kids given tag kids else changed_in rule given (tag ∷ ancestors) kids))
      (frame (suc n) (changed_in rule (left_after rule given (element_stories ancestors tag kids)) ancestors rest))) root
      ∙ ap (λ below. element tag below (frame (suc n) (changed_in rule (left_after rule given (element_stories ancestors tag kids)) ancestors rest)))
      (frame-changed n given (tag ∷ ancestors) kids (far-below n (level_of ancestors) tag far))
      ∙ ap (element tag (frame n kids)) (frame-changed (suc n) (left_after rule given (element_stories ancestors tag kids)) ancestors rest far)

-- ---- the shape is that of the upper levels

-- an element without what is deeper than this below its kids, and one without kids
framed : ℕ → Element → Element
framed n e = record { tag = e.tag; kids = frame n e.kids }

bare : Element → Element
bare e = record { tag = e.tag; kids = no_nodes }

elements-framed : (n : ℕ) (nodes : Nodes) → elements_of (frame (suc n) nodes) ≡ map (framed n) (elements_of nodes)
unfolding frame framed
elements-framed n no_nodes = refl
elements-framed n (bytes b rest) = elements-framed n rest
elements-framed n (element tag kids rest) = ap (λ (es : List Element). record { tag = tag; kids = frame n kids } ∷ es) (elements-framed n rest)

elements-bare : (nodes : Nodes) → elements_of (frame zero nodes) ≡ map bare (elements_of nodes)
unfolding frame bare
elements-bare no_nodes = refl
elements-bare (bytes b rest) = elements-bare rest
elements-bare (element tag kids rest) = ap (λ (es : List Element). record { tag = tag; kids = no_nodes } ∷ es) (elements-bare rest)

only-map : (f : Element → Element) (es : List Element) → only (map f es) ≡ option_map f (only es)
only-map f [] = refl
only-map f (e ∷ []) = refl
only-map f (e ∷ other ∷ more) = refl

only-framed : (n : ℕ) (nodes : Nodes) → only_element (frame (suc n) nodes) ≡ option_map (framed n) (only_element nodes)
only-framed n nodes = ap only (elements-framed n nodes) ∙ only-map (framed n) (elements_of nodes)

only-bare : (nodes : Nodes) → only_element (frame zero nodes) ≡ option_map bare (only_element nodes)
only-bare nodes = ap only (elements-bare nodes) ∙ only-map bare (elements_of nodes)

some-map : (f : Element → Element) (o : Option Element) → is_some (option_map f o) ≡ is_some o
some-map f None = refl
some-map f (Some e) = refl

-- what a part holds
data-framed : (d : Element) → is_data (framed zero d) ≡ is_data d
unfolding framed
data-framed d =
    ap (λ b. named_pkg (codes "binaryData") d.tag || (named_pkg (codes "xmlData") d.tag && b)) (ap (λ o. is_some o) (only-bare d.kids) ∙ some-map bare (only_element d.kids))

data_alone-framed : (o : Option Element) → is_data_alone (option_map (framed zero) o) ≡ is_data_alone o
data_alone-framed None = refl
data_alone-framed (Some d) = data-framed d

part-framed : (e : Element) → is_part (framed 1 e) ≡ is_part e
unfolding framed
part-framed e =
    ap (λ b. named_pkg (codes "part") e.tag && has_attribute (codes "name") e.tag && has_attribute (codes "contentType") e.tag && b)
    (ap is_data_alone (only-framed zero e.kids) ∙ data_alone-framed (only_element e.kids))

root_in-framed : (o : Option Element) → root_in (option_map (framed zero) o) ≡ option_map bare (root_in o)
unfolding framed
root_in-framed None = refl
root_in-framed (Some d) = at (named_pkg (codes "xmlData") d.tag)
  where
    at : (b : Bool) → (if b then only_element (frame zero d.kids) else None) ≡ option_map bare (if b then only_element d.kids else None)
    at true = only-bare d.kids
    at false = refl

story_root-bare : (o : Option Element) → story_root (option_map bare o) ≡ option_map bare (story_root o)
unfolding bare
story_root-bare None = refl
story_root-bare (Some root) = at (is_story_root root.tag)
  where
    at : (b : Bool) → (if b then Some (bare root) else None) ≡ option_map bare (if b then Some root else None)
    at true = refl
    at false = refl

document_root-bare : (o : Option Element) → is_document_root (option_map bare o) ≡ is_document_root o
unfolding bare
document_root-bare None = refl
document_root-bare (Some root) = refl

document-framed : (e : Element) → is_document (framed 1 e) ≡ is_document e
unfolding framed
document-framed e =
    ap (λ o. is_document_root (story_root (root_in o))) (only-framed zero e.kids)
    ∙ ap (λ o. is_document_root (story_root o)) (root_in-framed (only_element e.kids))
    ∙ ap is_document_root (story_root-bare (root_in (only_element e.kids)))
    ∙ document_root-bare (story_of e)

all-parts : (es : List Element) → list_all is_part (map (framed 1) es) ≡ list_all is_part es
all-parts [] = refl
all-parts (e ∷ es) = ap (λ b. b && list_all is_part (map (framed 1) es)) (part-framed e) ∙ ap (λ b. is_part e && b) (all-parts es)

any-document : (es : List Element) → list_any is_document (map (framed 1) es) ≡ list_any is_document es
any-document [] = refl
any-document (e ∷ es) = ap (λ b. b || list_any is_document (map (framed 1) es)) (document-framed e) ∙ ap (λ b. is_document e || b) (any-document es)

package_in-framed : (o : Option Element) → package_in (option_map (framed 2) o) ≡ option_map (framed 2) (package_in o)
unfolding framed
package_in-framed None = refl
package_in-framed (Some root) = at (named_pkg (codes "package") root.tag)
  where
    at : (b : Bool) → (if b then Some (framed 2 root) else None) ≡ option_map (framed 2) (if b then Some root else None)
    at true = refl
    at false = refl

package-framed : (nodes : Nodes) → package_of (frame 3 nodes) ≡ option_map (framed 2) (package_of nodes)
package-framed nodes = ap package_in (only-framed 2 nodes) ∙ package_in-framed (only_element nodes)

refusal_of-framed : (o : Option Element) → refusal_of (option_map (framed 2) o) ≡ refusal_of o
unfolding framed
refusal_of-framed None = refl
refusal_of-framed (Some root) =
    ap parts_refusal (elements-framed 1 root.kids) ∙ rw (all-parts (elements_of root.kids), any-document (elements_of root.kids)) refl

refusal-framed : (nodes : Nodes) → refusal (frame 3 nodes) ≡ refusal nodes
refusal-framed nodes = ap refusal_of (package-framed nodes) ∙ refusal_of-framed (package_of nodes)

abbrev tags_of : List Element → List Tag
tags_of es = map (λ part. part.tag) es

tags-framed : (es : List Element) → tags_of (map (framed 1) es) ≡ tags_of es
unfolding framed
tags-framed [] = refl
tags-framed (e ∷ es) = ap (λ (ts : List Tag). e.tag ∷ ts) (tags-framed es)

parts_in-framed : (o : Option Element) → tags_of (elements_in (option_map (framed 2) o)) ≡ tags_of (elements_in o)
unfolding framed
parts_in-framed None = refl
parts_in-framed (Some root) = ap tags_of (elements-framed 1 root.kids) ∙ tags-framed (elements_of root.kids)

parts-framed : (nodes : Nodes) → tags_of (parts_of (frame 3 nodes)) ≡ tags_of (parts_of nodes)
parts-framed nodes = ap (λ o. tags_of (elements_in o)) (package-framed nodes) ∙ parts_in-framed (package_of nodes)

-- ---- the laws

module _ {S : Type 0} (rule : StoryRule S) (given : S) (nodes : Nodes) where
  same-frame : frame 3 (changed_package rule given nodes) ≡ frame 3 nodes
  same-frame = frame-changed rule 3 given [] nodes (omega arith)

  pub refusal-changed : refusal (changed_package rule given nodes) ≡ refusal nodes
  refusal-changed = sym (refusal-framed (changed_package rule given nodes)) ∙ ap refusal same-frame ∙ refusal-framed nodes

  pub parts-changed : map (λ part. part.tag) (parts_of (changed_package rule given nodes)) ≡ map (λ part. part.tag) (parts_of nodes)
  parts-changed = sym (parts-framed (changed_package rule given nodes)) ∙ ap (λ ns. tags_of (parts_of ns)) same-frame ∙ parts-framed nodes
