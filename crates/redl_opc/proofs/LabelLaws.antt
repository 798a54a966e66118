-- Labels are not part of the shape of a package.
use Rattle.std.proofs.Common.{◌≡◌, ◌+◌, ◌&&◌, ◌||◌, ℕ, arith, suc, List, [], ◌∷◌, map, Option, Some, None, Bool, true, false, cond, is_some, option_map, refl, sym, ap, ◌∙◌, codes, subst}
use Rattle.std.specs.List.{list_all, list_any}
use Rattle.redl_tree.specs.Model.Nodes.{Nodes, no_nodes, bytes, element}
use Rattle.redl_tree.specs.Model.Count.{count}
use Rattle.redl_tree.specs.Model.Text.{text}
use Rattle.redl_tree.specs.Revisions.Labels.{unlabelled}
use Rattle.redl_tree.specs.declared.kinds.Kind.{Kind}
use Rattle.redl_tree.proofs.Revisions.LabelLaws.{text-unlabelled}
use Rattle.redl_tree.proofs.Decisions.StoryLaws.{unlabelled-changed}
use Rattle.redl_opc.specs.Elements.{Element, elements_of, only, only_element}
use Rattle.redl_tree.specs.Decisions.Packages.{named_pkg, is_story_root, StoryRule, changed_package}
use Rattle.redl_opc.specs.Shape.{has_attribute, is_data, is_data_alone, is_part, root_in, story_root, story_of, is_document_root, is_document, package_in, package_of, parts_refusal, refusal_of, refusal}
use Rattle.redl_tree.specs.Model.Tree.{HasUtf8Tails}
use Rattle.redl_opc.specs.Parts.{name_in, places_from, places_in, places_of, IsKept}
use Rattle.redl_opc.specs.Labels.{SetsLabels}

-- an element without its labels
abbrev pub plain : Element → Element
plain e = record { tag = record e.tag { kind = Kind.Plain; rev = 0 }; kids = unlabelled e.kids }

-- the elements of nodes without labels are the elements, without theirs
pub elements-unlabelled : (ns : Nodes) → elements_of (unlabelled ns) ≡ map plain (elements_of ns)
elements-unlabelled no_nodes = refl
elements-unlabelled (bytes b rest) = elements-unlabelled rest
elements-unlabelled (element tag kids rest) = ap (λ es. plain (record { tag = tag; kids = kids }) ∷ es) (elements-unlabelled rest)

only-map : (es : List Element) → only (map plain es) ≡ option_map plain (only es)
only-map [] = refl
only-map (e ∷ []) = refl
only-map (e ∷ f ∷ more) = refl

only-unlabelled : (ns : Nodes) → only_element (unlabelled ns) ≡ option_map plain (only_element ns)
only-unlabelled ns = ap only (elements-unlabelled ns) ∙ only-map (elements_of ns)

is_some-plain : (o : Option Element) → is_some (option_map plain o) ≡ is_some o
is_some-plain None = refl
is_some-plain (Some e) = refl

has_one : (ns : Nodes) → is_some (only_element (unlabelled ns)) ≡ is_some (only_element ns)
has_one ns = ap is_some (only-unlabelled ns) ∙ is_some-plain (only_element ns)

is_data-plain : (e : Element) → is_data (plain e) ≡ is_data e
is_data-plain e = ap (λ one. named_pkg (codes "binaryData") e.tag || (named_pkg (codes "xmlData") e.tag && one)) (has_one e.kids)

is_data_alone-plain : (o : Option Element) → is_data_alone (option_map plain o) ≡ is_data_alone o
is_data_alone-plain None = refl
is_data_alone-plain (Some e) = is_data-plain e

is_part-plain : (e : Element) → is_part (plain e) ≡ is_part e
is_part-plain e =
    ap (λ held. named_pkg (codes "part") e.tag && has_attribute (codes "name") e.tag && has_attribute (codes "contentType") e.tag && held)
    (ap is_data_alone (only-unlabelled e.kids) ∙ is_data_alone-plain (only_element e.kids))

-- a choice by a name, which has no label
by_name : (test : Bool) (o p : Option Element) → o ≡ option_map plain p → cond test o None ≡ option_map plain (cond test p None)
by_name true o p h = h
by_name false o p h = refl

root_in-plain : (o : Option Element) → root_in (option_map plain o) ≡ option_map plain (root_in o)
root_in-plain None = refl
root_in-plain (Some e) = by_name (named_pkg (codes "xmlData") e.tag) _ _ (only-unlabelled e.kids)

story_root-plain : (o : Option Element) → story_root (option_map plain o) ≡ option_map plain (story_root o)
story_root-plain None = refl
story_root-plain (Some e) = by_name (is_story_root e.tag) (Some (plain e)) (Some e) refl

-- taking labels away leaves the story of a part the same, but for its labels
pub story_of-plain : (e : Element) → story_of (plain e) ≡ option_map plain (story_of e)
story_of-plain e =
    ap (λ o. story_root (root_in o)) (only-unlabelled e.kids) ∙ ap story_root (root_in-plain (only_element e.kids)) ∙ story_root-plain (root_in (only_element e.kids))

is_document_root-plain : (o : Option Element) → is_document_root (option_map plain o) ≡ is_document_root o
is_document_root-plain None = refl
is_document_root-plain (Some e) = refl

is_document-plain : (e : Element) → is_document (plain e) ≡ is_document e
is_document-plain e = ap is_document_root (story_of-plain e) ∙ is_document_root-plain (story_of e)

all-plain : (es : List Element) → list_all is_part (map plain es) ≡ list_all is_part es
all-plain [] = refl
all-plain (e ∷ es) = ap (λ here. here && list_all is_part (map plain es)) (is_part-plain e) ∙ ap (λ more. is_part e && more) (all-plain es)

any-plain : (es : List Element) → list_any is_document (map plain es) ≡ list_any is_document es
any-plain [] = refl
any-plain (e ∷ es) = ap (λ here. here || list_any is_document (map plain es)) (is_document-plain e) ∙ ap (λ more. is_document e || more) (any-plain es)

package_in-plain : (o : Option Element) → package_in (option_map plain o) ≡ option_map plain (package_in o)
package_in-plain None = refl
package_in-plain (Some e) = by_name (named_pkg (codes "package") e.tag) (Some (plain e)) (Some e) refl

-- the package of nodes without labels is the package, without its labels
pub package_of-unlabelled : (ns : Nodes) → package_of (unlabelled ns) ≡ option_map plain (package_of ns)
package_of-unlabelled ns = ap package_in (only-unlabelled ns) ∙ package_in-plain (only_element ns)

parts_refusal-plain : (es : List Element) → parts_refusal (map plain es) ≡ parts_refusal es
parts_refusal-plain es = rw (all-plain es, any-plain es) refl

refusal_of-plain : (o : Option Element) → refusal_of (option_map plain o) ≡ refusal_of o
refusal_of-plain None = refl
refusal_of-plain (Some e) = ap parts_refusal (elements-unlabelled e.kids) ∙ parts_refusal-plain (elements_of e.kids)

-- taking labels away does not change whether a package is refused
pub refusal-unlabelled : (ns : Nodes) → refusal (unlabelled ns) ≡ refusal ns
refusal-unlabelled ns = ap refusal_of (package_of-unlabelled ns) ∙ refusal_of-plain (package_of ns)

places_from-unlabelled : (at : ℕ) (ns : Nodes) → places_from at (unlabelled ns) ≡ places_from at ns
places_from-unlabelled at no_nodes = refl
places_from-unlabelled at (bytes b rest) = places_from-unlabelled (suc at) rest
places_from-unlabelled at (element tag kids rest) = ap (λ more. (at, name_in tag) ∷ more) (places_from-unlabelled (suc at) rest)

places_in-plain : (o : Option Element) → places_in (option_map plain o) ≡ places_in o
places_in-plain None = refl
places_in-plain (Some e) = places_from-unlabelled 0 e.kids

-- taking labels away leaves the places and the names of the parts
pub places_of-unlabelled : (ns : Nodes) → places_of (unlabelled ns) ≡ places_of ns
places_of-unlabelled ns = ap places_in (package_of-unlabelled ns) ∙ places_in-plain (package_of ns)

count-unlabelled : (ns : Nodes) → count (unlabelled ns) ≡ count ns
count-unlabelled no_nodes = refl
count-unlabelled (bytes b rest) = ap (λ more. 1 + more) (count-unlabelled rest)
count-unlabelled (element tag kids rest) = omega (arith, count-unlabelled kids, count-unlabelled rest)

tails-unlabelled : (ns : Nodes) → HasUtf8Tails ns → HasUtf8Tails (unlabelled ns)
tails-unlabelled no_nodes tails = tt
tails-unlabelled (bytes b rest) tails = tails-unlabelled rest tails
tails-unlabelled (element tag kids rest) tails = (tails.0, tails-unlabelled kids tails.1, tails-unlabelled rest tails.2)

tails-labelled : (ns : Nodes) → HasUtf8Tails (unlabelled ns) → HasUtf8Tails ns
tails-labelled no_nodes tails = tt
tails-labelled (bytes b rest) tails = tails-labelled rest tails
tails-labelled (element tag kids rest) tails = (tails.0, tails-labelled kids tails.1, tails-labelled rest tails.2)

-- ---- nodes that differ only in labels

-- labels are not part of the text
pub text-labelled : (old new : Nodes) → unlabelled new ≡ unlabelled old → text new ≡ text old
text-labelled old new same = sym (text-unlabelled new) ∙ ap text same ∙ text-unlabelled old

-- the invariant of a package holds if only labels change
pub kept-labelled : (old new : Nodes) (listed : List (ℕ × List ℕ)) → unlabelled new ≡ unlabelled old → IsKept old listed → IsKept new listed
kept-labelled old new listed same kept =
    record {
      shape = sym (refusal-unlabelled new) ∙ ap refusal same ∙ refusal-unlabelled old ∙ kept.shape;
      parts = kept.parts ∙ sym (places_of-unlabelled old) ∙ ap places_of (sym same) ∙ places_of-unlabelled new;
      tails = tails-labelled new (subst HasUtf8Tails (sym same) (tails-unlabelled old kept.tails));
      few = rw (← count-unlabelled new, same, count-unlabelled old) kept.few;
    }

-- ---- a rule that sets labels alone

pub stories_alone : {S : Type 0} (rule : StoryRule S) → SetsLabels rule → (given : S) (ns : Nodes) → unlabelled (changed_package rule given ns) ≡ unlabelled ns
stories_alone rule sets given ns = unlabelled-changed rule sets given [] ns
