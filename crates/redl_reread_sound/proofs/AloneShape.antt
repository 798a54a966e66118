-- The shape of a package looks at no stretch: a package has it still when neighbouring stretches are put together, and when labels go.
use Rattle.std.proofs.Common.{◌≡◌, ◌∙◌, refl, sym, ap, List, [], ◌∷◌, map, Bool, true, false, ◌&&◌, ◌||◌, Option, Some, None, is_some, option_map, codes, if◌then◌else◌}
use Rattle.std.specs.List.{list_all, list_any}
use Rattle.redl_opc.specs.Elements.{Element, elements_of, only, only_element}
use Rattle.redl_opc.specs.Shape.{has_attribute, is_data, is_data_alone, is_document, is_document_root, is_part, package_in, package_of, parts_refusal, refusal, refusal_of, root_in, story_of, story_root}
use Rattle.redl_opc.proofs.LabelLaws.{refusal-unlabelled}
use Rattle.redl_tree.specs.Decisions.Packages.{is_story_root, named_pkg}
use Rattle.redl_tree.specs.Model.Nodes.{Nodes, no_nodes, bytes, element}
use Rattle.redl_tree.specs.Revisions.Labels.{unlabelled}
use Rattle.redl_reread_sound.specs.Together.{together}
use Rattle.redl_reread_sound.proofs.Alone.{alone, alone-together}

-- an element without stretches in it
bare : Element → Element
bare e = record { tag = e.tag; kids = alone e.kids }

elements-alone : (nodes : Nodes) → elements_of (alone nodes) ≡ map bare (elements_of nodes)
unfolding bare
elements-alone no_nodes = refl
elements-alone (bytes b rest) = elements-alone rest
elements-alone (element tag kids rest) = ap (λ (es : List Element). record { tag = tag; kids = alone kids } ∷ es) (elements-alone rest)

only-bare : (es : List Element) → only (map bare es) ≡ option_map bare (only es)
only-bare [] = refl
only-bare (e ∷ []) = refl
only-bare (e ∷ other ∷ more) = refl

only-alone : (nodes : Nodes) → only_element (alone nodes) ≡ option_map bare (only_element nodes)
only-alone nodes = ap only (elements-alone nodes) ∙ only-bare (elements_of nodes)

some-bare : (o : Option Element) → is_some (option_map bare o) ≡ is_some o
some-bare None = refl
some-bare (Some e) = refl

data-bare : (d : Element) → is_data (bare d) ≡ is_data d
unfolding bare
data-bare d =
    ap (λ b. named_pkg (codes "binaryData") d.tag || (named_pkg (codes "xmlData") d.tag && b)) (ap (λ o. is_some o) (only-alone d.kids) ∙ some-bare (only_element d.kids))

data_alone-bare : (o : Option Element) → is_data_alone (option_map bare o) ≡ is_data_alone o
data_alone-bare None = refl
data_alone-bare (Some d) = data-bare d

part-bare : (e : Element) → is_part (bare e) ≡ is_part e
unfolding bare
part-bare e =
    ap (λ b. named_pkg (codes "part") e.tag && has_attribute (codes "name") e.tag && has_attribute (codes "contentType") e.tag && b)
    (ap is_data_alone (only-alone e.kids) ∙ data_alone-bare (only_element e.kids))

root_in-bare : (o : Option Element) → root_in (option_map bare o) ≡ option_map bare (root_in o)
unfolding bare
root_in-bare None = refl
root_in-bare (Some d) = at (named_pkg (codes "xmlData") d.tag)
  where
    at : (b : Bool) → (if b then only_element (alone d.kids) else None) ≡ option_map bare (if b then only_element d.kids else None)
    at true = only-alone d.kids
    at false = refl

story_root-bare : (o : Option Element) → story_root (option_map bare o) ≡ option_map bare (story_root o)
unfolding bare
story_root-bare None = refl
story_root-bare (Some root) = at (is_story_root root.tag)
  where
    at : (b : Bool) → (if b then Some (bare root) else None) ≡ option_map bare (if b then Some root else None)
    at true = refl
    at false = refl

document_root-bare : (o : Option Element) → is_document_root (option_map bare o) ≡ is_document_root o
unfolding bare
document_root-bare None = refl
document_root-bare (Some root) = refl

document-bare : (e : Element) → is_document (bare e) ≡ is_document e
unfolding bare
document-bare e =
    ap (λ o. is_document_root (story_root (root_in o))) (only-alone e.kids)
    ∙ ap (λ o. is_document_root (story_root o)) (root_in-bare (only_element e.kids))
    ∙ ap is_document_root (story_root-bare (root_in (only_element e.kids)))
    ∙ document_root-bare (story_of e)

all-parts : (es : List Element) → list_all is_part (map bare es) ≡ list_all is_part es
all-parts [] = refl
all-parts (e ∷ es) = ap (λ b. b && list_all is_part (map bare es)) (part-bare e) ∙ ap (λ b. is_part e && b) (all-parts es)

any-document : (es : List Element) → list_any is_document (map bare es) ≡ list_any is_document es
any-document [] = refl
any-document (e ∷ es) = ap (λ b. b || list_any is_document (map bare es)) (document-bare e) ∙ ap (λ b. is_document e || b) (any-document es)

package_in-bare : (o : Option Element) → package_in (option_map bare o) ≡ option_map bare (package_in o)
unfolding bare
package_in-bare None = refl
package_in-bare (Some root) = at (named_pkg (codes "package") root.tag)
  where
    at : (b : Bool) → (if b then Some (bare root) else None) ≡ option_map bare (if b then Some root else None)
    at true = refl
    at false = refl

refusal_of-bare : (o : Option Element) → refusal_of (option_map bare o) ≡ refusal_of o
unfolding bare
refusal_of-bare None = refl
refusal_of-bare (Some root) = ap parts_refusal (elements-alone root.kids) ∙ rw (all-parts (elements_of root.kids), any-document (elements_of root.kids)) refl

refusal-alone : (nodes : Nodes) → refusal (alone nodes) ≡ refusal nodes
refusal-alone nodes = ap refusal_of (ap package_in (only-alone nodes) ∙ package_in-bare (only_element nodes)) ∙ refusal_of-bare (package_of nodes)

refusal-together : (nodes : Nodes) → refusal (together nodes) ≡ refusal nodes
refusal-together nodes = sym (refusal-alone (together nodes)) ∙ ap refusal (alone-together nodes) ∙ refusal-alone nodes

-- the shape of a package is the same once it is read again
pub shape-again : (nodes : Nodes) → refusal (unlabelled (together nodes)) ≡ refusal nodes
shape-again nodes = refusal-unlabelled (together nodes) ∙ refusal-together nodes
