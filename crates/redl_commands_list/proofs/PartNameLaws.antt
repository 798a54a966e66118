-- The names of the parts of a package, with and without its numbers.
use Rattle.std.proofs.Common.{◌≡◌, ◌<◌, ◌+◌, ℕ, suc, List, [], ◌∷◌, ◌++◌, length, take, map, slice_get, All, IsUtf8, Option, None, Some, refl, sym, ap, ◌∙◌, subst, add-one}
use Rattle.std.proofs.Math.Seq.{take-suc}
use Rattle.std.proofs.lemmas.List.{length-map}
use Rattle.std.proofs.lemmas.List.Elements.{All-append, All-cons, All-nil}
use Rattle.std.proofs.lemmas.Option.{get_or_from_slice_get, slice_get_within}
use Rattle.redl_commands_shown.specs.List.{part_names}
use Rattle.redl_index.proofs.PartLaws.{revisions-in_story}
use Rattle.redl_index.specs.Numbers.{numbered_package}
use Rattle.redl_index.specs.Revisions.{revisions_of}
use Rattle.redl_index.specs.declared.revision.Revision.{Revision}
use Rattle.redl_opc.proofs.LabelLaws.{places_of-unlabelled}
use Rattle.redl_opc.specs.Elements.{Element, elements_of}
use Rattle.redl_opc.specs.Parts.{name_in, places_from, places_in, places_of}
use Rattle.redl_opc.specs.Shape.{elements_in, package_of, parts_of}
use Rattle.redl_stamp.specs.Attribute.{attribute_value}
use Rattle.redl_tree.proofs.Revisions.NumberLaws.{unlabelled-numbered}
use Rattle.redl_tree.specs.Model.Nodes.{Nodes, no_nodes, bytes, element}

names-places_from : (at : ℕ) (kids : Nodes) → map (λ (place : ℕ × List ℕ). place.1) (places_from at kids) ≡ map (λ (part : Element). name_in part.tag) (elements_of kids)
names-places_from at no_nodes = refl
names-places_from at (bytes b rest) = names-places_from (suc at) rest
names-places_from at (element tag kids rest) = ap (λ names. name_in tag ∷ names) (names-places_from (suc at) rest)

names-places_in : (root : Option Element) → map (λ (place : ℕ × List ℕ). place.1) (places_in root) ≡ map (λ (part : Element). name_in part.tag) (elements_in root)
names-places_in None = refl
names-places_in (Some root) = names-places_from 0 root.kids

-- numbers don't change the names
pub part_names-numbered : (nodes : Nodes) → part_names (numbered_package nodes) ≡ part_names nodes
part_names-numbered nodes =
    let same : places_of (numbered_package nodes) ≡ places_of nodes =
    sym (places_of-unlabelled (numbered_package nodes)) ∙ ap places_of (unlabelled-numbered attribute_value nodes) ∙ places_of-unlabelled nodes in
    sym (names-places_in (package_of (numbered_package nodes))) ∙ ap (map (λ (place : ℕ × List ℕ). place.1)) same ∙ names-places_in (package_of nodes)

-- each revision is in a part that has a name
pub parts-named : (nodes : Nodes) → All (λ (revision : Revision). revision.part < length (parts_of nodes)) (revisions_of nodes)
parts-named nodes = λ k d within. (revisions-in_story nodes k d within).is_part

-- one name more
pub names_more : (whole names new : List (List ℕ)) (i : ℕ) (name copy : List ℕ) → names ≡ take i whole → slice_get whole i ≡ Some name → copy ≡ name → new ≡ names ++ copy ∷ []
    → new ≡ take (i + 1) whole
names_more whole names new i name copy so_far here same pushed =
    pushed
    ∙ ap (λ ns. ns ++ copy ∷ []) so_far
    ∙ ap (λ n. take i whole ++ n ∷ []) (same ∙ sym (get_or_from_slice_get whole i name [] here))
    ∙ sym (take-suc whole i [] (slice_get_within whole i name here))
    ∙ ap (λ n. take n whole) (sym (add-one i))

pub all_more : (names new : List (List ℕ)) (name copy : List ℕ) → All IsUtf8 names → IsUtf8 name → copy ≡ name → new ≡ names ++ copy ∷ [] → All IsUtf8 new
all_more names new name copy all utf8 same pushed =
    subst (All IsUtf8) (sym pushed) (All-append IsUtf8 names (copy ∷ []) all (All-cons IsUtf8 copy [] (subst IsUtf8 (sym same) utf8) (All-nil IsUtf8)))

-- the names of a package are those of its session, and there is one for each revision
pub session_names : (nodes in_session : Nodes) (names : List (List ℕ)) → names ≡ part_names nodes → in_session ≡ numbered_package nodes → names ≡ part_names in_session
session_names nodes in_session names is numbered = is ∙ sym (part_names-numbered nodes) ∙ ap part_names (sym numbered)

pub revisions_named : (nodes : Nodes) (names : List (List ℕ)) (revisions : List Revision) → names ≡ part_names nodes → revisions ≡ revisions_of nodes
    → All (λ (revision : Revision). revision.part < length names) revisions
revisions_named nodes names revisions is of_nodes =
    let as_many : length names ≡ length (parts_of nodes) = ap length is ∙ length-map (parts_of nodes) (λ (part : Element). name_in part.tag) in
    subst (λ n. All (λ (revision : Revision). revision.part < n) revisions) (sym as_many)
    (subst (All (λ (revision : Revision). revision.part < length (parts_of nodes))) (sym of_nodes) (parts-named nodes))
