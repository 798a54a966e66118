-- Labels, and so numbers, change neither the shape of a package nor the names of its parts.
use Rattle.std.proofs.Common.{◌≡◌, ℕ, length, sym, ap, ◌∙◌, option_map, slice_get}
use Rattle.redl_tree.specs.Model.Nodes.{Nodes}
use Rattle.redl_tree.specs.Revisions.Labels.{unlabelled}
use Rattle.redl_tree.specs.Revisions.Markers.{Value}
use Rattle.redl_tree.specs.Revisions.Numbers.{numbered_package_by}
use Rattle.redl_tree.proofs.Revisions.NumberLaws.{unlabelled-numbered}
use Rattle.redl_opc.specs.Shape.{refusal, parts_of}
use Rattle.redl_opc.specs.Parts.{part_name, places_of}
use Rattle.redl_opc.proofs.LabelLaws.{refusal-unlabelled, places_of-unlabelled}
use Rattle.redl_opc.proofs.PartLaws.{length-places_of, name-places_of}

-- packages that differ in labels alone have the same shape
pub shape-labelled : (old new : Nodes) → unlabelled new ≡ unlabelled old → refusal new ≡ refusal old
shape-labelled old new same = sym (refusal-unlabelled new) ∙ ap refusal same ∙ refusal-unlabelled old

places-labelled : (old new : Nodes) → unlabelled new ≡ unlabelled old → places_of new ≡ places_of old
places-labelled old new same = sym (places_of-unlabelled new) ∙ ap places_of same ∙ places_of-unlabelled old

-- they have as many parts
pub parts-labelled : (old new : Nodes) → unlabelled new ≡ unlabelled old → length (parts_of new) ≡ length (parts_of old)
parts-labelled old new same = sym (length-places_of new) ∙ ap length (places-labelled old new same) ∙ length-places_of old

-- and their parts have the same names
pub name-labelled : (old new : Nodes) (number : ℕ) → unlabelled new ≡ unlabelled old → part_name new number ≡ part_name old number
name-labelled old new number same =
    name-places_of new number
    ∙ ap (λ places. option_map (λ place. place.1) (slice_get places number)) (places-labelled old new same)
    ∙ sym (name-places_of old number)

-- a numbered package differs from the original in labels alone
pub shape-numbered : (value : Value) (nodes : Nodes) → refusal (numbered_package_by value nodes) ≡ refusal nodes
shape-numbered value nodes = shape-labelled nodes (numbered_package_by value nodes) (unlabelled-numbered value nodes)

pub parts-numbered : (value : Value) (nodes : Nodes) → length (parts_of (numbered_package_by value nodes)) ≡ length (parts_of nodes)
parts-numbered value nodes = parts-labelled nodes (numbered_package_by value nodes) (unlabelled-numbered value nodes)

pub name-numbered : (value : Value) (nodes : Nodes) (number : ℕ) → part_name (numbered_package_by value nodes) number ≡ part_name nodes number
name-numbered value nodes number = name-labelled nodes (numbered_package_by value nodes) number (unlabelled-numbered value nodes)
