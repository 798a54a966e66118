-- The parts of a package one after the other, by their numbers.
use Rattle.std.proofs.Common.{◌≡◌, ◌∙◌, ◌<◌, ◌+◌, ℕ, [], Some, drop, length, slice_get, ap, sym}
use Rattle.std.specs.Prelude.{unwrap_or}
use Rattle.std.specs.Option.{option_map}
use Rattle.redl_tree.specs.Model.Nodes.{Nodes}
use Rattle.redl_lists.specs.declared.table.Tables.{Tables}
use Rattle.redl_opc.specs.Elements.{Element}
use Rattle.redl_opc.specs.Parts.{name_in, story}
use Rattle.redl_opc.specs.Shape.{parts_of, story_of}
use Rattle.redl_opc.proofs.WalkLaws.{part-at}
use Rattle.redl_page_numbers.specs.Walks.{Stories, name_at, part_walked, parts_walked}

pub parts_walked-step : (tables : Tables) (nodes : Nodes) (number : ℕ) (known : Stories) → number < length (parts_of nodes)
    → parts_walked tables (drop number (parts_of nodes)) known
    ≡ parts_walked tables (drop (number + 1) (parts_of nodes)) (part_walked tables (name_at nodes number) (story nodes number) known)
parts_walked-step tables nodes number known within =
    let found = part-at nodes number within in
    let later = drop (number + 1) (parts_of nodes) in
    ap (λ parts. parts_walked tables parts known) found.1.front
    ∙ ap (λ name. parts_walked tables later (part_walked tables name (story_of found.0) known)) (sym (name found.0 found.1.at))
    ∙ ap (λ root. parts_walked tables later (part_walked tables (name_at nodes number) root known)) (sym found.1.root)
  where
    name : (part : Element) → slice_get (parts_of nodes) number ≡ Some part → name_at nodes number ≡ name_in part.tag
    name part e = ap (λ o. unwrap_or (option_map (λ p. name_in p.tag) o) []) e
