-- Nodes of which each tag is idle are idle.
use Rattle.std.proofs.Common.{◌≡◌, Bool, true, refl}
use Rattle.std.specs.Prelude.{◌&&◌}
use Rattle.std.proofs.lemmas.Bool.{and_from}
use Rattle.redl_tree.specs.Model.Nodes.{Tag, Nodes, no_nodes, bytes, element, ◌⊕◌}
use Rattle.redl_tree.specs.Roles.Names.{is}
use Rattle.redl_tree.specs.Roles.Idle.{is_idle_tag, is_idle_in, AllTags}

-- nodes are idle if each tag among them is, at every depth
pub each_is_idle : (in_run : Bool) (nodes : Nodes) → AllTags (λ inside tag. is_idle_tag inside tag ≡ true) in_run nodes → is_idle_in in_run nodes ≡ true
each_is_idle in_run no_nodes h = refl
each_is_idle in_run (bytes b rest) h = each_is_idle in_run rest h
each_is_idle in_run (element tag kids rest) h =
    and_from (is_idle_tag in_run tag) (is_idle_in (is "r" tag) kids && is_idle_in in_run rest) h.0
    (and_from (is_idle_in (is "r" tag) kids) (is_idle_in in_run rest) (each_is_idle (is "r" tag) kids h.1) (each_is_idle in_run rest h.2))

-- ---- what holds of each tag

-- what holds of each tag of two lists holds of each tag of both in a row
pub tags-⊕ : (T : Bool → Tag → Type 0) (in_run : Bool) (x y : Nodes) → AllTags T in_run x → AllTags T in_run y → AllTags T in_run (x ⊕ y)
tags-⊕ T in_run no_nodes y hx hy = hy
tags-⊕ T in_run (bytes b rest) y hx hy = tags-⊕ T in_run rest y hx hy
tags-⊕ T in_run (element tag kids rest) y hx hy = (hx.0, hx.1, tags-⊕ T in_run rest y hx.2 hy)

-- where one fact of a tag gives another, it gives it for all tags among nodes
pub all_mapped : {S T : Bool → Tag → Type 0} (f : (in_run : Bool) (tag : Tag) → S in_run tag → T in_run tag) (in_run : Bool) (nodes : Nodes) → AllTags S in_run nodes → AllTags T in_run nodes
all_mapped f in_run no_nodes h = tt
all_mapped f in_run (bytes b rest) h = all_mapped f in_run rest h
all_mapped f in_run (element tag kids rest) h = (f in_run tag h.0, all_mapped f (is "r" tag) kids h.1, all_mapped f in_run rest h.2)
