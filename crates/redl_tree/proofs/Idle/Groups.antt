-- In a list of blocks idle nodes are thin, and give themselves: to the list, or to the paragraph that takes them up.
use Rattle.std.proofs.Common.{◌≡◌, ◌∙◌, refl, sym, ap, List, ◌∷◌, Bool, true, Some, None, if◌then◌else◌}
use Rattle.redl_tree.specs.Model.Nodes.{Tag, Nodes, no_nodes, bytes, element, ◌⊕◌}
use Rattle.redl_tree.specs.Roles.Names.{is}
use Rattle.redl_tree.specs.Roles.Idle.{is_idle_in}
use Rattle.redl_tree.specs.Decisions.Groups.{GroupPiece, thin, paragraph_next, has_thick, grouped_from}
use Rattle.redl_tree.specs.Decisions.Pass.{piece, pieces, pass}
use Rattle.redl_tree.specs.declared.kinds.Say.{Say}
use Rattle.redl_tree.proofs.Model.Laws.{⊕-no_nodes, ⊕_assoc}
use Rattle.redl_tree.proofs.Idle.Tags.{Idle, idle_parts, has-not}
use Rattle.redl_tree.proofs.Idle.Pass.{one_pass, thin_piece, pass_idle}

idle_piece : (says : List Say) (ancestors : List Tag) (in_run : Bool) (tag : Tag) (kids : Nodes) → Idle in_run tag → is_idle_in (is "r" tag) kids ≡ true → piece says ancestors tag kids (pass says (tag ∷ ancestors) kids) ≡ thin (element tag kids no_nodes)
idle_piece says ancestors in_run tag kids i h =
    ap (piece says ancestors tag kids) (pass_idle says (tag ∷ ancestors) (is "r" tag) kids h)
    ∙ thin_piece says ancestors in_run tag kids kids i
    ∙ ap thin (one_pass says ancestors in_run tag kids i h)

-- where nothing is held
pub given_past : (followed : Bool) (says : List Say) (ancestors : List Tag) (in_run : Bool) (x y : Nodes) → is_idle_in in_run x ≡ true →
    grouped_from followed None (pieces says ancestors (x ⊕ y)) ≡ x ⊕ grouped_from followed None (pieces says ancestors y)
given_past followed says ancestors in_run no_nodes y h = refl
given_past followed says ancestors in_run (bytes b rest) y h = ap (bytes b) (given_past followed says ancestors in_run rest y h)
given_past followed says ancestors in_run (element tag kids rest) y h =
    let p = idle_parts in_run tag kids rest h in
    ap (λ (x : GroupPiece). grouped_from followed None (x ∷ pieces says ancestors (rest ⊕ y))) (idle_piece says ancestors in_run tag kids p.own p.below)
    ∙ ap (element tag kids) (given_past followed says ancestors in_run rest y p.later)

-- where a paragraph takes up what is held
pub held_past : (followed : Bool) (says : List Say) (ancestors : List Tag) (in_run : Bool) (held x y : Nodes) → is_idle_in in_run x ≡ true →
    grouped_from followed (Some held) (pieces says ancestors (x ⊕ y)) ≡ grouped_from followed (Some (held ⊕ x)) (pieces says ancestors y)
held_past followed says ancestors in_run held no_nodes y h = ap (λ (n : Nodes). grouped_from followed (Some n) (pieces says ancestors y)) (sym (⊕-no_nodes held))
held_past followed says ancestors in_run held (bytes b rest) y h =
    held_past followed says ancestors in_run (held ⊕ bytes b no_nodes) rest y h
    ∙ ap (λ (n : Nodes). grouped_from followed (Some n) (pieces says ancestors y)) (⊕_assoc held (bytes b no_nodes) rest)
held_past followed says ancestors in_run held (element tag kids rest) y h =
    let p = idle_parts in_run tag kids rest h in
    ap (λ (x : GroupPiece). grouped_from followed (Some held) (x ∷ pieces says ancestors (rest ⊕ y))) (idle_piece says ancestors in_run tag kids p.own p.below)
    ∙ ap (λ b. grouped_from followed (Some (held ⊕ (if b then no_nodes else element tag kids no_nodes))) (pieces says ancestors (rest ⊕ y))) (has-not "pPr" in_run tag p.own refl)
    ∙ held_past followed says ancestors in_run (held ⊕ element tag kids no_nodes) rest y p.later
    ∙ ap (λ (n : Nodes). grouped_from followed (Some n) (pieces says ancestors y)) (⊕_assoc held (element tag kids no_nodes) rest)

pub paragraph_past : (says : List Say) (ancestors : List Tag) (in_run : Bool) (x y : Nodes) → is_idle_in in_run x ≡ true → paragraph_next (pieces says ancestors (x ⊕ y)) ≡ paragraph_next (pieces says ancestors y)
paragraph_past says ancestors in_run no_nodes y h = refl
paragraph_past says ancestors in_run (bytes b rest) y h = paragraph_past says ancestors in_run rest y h
paragraph_past says ancestors in_run (element tag kids rest) y h =
    let p = idle_parts in_run tag kids rest h in
    ap (λ (x : GroupPiece). paragraph_next (x ∷ pieces says ancestors (rest ⊕ y))) (idle_piece says ancestors in_run tag kids p.own p.below)
    ∙ paragraph_past says ancestors in_run rest y p.later

pub heavy_past : (says : List Say) (ancestors : List Tag) (in_run : Bool) (x y : Nodes) → is_idle_in in_run x ≡ true → has_thick (pieces says ancestors (x ⊕ y)) ≡ has_thick (pieces says ancestors y)
heavy_past says ancestors in_run no_nodes y h = refl
heavy_past says ancestors in_run (bytes b rest) y h = heavy_past says ancestors in_run rest y h
heavy_past says ancestors in_run (element tag kids rest) y h =
    let p = idle_parts in_run tag kids rest h in
    ap (λ (x : GroupPiece). has_thick (x ∷ pieces says ancestors (rest ⊕ y))) (idle_piece says ancestors in_run tag kids p.own p.below)
    ∙ heavy_past says ancestors in_run rest y p.later
