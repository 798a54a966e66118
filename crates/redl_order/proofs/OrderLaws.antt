-- Stories, notes and references part by part and node by node.
use Rattle.std.proofs.Common.{◌≡◌, ◌∙◌, refl, sym, ap, List, [], ◌∷◌, ◌++◌, Bool, true, false, filter, codes, if◌then◌else◌}
use Rattle.redl_tree.specs.Model.Nodes.{Tag, Nodes, no_nodes, bytes, element, Item, bytes_item, element_item, idle_item, in_front, ◌⊕◌}
use Rattle.redl_tree.specs.Model.IdleTexts.{idle_nodes}
use Rattle.redl_tree.specs.Model.View.{Element}
use Rattle.redl_tree.specs.Roles.Names.{is, named}
use Rattle.redl_tree.specs.Roles.Idle.{is_idle_in}
use Rattle.redl_tree.proofs.Idle.Tags.{Idle, idle_parts, has-not}
use Rattle.redl_tree.proofs.Idle.Items.{nodes_are_idle}
use Rattle.redl_opc.specs.Elements.{elements_of}
use Rattle.redl_order.specs.Order.{has_name, local_name, notes_of}
use Rattle.redl_order.specs.declared.reference.Named.{Named}
use Rattle.redl_order.specs.declared.reference.Named.TheVariants.{Header, Footer, Footnote, Endnote}
use Rattle.redl_order.specs.Inside.Items.{item_notes}

-- an idle element is no note
no_note : (note : Named) (in_run : Bool) (tag : Tag) → Idle in_run tag → named (local_name note) tag ≡ false
no_note Header in_run tag i = has-not "hdr" in_run tag i refl
no_note Footer in_run tag i = has-not "ftr" in_run tag i refl
no_note Footnote in_run tag i = has-not "footnote" in_run tag i refl
no_note Endnote in_run tag i = has-not "endnote" in_run tag i refl

idle_past : (note : Named) (in_run : Bool) (x y : Nodes) → is_idle_in in_run x ≡ true → notes_of note (x ⊕ y) ≡ notes_of note y
idle_past note in_run no_nodes y h = refl
idle_past note in_run (bytes b rest) y h = idle_past note in_run rest y h
idle_past note in_run (element tag kids rest) y h =
    let p = idle_parts in_run tag kids rest h in
    ap (λ b. if b then record { tag = tag; kids = kids } ∷ notes_of note (rest ⊕ y) else notes_of note (rest ⊕ y)) (no_note note in_run tag p.own)
    ∙ idle_past note in_run rest y p.later

one_more : (b : Bool) (e : Element) (es : List Element) → (if b then e ∷ es else es) ≡ (if b then e ∷ [] else []) ++ es
one_more true e es = refl
one_more false e es = refl

pub notes-in_front : (note : Named) (x : Item) (rest : Nodes) → notes_of note (in_front x rest) ≡ item_notes note x ++ notes_of note rest
notes-in_front note (bytes_item b) rest = refl
notes-in_front note (element_item tag kids) rest = one_more (named (local_name note) tag) (record { tag = tag; kids = kids }) (notes_of note rest)
notes-in_front note (idle_item t) rest = idle_past note false (idle_nodes t) rest (nodes_are_idle t)
