-- Members among nodes one after the other, and that no idle element is one.
use Rattle.std.proofs.Common.{◌≡◌, ◌∙◌, refl, sym, ap, List, [], ◌∷◌, ◌++◌, append_assoc, Bool, true, false, Option, if◌then◌else◌}
use Rattle.redl_tree.specs.Model.Nodes.{Tag, Nodes, no_nodes, bytes, element, Item, bytes_item, element_item, idle_item, in_front, ◌⊕◌}
use Rattle.redl_tree.specs.Model.IdleTexts.{idle_nodes}
use Rattle.redl_tree.specs.Roles.Names.{is}
use Rattle.redl_tree.specs.Roles.Idle.{is_idle_in}
use Rattle.redl_tree.proofs.Idle.Tags.{idle_parts}
use Rattle.redl_tree.proofs.Idle.Items.{nodes_are_idle}
use Rattle.redl_order.specs.References.{id_in}
use Rattle.redl_places.specs.Places.{Signs, is_member, member_places, own_place, place_in}
use Rattle.redl_places.specs.Items.{item_places}
use Rattle.redl_places.specs.declared.sign.NoteSign.{NoteSign}
use Rattle.redl_places.specs.declared.place.StoryPlace.{StoryPlace}
use Rattle.redl_places.specs.declared.place.StoryPlace.TheVariants.{Footnote, Endnote}
use Rattle.redl_places.specs.declared.place.MemberPlace.{MemberPlace}

-- ---- nodes one after the other

places-⊕ : (signs : Signs) (here : StoryPlace) (x y : Nodes) → member_places signs here (x ⊕ y) ≡ member_places signs here x ++ member_places signs here y
places-⊕ signs here no_nodes y = refl
places-⊕ signs here (bytes b rest) y = places-⊕ signs here rest y
places-⊕ signs here (element tag kids rest) y =
    let own = own_place here tag ++ member_places signs (place_in signs here tag) kids in
    ap (λ (ps : List MemberPlace). own ++ ps) (places-⊕ signs here rest y)
    ∙ sym (append_assoc own (member_places signs here rest) (member_places signs here y))

idle_places : (signs : Signs) (here : StoryPlace) (in_run : Bool) (x : Nodes) → is_idle_in in_run x ≡ true → member_places signs here x ≡ []
idle_places signs here in_run no_nodes h = refl
idle_places signs here in_run (bytes b rest) h = idle_places signs here in_run rest h
idle_places signs here in_run (element tag kids rest) h =
    let p = idle_parts in_run tag kids rest h in
    let below = member_places signs (place_in signs here tag) kids in
    ap (λ k. ((if is_member k then record { revision = tag.rev; place = here } ∷ [] else []) ++ below) ++ member_places signs here rest) p.own.kind
    ∙ ap (λ (ps : List MemberPlace). ps ++ member_places signs here rest) (idle_places signs (place_in signs here tag) (is "r" tag) kids p.below)
    ∙ idle_places signs here in_run rest p.later

pub places-in_front : (signs : Signs) (here : StoryPlace) (x : Item) (rest : Nodes)
    → member_places signs here (in_front x rest) ≡ item_places signs here x ++ member_places signs here rest
places-in_front signs here (bytes_item b) rest = refl
places-in_front signs here (element_item tag kids) rest = refl
places-in_front signs here (idle_item t) rest =
    places-⊕ signs here (idle_nodes t) rest
    ∙ ap (λ (ps : List MemberPlace). ps ++ member_places signs here rest) (idle_places signs here false (idle_nodes t) (nodes_are_idle t))

-- ---- inside a note

pub in-footnote : (signs : Signs) (here : StoryPlace) (tag : Tag) (sign : Option NoteSign) → is "txbxContent" tag ≡ false → is "hdr" tag ≡ false → is "ftr" tag ≡ false → is "comment" tag ≡ false
    → is "footnote" tag ≡ true → sign ≡ signs.footnote (id_in tag.tail) → Footnote sign ≡ place_in signs here tag
in-footnote signs here tag sign box header footer comment footnote same = rw (box, header, footer, comment, footnote) (ap Footnote same)

pub in-endnote : (signs : Signs) (here : StoryPlace) (tag : Tag) (sign : Option NoteSign) → is "txbxContent" tag ≡ false → is "hdr" tag ≡ false → is "ftr" tag ≡ false → is "comment" tag ≡ false
    → is "footnote" tag ≡ false → is "endnote" tag ≡ true → sign ≡ signs.endnote (id_in tag.tail) → Endnote sign ≡ place_in signs here tag
in-endnote signs here tag sign box header footer comment footnote endnote same = rw (box, header, footer, comment, footnote, endnote) (ap Endnote same)
