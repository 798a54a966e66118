-- Changes of properties among nodes one after the other, and that no idle element is one.
use Rattle.std.proofs.Common.{◌≡◌, ◌∙◌, refl, sym, ap, List, [], ◌∷◌, ◌++◌, append_assoc, Bool, true, false}
use Rattle.redl_tree.specs.Model.IdleTexts.{idle_nodes}
use Rattle.redl_tree.specs.Model.Nodes.{Nodes, no_nodes, bytes, element, Item, bytes_item, element_item, idle_item, in_front, ◌⊕◌}
use Rattle.redl_tree.specs.Model.View.{Element}
use Rattle.redl_tree.specs.Roles.Idle.{is_idle_in}
use Rattle.redl_tree.specs.Roles.Names.{is}
use Rattle.redl_tree.proofs.Idle.Items.{nodes_are_idle}
use Rattle.redl_tree.proofs.Idle.Tags.{idle_parts}
use Rattle.redl_edits.specs.Formats.{formats, own_format, stories_formats}
use Rattle.redl_edits.specs.Inside.Items.{item_kids_formats, item_own_formats}
use Rattle.redl_edits.specs.declared.formats.Format.{Format}

formats-⊕ : (present x y : Nodes) → formats present (x ⊕ y) ≡ formats present x ++ formats present y
formats-⊕ present no_nodes y = refl
formats-⊕ present (bytes b rest) y = formats-⊕ present rest y
formats-⊕ present (element tag kids rest) y =
    let own = own_format present kids tag.rev tag.kind ++ formats kids kids in
    ap (λ (fs : List Format). own ++ fs) (formats-⊕ present rest y) ∙ sym (append_assoc own (formats present rest) (formats present y))

idle_formats : (present : Nodes) (in_run : Bool) (x : Nodes) → is_idle_in in_run x ≡ true → formats present x ≡ []
idle_formats present in_run no_nodes h = refl
idle_formats present in_run (bytes b rest) h = idle_formats present in_run rest h
idle_formats present in_run (element tag kids rest) h =
    let p = idle_parts in_run tag kids rest h in
    ap (λ k. (own_format present kids tag.rev k ++ formats kids kids) ++ formats present rest) p.own.kind
    ∙ ap (λ (fs : List Format). fs ++ formats present rest) (idle_formats kids (is "r" tag) kids p.below)
    ∙ idle_formats present in_run rest p.later

pub formats-in_front : (present : Nodes) (x : Item) (rest : Nodes) → formats present (in_front x rest) ≡ (item_own_formats present x ++ item_kids_formats x) ++ formats present rest
formats-in_front present (bytes_item b) rest = refl
formats-in_front present (element_item tag kids) rest = refl
formats-in_front present (idle_item t) rest =
    formats-⊕ present (idle_nodes t) rest ∙ ap (λ (fs : List Format). fs ++ formats present rest) (idle_formats present false (idle_nodes t) (nodes_are_idle t))

pub stories_formats-append : (xs ys : List Element) → stories_formats (xs ++ ys) ≡ stories_formats xs ++ stories_formats ys
stories_formats-append [] ys = refl
stories_formats-append (x ∷ xs) ys =
    ap (λ (fs : List Format). formats x.kids x.kids ++ fs) (stories_formats-append xs ys)
    ∙ sym (append_assoc (formats x.kids x.kids) (stories_formats xs) (stories_formats ys))
