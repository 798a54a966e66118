-- What is read of nodes one after the other, and that nothing is of idle elements.
use Rattle.std.proofs.Common.{◌≡◌, ◌∙◌, refl, sym, ap, ℕ, List, [], ◌∷◌, ◌++◌, Bool, true, false, ◌&&◌, ◌||◌, bytes_eq, codes, is_some, if◌then◌else◌, append_assoc, append-nil}
use Rattle.std.specs.List.{flat_map}
use Rattle.std.proofs.lemmas.List.Concat.{flat_map-append}
use Rattle.redl_opc.specs.Elements.{elements_of}
use Rattle.redl_opc.specs.Parts.{name_in}
use Rattle.redl_opc.specs.Shape.{story_of}
use Rattle.redl_relations.specs.Relations.{has_type, is_unknown, relations_of}
use Rattle.redl_relations.specs.Values.{value_in}
use Rattle.redl_tree.proofs.Idle.Items.{nodes_are_idle, element_first}
use Rattle.redl_tree.proofs.Idle.Tags.{Idle, idle_parts}
use Rattle.redl_tree.specs.Model.IdleTexts.{idle_nodes}
use Rattle.redl_tree.specs.Model.Kids.{has_element}
use Rattle.redl_tree.specs.Model.Nodes.{Tag, Nodes, no_nodes, bytes, element, Item, bytes_item, element_item, idle_item, in_front, ◌⊕◌}
use Rattle.redl_tree.specs.Model.View.{Element}
use Rattle.redl_tree.specs.Decisions.Packages.{is_pkg, named_pkg}
use Rattle.redl_tree.specs.Roles.Idle.{is_idle_in}
use Rattle.redl_tree.specs.Roles.Names.{is_w}
use Rattle.redl_tree.specs.declared.kinds.Space.{Space}
use Rattle.redl_tree.specs.declared.kinds.Space.TheVariants as space
use Rattle.redl_page_pictures.specs.Pictures.{first_text, image_in, images_of, is_shown, kind_of, lead_in, lead_of, leads_below, leads_of, text_alone}
use Rattle.redl_page_pictures.specs.Inside.Items.{item_list, item_text}

-- ---- elements among nodes one after the other

elements-⊕ : (x y : Nodes) → elements_of (x ⊕ y) ≡ elements_of x ++ elements_of y
elements-⊕ no_nodes y = refl
elements-⊕ (bytes b rest) y = elements-⊕ rest y
elements-⊕ (element tag kids rest) y = ap (λ (es : List Element). record { tag = tag; kids = kids } ∷ es) (elements-⊕ rest y)

-- nothing is read of an element of W
abbrev pub SkipsWord : {X : Type 0} → (Element → List X) → Type 0
SkipsWord read = (tag : Tag) (kids : Nodes) → is_w tag.space ≡ true → read (record { tag = tag; kids = kids }) ≡ []

module _ {X : Type 0} (read : Element → List X) where
  abbrev pub read_all : Nodes → List X
  read_all x = flat_map read (elements_of x)

  idle-none : SkipsWord read → (in_run : Bool) (x : Nodes) → is_idle_in in_run x ≡ true → read_all x ≡ []
  idle-none skips in_run no_nodes h = refl
  idle-none skips in_run (bytes b rest) h = idle-none skips in_run rest h
  idle-none skips in_run (element tag kids rest) h =
      let p = idle_parts in_run tag kids rest h in
      ap (λ (xs : List X). xs ++ read_all rest) (skips tag kids p.own.space) ∙ idle-none skips in_run rest p.later

  pub read-in_front : SkipsWord read → (x : Item) (rest : Nodes) → read_all (in_front x rest) ≡ item_list read x ++ read_all rest
  read-in_front skips (bytes_item b) rest = refl
  read-in_front skips (element_item tag kids) rest = refl
  read-in_front skips (idle_item t) rest =
      ap (λ (es : List Element). flat_map read es) (elements-⊕ (idle_nodes t) rest)
      ∙ flat_map-append read (elements_of (idle_nodes t)) (elements_of rest)
      ∙ ap (λ (xs : List X). xs ++ read_all rest) (idle-none skips false (idle_nodes t) (nodes_are_idle t))

  -- one node more: what was read so far, and what is read of the rest
  pub read-more : SkipsWord read → (before now whole : List X) (nodes more : Nodes) (x : Item) → nodes ≡ in_front x more → now ≡ before ++ item_list read x
      → before ++ read_all nodes ≡ whole → now ++ read_all more ≡ whole
  read-more skips before now whole nodes more x here grown so_far =
      ap (λ (xs : List X). xs ++ read_all more) grown ∙ append_assoc before (item_list read x) (read_all more)
      ∙ ap (λ (xs : List X). before ++ xs) (sym (ap read_all here ∙ read-in_front skips x more)) ∙ so_far

  -- no node is left
  pub read-done : (now whole : List X) (nodes : Nodes) → nodes ≡ no_nodes → now ++ read_all nodes ≡ whole → now ≡ whole
  read-done now whole nodes end so_far = sym (ap (λ (ns : Nodes). now ++ read_all ns) end ∙ append-nil now) ∙ so_far

-- ---- the elements of packages and of relationships are not of W

not_pkg : (s : Space) → is_w s ≡ true → is_pkg s ≡ false
not_pkg space.W h = refl
not_pkg space.M h = cc
not_pkg space.Pkg h = cc
not_pkg space.Other h = cc

known : (s : Space) → is_w s ≡ true → is_unknown s ≡ false
known space.W h = refl
known space.M h = cc
known space.Pkg h = cc
known space.Other h = cc

other_name : (name : List ℕ) (tag : Tag) → is_w tag.space ≡ true → named_pkg name tag ≡ false
other_name name tag w = ap (λ b. b && bytes_eq tag.local name) (not_pkg tag.space w)

pub images-skip : SkipsWord images_of
images-skip tag kids w = ap (λ b. if b && is_shown (kind_of tag) then flat_map (image_in tag) (elements_of kids) else []) (other_name (codes "part") tag w)

pub image-skips : (part : Tag) → SkipsWord (image_in part)
image-skips part tag kids w = ap (λ b. if b then record { name = name_in part; kind = kind_of part; text = text_alone kids } ∷ [] else []) (other_name (codes "binaryData") tag w)

pub leads-skip : (nodes : Nodes) → SkipsWord (leads_of nodes)
leads-skip nodes tag kids w =
    ap (λ b. if b && is_some (story_of (record { tag = tag; kids = kids })) then leads_below (name_in tag) (relations_of nodes (name_in tag)) else []) (other_name (codes "part") tag w)

pub lead-skips : (source : List ℕ) → SkipsWord (lead_in source)
lead-skips source tag kids w = rw (known tag.space w) refl

-- ---- a text alone

pub none-alone : (kids : Nodes) → has_element kids ≡ true → text_alone kids ≡ []
none-alone kids h = ap (λ b. if b then [] else first_text kids) h

pub first-alone : (kids : Nodes) → has_element kids ≡ false → text_alone kids ≡ first_text kids
first-alone kids h = ap (λ b. if b then [] else first_text kids) h

pub first-in_front : (x : Item) (rest : Nodes) → has_element (in_front x rest) ≡ false → first_text (in_front x rest) ≡ item_text x
first-in_front (bytes_item b) rest h = refl
first-in_front (element_item tag kids) rest h = refl
first-in_front (idle_item t) rest h = absurd (let there = element_first t rest in cc)
