-- The stories that are found by ancestors are the stories of the parts.
use Rattle.std.proofs.Common.{◌≡◌, ◌<◌, ℕ, zero, suc, List, [], ◌∷◌, ◌++◌, filter_map, length, slice_get, slice_index_or, Contains, Option, Some, None, is_some, option_map, option_and_then, Bool, true, false, true≢false, ◌&&◌, ◌||◌, not, if◌then◌else◌, refl, sym, ap, ◌∙◌, codes, bytes_eq, arith, append-nil, subst}
use Rattle.std.specs.List.{list_all, list_any, cons_option}
use Rattle.std.specs.Cmp.{first_so, second_so}
use Rattle.std.proofs.Math.Bool.{and-false}
use Rattle.redl_tree.specs.Model.Nodes.{Tag, Nodes, no_nodes, bytes, element}
use Rattle.redl_tree.specs.Decisions.Packages.{is_pkg, named_pkg, level_below, level_of, is_data_level, is_story_root, is_root, stories_in, stories}
use Rattle.redl_tree.specs.declared.level.Level.TheVariants.{Package, Part, Data, Below}
use Rattle.redl_tree.proofs.Reading.SameBytes.{same_bytes}
use Rattle.redl_opc.specs.Elements.{Element, elements_of, only, only_element}
use Rattle.redl_opc.specs.Shape.{has_attribute, is_data, is_data_alone, is_part, root_in, story_root, story_of, is_document, package_in, package_of, elements_in, parts_of, refusal_of, refusal}
use Rattle.redl_opc.specs.declared.error.OpcError.TheVariants.{PartShape, NoDocument}
use Rattle.redl_opc.specs.Parts.{name_in}
use Rattle.redl_opc.specs.Stories.{part_stories, IsStoryOfPart}
use Rattle.redl_opc.proofs.PartLaws.{root_is}

-- ---- stories an element at a time

-- the stories of an element with these ancestors: itself, or those inside it
abbrev element_stories : List Tag → Element → List Element
element_stories ancestors e = if is_root ancestors e.tag then e ∷ [] else stories_in (e.tag ∷ ancestors) e.kids

abbrev stories_among : List Tag → List Element → List Element
stories_among ancestors [] = []
stories_among ancestors (e ∷ es) = element_stories ancestors e ++ stories_among ancestors es

stories_in-elements : (ancestors : List Tag) (nodes : Nodes) → stories_in ancestors nodes ≡ stories_among ancestors (elements_of nodes)
stories_in-elements ancestors no_nodes = refl
stories_in-elements ancestors (bytes b rest) = stories_in-elements ancestors rest
stories_in-elements ancestors (element tag kids rest) =
    ap (λ more. element_stories ancestors (record { tag = tag; kids = kids }) ++ more) (stories_in-elements ancestors rest)

-- an element that is not in the data of a part is no root: its stories are those among its kids
above_data : (ancestors : List Tag) (e : Element) → is_data_level (level_of ancestors) ≡ false
    → element_stories ancestors e ≡ stories_among (e.tag ∷ ancestors) (elements_of e.kids)
above_data ancestors e h =
    ap (λ here. if here && is_story_root e.tag then e ∷ [] else stories_in (e.tag ∷ ancestors) e.kids) h
    ∙ stories_in-elements (e.tag ∷ ancestors) e.kids

-- there are no stories where no part's data is
none_below : (ancestors : List Tag) (nodes : Nodes) → level_of ancestors ≡ Below → stories_in ancestors nodes ≡ []
none_below ancestors no_nodes h = refl
none_below ancestors (bytes b rest) h = none_below ancestors rest h
none_below ancestors (element tag kids rest) h =
    ap (λ level. (if is_data_level level && is_story_root tag then record { tag = tag; kids = kids } ∷ [] else stories_in (tag ∷ ancestors) kids) ++ stories_in ancestors rest) h
    ∙ ap (λ xs. xs ++ stories_in ancestors rest) (none_below (tag ∷ ancestors) kids (ap (λ level. level_below level tag) h))
    ∙ none_below ancestors rest h

-- ---- from the root of a story up to the root of the package

-- one story or none, as a list
abbrev listed : Option Element → List Element
listed None = []
listed (Some root) = root ∷ []

-- what stands in the data of a part: one element, a root where it has the name of one
in_data : (ancestors : List Tag) (root : Element) → level_of ancestors ≡ Data → element_stories ancestors root ≡ listed (story_root (Some root))
in_data ancestors root h =
    ap (λ level. if is_data_level level && is_story_root root.tag then root ∷ [] else stories_in (root.tag ∷ ancestors) root.kids) h
    ∙ ap (λ xs. if is_story_root root.tag then root ∷ [] else xs) (none_below (root.tag ∷ ancestors) root.kids (ap (λ level. level_below level root.tag) h))
    ∙ by (is_story_root root.tag)
  where
    by : (b : Bool) → (if b then root ∷ [] else []) ≡ listed (if b then Some root else None)
    by true = refl
    by false = refl

in_data_alone : (ancestors : List Tag) (es : List Element) → level_of ancestors ≡ Data → is_some (only es) ≡ true
    → stories_among ancestors es ≡ listed (story_root (only es))
in_data_alone ancestors [] h one = absurd (true≢false (sym one))
in_data_alone ancestors (root ∷ []) h one = append-nil (element_stories ancestors root) ∙ in_data ancestors root h
in_data_alone ancestors (root ∷ other ∷ more) h one = absurd (true≢false (sym one))

-- XML data is not named as other data is
is-no_binary : (tag : Tag) → named_pkg (codes "xmlData") tag ≡ true → named_pkg (codes "binaryData") tag ≡ false
is-no_binary tag h =
    ap (λ local. is_pkg tag.space && bytes_eq local (codes "binaryData"))
    (same_bytes tag.local (codes "xmlData") (second_so (is_pkg tag.space) (bytes_eq tag.local (codes "xmlData")) h))
    ∙ and-false (is_pkg tag.space)

-- the data of a part
in_part : (ancestors : List Tag) (held : Element) → level_of ancestors ≡ Part → is_data held ≡ true
    → element_stories ancestors held ≡ listed (story_root (root_in (Some held)))
in_part ancestors held h is =
    above_data ancestors held (ap is_data_level h) ∙ by (named_pkg (codes "xmlData") held.tag) refl
  where
    below : (b : Bool) → named_pkg (codes "xmlData") held.tag ≡ b → level_of (held.tag ∷ ancestors) ≡ (if b then Data else Below)
    below b e = ap (λ level. level_below level held.tag) h ∙ ap (λ xml. if xml then Data else Below) e

    by : (b : Bool) → named_pkg (codes "xmlData") held.tag ≡ b
        → stories_among (held.tag ∷ ancestors) (elements_of held.kids) ≡ listed (story_root (if b then only_element held.kids else None))
    by true e =
        let one : is_some (only_element held.kids) ≡ true =
        sym (ap (λ xml. xml && is_some (only_element held.kids)) e)
        ∙ sym (ap (λ binary. binary || (named_pkg (codes "xmlData") held.tag && is_some (only_element held.kids))) (is-no_binary held.tag e))
        ∙ is in
        in_data_alone (held.tag ∷ ancestors) (elements_of held.kids) (below true e) one
    by false e = sym (stories_in-elements (held.tag ∷ ancestors) held.kids) ∙ none_below (held.tag ∷ ancestors) held.kids (below false e)

in_part_alone : (ancestors : List Tag) (es : List Element) → level_of ancestors ≡ Part → is_data_alone (only es) ≡ true
    → stories_among ancestors es ≡ listed (story_root (root_in (only es)))
in_part_alone ancestors [] h one = absurd (true≢false (sym one))
in_part_alone ancestors (held ∷ []) h one = append-nil (element_stories ancestors held) ∙ in_part ancestors held h one
in_part_alone ancestors (held ∷ other ∷ more) h one = absurd (true≢false (sym one))

-- a part
in_package : (ancestors : List Tag) (part : Element) → level_of ancestors ≡ Package → is_part part ≡ true
    → element_stories ancestors part ≡ listed (story_of part)
in_package ancestors part h is =
    let named = named_pkg (codes "part") part.tag in
    let name = has_attribute (codes "name") part.tag in
    let content_type = has_attribute (codes "contentType") part.tag in
    let held = is_data_alone (only_element part.kids) in
    let level : level_of (part.tag ∷ ancestors) ≡ Part =
    ap (λ level. level_below level part.tag) h
    ∙ ap (λ is_part. if is_part then Part else Below) (first_so named name (first_so (named && name) content_type (first_so (named && name && content_type) held is))) in
    let held_alone : held ≡ true = second_so (named && name && content_type) held is in
    above_data ancestors part (ap is_data_level h) ∙ in_part_alone (part.tag ∷ ancestors) (elements_of part.kids) level held_alone

in_parts : (ancestors : List Tag) (parts : List Element) → level_of ancestors ≡ Package → list_all is_part parts ≡ true
    → stories_among ancestors parts ≡ filter_map story_of parts
in_parts ancestors [] h all = refl
in_parts ancestors (part ∷ parts) h all =
    ap (λ xs. xs ++ stories_among ancestors parts) (in_package ancestors part h (first_so (is_part part) (list_all is_part parts) all))
    ∙ ap (λ xs. listed (story_of part) ++ xs) (in_parts ancestors parts h (second_so (is_part part) (list_all is_part parts) all))
    ∙ onto (story_of part)
  where
    onto : (o : Option Element) → listed o ++ filter_map story_of parts ≡ cons_option o (filter_map story_of parts)
    onto None = refl
    onto (Some root) = refl

-- the stories of a package are those of its parts, in the order of the parts
pub stories-parts : (nodes : Nodes) → refusal nodes ≡ None → part_stories nodes ≡ stories nodes
stories-parts nodes = by (package_of nodes) refl
  where
    is_named : (b : Bool) (root : Element) → (if b then Some root else None) ≡ Some root → b ≡ true
    is_named true root h = refl
    is_named false root h = absurd cc

    are_parts : (b c : Bool) → (if not b then Some PartShape else if not c then Some NoDocument else None) ≡ None → b ≡ true
    are_parts true c h = refl
    are_parts false c h = absurd cc

    by : (o : Option Element) → package_of nodes ≡ o → refusal_of o ≡ None → filter_map story_of (elements_in o) ≡ stories nodes
    by None is h = absurd cc
    by (Some root) is h =
        let parts = elements_of root.kids in
        let alone = root_is nodes root is in
        let named = is_named (named_pkg (codes "package") root.tag) root (sym (ap (λ es. package_in (only es)) alone) ∙ is) in
        let all = are_parts (list_all is_part parts) (list_any is_document parts) h in
        sym (
        stories_in-elements [] nodes ∙ ap (stories_among []) alone ∙ append-nil (element_stories [] root)
        ∙ above_data [] root refl
        ∙ in_parts (root.tag ∷ []) parts (ap (λ is_package. if is_package then Package else Below) named) all
        )

-- ---- the part of a story

abbrev stories_of : List Element → List Element
stories_of parts = filter_map story_of parts

-- this is the story of the part with this number
abbrev IsStoryAt : List Element → Element → ℕ → Type 0
IsStoryAt parts found number = option_and_then story_of (slice_get parts number) ≡ Some found

part_of_story : (parts : List Element) (found : Element) (k : ℕ) → k < length (stories_of parts) → slice_index_or (stories_of parts) k found ≡ found
    → (number : ℕ) × (number < length parts) × IsStoryAt parts found number
part_of_story [] found k within at_k = absurd (omega (arith, within))
part_of_story (part ∷ parts) found k within at_k = by (story_of part) refl k within at_k (part_of_story parts found)
  where
    later : (number : ℕ) × (number < length parts) × IsStoryAt parts found number → (number : ℕ) × (number < length (part ∷ parts)) × IsStoryAt (part ∷ parts) found number
    later at = (suc at.0, omega (arith, at.1), at.2)

    by : (o : Option Element) → story_of part ≡ o
        → (k : ℕ) → k < length (cons_option o (filter_map story_of parts)) → slice_index_or (cons_option o (filter_map story_of parts)) k found ≡ found
        → ((k : ℕ) → k < length (stories_of parts) → slice_index_or (stories_of parts) k found ≡ found → (number : ℕ) × (number < length parts) × IsStoryAt parts found number)
        → (number : ℕ) × (number < length (part ∷ parts)) × IsStoryAt (part ∷ parts) found number
    by None is k within at_k more = later (more k within at_k)
    by (Some root) is zero within at_k more = (0, omega arith, is ∙ ap Some at_k)
    by (Some root) is (suc k) within at_k more = later (more k (omega (arith, within)) at_k)

-- each story of a package is that of a part, which has a number and a name
pub story-part_of : (nodes : Nodes) (found : Element) → refusal nodes ≡ None → Contains (stories nodes) found
    → (number : ℕ) × (name : List ℕ) × IsStoryOfPart nodes found number name
story-part_of nodes found shape among =
    let among_parts = subst (λ xs. Contains xs found) (sym (stories-parts nodes shape)) among in
    let at = part_of_story (parts_of nodes) found among_parts.0 among_parts.1 among_parts.2 in
    by at.0 at.1 at.2 (slice_get (parts_of nodes) at.0) refl
  where
    by : (number : ℕ) → number < length (parts_of nodes) → IsStoryAt (parts_of nodes) found number
        → (o : Option Element) → slice_get (parts_of nodes) number ≡ o
        → (number : ℕ) × (name : List ℕ) × IsStoryOfPart nodes found number name
    by number within is None at =
        let none : None ≡ Some found = ap (option_and_then story_of) (sym at) ∙ is in
        absurd cc
    by number within is (Some part) at =
        (number, name_in part.tag, record { is_part = within; has_name = ap (option_map (λ part. name_in part.tag)) at; has_story = is })
