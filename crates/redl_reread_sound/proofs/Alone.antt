-- The rules of structure and the shape of a package look at no stretch and at no label: nodes keep them when neighbouring stretches are put
-- together, and when labels go.
use Rattle.std.proofs.Common.{◌≡◌, ◌∙◌, refl, sym, ap, ℕ, List, [], ◌∷◌, ◌++◌, map, Bool, true, false, ◌&&◌, ◌||◌, not, if◌then◌else◌}
use Prim.Native.String.{String}
use Rattle.std.specs.List.{list_all}
use Rattle.redl_tree.specs.Decisions.Packages.{is_data_level, is_root, is_story_root, level_below, level_of, stories, stories_in}
use Rattle.redl_tree.specs.Decisions.Tables.{has_own}
use Rattle.redl_tree.specs.Model.Kids.{some_element, has_element}
use Rattle.redl_tree.specs.Model.Nodes.{Tag, Nodes, no_nodes, bytes, element}
use Rattle.redl_tree.specs.Model.View.{Element}
use Rattle.redl_tree.specs.Revisions.Labels.{unlabelled_tag, unlabelled}
use Rattle.redl_tree.proofs.Revisions.LabelLaws.{bare, Blind, AreBlind, everywhere-bare, tests_are_blind}
use Rattle.redl_tree.specs.Roles.Kinds.{is_content, is_change}
use Rattle.redl_tree.specs.Roles.Lists.{into, is_direct, is_thick}
use Rattle.redl_tree.specs.Roles.Names.{named, is}
use Rattle.redl_tree.specs.Roles.Places.{props_name, role}
use Rattle.redl_tree.specs.Rules.CellEnds.{is_so, end_of_one, end_of_two, end_of}
use Rattle.redl_tree.specs.Rules.Sound.{among_blocks, below_content, is_banned, in_content, change_declares, former_declares, holds, is_marker, is_sound, tests, test_1, test_2, test_3, test_4, test_5, test_6, test_7, test_8, test_9}
use Rattle.redl_tree.specs.Roles.Places.{is_open}
use Rattle.redl_tree.specs.Rules.Tests.{Test, at_most_one, each_once, everywhere, implies, once, only_first, only_last, open_one, open_any}
use Rattle.redl_tree.specs.declared.kinds.Kind.{Kind}
use Rattle.redl_tree.specs.declared.kinds.Kind.TheVariants.{Plain, Content, Mark, Row, Cell, Change, Marker}
use Rattle.redl_tree.specs.declared.level.Level.{Level}
use Rattle.redl_tree.specs.declared.level.Level.TheVariants.{Below, Data, Package, Part, Top}
use Rattle.redl_tree.specs.declared.lists.Reach.{Reach}
use Rattle.redl_tree.specs.declared.lists.Reach.TheVariants.{Direct}
use Rattle.redl_reread_sound.specs.Together.{stretched, together}

-- ---- elements alone

-- nodes without their stretches
abbrev pub alone : Nodes → Nodes
alone no_nodes = no_nodes
alone (bytes b rest) = alone rest
alone (element tag kids rest) = element tag (alone kids) (alone rest)

alone-stretched : (b : List ℕ) (nodes : Nodes) → alone (stretched b nodes) ≡ alone nodes
alone-stretched b no_nodes = refl
alone-stretched b (bytes c rest) = refl
alone-stretched b (element tag kids rest) = refl

pub alone-together : (nodes : Nodes) → alone (together nodes) ≡ alone nodes
alone-together no_nodes = refl
alone-together (bytes b rest) = alone-stretched b (together rest) ∙ alone-together rest
alone-together (element tag kids rest) = ap (λ k. element tag k (alone (together rest))) (alone-together kids) ∙ ap (element tag (alone kids)) (alone-together rest)

-- ---- what looks at elements alone

some-alone : (test : Tag → Bool) (nodes : Nodes) → some_element test (alone nodes) ≡ some_element test nodes
some-alone test no_nodes = refl
some-alone test (bytes b rest) = some-alone test rest
some-alone test (element tag kids rest) = ap (λ t. test tag || t) (some-alone test rest)

end-alone : (reach : Reach) (nodes : Nodes) → end_of reach (alone nodes) ≡ end_of reach nodes
end-alone reach no_nodes = refl
end-alone reach (bytes b rest) = end-alone reach rest
end-alone reach (element tag kids rest) =
    ap (λ k. end_of_two reach (end_of_one reach tag k) (end_of reach (alone rest))) (end-alone (into reach tag) kids)
    ∙ ap (end_of_two reach (end_of_one reach tag (end_of (into reach tag) kids))) (end-alone reach rest)

own-alone : (name : String) (reach : Reach) (nodes : Nodes) → has_own name reach (alone nodes) ≡ has_own name reach nodes
own-alone name reach no_nodes = refl
own-alone name reach (bytes b rest) = own-alone name reach rest
own-alone name reach (element tag kids rest) =
    ap (λ k. (if is_direct reach && is name tag then true else k) || has_own name reach (alone rest)) (own-alone name (into reach tag) kids)
    ∙ ap (λ t. (if is_direct reach && is name tag then true else has_own name (into reach tag) kids) || t) (own-alone name reach rest)

most-alone : (test : Tag → Bool) (nodes : Nodes) → at_most_one test (alone nodes) ≡ at_most_one test nodes
most-alone test no_nodes = refl
most-alone test (bytes b rest) = most-alone test rest
most-alone test (element tag kids rest) =
    ap (λ s. implies (test tag) (not s) && at_most_one test (alone rest)) (some-alone test rest)
    ∙ ap (λ t. implies (test tag) (not (some_element test rest)) && t) (most-alone test rest)

each-alone : (names : List String) (nodes : Nodes) → each_once names (alone nodes) ≡ each_once names nodes
each-alone [] nodes = refl
each-alone (name ∷ names) nodes = ap (λ t. t && each_once names (alone nodes)) (most-alone (is name) nodes) ∙ ap (λ t. once name nodes && t) (each-alone names nodes)

first-alone : (test : Tag → Bool) (nodes : Nodes) → only_first test (alone nodes) ≡ only_first test nodes
first-alone test no_nodes = refl
first-alone test (bytes b rest) = first-alone test rest
first-alone test (element tag kids rest) = ap not (some-alone test rest)

last-alone : (test : Tag → Bool) (nodes : Nodes) → only_last test (alone nodes) ≡ only_last test nodes
last-alone test no_nodes = refl
last-alone test (bytes b rest) = last-alone test rest
last-alone test (element tag kids rest) =
    ap (λ s. implies (test tag) (not s) && only_last test (alone rest)) (some-alone (λ other. true) rest)
    ∙ ap (λ t. implies (test tag) (not (has_element rest)) && t) (last-alone test rest)

former-alone : (declares : List ℕ → Bool) (name : List ℕ) (nodes : Nodes) → former_declares declares name (alone nodes) ≡ former_declares declares name nodes
former-alone declares name no_nodes = refl
former-alone declares name (bytes b rest) = former-alone declares name rest
former-alone declares name (element tag kids rest) = ap (λ t. if named name tag then declares tag.tail else t) (former-alone declares name rest)

change-alone : (declares : List ℕ → Bool) (kind : Kind) (nodes : Nodes) → change_declares declares kind (alone nodes) ≡ change_declares declares kind nodes
change-alone declares Plain nodes = refl
change-alone declares (Content trace) nodes = refl
change-alone declares (Mark trace) nodes = refl
change-alone declares (Row trace) nodes = refl
change-alone declares (Cell trace) nodes = refl
change-alone declares (Change prop) nodes = former-alone declares (props_name prop) nodes
change-alone declares Marker nodes = refl

-- ---- the rules

-- a test that looks at no stretch
abbrev pub Deaf : Test → Type 0
Deaf test = (ancestors : List Tag) (tag : Tag) (kids : Nodes) → test ancestors tag (alone kids) ≡ test ancestors tag kids

abbrev AreDeaf : List Test → Type 0
AreDeaf [] = Unit {0}
AreDeaf (test ∷ rules) = Deaf test × AreDeaf rules

deaf_1 : Deaf test_1
deaf_1 ancestors tag kids = ap (λ e. implies (open_one "tc" ancestors tag) (is_so e)) (end-alone Direct kids)

deaf_2 : Deaf test_2
deaf_2 ancestors tag kids = ap (implies (open_one "tr" ancestors tag)) (own-alone "tc" Direct kids)

deaf_3 : Deaf test_3
deaf_3 ancestors tag kids =
    ap (λ s. implies (is_banned tag && is_open ancestors) (not (below_content ancestors))
    && implies (open_any ("rPr" ∷ "sdtContent" ∷ []) ancestors tag) (not (in_content ancestors))
    && implies (is_content (role ancestors tag) && among_blocks ancestors) (not s)) (some-alone is_thick kids)

deaf_4 : Deaf test_4
deaf_4 ancestors tag kids = last-alone (λ kid. is_change (role (tag ∷ ancestors) kid)) kids

deaf_5 : Deaf test_5
deaf_5 ancestors tag kids =
    rw (most-alone (is "rPr") kids, each-alone ("ins" ∷ "del" ∷ "moveFrom" ∷ "moveTo" ∷ []) kids, each-alone ("ins" ∷ "del" ∷ []) kids, each-alone ("cellIns" ∷ "cellDel" ∷ []) kids) refl

deaf_6 : Deaf test_6
deaf_6 ancestors tag kids =
    rw (first-alone (is "pPr") kids, most-alone (is "trPr") kids, most-alone (is "tcPr") kids, last-alone (is "sectPr") kids, most-alone (is "sdtContent") kids) refl

deaf_7 : (has_id : List ℕ → Bool) → Deaf (test_7 has_id)
deaf_7 has_id ancestors tag kids = ap (λ s. implies (is_marker has_id ancestors tag) (not s)) (some-alone (λ other. true) kids)

deaf_8 : Deaf test_8
deaf_8 ancestors tag kids = refl

deaf_9 : (declares : List ℕ → Bool) → Deaf (test_9 declares)
deaf_9 declares ancestors tag kids =
    ap (λ c. implies (open_one "p" ancestors tag || is_content (role ancestors tag) || is_change (role ancestors tag)) (not (declares tag.tail)) && not c)
    (change-alone declares (role ancestors tag) kids)

tests_are_deaf : (has_id declares : List ℕ → Bool) → AreDeaf (tests has_id declares)
tests_are_deaf has_id declares = (deaf_1, (deaf_2, (deaf_3, (deaf_4, (deaf_5, (deaf_6, (deaf_7 has_id, (deaf_8, (deaf_9 declares, tt)))))))))

-- ---- stories

everywhere-alone : (test : Test) → Deaf test → (ancestors : List Tag) (nodes : Nodes) → everywhere test ancestors (alone nodes) ≡ everywhere test ancestors nodes
everywhere-alone test deaf ancestors no_nodes = refl
everywhere-alone test deaf ancestors (bytes b rest) = everywhere-alone test deaf ancestors rest
everywhere-alone test deaf ancestors (element tag kids rest) =
    ap (λ t. t && everywhere test (tag ∷ ancestors) (alone kids) && everywhere test ancestors (alone rest)) (deaf ancestors tag kids)
    ∙ ap (λ t. test ancestors tag kids && t && everywhere test ancestors (alone rest)) (everywhere-alone test deaf (tag ∷ ancestors) kids)
    ∙ ap (λ t. test ancestors tag kids && everywhere test (tag ∷ ancestors) kids && t) (everywhere-alone test deaf ancestors rest)

alone_element : Element → Element
alone_element story = record { tag = story.tag; kids = alone story.kids }

map-append : (f : Element → Element) (xs ys : List Element) → map f (xs ++ ys) ≡ map f xs ++ map f ys
map-append f [] ys = refl
map-append f (x ∷ xs) ys = ap (λ (rest : List Element). f x ∷ rest) (map-append f xs ys)

stories-alone : (ancestors : List Tag) (nodes : Nodes) → stories_in ancestors (alone nodes) ≡ map alone_element (stories_in ancestors nodes)
unfolding alone_element
stories-alone ancestors no_nodes = refl
stories-alone ancestors (bytes b rest) = stories-alone ancestors rest
stories-alone ancestors (element tag kids rest) =
    let inner = stories-alone (tag ∷ ancestors) kids in
    ap (λ (xs : List Element). xs ++ stories_in ancestors (alone rest)) (at (is_root ancestors tag) inner)
    ∙ ap (λ (xs : List Element). map alone_element (if is_root ancestors tag then record { tag = tag; kids = kids } ∷ [] else stories_in (tag ∷ ancestors) kids) ++ xs) (stories-alone ancestors rest)
    ∙ sym (map-append alone_element (if is_root ancestors tag then record { tag = tag; kids = kids } ∷ [] else stories_in (tag ∷ ancestors) kids) (stories_in ancestors rest))
  where
    at : (b : Bool) → stories_in (tag ∷ ancestors) (alone kids) ≡ map alone_element (stories_in (tag ∷ ancestors) kids)
        → (if b then record { tag = tag; kids = alone kids } ∷ [] else stories_in (tag ∷ ancestors) (alone kids))
        ≡ map alone_element (if b then record { tag = tag; kids = kids } ∷ [] else stories_in (tag ∷ ancestors) kids)
    at true inner = refl
    at false inner = inner

holds-alone : (test : Test) → Deaf test → (nodes : Nodes) → holds test (stories (alone nodes)) ≡ holds test (stories nodes)
unfolding alone_element
holds-alone test deaf nodes = ap (holds test) (stories-alone [] nodes) ∙ each (stories nodes)
  where
    each : (xs : List Element) → holds test (map alone_element xs) ≡ holds test xs
    each [] = refl
    each (x ∷ xs) =
        ap (λ t. t && holds test (map alone_element xs)) (everywhere-alone test deaf [] (element x.tag x.kids no_nodes))
        ∙ ap (λ t. everywhere test [] (element x.tag x.kids no_nodes) && t) (each xs)

holds-together : (test : Test) → Deaf test → (nodes : Nodes) → holds test (stories (together nodes)) ≡ holds test (stories nodes)
holds-together test deaf nodes = sym (holds-alone test deaf (together nodes)) ∙ ap (λ n. holds test (stories n)) (alone-together nodes) ∙ holds-alone test deaf nodes

-- ---- labels

level-bare : (ancestors : List Tag) → level_of (bare ancestors) ≡ level_of ancestors
level-bare [] = refl
level-bare (tag ∷ ancestors) = ap (λ level. level_below level (unlabelled_tag tag)) (level-bare ancestors) ∙ at (level_of ancestors)
  where
    at : (level : Level) → level_below level (unlabelled_tag tag) ≡ level_below level tag
    at Top = refl
    at Package = refl
    at Part = refl
    at Data = refl
    at Below = refl

plain : Element → Element
plain story = record { tag = unlabelled_tag story.tag; kids = unlabelled story.kids }

stories-bare : (ancestors : List Tag) (nodes : Nodes) → stories_in (bare ancestors) (unlabelled nodes) ≡ map plain (stories_in ancestors nodes)
unfolding plain
stories-bare ancestors no_nodes = refl
stories-bare ancestors (bytes b rest) = stories-bare ancestors rest
stories-bare ancestors (element tag kids rest) =
    ap (λ level. (if is_data_level level && is_story_root tag then record { tag = unlabelled_tag tag; kids = unlabelled kids } ∷ [] else stories_in (bare (tag ∷ ancestors)) (unlabelled kids))
    ++ stories_in (bare ancestors) (unlabelled rest)) (level-bare ancestors)
    ∙ ap (λ (xs : List Element). xs ++ stories_in (bare ancestors) (unlabelled rest)) (at (is_root ancestors tag) (stories-bare (tag ∷ ancestors) kids))
    ∙ ap (λ (xs : List Element). map plain (if is_root ancestors tag then record { tag = tag; kids = kids } ∷ [] else stories_in (tag ∷ ancestors) kids) ++ xs) (stories-bare ancestors rest)
    ∙ sym (map-append plain (if is_root ancestors tag then record { tag = tag; kids = kids } ∷ [] else stories_in (tag ∷ ancestors) kids) (stories_in ancestors rest))
  where
    at : (b : Bool) → stories_in (bare (tag ∷ ancestors)) (unlabelled kids) ≡ map plain (stories_in (tag ∷ ancestors) kids)
        → (if b then record { tag = unlabelled_tag tag; kids = unlabelled kids } ∷ [] else stories_in (bare (tag ∷ ancestors)) (unlabelled kids))
        ≡ map plain (if b then record { tag = tag; kids = kids } ∷ [] else stories_in (tag ∷ ancestors) kids)
    at true inner = refl
    at false inner = inner

holds-unlabelled : (test : Test) → Blind test → (nodes : Nodes) → holds test (stories (unlabelled nodes)) ≡ holds test (stories nodes)
unfolding plain
holds-unlabelled test blind nodes = ap (holds test) (stories-bare [] nodes) ∙ each (stories nodes)
  where
    each : (xs : List Element) → holds test (map plain xs) ≡ holds test xs
    each [] = refl
    each (x ∷ xs) =
        ap (λ t. t && holds test (map plain xs)) (everywhere-bare test blind [] (element x.tag x.kids no_nodes))
        ∙ ap (λ t. everywhere test [] (element x.tag x.kids no_nodes) && t) (each xs)

-- ---- a package that is read again

module _ (nodes : Nodes) where
  pub same-holds : (test : Test) → Blind test → Deaf test → holds test (stories (unlabelled (together nodes))) ≡ holds test (stories nodes)
  same-holds test blind deaf = holds-unlabelled test blind (together nodes) ∙ holds-together test deaf nodes

  same-sound : (rules : List Test) → AreBlind rules → AreDeaf rules
      → list_all (λ test. holds test (stories (unlabelled (together nodes)))) rules ≡ list_all (λ test. holds test (stories nodes)) rules
  same-sound [] blind deaf = refl
  same-sound (test ∷ rules) blind deaf =
      ap (λ t. t && list_all (λ test. holds test (stories (unlabelled (together nodes)))) rules) (same-holds test blind.0 deaf.0)
      ∙ ap (λ t. holds test (stories nodes) && t) (same-sound rules blind.1 deaf.1)

  -- it keeps the rules of structure where the nodes keep them
  pub sound-again : (has_id declares : List ℕ → Bool) → is_sound (tests has_id declares) (unlabelled (together nodes)) ≡ is_sound (tests has_id declares) nodes
  sound-again has_id declares = same-sound (tests has_id declares) (tests_are_blind has_id declares) (tests_are_deaf has_id declares)
