-- Where nodes stand in a package, which of its elements are the roots of stories, what becomes of a package whose stories are
-- changed, and the pass of a package.
-- A package is one XML text in the Flat OPC form: a `package` of parts, whose data is XML or not.
-- `ancestors` is the list of the tags of a node's ancestors, the nearest first.
use Rattle.std.specs.Prelude.{ℕ, List, [], ◌∷◌, ◌++◌, Bool, true, false, ◌&&◌, bytes_eq, codes, if◌then◌else◌}
use Rattle.redl_tree.specs.Model.Nodes.{Tag, Nodes, no_nodes, bytes, element}
use Rattle.redl_tree.specs.Roles.Names.{is_any}
use Rattle.redl_tree.specs.Decisions.Pass.{pass}
use Rattle.redl_tree.specs.Model.View.{Element}
use Rattle.redl_tree.specs.declared.kinds.Say.{Say}
use Rattle.redl_tree.specs.declared.kinds.Kind.{Kind}
use Rattle.redl_tree.specs.declared.kinds.Kind.TheVariants.{Plain}
use Rattle.redl_tree.specs.declared.kinds.Space.{Space}
use Rattle.redl_tree.specs.declared.kinds.Space.TheVariants.{Pkg}
use Rattle.redl_tree.specs.declared.level.Level.{Level}
use Rattle.redl_tree.specs.declared.level.Level.TheVariants.{Top, Package, Part, Data, Below}

-- the namespace of packages
abbrev pub is_pkg : Space → Bool
is_pkg Pkg = true
is_pkg _ = false

-- an element of the package's namespace with this local name, given by its bytes
abbrev pub named_pkg : List ℕ → Tag → Bool
named_pkg name tag = is_pkg tag.space && bytes_eq tag.local name

-- the level of the kids of an element
abbrev pub level_below : Level → Tag → Level
level_below Top tag = if named_pkg (codes "package") tag then Package else Below
level_below Package tag = if named_pkg (codes "part") tag then Part else Below
level_below Part tag = if named_pkg (codes "xmlData") tag then Data else Below
level_below Data tag = Below
level_below Below tag = Below

-- the level of nodes with these ancestors
abbrev pub level_of : List Tag → Level
level_of [] = Top
level_of (tag ∷ ancestors) = level_below (level_of ancestors) tag

-- in the XML data of a part
abbrev pub is_data_level : Level → Bool
is_data_level Data = true
is_data_level _ = false

-- the roots of stories, the parts whose content is decided (ECMA-376 Part 1, 17.2.3, 17.10.3, 17.10.4, 17.11.15, 17.11.9, 17.13.4.6)
abbrev pub is_story_root : Tag → Bool
is_story_root tag = is_any ("document" ∷ "hdr" ∷ "ftr" ∷ "footnotes" ∷ "endnotes" ∷ "comments" ∷ []) tag

-- an element with these ancestors is the root of a story: it is in the data of a part, and has one of the six names
abbrev pub is_root : List Tag → Tag → Bool
is_root ancestors tag = is_data_level (level_of ancestors) && is_story_root tag

-- the stories among nodes with these ancestors, in their order, each by its root's tag and kids
abbrev pub stories_in : List Tag → Nodes → List Element
stories_in ancestors no_nodes = []
stories_in ancestors (bytes b rest) = stories_in ancestors rest
stories_in ancestors (element tag kids rest) =
    (if is_root ancestors tag then record { tag = tag; kids = kids } ∷ [] else stories_in (tag ∷ ancestors) kids)
    ++ stories_in ancestors rest

-- the stories of a package
abbrev pub stories : Nodes → List Element
stories nodes = stories_in [] nodes

-- the stories of an element with these ancestors: itself as the root of one, or those inside it
abbrev pub element_stories : List Tag → Tag → Nodes → List Element
element_stories ancestors tag kids =
    if is_root ancestors tag then record { tag = tag; kids = kids } ∷ [] else stories_in (tag ∷ ancestors) kids

-- how stories are changed, one after the other: the kids that the root of a story gets, and what the next story starts with
-- (the same says, the labels that are left, the next number)
pub record StoryRule (S : Type 0) : Type 0 where
  pub kids : S → Tag → Nodes → Nodes
  pub left : S → Tag → Nodes → S

-- what a story after these starts with
abbrev pub left_after : {S : Type 0} → StoryRule S → S → List Element → S
left_after rule given [] = given
left_after rule given (story ∷ later) = left_after rule (rule.left given story.tag story.kids) later

-- these stories, changed
abbrev pub changed_stories : {S : Type 0} → StoryRule S → S → List Element → List Element
changed_stories rule given [] = []
changed_stories rule given (story ∷ later) =
    record { tag = story.tag; kids = rule.kids given story.tag story.kids }
    ∷ changed_stories rule (rule.left given story.tag story.kids) later

-- nodes with these ancestors, once the stories among them are changed: the root of each gets its new kids, and all else stays
abbrev pub changed_in : {S : Type 0} → StoryRule S → S → List Tag → Nodes → Nodes
changed_in rule given ancestors no_nodes = no_nodes
changed_in rule given ancestors (bytes b rest) = bytes b (changed_in rule given ancestors rest)
changed_in rule given ancestors (element tag kids rest) =
    element tag (if is_root ancestors tag then rule.kids given tag kids else changed_in rule given (tag ∷ ancestors) kids)
    (changed_in rule (left_after rule given (element_stories ancestors tag kids)) ancestors rest)

-- a package whose stories are changed
abbrev pub changed_package : {S : Type 0} → StoryRule S → S → Nodes → Nodes
changed_package rule given nodes = changed_in rule given [] nodes

-- The pass of a package passes the kids of each story's root, and leaves all else as it is. All stories have the same says.
abbrev pub pass_rule : StoryRule (List Say)
pass_rule = record { kids = λ says tag kids. pass says (tag ∷ []) kids; left = λ says tag kids. says }

-- the pass of a whole package
abbrev pub pass_package : List Say → Nodes → Nodes
pass_package says nodes = changed_package pass_rule says nodes

-- the kind of an element without a role
abbrev pub is_plain : Kind → Bool
is_plain Plain = true
is_plain _ = false

-- the roots of the stories among nodes with these ancestors have no role
abbrev pub roots_are_plain : List Tag → Nodes → Bool
roots_are_plain ancestors no_nodes = true
roots_are_plain ancestors (bytes b rest) = roots_are_plain ancestors rest
roots_are_plain ancestors (element tag kids rest) =
    (if is_root ancestors tag then is_plain tag.kind else roots_are_plain (tag ∷ ancestors) kids) && roots_are_plain ancestors rest
