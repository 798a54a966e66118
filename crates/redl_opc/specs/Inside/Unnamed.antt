-- Elements that have none of the names that a package is told by.
use Rattle.std.specs.Prelude.{◌≡◌, true, false, Option, Some, None, List, [], ◌∷◌}
use Rattle.redl_tree.specs.Roles.Names.{is_w}
use Rattle.redl_tree.specs.Decisions.Packages.{is_story_root}
use Rattle.redl_opc.specs.Elements.{Element}

-- no element, or one of W that is no root of a story
abbrev pub IsUnnamed : Option Element → Type 0
IsUnnamed None = Unit {0}
IsUnnamed (Some e) = (is_w e.tag.space ≡ true) × (is_story_root e.tag ≡ false)

-- the first of some elements
abbrev pub foremost : List Element → Option Element
foremost [] = None
foremost (e ∷ more) = Some e
