-- The members of revisions in a package, and the sign of each.
use Rattle.std.specs.Prelude.{◌≡◌, ℕ, List, [], ◌∷◌, ◌++◌, Bool, true, false, if◌then◌else◌}
use Rattle.std.specs.List.{flat_map}
use Rattle.redl_tree.specs.Model.Nodes.{Tag, Nodes, no_nodes, bytes, element}
use Rattle.redl_tree.specs.Model.View.{Element}
use Rattle.redl_tree.specs.Decisions.Packages.{stories}
use Rattle.redl_tree.specs.declared.kinds.Kind.{Kind}
use Rattle.redl_tree.specs.declared.kinds.Kind.TheVariants.{Plain, Marker}
use Rattle.redl_marked.specs.Signs.{start_sign, mark_sign}

-- the kind of a member of a revision, which has the revision's number; a marker of a move's range is no member
abbrev pub is_member : Kind → Bool
is_member Plain = false
is_member Marker = false
is_member _ = true

-- the members among nodes, at every depth
abbrev pub members_in : Nodes → List Tag
members_in no_nodes = []
members_in (bytes b rest) = members_in rest
members_in (element tag kids rest) = (if is_member tag.kind then tag ∷ [] else []) ++ (members_in kids ++ members_in rest)

-- the members in the stories of a package
abbrev pub members_of : Nodes → List Tag
members_of nodes = flat_map (λ (story : Element). members_in story.kids) (stories nodes)

-- The sign with the number of a member's revision. Of content it is the one before it.
abbrev pub member_sign : Tag → List ℕ
member_sign tag = start_sign tag.kind tag.rev ++ mark_sign tag.kind tag.rev

-- the text has this as a part
pub record HasPart (part text : List ℕ) : Type 0 where
  pub before : List ℕ
  pub after : List ℕ
  pub splits : text ≡ before ++ (part ++ after)
