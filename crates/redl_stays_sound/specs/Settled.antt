-- What is left of revisions where each of them is decided: no element is a member of one, also not of one that would be found anew (ECMA-376
-- Part 1, 17.13.5). Range markers of moves that did not pair can pair then; such a move has no member.
use Rattle.std.specs.Prelude.{◌≡◌, ◌||◌, not, ℕ, List, [], ◌∷◌, Bool, true, length}
use Rattle.std.specs.List.{list_all}
use Rattle.redl_tree.specs.Decisions.Fates.{say_of}
use Rattle.redl_tree.specs.Decisions.Packages.{stories, pass_package, is_plain}
use Rattle.redl_tree.specs.Leaves.Settings.{is_keep}
use Rattle.redl_tree.specs.Model.Nodes.{Nodes}
use Rattle.redl_tree.specs.Model.View.{Element}
use Rattle.redl_tree.specs.Revisions.Markers.{Value}
use Rattle.redl_tree.specs.Revisions.Numbers.{IsIndexed, numbered_package_by, package_revisions_by}
use Rattle.redl_tree.specs.Roles.Places.{role}
use Rattle.redl_tree.specs.Rules.Sound.{holds, is_sound, tests}
use Rattle.redl_tree.specs.Rules.Tests.{Test, everywhere}
use Rattle.redl_tree.specs.declared.kinds.Say.{Say}

-- a member or a marker is of a revision that is accepted or rejected
abbrev pub is_said : List Say → Test
is_said says ancestors tag kids = is_plain tag.kind || not (is_keep (say_of says tag.rev))

-- so are those of a story
abbrev pub are_said : List Say → Element → Bool
are_said says story = everywhere (is_said says) (story.tag ∷ []) story.kids

-- the element is no member of a revision, by its name and its ancestors
abbrev pub has_no_role : Test
has_no_role ancestors tag kids = is_plain (role ancestors tag)

-- Where all revisions of a sound package are decided, a pass leaves no member of a revision.
abbrev pub SettlesAll : Value → (List ℕ → Bool) → (List ℕ → Bool) → Type 0
SettlesAll value has_id declares =
    (says : List Say) (nodes : Nodes) → IsIndexed value nodes → is_sound (tests has_id declares) nodes ≡ true
    → list_all (are_said says) (stories nodes) ≡ true → holds has_no_role (stories (pass_package says nodes)) ≡ true

-- So it is where a sound package is numbered, and there are as many says as revisions, none of them Keep.
abbrev pub AllSettle : Value → (List ℕ → Bool) → (List ℕ → Bool) → Type 0
AllSettle value has_id declares =
    (says : List Say) (nodes : Nodes) → is_sound (tests has_id declares) nodes ≡ true → length says ≡ package_revisions_by value nodes
    → list_all (λ say. not (is_keep say)) says ≡ true → holds has_no_role (stories (pass_package says (numbered_package_by value nodes))) ≡ true
