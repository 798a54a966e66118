-- That no mark of a decided revision stays (ECMA-376 Part 1, 17.13.5).
use Rattle.std.specs.Prelude.{◌≡◌, List, [], not, Bool, map, filter}
use Rattle.redl_stays_sound.specs.Kept.{Placed, placed}
use Rattle.redl_tree.specs.Decisions.Fates.{fate_of}
use Rattle.redl_tree.specs.Decisions.Packages.{stories, pass_package}
use Rattle.redl_tree.specs.Model.Nodes.{Tag, Nodes}
use Rattle.redl_tree.specs.Model.View.{Element}
use Rattle.redl_tree.specs.Revisions.Markers.{Value}
use Rattle.redl_tree.specs.Revisions.Numbers.{IsIndexed}
use Rattle.redl_tree.specs.Roles.Kinds.{is_leave}
use Rattle.redl_tree.specs.declared.kinds.Say.{Say}

-- a member of a revision that is decided, or a marker of such a move
abbrev pub is_decided : List Say → Tag → Bool
is_decided says tag = not (is_leave (fate_of says tag))

-- those of a story, wherever they stand in it: among the content, in properties, or below a change of properties
abbrev pub decided : List Say → Element → List Placed
decided says story = filter (λ one. is_decided says one.tag) (placed story)

-- After a pass each story has none of them.
abbrev pub DecidedGo : Value → Type 0
DecidedGo value =
    (says : List Say) (nodes : Nodes) → IsIndexed value nodes → map (decided says) (stories (pass_package says nodes)) ≡ map (λ _. []) (stories nodes)
