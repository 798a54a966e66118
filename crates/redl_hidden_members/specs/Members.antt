-- The revisions of a package that have to do with hidden text.
use Rattle.std.specs.Prelude.{ℕ, Bool, false, List, [], ◌∷◌, replicate}
use Rattle.redl_tree.specs.Decisions.Packages.{stories}
use Rattle.redl_tree.specs.Model.Nodes.{Nodes}
use Rattle.redl_tree.specs.Model.View.{Element}
use Rattle.redl_hidden.specs.Styles.{HiddenStyles, package_hidden}
use Rattle.redl_hidden_members.specs.Around.{start}
use Rattle.redl_hidden_members.specs.Walks.{Walk, walked}

-- nothing was met, and these were found
abbrev pub begin : List Bool → Walk
begin hidden = record { hidden = hidden; waiting = []; any = false }

-- each story begins anew
abbrev pub story_members : HiddenStyles → Element → List Bool → List Bool
story_members styles root hidden = (walked styles start root.kids root.kids (begin hidden)).hidden

abbrev pub stories_members : HiddenStyles → List Element → List Bool → List Bool
stories_members styles [] hidden = hidden
stories_members styles (root ∷ roots) hidden = stories_members styles roots (story_members styles root hidden)

-- of so many revisions, whether each has to do with hidden text, in the order of their numbers
unfoldable pub package_hidden_members : Nodes → ℕ → List Bool
package_hidden_members nodes count = stories_members (package_hidden nodes) (stories nodes) (replicate count false)
