-- What an editor keeps of each story of a package, and when it is right.
use Rattle.std.specs.Prelude.{ℕ, ◌≡◌, ◌∷◌, [], List, Bool, Vec, true, false, length, map, slice_get, Option, Some, None}
use Rattle.std.specs.Global.{Global}
use Rattle.redl_leaves.specs.Spots.{spot_of}
use Rattle.redl_leaves.specs.Steps.{AreMade, CanSet, way_of}
use Rattle.redl_leaves.specs.declared.stepping.Made.{Made}
use Rattle.redl_tree.specs.Leaves.Containers.{opens}
use Rattle.redl_tree.specs.Leaves.Leaf.{leaves}
use Rattle.redl_tree.specs.Leaves.Settings.{Setting, SameBut, IsUnheld}
use Rattle.redl_tree.specs.Leaves.Shown.{AreStatesOf}
use Rattle.redl_tree.specs.Leaves.Slots.{slots_in}
use Rattle.redl_tree.specs.Leaves.States.{lent}
use Rattle.redl_tree.specs.Model.Nodes.{Nodes}
use Rattle.redl_tree.specs.Model.View.{Element}
use Rattle.redl_tree.specs.declared.kinds.Say.{Say}
use Rattle.redl_editor.specs.Changes.{differ}
use Rattle.redl_editor.specs.Holdings.{is_touched}
use Rattle.redl_editor.specs.Stories.{states_kept, slots_kept}
use Rattle.redl_editor.specs.Tables.{IsTable}
use Rattle.redl_editor.specs.declared.story.Story.{Story}
use Rattle.redl_editor.specs.declared.table.Table.{Table}

-- this is kept of a story under these says
pub record IsKept (says : List Say) (part : Element) (story : Story) (known : Table) : Type 0 where
  pub spot : story.spot ≡ spot_of (part.tag ∷ [])
  pub table : IsTable known (slots_kept story)
  pub states : AreStatesOf opens says part (states_kept story)

-- the same of each story, in their order
abbrev pub AreKept : List Say → List Element → List Story → List Table → Type 0
AreKept says [] [] [] = Unit {0}
AreKept says (part ∷ parts) (story ∷ stories) (table ∷ tables) = IsKept says part story table × AreKept says parts stories tables
AreKept says _ _ _ = ⊥

-- no container of these stories is a member of a revision that is set
abbrev pub AreUnheld : (ℕ → Bool) → List Element → Type 0
AreUnheld is_set [] = Unit {0}
AreUnheld is_set (part ∷ parts) = IsUnheld is_set (slots_in opens (part.tag ∷ []) part.kids) × AreUnheld is_set parts

-- the leaves of a story that these revisions touch are made anew under these says
pub record IsReady (revs : List ℕ) (says : List Say) (story : Story) (table : Table) (all : List Made) : Type 0 where
  pub made : AreMade says all (states_kept story)
  pub ways : IsTable table (slots_kept story) → (part : Element) (is_set : ℕ → Bool) (before : List Say)
      → SameBut is_set before says → is_set 0 ≡ false → ((rev : ℕ) → is_set rev ≡ true → is_touched revs rev ≡ true)
      → IsUnheld is_set (slots_in opens (part.tag ∷ []) part.kids) → CanSet is_set before says part (map way_of all) (states_kept story)

-- the same of the first stories
abbrev pub AreReady : List ℕ → List Say → List Story → List Table → List (Vec Made Global) → Type 0
AreReady revs says stories tables [] = Unit {0}
AreReady revs says (story ∷ stories) (table ∷ tables) (all ∷ later) = IsReady revs says story table all.items × AreReady revs says stories tables later
AreReady revs says _ _ (all ∷ later) = ⊥

-- these revisions are those of which something else is said now than before
pub record AreChanges (is_set : ℕ → Bool) (before says : List Say) (revs : List ℕ) : Type 0 where
  pub same : SameBut is_set before says
  pub none : is_set 0 ≡ false
  pub listed : (rev : ℕ) → is_set rev ≡ true → is_touched revs rev ≡ true

-- the tables of these stories
abbrev pub AreTables : List Story → List Table → Type 0
AreTables [] [] = Unit {0}
AreTables (story ∷ stories) (table ∷ tables) = IsTable table (slots_kept story) × AreTables stories tables
AreTables _ _ = ⊥

-- what was made for the revisions that have another say now than these former says
pub record AreMadeFor (former : List Setting) (says : List Say) (stories : List Story) (tables : List Table) (all : List (Vec Made Global)) : Type 0 where
  pub revs : List ℕ
  pub listed : (rev : ℕ) → is_touched revs rev ≡ differ says former rev
  pub ready : AreReady revs says stories tables all
  pub count : length all ≡ length stories

-- what is lent of a story that may be there
abbrev pub lent_story : Option Story → ℕ → Option Nodes
lent_story None place = None
lent_story (Some story) place = slice_get (lent false (states_kept story)) place

-- how many leaves a story has, if it is there
abbrev pub count_of : Option Element → ℕ
count_of None = 0
count_of (Some story) = length (leaves story)
