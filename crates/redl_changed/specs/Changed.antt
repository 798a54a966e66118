-- What a change of properties changes: the properties that differ between the former list in it and the present list that it stands in.
use Rattle.std.specs.Prelude.{◌-◌, ◌||◌, Bool, List, [], ◌++◌, length, codes, None, Some, if◌then◌else◌}
use Rattle.redl_properties.specs.Changes.{changes_between, first_changes}
use Rattle.redl_properties.specs.Lines.{line_of}
use Rattle.redl_properties.specs.declared.change.Changed.{Changed}
use Rattle.redl_tree.specs.Decisions.Restored.{former_kids}
use Rattle.redl_tree.specs.Model.Nodes.{Nodes}
use Rattle.redl_tree.specs.Roles.Places.{props_name}
use Rattle.redl_tree.specs.declared.kinds.Prop.{Prop}
use Rattle.redl_changed.specs.declared.changed.ChangedSaid.{ChangedSaid}
use Rattle.redl_changed.specs.Kept.{KeptLeaves, kept_after, nothing_kept}
use Rattle.redl_changed.specs.Leaves.{leaves_in}

-- the leaves of a list of such properties that are compared
abbrev pub kept_leaves : Prop → Nodes → KeptLeaves
kept_leaves what nodes = kept_after nothing_kept (leaves_in what [] nodes)

-- what the former list of a change with these kids holds
abbrev pub former_leaves : Prop → Nodes → KeptLeaves
former_leaves what kids = kept_leaves what (former_kids (props_name what) kids)

-- the properties that differ
abbrev pub differences : KeptLeaves → KeptLeaves → List Changed
differences present former = changes_between (present.leaves ++ former.leaves) (length present.leaves)

-- a list has leaves that aren't kept, so the two aren't compared
abbrev pub are_cut : KeptLeaves → KeptLeaves → Bool
are_cut present former = present.is_cut || former.is_cut

-- what is said of what is no change of properties
abbrev pub nothing_changed : ChangedSaid
nothing_changed = record { changes = []; more = Some 0; line = [] }

-- what is said of lists that aren't compared: it isn't known how many properties differ
abbrev pub not_compared : ChangedSaid
not_compared = record { changes = []; more = None; line = codes "too large to compare" }

-- what is said of properties that differ: as many of them as are kept, how many more there are, and one line of words about all of them
abbrev pub said_of : List Changed → ChangedSaid
said_of changed = record { changes = first_changes changed; more = Some (length changed - 20); line = line_of changed }

abbrev pub changed_between : KeptLeaves → KeptLeaves → ChangedSaid
changed_between present former = if are_cut present former then not_compared else said_of (differences present former)

-- what a change of such properties with these kids changes, which stands in this list
unfoldable pub changed_of : Prop → Nodes → Nodes → ChangedSaid
changed_of what present kids = changed_between (kept_leaves what present) (former_leaves what kids)
