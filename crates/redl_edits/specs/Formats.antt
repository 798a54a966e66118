-- What each change of properties in stories changes.
use Rattle.std.specs.Prelude.{ℕ, ◌==◌, Bool, List, [], ◌∷◌, ◌++◌, find, Option, None, Some}
use Rattle.std.specs.List.{flat_map}
use Rattle.redl_changed.specs.Changed.{changed_of, nothing_changed}
use Rattle.redl_changed.specs.declared.changed.ChangedSaid.{ChangedSaid}
use Rattle.redl_tree.specs.Model.Nodes.{Nodes, no_nodes, bytes, element}
use Rattle.redl_tree.specs.Model.View.{Element}
use Rattle.redl_tree.specs.declared.kinds.Kind.{Kind}
use Rattle.redl_tree.specs.declared.kinds.Kind.TheVariants.{Change}
use Rattle.redl_edits.specs.declared.formats.Format.{Format}

-- an element of this kind among others is a change, or it is none
abbrev pub own_format : Nodes → Nodes → ℕ → Kind → List Format
own_format present kids v (Change what) = record { revision = v; said = changed_of what present kids } ∷ []
own_format present kids v _ = []

-- the changes among nodes, which are some of these
abbrev pub formats : Nodes → Nodes → List Format
formats present no_nodes = []
formats present (bytes b rest) = formats present rest
formats present (element tag kids rest) = own_format present kids tag.rev tag.kind ++ formats kids kids ++ formats present rest

abbrev pub stories_formats : List Element → List Format
stories_formats roots = flat_map (λ root. formats root.kids root.kids) roots

abbrev pub is_of : ℕ → Format → Bool
is_of v format = format.revision == v

abbrev pub said_by : Option Format → ChangedSaid
said_by None = nothing_changed
said_by (Some format) = format.said

-- what the revision with this number changes
abbrev pub said_of : List Format → ℕ → ChangedSaid
said_of formats v = said_by (find (is_of v) formats)
