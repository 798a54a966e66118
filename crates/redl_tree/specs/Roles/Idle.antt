-- Idle elements: no walk over a story finds anything in them (our own rule). They are elements of W in no revision, and no
-- definition asks for their names, but for a run and its properties.
use Rattle.std.specs.Prelude.{ℕ, Bool, true, false, ◌&&◌, ◌||◌, ◌==◌, List}
use Rattle.redl_tree.specs.Model.Lists.{Tag, Nodes, no_nodes, bytes, element}
use Rattle.redl_tree.specs.Roles.Names.{is, is_w}
use Rattle.redl_tree.specs.Roles.Words.{number, number_in}
use Rattle.redl_tree.specs.declared.kinds.Kind.{Kind}
use Rattle.redl_tree.specs.declared.kinds.Kind.TheVariants.{Plain}
use Rattle.redl_tree.specs.declared.kinds.Space.TheVariants.{W}
use Rattle.redl_tree.specs.declared.word.Word.TheVariants.{R, RPr}

-- No definition asks for the name with this number, but where it is `rPr` in a run: `r` is asked for only there. `in_run`: the
-- parent is known to be a run.
abbrev pub is_idle_number : Bool → ℕ → Bool
is_idle_number in_run n = (n == 0) || ((n == number R) || ((n == number RPr) && in_run))

-- the same of a local name of W
abbrev pub is_idle_name : Bool → List ℕ → Bool
is_idle_name in_run name = is_idle_number in_run (number_in W name)

abbrev pub is_plain_kind : Kind → Bool
is_plain_kind Plain = true
is_plain_kind _ = false

-- in no revision
abbrev pub is_in_none : Tag → Bool
is_in_none tag = is_plain_kind tag.kind && tag.rev == 0

-- an idle element, if all in it is idle
abbrev pub is_idle_tag : Bool → Tag → Bool
is_idle_tag in_run tag = is_in_none tag && (is_w tag.space && is_idle_name in_run tag.local)

-- all elements among these are idle, at every depth
abbrev pub is_idle_in : Bool → Nodes → Bool
is_idle_in in_run no_nodes = true
is_idle_in in_run (bytes b rest) = is_idle_in in_run rest
is_idle_in in_run (element tag kids rest) =
    is_idle_tag in_run tag && (is_idle_in (is "r" tag) kids && is_idle_in in_run rest)

-- the same where nothing is known of a parent
abbrev pub is_idle : Nodes → Bool
is_idle nodes = is_idle_in false nodes

-- something holds of each tag and of whether its parent is a run
abbrev pub AllTags : (Bool → Tag → Type 0) → Bool → Nodes → Type 0
AllTags T in_run no_nodes = Unit {0}
AllTags T in_run (bytes b rest) = AllTags T in_run rest
AllTags T in_run (element tag kids rest) = T in_run tag × AllTags T (is "r" tag) kids × AllTags T in_run rest
