-- The members of revisions in the properties of an element, and which of its units each of them holds (our own rule; ECMA-376 Part 1,
-- 17.13.5). The units of an element are those from the count of units before it to that after it.
use Rattle.std.specs.Prelude.{ℕ, ◌-◌, ◌||◌, nat_lt, Bool, true, false, List, [], ◌∷◌, ◌++◌, if◌then◌else◌}
use Rattle.std.specs.List.{flat_map, list_any}
use Rattle.redl_tree.specs.Model.Nodes.{Tag, Nodes, no_nodes, bytes, element}
use Rattle.redl_tree.specs.Roles.Idle.{is_plain_kind}
use Rattle.redl_tree.specs.Roles.Names.{is, is_math}
use Rattle.redl_tree.specs.Roles.Places.{is_quiet}
use Rattle.redl_tree.specs.declared.kinds.Kind.{Kind}
use Rattle.redl_tree.specs.declared.kinds.Kind.TheVariants.{Plain, Content, Mark, Row, Cell, Change, Marker}
use Rattle.redl_tree.specs.declared.kinds.Prop.{Prop}
use Rattle.redl_tree.specs.declared.kinds.Prop.TheVariants as props
use Rattle.redl_spans.specs.declared.member.Member.{Member}
use Rattle.redl_spans.specs.declared.span.Span.{Span}

-- ---- members in properties

abbrev pub own_member : Tag → List Member
own_member tag = if is_plain_kind tag.kind then [] else record { kind = tag.kind; revision = tag.rev } ∷ []

-- the members among nodes, at every depth
abbrev pub members : Nodes → List Member
members no_nodes = []
members (bytes b rest) = members rest
members (element tag kids rest) = (own_member tag ++ members kids) ++ members rest

-- those in the properties of an element with these kids
abbrev pub property_members : Nodes → List Member
property_members no_nodes = []
property_members (bytes b rest) = property_members rest
property_members (element tag kids rest) = (if is_quiet tag then members kids else []) ++ property_members rest

-- A row and a cell have an edge before their first unit where they are a member: so one without a unit holds something.
abbrev pub is_row_or_cell : Kind → Bool
is_row_or_cell (Row trace) = true
is_row_or_cell (Cell trace) = true
is_row_or_cell _ = false

abbrev pub has_own_edge : Member → Bool
has_own_edge member = is_row_or_cell member.kind

abbrev pub has_edge : Nodes → Bool
has_edge kids = list_any has_own_edge (property_members kids)

-- ---- what they hold

-- units of a revision, if there are any
abbrev pub span_from : ℕ → ℕ → ℕ → List Span
span_from v from to = if nat_lt from to then record { revision = v; from = from; to = to } ∷ [] else []

-- the last unit of a paragraph is its mark
abbrev pub mark_span : ℕ → ℕ → List Span
mark_span v to = span_from v (to - 1) to

abbrev pub is_run : Tag → Bool
is_run tag = is "r" tag || is_math "r" tag

-- A change of a run's properties holds the run, and one of a mark's properties the mark.
abbrev pub run_change_span : Tag → ℕ → ℕ → ℕ → List Span
run_change_span owner v from to = if is "p" owner then mark_span v to else if is_run owner then span_from v from to else []

-- A change of a section's properties holds nothing.
abbrev pub change_span : Tag → Prop → ℕ → ℕ → ℕ → List Span
change_span owner props.Run v from to = run_change_span owner v from to
change_span owner props.Para v from to = span_from v from to
change_span owner props.Sect v from to = []
change_span owner props.Table v from to = span_from v from to
change_span owner props.Except v from to = span_from v from to
change_span owner props.Row v from to = span_from v from to
change_span owner props.Cell v from to = span_from v from to

-- what a member in the properties of an element with these units holds
abbrev pub kind_span : Tag → Kind → ℕ → ℕ → ℕ → List Span
kind_span owner Plain v from to = []
kind_span owner (Content trace) v from to = []
kind_span owner (Mark trace) v from to = mark_span v to
kind_span owner (Row trace) v from to = span_from v from to
kind_span owner (Cell trace) v from to = span_from v from to
kind_span owner (Change prop) v from to = change_span owner prop v from to
kind_span owner Marker v from to = []

abbrev pub member_span : Tag → ℕ → ℕ → Member → List Span
member_span owner from to member = kind_span owner member.kind member.revision from to

-- an element that is content of a revision holds its units
abbrev pub content_span : Kind → ℕ → ℕ → ℕ → List Span
content_span (Content trace) v from to = span_from v from to
content_span _ v from to = []

-- what an element with these units holds as a member, and what the members in its properties hold
abbrev pub own_spans : Tag → List Member → ℕ → ℕ → List Span
own_spans tag inside from to = content_span tag.kind tag.rev from to ++ flat_map (member_span tag from to) inside
