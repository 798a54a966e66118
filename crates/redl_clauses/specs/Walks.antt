-- The walk that counts the paragraphs of a story in the order of their start tags, inserted and deleted ones too, and notes what is
-- said of the place of each revision's first member (our own rule; ECMA-376 Part 1, 17.9 for the numbers).
use Rattle.std.specs.Prelude.{ℕ, ◌-◌, ◌==◌, ◌&&◌, not, Bool, true, false, List, [], ◌∷◌, ◌++◌, slice_get, slice_set, Option, Some, None, if◌then◌else◌}
use Rattle.redl_tree.specs.Model.Nodes.{Tag, Nodes, no_nodes, bytes, element}
use Rattle.redl_tree.specs.Roles.Names.{is}
use Rattle.redl_tree.specs.declared.kinds.Kind.{Kind}
use Rattle.redl_tree.specs.declared.kinds.Kind.TheVariants.{Plain, Content, Mark, Row, Cell, Change, Marker}
use Rattle.redl_tree.specs.declared.kinds.Prop.{Prop}
use Rattle.redl_tree.specs.declared.kinds.Prop.TheVariants as props
use Rattle.redl_lists.specs.Owns.{own_of}
use Rattle.redl_lists.specs.declared.table.Tables.{Tables}
use Rattle.redl_clauses.specs.Signs.{shows_something}
use Rattle.redl_numbering.specs.Counts.{Counts, before, counts_after, nothing_counted, passed}
use Rattle.redl_numbering.specs.Nums.{Counted, counted}

-- what was counted; for each revision what is said of its place, once that is known; and the revisions that wait for the next
-- paragraph of their table
pub record Walk : Type 0 where
  pub counts : Counts
  pub told : List (Option (List ℕ))
  pub waiting : List ℕ

-- ---- revisions are told of their place, the first time alone

abbrev pub is_untold : Option (Option (List ℕ)) → Bool
is_untold None = false
is_untold (Some None) = true
is_untold (Some (Some clause)) = false

abbrev pub told_at : ℕ → List ℕ → List (Option (List ℕ)) → List (Option (List ℕ))
told_at place clause told = if is_untold (slice_get told place) then slice_set told place (Some clause) else told

-- the first revision is number 1
abbrev pub tell : ℕ → List ℕ → List (Option (List ℕ)) → List (Option (List ℕ))
tell v clause told = if v == 0 then told else told_at (v - 1) clause told

abbrev pub tell_all : List ℕ → List ℕ → List (Option (List ℕ)) → List (Option (List ℕ))
tell_all clause [] told = told
tell_all clause (v ∷ vs) told = tell_all clause vs (tell v clause told)

-- those that wait are told this
abbrev pub settled : List ℕ → Walk → Walk
settled clause w = record w { told = tell_all clause w.waiting w.told; waiting = [] }

-- ---- members

abbrev pub is_here : ℕ → Walk → Walk
is_here v w = record w { told = tell v w.counts.here w.told }

abbrev pub waits : ℕ → Walk → Walk
waits v w = record w { waiting = w.waiting ++ v ∷ [] }

-- properties of a table, its rows and cells
abbrev pub is_of_table : Prop → Bool
is_of_table props.Table = true
is_of_table props.Except = true
is_of_table props.Row = true
is_of_table props.Cell = true
is_of_table _ = false

-- A member of a row, a cell or a table waits for the first paragraph in it. Its properties stand before that.
abbrev pub noted : Kind → ℕ → Walk → Walk
noted Plain v w = w
noted (Content trace) v w = is_here v w
noted (Mark trace) v w = is_here v w
noted (Row trace) v w = waits v w
noted (Cell trace) v w = waits v w
noted (Change prop) v w = if is_of_table prop then waits v w else is_here v w
noted Marker v w = w

-- ---- paragraphs

-- the most styles of a chain that are looked at
abbrev pub longest_chain : ℕ
longest_chain = 100

-- A paragraph that only ends a section, of which a reader sees nothing, is not counted.
abbrev pub only_ends_section : Nodes → Bool
only_ends_section kids = (own_of kids).ends_section && not (shows_something kids)

abbrev pub paragraph_counted : Tables → Nodes → Counts → Counts
paragraph_counted tables kids counts = if only_ends_section kids then passed counts else counts_after tables longest_chain counts (own_of kids)

-- its num and its level, if it is counted
abbrev pub paragraph_found : Tables → Nodes → Option Counted
paragraph_found tables kids = if only_ends_section kids then None else counted tables longest_chain (own_of kids)

abbrev pub paragraph_begun : Tables → Nodes → Walk → Walk
paragraph_begun tables kids w =
    let counts = paragraph_counted tables kids w.counts in
    settled counts.here (record w { counts = counts })

-- ---- the walk

-- where the kids of an element begin: a text box counts by itself
abbrev pub begun : Tables → Tag → Nodes → Walk → Walk
begun tables tag kids w =
    if is "p" tag then paragraph_begun tables kids w
    else if is "txbxContent" tag then record w { counts = nothing_counted }
    else w

abbrev pub entered : Tables → Tag → Nodes → Walk → Walk
entered tables tag kids w = begun tables tag kids (noted tag.kind tag.rev w)

-- behind its kids: after a text box the counting round it goes on
abbrev pub left : Tag → Counts → Walk → Walk
left tag outer w =
    if is "p" tag then record w { counts = passed w.counts }
    else if is "txbxContent" tag then record w { counts = outer }
    else if is "tbl" tag then settled (before w.counts.last) w
    else w

abbrev pub walked : Tables → Nodes → Walk → Walk
walked tables no_nodes w = w
walked tables (bytes b rest) w = walked tables rest w
walked tables (element tag kids rest) w =
    walked tables rest (left tag w.counts (walked tables kids (entered tables tag kids w)))

-- the same of one element
abbrev pub element_walked : Tables → Tag → Nodes → Walk → Walk
element_walked tables tag kids w = left tag w.counts (walked tables kids (entered tables tag kids w))
