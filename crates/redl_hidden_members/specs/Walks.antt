-- The walk over a story that finds the members which have to do with hidden text (our own rule): such a member changes whether a run is
-- hidden, holds a unit of a hidden run, or stands in one. Units are characters, places in a line, and the ends of paragraphs. Inserted,
-- deleted or moved content holds the units in it; the mark of a paragraph holds its end; a row, a cell and changes of properties hold all
-- units of their row, cell, run, paragraph or table.
use Rattle.std.specs.Prelude.{ℕ, ◌-◌, ◌==◌, ◌&&◌, ◌||◌, not, Bool, true, false, List, [], ◌∷◌, ◌++◌, length, nat_lt, slice_set, if◌then◌else◌}
use Rattle.redl_tree.specs.Model.Nodes.{Tag, Nodes, no_nodes, bytes, element}
use Rattle.redl_tree.specs.Roles.Names.{is, is_any}
use Rattle.redl_tree.specs.declared.kinds.Kind.{Kind}
use Rattle.redl_tree.specs.declared.kinds.Kind.TheVariants.{Plain, Content, Mark, Row, Cell, Change, Marker}
use Rattle.redl_tree.specs.declared.kinds.Prop.TheVariants as props
use Rattle.redl_shown.specs.Shown.{shown}
use Rattle.redl_hidden.specs.Runs.{changes_vanish}
use Rattle.redl_hidden.specs.Styles.{HiddenStyles}
use Rattle.redl_hidden_members.specs.Around.{inside}
use Rattle.redl_hidden_members.specs.Units.{is_unit}
use Rattle.redl_hidden_members.specs.declared.around.Around.{Around}

-- For each revision, whether a member was found; the revisions that wait for the end of their row, cell, run, paragraph or table; and whether a
-- hidden unit was met since the element began that is looked at.
pub record Walk : Type 0 where
  pub hidden : List Bool
  pub waiting : List ℕ
  pub any : Bool

-- ---- revisions

-- the first revision is number 1
abbrev pub tell : ℕ → List Bool → List Bool
tell v hidden = if (v == 0) || not (nat_lt (v - 1) (length hidden)) then hidden else slice_set hidden (v - 1) true

abbrev pub tell_all : List ℕ → List Bool → List Bool
tell_all [] hidden = hidden
tell_all (v ∷ vs) hidden = tell_all vs (tell v hidden)

abbrev pub tell_all_if : Bool → List ℕ → List Bool → List Bool
tell_all_if any vs hidden = if any then tell_all vs hidden else hidden

-- ---- members

-- whether a member is found where it begins: it stands in a hidden run or mark, or changes whether its run is hidden. `properties` are the
-- nodes among which it stands.
abbrev pub is_found : Around → Nodes → Nodes → Kind → Bool
is_found at properties kids Plain = false
is_found at properties kids Marker = false
is_found at properties kids (Content trace) = at.run
is_found at properties kids (Mark trace) = at.run || at.in_mark
is_found at properties kids (Row trace) = at.run
is_found at properties kids (Cell trace) = at.run
is_found at properties kids (Change props.Run) = at.run || (at.in_mark || changes_vanish properties kids)
is_found at properties kids (Change _) = at.run

-- whether it holds all units of its row, cell, run, paragraph or table, which end later
abbrev pub waits : Around → Kind → Bool
waits at Plain = false
waits at Marker = false
waits at (Content trace) = false
waits at (Mark trace) = false
waits at (Row trace) = true
waits at (Cell trace) = true
waits at (Change props.Run) = at.of_run
waits at (Change props.Sect) = false
waits at (Change _) = true

abbrev pub noted : Around → Nodes → Tag → Nodes → Walk → Walk
noted at properties tag kids w =
    if is_found at properties kids tag.kind then record w { hidden = tell tag.rev w.hidden }
    else if waits at tag.kind then record w { waiting = w.waiting ++ tag.rev ∷ [] }
    else w

-- ---- units

abbrev pub unit_is_hidden : Around → Tag → Bool
unit_is_hidden at tag = at.run && (at.loud && is_unit tag)

abbrev pub is_hidden_text : Around → Bool
is_hidden_text at = at.run && (at.loud && at.text)

abbrev pub is_filled : List ℕ → Bool
is_filled [] = false
is_filled (b ∷ bs) = true

abbrev pub bytes_walked : Around → List ℕ → Walk → Walk
bytes_walked at b w = record w { any = w.any || is_filled (if is_hidden_text at then shown b else []) }

-- ---- elements

-- what rows, cells, tables, paragraphs and runs hold is all known at their ends
abbrev pub is_owner : Tag → Bool
is_owner tag = is "r" tag || is_any ("p" ∷ "tr" ∷ "tc" ∷ "tbl" ∷ []) tag

abbrev pub is_content : Kind → Bool
is_content (Content trace) = true
is_content _ = false

-- where the kids of an element begin
abbrev pub begun : Around → Nodes → Tag → Nodes → Walk → Walk
begun at properties tag kids w =
    if is_owner tag then record { hidden = w.hidden; waiting = []; any = unit_is_hidden at tag }
    else record (noted at properties tag kids w) { any = unit_is_hidden at tag }

-- the end of a row, a cell, a table, a run or a paragraph, whose own end is hidden or not
abbrev pub owner_ended : Bool → Walk → Walk → Walk
owner_ended end w below = record {
  hidden = tell_all_if (below.any || end) below.waiting below.hidden;
  waiting = w.waiting;
  any = w.any || (below.any || end);
}

-- the end of another element
abbrev pub other_ended : Tag → Walk → Walk → Walk
other_ended tag w below = record {
  hidden = if is_content tag.kind && below.any then tell tag.rev below.hidden else below.hidden;
  waiting = below.waiting;
  any = w.any || below.any;
}

abbrev pub ended : Bool → Tag → Walk → Walk → Walk
ended end tag w below = if is_owner tag then owner_ended end w below else other_ended tag w below

-- whether the end of a paragraph is hidden, where its kids stand there
abbrev pub end_is_hidden : Tag → Around → Bool
end_is_hidden tag below = is "p" tag && (below.loud && below.mark)

-- ---- the walk

abbrev pub walked : HiddenStyles → Around → Nodes → Nodes → Walk → Walk
walked styles at properties no_nodes w = w
walked styles at properties (bytes b rest) w = walked styles at properties rest (bytes_walked at b w)
walked styles at properties (element tag kids rest) w =
    walked styles at properties rest
    (ended (end_is_hidden tag (inside styles at tag kids)) tag w (walked styles (inside styles at tag kids) kids kids (begun at properties tag kids w)))

-- the same of one element
abbrev pub element_walked : HiddenStyles → Around → Nodes → Tag → Nodes → Walk → Walk
element_walked styles at properties tag kids w =
    ended (end_is_hidden tag (inside styles at tag kids)) tag w (walked styles (inside styles at tag kids) kids kids (begun at properties tag kids w))
