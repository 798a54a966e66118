-- The walk over a story that counts its units, notes the places of comments among them, and says which units each member holds (our own
-- rule).
use Rattle.std.specs.Prelude.{ℕ, ◌+◌, ◌==◌, Bool, true, false, List, [], ◌∷◌, ◌++◌, if◌then◌else◌}
use Rattle.redl_tree.specs.Model.Nodes.{Tag, Nodes, no_nodes, bytes, element}
use Rattle.redl_tree.specs.Roles.Names.{is}
use Rattle.redl_tree.specs.Roles.Places.{is_quiet}
use Rattle.redl_spans.specs.Members.{has_edge, own_spans, property_members}
use Rattle.redl_spans.specs.Units.{Step, units_step, place_step, holds_text, steps_at, text_steps}
use Rattle.redl_spans.specs.declared.place.CommentPlace.{CommentPlace}
use Rattle.redl_spans.specs.declared.place.Position.{Position}
use Rattle.redl_spans.specs.declared.span.Span.{Span}

-- where it is, how many units came before its story, and what it found
pub record Walk : Type 0 where
  pub here : Position
  pub story : ℕ
  pub places : List CommentPlace
  pub spans : List Span

-- ---- positions: how many units came before, and whether the last of them is in the same paragraph and not its mark

abbrev pub passed : ℕ → Position → Position
passed n here = if n == 0 then here else record { count = here.count + n; near = true }

-- behind a unit that no point belongs to: a mark of a paragraph, or an edge
abbrev pub parted : Position → Position
parted here = record { count = here.count + 1; near = false }

-- where a paragraph begins
abbrev pub apart : Position → Position
apart here = record { count = here.count; near = false }

abbrev pub noted : Walk → CommentPlace → Walk
noted w place = record w { places = w.places ++ place ∷ [] }

-- ---- steps

abbrev pub step : Step → Walk → Walk
step (units_step n) w = record w { here = passed n w.here }
step (place_step anchor id) w = noted w (record { anchor = anchor; id = id; story = w.story; at = w.here })

abbrev pub stepped : List Step → Walk → Walk
stepped [] w = w
stepped (s ∷ ss) w = stepped ss (step s w)

-- ---- elements

-- before the units of an element that has these kids
abbrev pub opened_at : Tag → Nodes → Position → Position
opened_at tag kids here = if is "p" tag then apart here else if has_edge kids then parted here else here

-- where its kids begin
abbrev pub begun : Tag → Nodes → Walk → Walk
begun tag kids w = stepped (steps_at tag) (record w { here = opened_at tag kids w.here })

-- a paragraph ends with its mark
abbrev pub closed_at : Tag → Position → Position
closed_at tag here = if is "p" tag then parted here else here

-- behind its kids, where so many units came before it
abbrev pub left : Tag → Nodes → ℕ → Walk → Walk
left tag kids from w = record w {
  here = closed_at tag w.here;
  spans = w.spans ++ own_spans tag (property_members kids) from (closed_at tag w.here).count;
}

-- Nothing in properties is passed. Bytes are passed where they are kids of an element that holds text (`in_text`).
abbrev pub walked : Bool → Nodes → Walk → Walk
walked in_text no_nodes w = w
walked in_text (bytes b rest) w = walked in_text rest (stepped (text_steps in_text b) w)
walked in_text (element tag kids rest) w =
    walked in_text rest (if is_quiet tag then w else left tag kids w.here.count (walked (holds_text tag) kids (begun tag kids w)))

-- the same of one element
abbrev pub element_walked : Tag → Nodes → Walk → Walk
element_walked tag kids w = if is_quiet tag then w else left tag kids w.here.count (walked (holds_text tag) kids (begun tag kids w))
