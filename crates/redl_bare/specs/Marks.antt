-- The marks of a unit (our own rule; ECMA-376 Part 1, 17.13.5 for the changes): who inserted it, deleted it, moved it to here, moved it
-- from here, or changed the properties of its run, and when. They are the set of these changes round the unit.
use Rattle.std.specs.Prelude.{ℕ, List, Bool, true, false, codes, take, Option, Some, None, if◌then◌else◌}
use Rattle.std.specs.Option.{option_map}
use Rattle.redl_tree.specs.Model.Nodes.{Tag, Nodes, no_nodes, bytes, element}
use Rattle.redl_tree.specs.Roles.Names.{is}
use Rattle.redl_tree.specs.declared.kinds.Trace.{Trace}
use Rattle.redl_tree.specs.declared.kinds.Trace.TheVariants.{Ins, Del, From, To}
use Rattle.redl_tree.specs.declared.kinds.Prop.TheVariants.{Run}
use Rattle.redl_tree.specs.declared.kinds.Kind.{Kind}
use Rattle.redl_tree.specs.declared.kinds.Kind.TheVariants.{Content, Change}
use Rattle.redl_reading.specs.Steps.{or_else}
use Rattle.redl_marks.specs.declared.sign.Sign.{Sign}
use Rattle.redl_marks.specs.declared.sign.Sign.TheVariants.{Inserted, Deleted, MovedTo, MovedFrom, Formatted}
pub use Rattle.redl_marks.specs.Marks.{Stamp, Mark, Marks, no_marks, sign_place, with_mark, same_mark, same_marks}
pub use Rattle.redl_order.specs.Values.{value_in}

-- the stamp in a tag's tail
abbrev pub stamp_in : List ℕ → Stamp
stamp_in tail = record { author = value_in tail (codes "author"); minute = take 16 (value_in tail (codes "date")) }

-- ---- the marks inside an element

abbrev pub sign_of : Trace → Sign
sign_of Ins = Inserted
sign_of Del = Deleted
sign_of To = MovedTo
sign_of From = MovedFrom

abbrev pub is_run_change : Kind → Bool
is_run_change (Change Run) = true
is_run_change _ = false

-- the first change of the properties of a run among these, which are such properties
abbrev pub change_in : Nodes → Option Stamp
change_in no_nodes = None
change_in (bytes b rest) = change_in rest
change_in (element tag kids rest) = if is_run_change tag.kind then Some (stamp_in tag.tail) else change_in rest

-- the change of a run with these kids
abbrev pub run_change : Nodes → Option Stamp
run_change no_nodes = None
run_change (bytes b rest) = run_change rest
run_change (element tag kids rest) = or_else (if is "rPr" tag then change_in kids else None) (run_change rest)

-- the change of its properties, where an element is a run that has one
abbrev pub own_change : Tag → Nodes → Option Stamp
own_change tag kids = if is "r" tag then run_change kids else None

abbrev pub format_mark : Option Stamp → Option Mark
format_mark change = option_map (λ stamp. record { sign = Formatted; stamp = stamp }) change

-- The mark that an element of this kind gives what it holds: content that was inserted, deleted or moved, and a run whose properties
-- were changed, give one.
abbrev pub own_mark : Kind → Tag → Nodes → Option Mark
own_mark (Content trace) tag kids = Some (record { sign = sign_of trace; stamp = stamp_in tag.tail })
own_mark _ tag kids = format_mark (own_change tag kids)

abbrev pub with_own : Marks → Option Mark → Marks
with_own marks None = marks
with_own marks (Some mark) = with_mark marks mark

-- the marks of what an element holds
abbrev pub marks_inside : Marks → Tag → Nodes → Marks
marks_inside marks tag kids = with_own marks (own_mark tag.kind tag kids)
