-- What a bare text says of a unit: its marks and stamps with their references read.
use Rattle.std.specs.Prelude.{◌≡◌, List, [], ◌∷◌, map, Bool, true}
use Rattle.redl_shown.specs.Shown.{shown}
use Rattle.redl_bare.specs.Marks.{Stamp, Mark, Marks}
use Rattle.redl_bare.specs.Units.{BareUnit, text, thing, member, story, has_line}

abbrev pub said_stamp : Stamp → Stamp
said_stamp stamp = record { author = shown stamp.author; minute = shown stamp.minute }

abbrev pub said_mark : Mark → Mark
said_mark mark = record { sign = mark.sign; stamp = said_stamp mark.stamp }

abbrev pub said_marks : Marks → Marks
said_marks marks = map said_mark marks

abbrev pub said_unit : BareUnit → BareUnit
said_unit (text marks t) = text (said_marks marks) t
said_unit (thing marks t) = thing (said_marks marks) t
said_unit (member kind stamp) = member kind (said_stamp stamp)
said_unit (story s) = story s

-- a member among the units is of a kind that has a line, as each of a document is
abbrev pub is_named : BareUnit → Bool
is_named (member kind stamp) = has_line kind
is_named _ = true

abbrev pub AreNamed : List BareUnit → Type 0
AreNamed [] = Unit {0}
AreNamed (unit ∷ units) = (is_named unit ≡ true) × AreNamed units
