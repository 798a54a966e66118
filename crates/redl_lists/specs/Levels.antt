-- The level of a list (ECMA-376 Part 1, 17.9.6).
use Rattle.std.specs.Prelude.{ℕ, nat_le, length, List, [], codes, Option, Some, None, is_some, unwrap_or, if◌then◌else◌}
use Rattle.redl_reading.specs.Steps.{or_else}
use Rattle.redl_tree.specs.Model.Nodes.{Nodes}
use Rattle.redl_tree.specs.Model.View.{Element}
use Rattle.redl_numerals.specs.Formats.{format_of}
use Rattle.redl_numerals.specs.declared.format.Format.{Format}
use Rattle.redl_numerals.specs.declared.format.Format.TheVariants.{Decimal}
use Rattle.redl_lists.specs.Named.{first_named, first_within}
use Rattle.redl_lists.specs.Values.{value, value_at, kid_value, kid_number, is_on, on_if}
use Rattle.redl_lists.specs.declared.level.Level.{Level}

-- the element that says the form: its own, or the first one below it, which is that of the first choice
abbrev pub format_element : Nodes → Option Element
format_element kids = or_else (first_named (codes "numFmt") kids) (first_within (codes "numFmt") kids)

-- a text of `longest` bytes at most: a longer one is as if it weren't there, so that no number takes more memory than a few words
abbrev pub short : ℕ → List ℕ → List ℕ
short longest text = if nat_le (length text) longest then text else []

-- the form (17.9.17), which is decimal where nothing says it
abbrev pub format_said : Option Element → Format
format_said None = Decimal
format_said (Some e) = format_of (unwrap_or (value e) []) (short 50 (unwrap_or (value_at (codes "format") e) []))

-- the text of a level (17.9.11), which is empty where there is none, and where `null` is on
abbrev pub text_said : Option Element → List ℕ
text_said None = []
text_said (Some e) = if on_if (value_at (codes "null") e) then [] else short 200 (unwrap_or (value e) [])

-- what a level says
abbrev pub level_of : Element → Level
level_of e = record {
  start = kid_number (codes "start") e.kids;
  restart = kid_number (codes "lvlRestart") e.kids;
  format = format_said (format_element e.kids);
  is_legal = is_on (first_named (codes "isLgl") e.kids);
  text = text_said (first_named (codes "lvlText") e.kids);
  style = kid_value (codes "pStyle") e.kids;
  has_picture = is_some (first_named (codes "lvlPicBulletId") e.kids);
}
