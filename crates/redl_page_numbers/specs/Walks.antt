-- The walk that counts the paragraphs of a story as clauses count them, and notes the number of each that has one (our own rule;
-- ECMA-376 Part 1, 17.9 for the numbers).
use Rattle.std.specs.Prelude.{ℕ, ◌+◌, ◌&&◌, not, Bool, true, false, List, [], ◌∷◌, ◌++◌, slice_set, length, replicate, Option, Some, None, unwrap_or, if◌then◌else◌}
use Rattle.redl_tree.specs.Model.Nodes.{Tag, Nodes, no_nodes, bytes, element}
use Rattle.redl_tree.specs.Model.View.{Element}
use Rattle.redl_tree.specs.Roles.Names.{is}
use Rattle.redl_tree.specs.Roles.Places.{is_quiet}
use Rattle.redl_opc.specs.Parts.{name_in, part_name}
use Rattle.redl_opc.specs.Shape.{story_of}
use Rattle.redl_lists.specs.Owns.{own_of}
use Rattle.redl_lists.specs.declared.own.Own.{Own}
use Rattle.redl_lists.specs.declared.table.Tables.{Tables}
use Rattle.redl_numbering.specs.Nums.{Counted}
use Rattle.redl_numbering.specs.Counts.{Counts, nothing_counted, number_now}
use Rattle.redl_clauses.specs.Walks.{paragraph_counted, paragraph_found}
use Rattle.redl_page_numbers.specs.declared.row.Row.{Row}

-- what was counted; how many paragraphs of the story the page shows so far; those with a number; and which nums have one of these
pub record Walk : Type 0 where
  pub counts : Counts
  pub paragraphs : ℕ
  pub rows : List Row
  pub used : List Bool

-- ---- paragraphs

-- the row of a paragraph that says this and has this num and this level
abbrev pub row_of : Own → Walk → Counted → Row
row_of own w found = record {
  paragraph = w.paragraphs;
  num = found.num;
  level = found.level;
  ends_section = own.ends_section;
  text = number_now w.counts found;
}

abbrev pub noted : Own → Walk → Option Counted → Walk
noted own w None = w
noted own w (Some found) = record w { rows = w.rows ++ row_of own w found ∷ []; used = slice_set w.used found.num true }

-- a paragraph is counted
abbrev pub counted : Tables → Nodes → Walk → Walk
counted tables kids w = record w { counts = paragraph_counted tables kids w.counts }

-- and noted, where the page shows it
abbrev pub shown : Tables → Nodes → Walk → Walk
shown tables kids w =
    noted (own_of kids) (record (counted tables kids w) { paragraphs = w.paragraphs + 1 }) (paragraph_found tables kids)

abbrev pub paragraph_begun : Tables → Bool → Nodes → Walk → Walk
paragraph_begun tables loud kids w = if loud then shown tables kids w else counted tables kids w

-- ---- the walk; `loud`: no ancestor holds properties, so the page shows what is there

-- where the kids of an element begin: a text box counts by itself
abbrev pub begun : Tables → Bool → Tag → Nodes → Walk → Walk
begun tables loud tag kids w =
    if is "p" tag then paragraph_begun tables loud kids w
    else if is "txbxContent" tag then record w { counts = nothing_counted }
    else w

-- behind its kids: after a text box the counting round it goes on
abbrev pub left : Tag → Counts → Walk → Walk
left tag outer w = if is "txbxContent" tag then record w { counts = outer } else w

abbrev pub loud_inside : Bool → Tag → Bool
loud_inside loud tag = loud && not (is_quiet tag)

abbrev pub walked : Tables → Bool → Nodes → Walk → Walk
walked tables loud no_nodes w = w
walked tables loud (bytes b rest) w = walked tables loud rest w
walked tables loud (element tag kids rest) w =
    walked tables loud rest (left tag w.counts (walked tables (loud_inside loud tag) kids (begun tables loud tag kids w)))

-- the same of one element
abbrev pub element_walked : Tables → Bool → Tag → Nodes → Walk → Walk
element_walked tables loud tag kids w = left tag w.counts (walked tables (loud_inside loud tag) kids (begun tables loud tag kids w))

-- ---- stories

-- the paragraphs of a story that have a number, the name of its part, and whether it is the document
pub record StoryRows : Type 0 where
  pub name : List ℕ
  pub is_document : Bool
  pub rows : List Row

-- the stories so far, and which nums are used in them
pub record Stories : Type 0 where
  pub stories : List StoryRows
  pub used : List Bool

-- each story begins anew
abbrev pub begin : List Bool → Walk
begin used = record { counts = nothing_counted; paragraphs = 0; rows = []; used = used }

abbrev pub story_added : List ℕ → Element → Walk → Stories → Stories
story_added name root w known = record {
  stories = known.stories ++ record { name = name; is_document = is "document" root.tag; rows = w.rows } ∷ [];
  used = w.used;
}

abbrev pub story_walked : Tables → List ℕ → Element → Stories → Stories
story_walked tables name root known = story_added name root (walked tables true root.kids (begin known.used)) known

-- the story of a part with this name, if it has one
abbrev pub part_walked : Tables → List ℕ → Option Element → Stories → Stories
part_walked tables name None known = known
part_walked tables name (Some root) known = story_walked tables name root known

-- the name of the part with this number
abbrev pub name_at : Nodes → ℕ → List ℕ
name_at nodes part = unwrap_or (part_name nodes part) []

-- the stories of these parts
abbrev pub parts_walked : Tables → List Element → Stories → Stories
parts_walked tables [] known = known
parts_walked tables (part ∷ later) known = parts_walked tables later (part_walked tables (name_in part.tag) (story_of part) known)

-- no story is known, and no num is used
abbrev pub nothing_known : Tables → Stories
nothing_known tables = record { stories = []; used = replicate (length tables.nums) false }
