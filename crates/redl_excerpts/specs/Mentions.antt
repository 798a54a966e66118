-- What a story tells of a revision: for each of its members the text that it is of, and what stands before and behind that text
-- in the same paragraph (our own rule). A row's or cell's member is of the row or cell, a change of properties of what the
-- properties are of, the mark of a paragraph of its end, and run content of what it holds. Of a move the run content of its source tells.
-- A change of properties also tells which properties it changes.
use Rattle.std.specs.Prelude.{ℕ, ◌==◌, ◌&&◌, Bool, true, false, List, [], ◌∷◌, ◌++◌, codes, Option, if◌then◌else◌}
use Rattle.redl_changed.specs.Changed.{changed_of, nothing_changed}
use Rattle.redl_changed.specs.declared.changed.ChangedSaid.{ChangedSaid}
use Rattle.redl_shown.specs.Shown.{shown}
use Rattle.redl_stamp.specs.Attribute.{attribute_value}
use Rattle.redl_tree.specs.Model.Nodes.{Tag, Nodes, no_nodes, bytes, element, Item, bytes_item, element_item, idle_item}
use Rattle.redl_tree.specs.Roles.Names.{is}
use Rattle.redl_tree.specs.Roles.Places.{is_quiet}
use Rattle.redl_tree.specs.declared.kinds.Kind.{Kind}
use Rattle.redl_tree.specs.declared.kinds.Kind.TheVariants.{Plain, Content, Mark, Row, Cell, Change, Marker}
use Rattle.redl_tree.specs.declared.kinds.Trace.{Trace}
use Rattle.redl_tree.specs.declared.kinds.Trace.TheVariants.{To}
use Rattle.redl_said.specs.Said.{said, element_said, start_said, holds_text}
use Rattle.redl_said.specs.Lines.{line_of, line_start, line_end, along, before, behind}
use Rattle.redl_said.specs.declared.line.LinePlace.{LinePlace}

-- what one member tells: its element's own id, its text, what stands before and behind, and which properties it changes
pub record Mention : Type 0 where
  pub id : Option (List ℕ)
  pub said : List ℕ
  pub before : List ℕ
  pub behind : List ℕ
  pub changed : ChangedSaid

-- where nodes stand: in an element that holds text or not; the list that they are of; what the nearest ancestor holds that is no
-- properties (the owner), and the place in the line where that begins; the place of the nodes; and the whole line
pub record Where : Type 0 where
  pub in_text : Bool
  pub siblings : Nodes
  pub owner : Nodes
  pub owner_place : LinePlace
  pub place : LinePlace
  pub whole : List ℕ

-- outside of all paragraphs
abbrev pub outside : Where
outside = record { in_text = false; siblings = no_nodes; owner = no_nodes; owner_place = line_end; place = line_end; whole = [] }

-- in a paragraph that holds these nodes
abbrev pub in_paragraph : Nodes → List ℕ → Where
in_paragraph kids line = record { in_text = false; siblings = kids; owner = kids; owner_place = line_start line; place = line_start line; whole = line }

-- in another element, whose kids begin at this place
abbrev pub in_element : Where → Tag → Nodes → LinePlace → Where
in_element here tag kids place = record { in_text = holds_text tag; siblings = kids; owner = kids; owner_place = place; place = place; whole = here.whole }

-- where the kids of an element stand
abbrev pub inside : Where → Tag → Nodes → Where
inside here tag kids =
    if is "p" tag then in_paragraph kids (line_of (said true false kids))
    else if is_quiet tag then record here { in_text = false; siblings = kids }
    else in_element here tag kids (along here.place (start_said tag))

-- what one node says in the line
abbrev pub bytes_said : Bool → List ℕ → List ℕ
bytes_said in_text b = if in_text then shown b else []

-- where the nodes behind one stand that says this
abbrev pub past : Where → List ℕ → Where
past here text = record here { place = along here.place text }

abbrev pub id_of : Tag → Option (List ℕ)
id_of tag = attribute_value tag.tail (codes "id")

-- a member is of a stretch of a line: these nodes, which begin at this place
abbrev pub stretch_in : List ℕ → Tag → LinePlace → Nodes → Mention
stretch_in line tag place nodes = record {
  id = id_of tag;
  said = said false false nodes;
  before = before line place;
  behind = behind line (along place (said true false nodes));
  changed = nothing_changed;
}

-- a member that changes properties so
abbrev pub changing : ChangedSaid → Mention → Mention
changing changed mention = record mention { changed = changed }

-- a member is of the end of the paragraph with this line (U+00B6)
abbrev pub paragraph_end_in : List ℕ → Tag → Mention
paragraph_end_in line tag = record { id = id_of tag; said = 194 ∷ 182 ∷ []; before = before line line_end; behind = []; changed = nothing_changed }

abbrev pub is_target : Trace → Bool
is_target To = true
is_target _ = false

-- run content tells, but for the target of a move
abbrev pub unless_target : Bool → Trace → Mention → List Mention
unless_target moved trace mention = if moved && is_target trace then [] else mention ∷ []

-- what a member of this kind tells, of a move (`moved`) or of another revision; of a move the run content of the source tells
abbrev pub told_by : Bool → Where → Kind → Tag → Nodes → List Mention
told_by moved here Plain tag kids = []
told_by moved here (Content trace) tag kids = unless_target moved trace (stretch_in here.whole tag here.place kids)
told_by moved here (Mark trace) tag kids = if moved then [] else paragraph_end_in here.whole tag ∷ []
told_by moved here (Row trace) tag kids = stretch_in here.whole tag here.owner_place here.owner ∷ []
told_by moved here (Cell trace) tag kids = stretch_in here.whole tag here.owner_place here.owner ∷ []
told_by moved here (Change prop) tag kids = changing (changed_of prop here.siblings kids) (stretch_in here.whole tag here.owner_place here.owner) ∷ []
told_by moved here Marker tag kids = []

-- the same of an element, where it is a member of the revision with this number
abbrev pub member_told : Bool → ℕ → Where → Tag → Nodes → List Mention
member_told moved v here tag kids = if tag.rev == v then told_by moved here tag.kind tag kids else []

-- what nodes tell of the revision with this number
abbrev pub mentions : Bool → ℕ → Where → Nodes → List Mention
mentions moved v here no_nodes = []
mentions moved v here (bytes b rest) = mentions moved v (past here (bytes_said here.in_text b)) rest
mentions moved v here (element tag kids rest) =
    (member_told moved v here tag kids ++ mentions moved v (inside here tag kids) kids)
    ++ mentions moved v (past here (element_said true tag kids)) rest

-- the same of an element, and of one node; no idle element is a member
abbrev pub element_mentions : Bool → ℕ → Where → Tag → Nodes → List Mention
element_mentions moved v here tag kids = member_told moved v here tag kids ++ mentions moved v (inside here tag kids) kids

abbrev pub item_mentions : Bool → ℕ → Where → Item → List Mention
item_mentions moved v here (bytes_item b) = []
item_mentions moved v here (element_item tag kids) = element_mentions moved v here tag kids
item_mentions moved v here (idle_item t) = []
