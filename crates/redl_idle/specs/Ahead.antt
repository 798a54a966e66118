-- The nodes of one list at the front of a text, and what ends them there.
use Rattle.std.specs.Prelude.{◌≡◌, ℕ, List, [], ◌++◌, Bool, true, false}
use Rattle.redl_tree.specs.Model.Nodes.{Nodes, no_nodes}
use Rattle.redl_tree.specs.Model.Text.{text}
use Rattle.redl_tree.specs.Model.Laid.{AreLaid}
use Rattle.redl_tree.specs.declared.kinds.Space.TheVariants.{W}
use Rattle.redl_grammar.specs.declared.section.Section.TheVariants.{InElement}
use Rattle.redl_grammar.specs.Names.{Name}
use Rattle.redl_grammar.specs.Pieces.{Piece, start_tag, empty_tag, end_tag, stretch, piece_then, IsPiece}
use Rattle.redl_idle.specs.Shows.{ShowRule, element_shows}

-- the end of the text, or an end tag and a rest
pub data Ending : Type 0 where
  text_end : Ending
  tag_end : Name → List ℕ → List ℕ → Ending

-- what follows the last node
abbrev pub ending_text : Ending → List ℕ
ending_text text_end = []
ending_text (tag_end name white rest) = piece_then (end_tag name white) rest

-- what follows the end tag
abbrev pub behind : Ending → List ℕ
behind text_end = []
behind (tag_end name white rest) = rest

abbrev pub IsEnding : Ending → Type 0
IsEnding text_end = Unit {0}
IsEnding (tag_end name white rest) = IsPiece InElement (end_tag name white)

-- a text begins with the nodes of one list
pub record Begins (t : List ℕ) : Type 0 where
  pub nodes : Nodes
  pub ending : Ending
  pub whole : t ≡ text nodes ++ ending_text ending
  pub laid : AreLaid W nodes
  pub legal : IsEnding ending

-- ---- one node, of which the first piece was read, and then this text

-- it is a node, and an element's kids follow its start tag
abbrev pub IsNode : Piece → List ℕ → Type 0
IsNode (start_tag name tail) rest = Begins rest
IsNode (empty_tag name tail) rest = Unit {0}
IsNode (stretch b) rest = Unit {0}
IsNode (end_tag name white) rest = ⊥

-- what it shows
abbrev pub node_shows : {Below : Type 0} → ShowRule Below → Below → (piece : Piece) → (rest : List ℕ) → IsNode piece rest → List ℕ
node_shows rule below (start_tag name tail) rest node = element_shows rule below name.local tail node.nodes
node_shows rule below (empty_tag name tail) rest node = element_shows rule below name.local tail no_nodes
node_shows rule below (stretch b) rest node = rule.bytes below b
node_shows rule below (end_tag name white) rest node = []

-- the text that follows it
abbrev pub after_node : (piece : Piece) → (rest : List ℕ) → IsNode piece rest → List ℕ
after_node (start_tag name tail) rest node = behind node.ending
after_node (empty_tag name tail) rest node = rest
after_node (stretch b) rest node = rest
after_node (end_tag name white) rest node = rest

abbrev pub is_end_tag : Piece → Bool
is_end_tag (end_tag name white) = true
is_end_tag (start_tag name tail) = false
is_end_tag (empty_tag name tail) = false
is_end_tag (stretch b) = false
