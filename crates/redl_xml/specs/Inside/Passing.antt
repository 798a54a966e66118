-- Passing over a text of one space: what is known of what was passed over, with the names of the open elements alone.
use Rattle.std.specs.Prelude.{◌≡◌, ◌≢◌, ◌<◌, ◌≤◌, ◌+◌, ◌⊎◌, max, length, ℕ, Bool, true, false, ◌&&◌, codes, bytes_eq, List, [], ◌∷◌, ◌++◌, map, reverse, Option, Some, None, if◌then◌else◌}
use Rattle.std.specs.List.{list_all}
use Rattle.redl_tree.specs.Model.Nodes.{Tag, Nodes, no_nodes, bytes, element, Close}
use Rattle.redl_tree.specs.Model.Count.{count}
use Rattle.redl_tree.specs.Model.Elements.{elements}
use Rattle.redl_tree.specs.declared.kinds.Space.{Space}
use Rattle.std.specs.Char.{is_ascii_alphabetic}
use Rattle.redl_grammar.specs.declared.section.Section.TheVariants.{InElement}
use Rattle.redl_grammar.specs.ScanPieces.{piece_at}
use Rattle.redl_grammar.specs.Names.{Name, name_eq}
use Rattle.redl_markup.specs.declared.name.Name as code
use Rattle.redl_markup.specs.Views.{name_view}
use Rattle.redl_markup.specs.Attributes.{names_in}
use Rattle.redl_grammar.specs.Pieces.{Piece, start_tag, empty_tag, end_tag, stretch, piece_then}
use Rattle.redl_xml.specs.Shapes.{depth_of}
use Rattle.redl_xml.specs.declared.idle.Idle.{Idle}
use Rattle.redl_xml.specs.declared.sizes.Limits.{Limits}
use Rattle.redl_xml.specs.declared.sizes.Sizes.{Sizes}
use Rattle.redl_xml.specs.Inside.Sizes.{capped, deepest_with}
use Rattle.redl_xml.specs.Scopes.{Scope, space_of, is_element_prefix, is_plain_name}
use Rattle.redl_tree.specs.Model.Laid.{Fits}
use Rattle.redl_tree.specs.Model.IdleTexts.{idle_nodes}
use Rattle.redl_tree.specs.Model.Folds.{plain_tag, nodes_at, nodes_in, Reads}
use Rattle.redl_xml.specs.Inside.Elements.{State, added, without_nodes}
use Rattle.redl_tree.specs.Roles.Names.{is_w}
use Rattle.redl_tree.specs.Roles.Idle.{is_idle_tag, AllTags}
use Rattle.redl_tree.specs.declared.kinds.Space.TheVariants.{W}

-- something holds of an element with this start tag, however it is closed
abbrev pub HoldsOf : (Bool → Tag → Type 0) → Bool → Space → Name → List ℕ → Type 0
HoldsOf T in_run space name tail = (close : Close) → T in_run (plain_tag name space tail close)

abbrev pub HoldsIn : (Bool → Tag → Type 0) → Bool → Space → Piece → Type 0
HoldsIn T in_run space (start_tag name tail) = HoldsOf T in_run space name tail
HoldsIn T in_run space (empty_tag name tail) = HoldsOf T in_run space name tail
HoldsIn T in_run space (end_tag name white) = Unit {0}
HoldsIn T in_run space (stretch b) = Unit {0}

-- in this scope the tag has this space, and it declares nothing
pub record IsPlainIn (scope : Scope) (space : Space) (tag : Tag) : Type 0 where
  pub prefix : is_element_prefix scope tag.prefix ≡ true
  pub bound : space_of scope tag.prefix ≡ space
  pub names : list_all (is_plain_name scope) (names_in tag.tail) ≡ true

-- so do the tags of all these elements
abbrev pub ArePlainIn : Scope → Space → Nodes → Type 0
ArePlainIn scope space no_nodes = Unit {0}
ArePlainIn scope space (bytes b rest) = ArePlainIn scope space rest
ArePlainIn scope space (element tag kids rest) = IsPlainIn scope space tag × ArePlainIn scope space kids × ArePlainIn scope space rest

-- it does so, and the element is idle
pub record IsIdleIn (scope : Scope) (in_run : Bool) (tag : Tag) : Type 0 where
  pub plain : IsPlainIn scope W tag
  pub idle : is_idle_tag in_run tag ≡ true

-- the nodes that begin with a piece
abbrev pub piece_count : Piece → ℕ
piece_count (start_tag name tail) = 1
piece_count (empty_tag name tail) = 1
piece_count (stretch b) = 1
piece_count (end_tag name white) = 0

-- the elements that begin with a piece
abbrev pub piece_elements : Piece → ℕ
piece_elements (start_tag name tail) = 1
piece_elements (empty_tag name tail) = 1
piece_elements (stretch b) = 0
piece_elements (end_tag name white) = 0

-- the innermost of these open elements is a run
abbrev pub is_run_open : Space → List Name → Bool
is_run_open space [] = false
is_run_open space (name ∷ names) = is_w space && bytes_eq name.local (codes "r")

abbrev pub shut_name : List Name → Name → Option (List Name)
shut_name [] name = None
shut_name (n ∷ ns) name = if name_eq n name then Some ns else None

-- one more piece, of the names of the open elements alone
abbrev pub put_name : Piece → List Name → Option (List Name)
put_name (start_tag name tail) ns = Some (name ∷ ns)
put_name (empty_tag name tail) ns = Some ns
put_name (stretch b) ns = Some ns
put_name (end_tag name white) ns = shut_name ns name

-- names with the innermost last, as the code has them
abbrev pub names_view : List code.Name → List Name
names_view ns = map name_view (reverse ns)

-- a piece was passed over: it may be, by its tag, and these are the names of the open elements before it and after it
pub record PassesPiece (scope : Scope) (before after : List code.Name) (p : Piece) : Type 0 where
  pub taken : put_name p (names_view before) ≡ Some (names_view after)
  pub holds : HoldsIn (IsIdleIn scope) (is_run_open W (names_view before)) W p

-- a piece was passed over, and is counted with what was passed over before
pub record PassesOn (scope : Scope) (before after : List code.Name) (p : Piece) (now more : Idle) : Type 0 where
  pub passes : PassesPiece scope before after p
  pub nodes : more.nodes ≡ now.nodes + piece_count p
  pub elems : more.elems ≡ now.elems + piece_elements p
  pub deep : more.deepest ≡ deepest_with p (length before + 1) now.deepest

-- a tag without attributes: a start tag, or else one of an empty element
abbrev pub bare_tag : Bool → Name → Piece
bare_tag opens name = if opens then start_tag name [] else empty_tag name []

-- the word is a letter of ASCII
pub record IsLetter (word : List ℕ) : Type 0 where
  pub letter : ℕ
  pub is : is_ascii_alphabetic letter ≡ true
  pub whole : word ≡ letter ∷ []

-- the bytes begin with a tag without attributes that was passed over
pub record PassesBare (scope : Scope) (before after : List code.Name) (bs rest : List ℕ) : Type 0 where
  pub opens : Bool
  pub name : Name
  pub read : piece_at InElement bs ≡ Some (bare_tag opens name, rest)
  pub passes : PassesPiece scope before after (bare_tag opens name)

-- the bytes begin with the end tag of the innermost open element, without white space, and these are the names of the open elements
-- before it and after it
pub record ClosesLast (before after : List code.Name) (bs rest : List ℕ) : Type 0 where
  pub name : Name
  pub names : names_view before ≡ name ∷ names_view after
  pub whole : bs ≡ piece_then (end_tag name []) rest

-- what was passed over is a text of nodes with these tags, of this many nodes and elements and this deep, and its last stretch
-- is as long as it can be
pub record IsPassed (T : Bool → Tag → Type 0) (space : Space) (bs rest : List ℕ) (nodes elems deepest : ℕ) : Type 0 where
  pub front : List ℕ
  pub made : Nodes
  pub whole : bs ≡ front ++ rest
  pub reads : nodes_at space front ≡ Some made
  pub all_tags : AllTags T false made
  pub fits : Fits made rest
  pub counted : count made ≡ nodes
  pub among : elements made ≡ elems
  pub deep : depth_of made ≡ deepest

-- the bytes behind what was passed over
abbrev pub rest_behind : List ℕ → Option Idle → List ℕ
rest_behind bs None = bs
rest_behind bs (Some idle) = idle.rest.now

-- The bytes begin with this text of idle elements, which are of W in this scope, and declare nothing; the rest follows it. It has so
-- many nodes, and is so deep.
pub record IsIdleText (scope : Scope) (bs t rest : List ℕ) (nodes deepest : ℕ) : Type 0 where
  pub whole : bs ≡ t ++ rest
  pub reads : Reads W t
  pub kept : idle_nodes t ≡ nodes_in W t
  pub all_plain : ArePlainIn scope W (nodes_in W t)
  pub fits : Fits (nodes_in W t) rest
  pub counted : count (nodes_in W t) ≡ nodes
  pub deep : depth_of (nodes_in W t) ≡ deepest
  pub shallow : deepest < 4294967296
  pub shorter : length rest < length bs

-- such a text was passed over in an open element, and its nodes were added to what was read
pub record AddsText (s s' : State) (bs rest : List ℕ) (nodes deepest : ℕ) : Type 0 where
  pub text : List ℕ
  pub is : IsIdleText s.scope bs text rest nodes deepest
  pub below : length s.open_elements ≢ 0
  pub added : s' ≡ added s (nodes_in W text)

-- such a text was passed over, its nodes were counted, and are kept within the limits
pub record Counts (limits : Limits) (s s' : State) (old new : Sizes) (bs rest : List ℕ) : Type 0 where
  pub made : State
  pub nodes : ℕ
  pub deepest : ℕ
  pub adds : AddsText s made bs rest nodes deepest
  pub deep : new.deepest ≡ max old.deepest (length s.open_elements + deepest)
  pub many : new.nodes ≡ capped limits.nodes (old.nodes + nodes)
  pub alike : without_nodes s' ≡ without_nodes made
  pub kept : new.deepest ≤ limits.depth → new.nodes ≤ limits.nodes → s' ≡ made

-- one was, or nothing was passed over
abbrev pub GoesAhead : Limits → State → State → Sizes → Sizes → List ℕ → List ℕ → Type 0
GoesAhead limits s s' old new bs rest = Counts limits s s' old new bs rest ⊎ ((s' ≡ s) × (new ≡ old) × (rest ≡ bs))
