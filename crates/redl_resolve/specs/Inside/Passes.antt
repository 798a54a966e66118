-- What each function of the walk says: what becomes of the nodes that it is given, and what it counts.
use Rattle.std.specs.Prelude.{◌≡◌, ℕ, ◌+◌, ◌≤◌, List, ◌∷◌, Result, IfOk}
use Rattle.redl_tree.specs.Decisions.Fates.{renamed}
use Rattle.redl_tree.specs.Decisions.Groups.{GroupPiece}
use Rattle.redl_tree.specs.Decisions.Pass.{pass, kept_kids}
use Rattle.redl_tree.specs.Model.Nodes.{Tag, Nodes}
use Rattle.redl_tree.specs.Model.View.{tag_of, kids_of}
use Rattle.redl_tree.specs.declared.kinds.Say.{Say}
use Rattle.redl_tree.specs.declared.node.Elem.{Elem}
use Rattle.redl_tables.specs.Asked.{answer}
use Rattle.redl_tables.specs.declared.owned.Finding.{Finding}
use Rattle.redl_resolve.specs.Chains.{AddsPiece, elem_answer}
use Rattle.redl_resolve.specs.Inside.Rounds.{pass_round_of}
use Rattle.redl_resolve.specs.declared.made.Made.{Made}
use Rattle.redl_resolve.specs.declared.rounds.Round.{Round}
use Rattle.redl_resolve.specs.declared.walk.Walk.{Walk}

-- ---- what becomes of nodes

-- what is given becomes this under any ancestors with this summary, and `found` is what the nearest table or row has to know
-- of it
pub record Passes (says : List Say) (round : Round) (Becomes : List Tag → Type 0) (found due : Finding) : Type 0 where
  pub becomes : (ancestors : List Tag) → round ≡ pass_round_of says ancestors → Becomes ancestors
  pub answer : found ≡ due

-- of the nodes of a list
abbrev pub PassesList : List Say → Round → Nodes → Nodes → Finding → Type 0
PassesList says round given made found =
    Passes says round (λ ancestors. made ≡ pass says ancestors given) found (answer says round.asked given)

-- an element that stays: its tag is renamed where deleted text is live again, and its kids are passed
pub record Stays (says : List Say) (ancestors : List Tag) (old new : Elem) : Type 0 where
  pub tag : tag_of new ≡ renamed says ancestors (tag_of old)
  pub kids : kids_of new ≡ kept_kids says ancestors (tag_of old) (kids_of old) (pass says (tag_of old ∷ ancestors) (kids_of old))

-- of an element that gives this piece to the list that is made
abbrev pub PassesElem : List Say → Round → Elem → (List Say → List Tag → Tag → Nodes → GroupPiece) → Made → Made → Finding → Type 0
PassesElem says round elem piece old new found =
    Passes says round (λ ancestors. AddsPiece old new (piece says ancestors (tag_of elem) (kids_of elem))) found (elem_answer says round.asked (tag_of elem) (kids_of elem))

-- ---- what is counted

-- the walk goes on by the same says, and with the same counter
pub record GoesOn {L : Type 0} (old new : Walk L) : Type 0 where
  pub same_says : new.says ≡ old.says
  pub same_counter : new.steps.ghost_name ≡ old.steps.ghost_name

-- at most one step is counted for each node that is given, also with an error, and at least one for each that is made: of
-- those that there are in the end, `before` were there already
pub record Counts {L T E : Type 0} (old new : Walk L) (given : ℕ) (result : Result T E) (before : ℕ) (after : T → ℕ) : Type 0 where
  pub goes_on : GoesOn old new
  pub entered : new.steps.now ≤ old.steps.now + given
  pub made : IfOk result (λ r. old.steps.now + after r ≤ new.steps.now + before)
