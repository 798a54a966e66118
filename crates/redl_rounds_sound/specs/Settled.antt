-- What `check` counts after `settle`: moves that pair only then, and have no member (our own rule).
use Rattle.std.specs.Prelude.{◌≡◌, ℕ, List, All, Bool, true, Some, None, length, not}
use Rattle.std.specs.List.{list_all}
use Rattle.redl_index.specs.Numbers.{package_revisions}
use Rattle.redl_index.specs.Revisions.{revisions_of}
use Rattle.redl_index.specs.declared.revision.Revision.{Revision}
use Rattle.redl_inputs.specs.Readers.{Reader}
use Rattle.redl_io.specs.Shelf.{Files}
use Rattle.redl_kinds.specs.declared.rev_kind.RevKind.TheVariants.{Move}
use Rattle.redl_opc.specs.Shape.{refusal}
use Rattle.redl_outcome.specs.Answers.{IsWritten}
use Rattle.redl_outcome.specs.Brought.{Brought}
use Rattle.redl_outcome.specs.Left.{IsLeft, left_of}
use Rattle.redl_outcome.specs.Outcome.{outcome}
use Rattle.redl_outcome.specs.Plans.{plan}
use Rattle.redl_reread_sound.specs.Again.{again, left}
use Rattle.redl_rules.specs.Attributes.{rules}
use Rattle.redl_tree.specs.Leaves.Settings.{is_keep}
use Rattle.redl_tree.specs.Model.Nodes.{Nodes}
use Rattle.redl_tree.specs.Rules.Sound.{is_sound}
use Rattle.redl_tree.specs.declared.kinds.Say.{Say}
use Rattle.redl_words.specs.Commands.{settle}

-- a move without members: only the markers of its ranges are there
pub record IsEmptyMove (revision : Revision) : Type 0 where
  pub kind : revision.kind ≡ Move
  pub members : revision.members ≡ 0

-- so is each revision of a package
abbrev pub AreEmptyMoves : Nodes → Type 0
AreEmptyMoves nodes = All IsEmptyMove (revisions_of nodes)

-- Where each revision of a sound package is accepted or rejected, what is left has no other revisions when it is read again.
abbrev pub OnlyEmptyMoves : Type 0
OnlyEmptyMoves =
    (nodes : Nodes) (says : List Say) → refusal nodes ≡ None → is_sound rules nodes ≡ true → length says ≡ package_revisions nodes
    → list_all (λ say. not (is_keep say)) says ≡ true → AreEmptyMoves (again (left says nodes))

-- what `settle` left of a package, whose revisions are such moves
pub record IsSettled (reader : Reader) (files : Files) (accept : Bool) (p bytes : List ℕ) : Type 0 where
  pub left : IsLeft reader files (plan (settle accept p)) p bytes
  pub empty : AreEmptyMoves (again (left_of left.says left.nodes))

-- So it is after `settle`.
abbrev pub SettledIsCounted : Reader → Files → Brought → Type 0
SettledIsCounted reader files brought =
    (words : List (List ℕ)) (accept : Bool) (p : List ℕ) → reader.command words ≡ Some (settle accept p) → IsWritten (outcome reader words files brought).status
    → IsSettled reader files accept p (outcome reader words files brought).bytes
