-- What a call that decides revisions leaves of a package: exactly the text that survives, in a sound package, and all that is
-- locked.
use Rattle.std.specs.Prelude.{◌≡◌, ℕ, List, true, Option, Some, None, Ok, map}
use Rattle.redl_commands.specs.Settle.{same_says, settling}
use Rattle.redl_inputs.specs.Admission.{Admission, opened}
use Rattle.redl_session.specs.Sessions.{says as says_of}
use Rattle.redl_outcome.specs.Files.{asked_by}
use Rattle.redl_outcome.specs.Brought.{Brought}
use Rattle.redl_outcome.specs.Outcome.{outcome}
use Rattle.redl_inputs.specs.Packages.{package_file, package_in}
use Rattle.redl_inputs.specs.Readers.{Reader, IsReader}
use Rattle.redl_inputs.specs.Reading.{MayHold}
use Rattle.redl_lines.specs.declared.status.Status.{Status}
use Rattle.redl_outcome.specs.Answers.{IsWritten}
use Rattle.redl_outcome.specs.Plans.{Plan, Deciding, nothing, all_of_them, by_verdicts, package_of, plan}
use Rattle.redl_words.specs.Commands.{Command, IsCommand}
use Rattle.redl_index.specs.Numbers.{numbered_package}
use Rattle.redl_io.specs.Shelf.{Files}
use Rattle.redl_sound.specs.Held.{IsHeld}
use Rattle.redl_rules.specs.Attributes.{rules}
use Rattle.redl_tree.specs.Model.Nodes.{Nodes}
use Rattle.redl_tree.specs.Model.Seen.{Seen}
use Rattle.redl_tree.specs.Decisions.Fates.{fate_of}
use Rattle.redl_tree.specs.Decisions.Packages.{pass_package, stories}
use Rattle.redl_tree.specs.Rules.Sound.{is_sound}
use Rattle.redl_tree.specs.Decisions.Survivors.{text_pieces, survivors}
use Rattle.redl_tree.specs.Model.Text.{text}
use Rattle.redl_tree.specs.declared.kinds.Say.{Say}
use Rattle.redl_tree.specs.declared.kinds.Fate.TheVariants.{Leave}

-- this package, if a command decides on its revisions
abbrev pub if_decided : Deciding → Option (List ℕ) → Option (List ℕ)
if_decided nothing name = None
if_decided (all_of_them accept) name = name
if_decided by_verdicts name = name

-- the name of the package on whose revisions a command decides
abbrev pub decided_package : Plan → Option (List ℕ)
decided_package plan = if_decided plan.decides (package_of plan.makes)

-- these are the says of a command for the revisions of the package with this text and these nodes
abbrev pub AreSays : Reader → Files → Plan → Deciding → List ℕ → Nodes → List Say → Type 0
AreSays reader files plan nothing whole nodes says = ⊥
AreSays reader files plan (all_of_them accept) whole nodes says = says ≡ same_says (settling accept) nodes
AreSays reader files plan by_verdicts whole nodes says =
    (admission : Admission)
    × (opened reader files plan.locks plan.journals whole ≡ Ok admission)
    × (says ≡ says_of admission.state)

-- what the pass leaves of a package under these says
abbrev pub left_of : List Say → Nodes → Nodes
left_of says nodes = pass_package says (numbered_package nodes)

-- the bytes are the text of what the command leaves of the package of this name
pub record IsLeft (reader : Reader) (files : Files) (plan : Plan) (name bytes : List ℕ) : Type 0 where
  -- the text and the nodes of the package, and the says for its revisions
  pub whole : List ℕ
  pub nodes : Nodes
  pub says : List Say
  pub file : package_file files name ≡ Ok whole
  pub original : package_in reader whole ≡ Ok nodes
  pub decided : AreSays reader files plan plan.decides whole nodes says
  pub written : bytes ≡ text (left_of says nodes)
  -- the text pieces of its stories are those of the original that survive, byte for byte and in their order
  pub texts : map text_pieces (stories (left_of says nodes)) ≡ map (survivors says) (stories (numbered_package nodes))
  -- it keeps the rules of structure
  pub sound : is_sound rules (left_of says nodes) ≡ true
  -- an element whose revision a lock of the command holds is left as it is, whatever the journals say
  pub locked : (admission : Admission) (element : Seen) → opened reader files plan.locks plan.journals whole ≡ Ok admission
      → IsHeld admission.state element → fate_of (says_of admission.state) element.own.tag ≡ Leave

-- where a command decides on revisions and the outcome is written, its bytes are what is left of the package
abbrev pub LeavesSound : Reader → List (List ℕ) → Files → Brought → Type 0
LeavesSound reader words files brought =
    (command : Command) (name : List ℕ) → reader.command words ≡ Some command → decided_package (plan command) ≡ Some name
    → IsWritten (outcome reader words files brought).status → IsLeft reader files (plan command) name (outcome reader words files brought).bytes

-- the same of a call that ended with this status, over a shelf that tells this
abbrev pub Leaves : Status → Option Files → List (List ℕ) → Brought → Type 0
Leaves ended told words brought =
    IsWritten ended → (command : Command) (name : List ℕ) → IsCommand words command → decided_package (plan command) ≡ Some name
    → (files : Files) (reader : Reader) → IsReader reader → MayHold told (asked_by brought (reader.command words)) files
    → IsLeft reader files (plan command) name (outcome reader words files brought).bytes
