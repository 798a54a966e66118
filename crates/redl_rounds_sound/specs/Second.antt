-- A package that a call wrote, as the package of a later call: so `check` takes what `write` wrote, and a second round can begin (our own
-- rule).
use Rattle.std.specs.Prelude.{◌≡◌, ◌≤◌, ℕ, true, List, Some, Ok, length}
use Rattle.redl_commands.specs.Check.{sound_text}
use Rattle.redl_commands.specs.Writing.{Outcome}
use Rattle.redl_index.specs.Numbers.{package_revisions}
use Rattle.redl_inputs.specs.Packages.{package_file, package_in}
use Rattle.redl_inputs.specs.Readers.{Reader}
use Rattle.redl_inputs.specs.Steps.{◌>>=◌}
use Rattle.redl_io.specs.Limits.{depth as depth_limit, package_bytes}
use Rattle.redl_io.specs.Shelf.{Files}
use Rattle.redl_outcome.specs.Answers.{IsWritten}
use Rattle.redl_outcome.specs.Brought.{Brought}
use Rattle.redl_outcome.specs.Left.{IsLeft, decided_package, left_of}
use Rattle.redl_outcome.specs.Outcome.{outcome}
use Rattle.redl_outcome.specs.Plans.{Plan, plan}
use Rattle.redl_reread_sound.specs.Again.{again}
use Rattle.redl_reread_sound.specs.Together.{meet_well}
use Rattle.redl_rounds_sound.specs.Rounds.{IsDoneWith}
use Rattle.redl_tree.specs.Model.Nodes.{Nodes}
use Rattle.redl_tree.specs.Model.Shapes.{depth_of}
use Rattle.redl_words.specs.Commands.{Command, check}

-- The file of this name is what a call wrote, and a call takes a package that is so long.
pub record IsPackageFile (files : Files) (name : List ℕ) (call : Outcome) : Type 0 where
  pub done : IsWritten call.status
  pub held : files name ≡ Some call.bytes
  pub short : length call.bytes ≤ package_bytes

-- No stretches of these nodes that meet form `]]>`, and they are no deeper than a package may be.
pub record CanBeRead (nodes : Nodes) : Type 0 where
  pub meet : meet_well nodes ≡ true
  pub shallow : depth_of nodes ≤ depth_limit

-- The file of this name is a sound package with these nodes, and `check` tells how many revisions it has.
pub record IsSecond (reader : Reader) (files : Files) (brought : Brought) (name : List ℕ) (nodes : Nodes) : Type 0 where
  pub package_ : package_file files name >>= package_in reader ≡ Ok nodes
  pub checked : (words : List (List ℕ)) → reader.command words ≡ Some (check name)
      → IsDoneWith reader words files brought (sound_text (package_revisions nodes))

-- A call left this of a package, and the file of this name is a package with these nodes again, if they can be read.
pub record IsTakenAgain (reader : Reader) (files : Files) (brought : Brought) (made : Plan) (p name bytes : List ℕ) : Type 0 where
  pub left : IsLeft reader files made p bytes
  pub second : CanBeRead (left_of left.says left.nodes) → IsSecond reader files brought name (again (left_of left.says left.nodes))

-- So it is with every call that decides on revisions.
abbrev pub LeftIsTakenAgain : Reader → Files → Brought → Type 0
LeftIsTakenAgain reader files brought =
    (words : List (List ℕ)) (command : Command) (p name : List ℕ)
    → reader.command words ≡ Some command
    → decided_package (plan command) ≡ Some p
    → IsPackageFile files name (outcome reader words files brought)
    → IsTakenAgain reader files brought (plan command) p name (outcome reader words files brought).bytes
