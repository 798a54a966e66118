-- What a call tells of a package that it writes: a later call takes it as a package exactly unless the call told that it will not be read
-- again (our own rule).
use Rattle.std.specs.Prelude.{◌≡◌, ◌≢◌, ℕ, List, [], ◌++◌, length, nat_lt, not, Some, Result, Ok, Err, IsErr, if◌then◌else◌}
use Rattle.std.specs.List.{flat_map}
use Rattle.redl_commands.specs.Notes.{again_notes}
use Rattle.redl_commands.specs.Writing.{Outcome}
use Rattle.redl_inputs.specs.Packages.{package_file, package_in}
use Rattle.redl_inputs.specs.Readers.{Reader}
use Rattle.redl_inputs.specs.Steps.{◌>>=◌}
use Rattle.redl_io.specs.Limits.{depth as depth_limit, package_bytes}
use Rattle.redl_io.specs.Shelf.{Files}
use Rattle.redl_lines.specs.Failures.{Failure, caused, no_package, over}
use Rattle.redl_lines.specs.Lines.{note_line}
use Rattle.redl_lines.specs.declared.failure.Limit.TheVariants.{PackageBytes, Depth}
use Rattle.redl_lines.specs.declared.failure.PackageFault.TheVariants.{NotReadable}
use Rattle.redl_outcome.specs.Answers.{IsWritten}
use Rattle.redl_outcome.specs.Brought.{Brought}
use Rattle.redl_outcome.specs.Left.{IsLeft, decided_package, left_of}
use Rattle.redl_outcome.specs.Outcome.{outcome}
use Rattle.redl_outcome.specs.Plans.{Plan, plan}
use Rattle.redl_reread_sound.specs.Again.{again}
use Rattle.redl_reread_sound.specs.Together.{meet_well}
use Rattle.redl_rounds_sound.specs.Second.{IsSecond}
use Rattle.redl_tree.specs.Model.Nodes.{Nodes}
use Rattle.redl_tree.specs.Model.Shapes.{depth_of}
use Rattle.redl_tree.specs.Model.Text.{text}
use Rattle.redl_words.specs.Commands.{Command, check}

-- the last lines of a call tell what keeps the text of these nodes from being read again, a line for each obstacle
pub record TellsOf (call : Outcome) (nodes : Nodes) : Type 0 where
  pub before : List ℕ
  pub lines : call.lines ≡ before ++ flat_map note_line (again_notes nodes)

-- What a later call takes of the text of what was left of a package: these nodes again. Or why it takes nothing: the text is longer than a
-- package may be, has no tree, or has one that is deeper.
abbrev pub taken_again : Nodes → Result Nodes Failure
taken_again nodes =
    if nat_lt package_bytes (length (text nodes)) then Err (caused (over PackageBytes))
    else if not (meet_well nodes) then Err (caused (no_package NotReadable))
    else if nat_lt depth_limit (depth_of nodes) then Err (caused (over Depth))
    else Ok (again nodes)

-- No call takes the file of this name as a package, and `check` refuses it.
pub record IsNoPackage (reader : Reader) (files : Files) (brought : Brought) (name : List ℕ) : Type 0 where
  pub package_ : IsErr (package_file files name >>= package_in reader)
  pub checked : (words : List (List ℕ)) → reader.command words ≡ Some (check name) → ¬ IsWritten (outcome reader words files brought).status

-- A call left this of a package and told of it. The file of this name, which is what it wrote, is a package with these nodes again exactly if
-- there was nothing to tell.
pub record IsTakenUnlessTold (reader : Reader) (files : Files) (brought : Brought) (made : Plan) (p name : List ℕ) (call : Outcome) : Type 0 where
  pub left : IsLeft reader files made p call.bytes
  pub told : TellsOf call (left_of left.says left.nodes)
  pub second : again_notes (left_of left.says left.nodes) ≡ [] → IsSecond reader files brought name (again (left_of left.says left.nodes))
  pub refused : again_notes (left_of left.says left.nodes) ≢ [] → IsNoPackage reader files brought name
  pub taken : package_file files name >>= package_in reader ≡ taken_again (left_of left.says left.nodes)

-- So it is with every call that decides on revisions.
abbrev pub TakenUnlessTold : Reader → Files → Brought → Type 0
TakenUnlessTold reader files brought =
    (words : List (List ℕ)) (command : Command) (p name : List ℕ)
    → reader.command words ≡ Some command
    → decided_package (plan command) ≡ Some p
    → IsWritten (outcome reader words files brought).status
    → files name ≡ Some (outcome reader words files brought).bytes
    → IsTakenUnlessTold reader files brought (plan command) p name (outcome reader words files brought)
