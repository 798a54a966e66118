-- `check P`: whether the package is sound, how many revisions it has, and how many other marks of changes.
use Rattle.std.specs.Prelude.{codes, decimal, ℕ, List, ◌++◌, Result, Ok}
use Rattle.redl_inputs.specs.Packages.{package_in}
use Rattle.redl_inputs.specs.Readers.{Reader}
use Rattle.redl_inputs.specs.Steps.{◌>>=◌}
use Rattle.redl_commands.specs.Notes.{with_marks}
use Rattle.redl_commands.specs.Writing.{Writing, only_bytes}
use Rattle.redl_index.specs.Numbers.{package_revisions, numbered_package}
use Rattle.redl_lines.specs.Failures.{Failure}
use Rattle.redl_lines.specs.Lines.{newline}
use Rattle.redl_tree.specs.Model.Nodes.{Nodes}

-- the line that tells of a sound package
abbrev pub sound_text : ℕ → List ℕ
sound_text count = codes "sound " ++ (decimal count ++ (codes " revisions" ++ newline))

-- what is told of a sound package
abbrev pub counted : Nodes → Writing
counted nodes = with_marks (numbered_package nodes) (only_bytes (sound_text (package_revisions nodes)))

-- what is written of the package with this text
abbrev pub checked : Reader → List ℕ → Result Writing Failure
checked reader whole = do
  nodes ← package_in reader whole
  Ok (counted nodes)
