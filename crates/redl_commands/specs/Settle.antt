-- `settle accept P` and `settle reject P`: the package under one say for all its revisions.
use Rattle.std.specs.Prelude.{ℕ, Bool, true, false, List, replicate, Result, Ok}
use Rattle.redl_inputs.specs.Packages.{package_in}
use Rattle.redl_inputs.specs.Readers.{Reader}
use Rattle.redl_inputs.specs.Steps.{◌>>=◌}
use Rattle.redl_commands.specs.Notes.{with_result_notes}
use Rattle.redl_commands.specs.Writing.{Writing, only_bytes}
use Rattle.redl_index.specs.Numbers.{package_revisions, numbered_package}
use Rattle.redl_lines.specs.Failures.{Failure}
use Rattle.redl_tree.specs.Decisions.Packages.{pass_package}
use Rattle.redl_tree.specs.Model.Nodes.{Nodes}
use Rattle.redl_tree.specs.Model.Text.{text}
use Rattle.redl_tree.specs.declared.kinds.Say.{Say}
use Rattle.redl_tree.specs.declared.kinds.Say.TheVariants.{Accept, Reject}

-- what is left of a package under a say for each revision: the pass of the original, in which each member of a revision has
-- the revision's kind and number
abbrev pub passed : List Say → Nodes → Nodes
passed says nodes = pass_package says (numbered_package nodes)

-- its text
abbrev pub passed_text : List Say → Nodes → List ℕ
passed_text says nodes = text (passed says nodes)

-- one say for all revisions
abbrev pub same_says : Say → Nodes → List Say
same_says say nodes = replicate (package_revisions nodes) say

-- the say of `settle accept`, and of `settle reject`
abbrev pub settling : Bool → Say
settling true = Accept
settling false = Reject

-- what is written of a package, with a note of the marks that are left in it and those of what keeps it from being read again
abbrev pub settled_under : Say → Nodes → Writing
settled_under say nodes = with_result_notes (passed (same_says say nodes) nodes) (only_bytes (passed_text (same_says say nodes) nodes))

-- what is written of the package with this text
abbrev pub settled : Reader → Bool → List ℕ → Result Writing Failure
settled reader accept whole = do
  nodes ← package_in reader whole
  Ok (settled_under (settling accept) nodes)
