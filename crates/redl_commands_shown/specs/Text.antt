-- `text P` and `left P`: the plain text of the package before or after its revisions, the original with its changes marked, its bare text, or what is
-- left in it that a reader doesn't see.
use Rattle.std.specs.Prelude.{ℕ, List, Result, Ok}
use Rattle.redl_bare.specs.BareText.{bare_text}
use Rattle.redl_commands.specs.Settle.{same_says}
use Rattle.redl_commands.specs.Writing.{Writing, only_bytes}
use Rattle.redl_index.specs.Numbers.{numbered_package}
use Rattle.redl_inputs.specs.Packages.{package_in}
use Rattle.redl_inputs.specs.Readers.{Reader}
use Rattle.redl_inputs.specs.Steps.{◌>>=◌}
use Rattle.redl_left.specs.Lines.{left_lines}
use Rattle.redl_left_texts.specs.Texts.{left_json, left_text}
use Rattle.redl_lines.specs.Failures.{Failure}
use Rattle.redl_marked.specs.MarkedText.{marked_text}
use Rattle.redl_shown.specs.Shown.{shown}
use Rattle.redl_terminal.specs.Masks.{masked}
use Rattle.redl_terminal.specs.declared.extent.Extent.TheVariants.{Lines}
use Rattle.redl_tree.specs.Decisions.Packages.{pass_package}
use Rattle.redl_tree.specs.Model.Nodes.{Nodes}
use Rattle.redl_tree.specs.declared.kinds.Say.{Say}
use Rattle.redl_tree.specs.declared.kinds.Say.TheVariants.{Accept, Reject}
use Rattle.redl_views.specs.PlainText.{plain_text}
use Rattle.redl_words.specs.declared.command.View.{View}
use Rattle.redl_words.specs.declared.command.View.TheVariants.{Original, Final, Marked, Bare, Left, LeftJson}

-- the plain text of what a pass leaves of a package, where all its revisions have one say
abbrev pub plain_under : Say → Nodes → List ℕ
plain_under say nodes = plain_text shown (pass_package (same_says say nodes) (numbered_package nodes))

-- The text of a package in a view. Before its revisions all of them are rejected, and after them all are accepted. What is for a reader
-- is as a terminal is given it; the bare text and JSON are exact.
abbrev pub text_in : View → Nodes → List ℕ
text_in Original nodes = masked Lines (plain_under Reject nodes)
text_in Final nodes = masked Lines (plain_under Accept nodes)
text_in Marked nodes = masked Lines (marked_text (numbered_package nodes))
text_in Bare nodes = bare_text (numbered_package nodes)
text_in Left nodes = left_text (left_lines (numbered_package nodes))
text_in LeftJson nodes = left_json (left_lines (numbered_package nodes))

-- what is written of the package with this text
abbrev pub viewed : Reader → View → List ℕ → Result Writing Failure
viewed reader view whole = do
  nodes ← package_in reader whole
  Ok (only_bytes (text_in view nodes))
