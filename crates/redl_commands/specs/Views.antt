-- What a clause sees of the code's values.
use Rattle.std.specs.Prelude.{ℕ, List}
use Rattle.redl_commands.specs.Check.{sound_text}
use Rattle.redl_commands.specs.Join.{book_text}
use Rattle.redl_commands.specs.Writing.{Writing}
use Rattle.redl_commands.specs.declared.output.Output.{Output}
use Rattle.redl_commands.specs.declared.output.Output.TheVariants as output
use Rattle.redl_commands.specs.declared.output.Writing.{Writing as DeclaredWriting}
use Rattle.redl_inputs.specs.Views.{document_view}
use Rattle.redl_lines.specs.Remarks.{remarks_view}
use Rattle.redl_sample.specs.Summaries.{summary_text}
use Rattle.redl_tree.specs.Model.Text.{text}
use Rattle.redl_tree.specs.Model.View.{nodes_of}

-- what goes out
abbrev pub output_text : Output → List ℕ
output_text (output.Package nodes) = text (nodes_of nodes.items)
output_text (output.Count count) = sound_text count
output_text (output.Journal document book) = book_text (document_view document) book
output_text (output.Listing text) = text.items
output_text (output.Summary summary) = summary_text summary

-- a command's output and remarks as plain data
abbrev pub writing_view : DeclaredWriting → Writing
writing_view writing = record { bytes = output_text writing.output; remarks = remarks_view writing.remarks }
