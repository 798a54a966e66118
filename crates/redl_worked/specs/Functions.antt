-- A reader of texts and of words as functions on lists, which can be computed.
use Rattle.std.specs.Prelude.{ℕ, List, Bool, ◌&&◌, Option, None, if◌then◌else◌}
use Rattle.std.specs.List.{list_all}
use Rattle.std.specs.Str.{chars, is_utf8}
use Rattle.redl_grammar.specs.Characters.{is_character}
use Rattle.redl_inputs.specs.Readers.{Reader}
use Rattle.redl_journal.specs.Reading.{journal_in}
use Rattle.redl_tree.specs.Model.Nodes.{Nodes}
use Rattle.redl_words.specs.Reading.Commands.{command_in}
use Rattle.redl_xml.specs.Inside.Documents.{document_at}

-- the bytes are the UTF-8 of allowed characters
abbrev pub is_text : List ℕ → Bool
is_text bytes = is_utf8 bytes && list_all is_character (chars bytes)

-- the tree of a text, read from the left
abbrev pub tree_of : List ℕ → Option Nodes
tree_of bytes = if is_text bytes then document_at bytes else None

abbrev pub functions : Reader
functions = record { tree = tree_of; journal = journal_in; command = command_in }
