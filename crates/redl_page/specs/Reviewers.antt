-- The list of reviewers in one pass: since the entries of a book are in their order, the last one of a reviewer's has their greatest
-- sequence number.
use Rattle.std.specs.Prelude.{List, [], ◌∷◌, ◌++◌, Option, Some, None, bytes_eq, if◌then◌else◌}
use Rattle.redl_journal.specs.declared.entry.Entry.{Entry}
use Rattle.redl_html.specs.Pieces.{HtmlPiece, own, number, outside}

-- the item of a reviewer of whom this is the last entry
abbrev pub item_of : Entry → List HtmlPiece
item_of last = own "<li data-sequence=\"" ∷ number last.seq ∷ own "\">" ∷ outside last.reviewer ∷ own "</li>\n" ∷ []

-- what is due after an entry, where another one comes next
abbrev pub item_before : Option Entry → Entry → List HtmlPiece
item_before None next = []
item_before (Some last) next = if bytes_eq last.reviewer next.reviewer then [] else item_of last

-- what is due after the last entry
abbrev pub item_at_end : Option Entry → List HtmlPiece
item_at_end None = []
item_at_end (Some last) = item_of last

-- the items that are due after an entry, and after each of these
abbrev pub items_from : Option Entry → List Entry → List HtmlPiece
items_from last [] = item_at_end last
items_from last (entry ∷ entries) = item_before last entry ++ items_from (Some entry) entries
