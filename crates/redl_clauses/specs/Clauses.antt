-- The clauses of the revisions of a package, and details with them (our own rule).
use Rattle.std.specs.Prelude.{ℕ, ◌+◌, Bool, List, [], ◌∷◌, codes, length, replicate, slice_get, Option, Some, None, option_and_then, unwrap_or, if◌then◌else◌}
use Rattle.std.specs.Str.{is_utf8}
use Rattle.redl_tree.specs.Decisions.Packages.{stories}
use Rattle.redl_tree.specs.Model.Nodes.{Nodes}
use Rattle.redl_tree.specs.Model.View.{Element}
use Rattle.redl_excerpts.specs.Details as details
use Rattle.redl_excerpts.specs.declared.detail.Detail.{Detail}
use Rattle.redl_index.specs.declared.revision.Revision.{Revision}
use Rattle.redl_journal.specs.declared.entry.Entry.{Entry}
use Rattle.redl_lists.specs.Tables.{kids_in, tables_of}
use Rattle.redl_lists.specs.declared.table.Tables.{Tables}
use Rattle.redl_numbering.specs.Counts.{is_filled, nothing_counted}
use Rattle.redl_relations.specs.Relations.{document_part, part_by_type, xml_data}
use Rattle.redl_clauses.specs.Walks.{Walk, settled, walked}

-- ---- the numbering part and the styles part

-- what holds the part to which the relationship of the document with such a type leads, if there is one
abbrev pub held_by_type : Nodes → List ℕ → Option ℕ → Option Element
held_by_type nodes ending None = None
held_by_type nodes ending (Some document) = option_and_then (xml_data nodes) (part_by_type nodes document ending)

abbrev pub held : Nodes → List ℕ → Option Element
held nodes ending = held_by_type nodes ending (document_part nodes)

abbrev pub package_tables : Nodes → Tables
package_tables nodes = tables_of (kids_in (held nodes (codes "/numbering"))) (kids_in (held nodes (codes "/styles")))

-- ---- stories

-- each story begins anew
abbrev pub story_walked : Tables → Element → Walk → Walk
story_walked tables root w = settled [] (walked tables root.kids (record w { counts = nothing_counted }))

abbrev pub stories_walked : Tables → List Element → Walk → Walk
stories_walked tables [] w = w
stories_walked tables (root ∷ roots) w = stories_walked tables roots (story_walked tables root w)

-- nothing is known of so many revisions
abbrev pub begin : ℕ → Walk
begin count = record { counts = nothing_counted; told = replicate count None; waiting = [] }

-- what is said of the places of so many revisions
abbrev pub clauses_of : Nodes → ℕ → List (Option (List ℕ))
clauses_of nodes count = (stories_walked (package_tables nodes) (stories nodes) (begin count)).told

-- ---- details

-- a text that says something
abbrev pub clause_if_any : List ℕ → Option (List ℕ)
clause_if_any text = if is_filled text then Some text else None

-- the clause, where there is one, in UTF-8
abbrev pub shown_clause : List ℕ → Option (List ℕ)
shown_clause clause = if is_utf8 clause then clause_if_any clause else None

abbrev pub clause_at : List (Option (List ℕ)) → ℕ → Option (List ℕ)
clause_at told place = shown_clause (unwrap_or (unwrap_or (slice_get told place) None) [])

-- details with these clauses, of which the first stands at this place
abbrev pub clauses_from : ℕ → List Detail → List (Option (List ℕ)) → List Detail
clauses_from place [] told = []
clauses_from place (detail ∷ more) told = details.with_clause detail (clause_at told place) ∷ clauses_from (place + 1) more told

-- the details of the revisions of a package that are wanted, with the clauses of all, on which a book has these entries
unfoldable pub numbered_details : Nodes → List Revision → List Bool → List Entry → List Detail
numbered_details nodes revisions wanted book = clauses_from 0 (details.package_details nodes revisions wanted book) (clauses_of nodes (length revisions))
