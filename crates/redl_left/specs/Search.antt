-- What a walk asks of each element, as code keeps it: the rows that may ask for an element are listed by the length of its name.
use Rattle.std.specs.Prelude.{◌≡◌, ℕ, ◌==◌, ◌&&◌, List, Bool, true, map, get_or, length, codes, None, if◌then◌else◌}
use Rattle.redl_tree.specs.declared.kinds.Space.{Space}
use Rattle.redl_left.specs.Finds.{Table, first_row}
use Rattle.redl_left.specs.Names.{name_text}
use Rattle.redl_left.specs.Named.{named_of}
use Rattle.redl_left.specs.declared.fact.Fact.{Fact}
use Rattle.redl_left.specs.declared.row.Where.{Where}
use Rattle.redl_left.specs.declared.row.Where.TheVariants.{Word, AnyWord, Inside, Part}
use Rattle.redl_left.specs.declared.row.Row.{Row}
use Rattle.redl_left.specs.Lines.{naming}
use Rattle.redl_left.specs.declared.rows.TheConstants.{ROWS}
use Rattle.redl_left.specs.declared.search.Search.{Search}
use Rattle.redl_left.specs.declared.search.Search.TheVariants.{Naming, Asking}

-- the row may ask for an element whose name has n bytes
abbrev pub may_ask_at : ℕ → Where → Bool
may_ask_at n (Word name) = length (name_text name) == n
may_ask_at n AnyWord = true
may_ask_at n (Inside outer name) = length (name_text name) == n
may_ask_at n Part = length (codes "part") == n

abbrev pub may_ask : ℕ → Row → Bool
may_ask n row = may_ask_at n row.place

-- these rows, or all where none are listed
abbrev pub rows_at : List (List Row) → List Row → ℕ → List Row
rows_at lists rows n = get_or lists n rows

-- of these rows the same one is the first for each element whose name has n bytes
abbrev pub Agree : List Row → ℕ → List Row → Type 0
Agree rows n own =
    (named : Fact → List ℕ → Bool) (parent : List ℕ) (space : Space) (local tail : List ℕ) → length local ≡ n
    → first_row named own parent space local tail ≡ first_row named rows parent space local tail

-- an element has a name of one letter and no attribute: no row asks for it
abbrev pub is_bare : List ℕ → List ℕ → Bool
is_bare local tail = length tail == 0 && length local == 1

-- what is asked where these rows are listed, and these values are named
abbrev pub listed_table : List (List Row) → (Fact → List ℕ → Bool) → Table
listed_table lists named = record {
  first = λ parent space local tail. if is_bare local tail then None else first_row named (rows_at lists ROWS (length local)) parent space local tail;
  by_kind = true;
  named = named;
}

abbrev pub table_of : Search → Table
table_of Naming = naming
table_of (Asking by_length named) = listed_table (map (λ own. own.items) by_length.items) (named_of named)
