-- Laws of the parts of a pass: restored properties have no element that was neither current nor former, a row that stays
-- keeps a cell, and a table that stays keeps a row.
use Rattle.std.proofs.Common.{◌≡◌, List, [], ◌∷◌, Bool, true, false, true≢false, not, sym, ◌∙◌}
use Rattle.std.proofs.lemmas.Bool.{or_parts}
use Rattle.std.specs.List.{list_all}
use Rattle.redl_tree.specs.Model.Nodes.{Tag, Nodes}
use Rattle.redl_tree.specs.Model.Kids.{only, without, some_element}
use Rattle.redl_tree.specs.Decisions.Restored.{is_uncovered, restored}
use Rattle.redl_tree.specs.Decisions.Tables.{own, has_own, all_of_some, cell_is_cut, row_is_cut, row_goes, cells_go, rows_go}
use Rattle.redl_tree.specs.declared.kinds.Prop.{Prop}
use Rattle.redl_tree.specs.declared.kinds.Prop.TheVariants.{Run, Para, Sect, Table, Except, Row as RowProp, Cell as CellProp}
use Rattle.redl_tree.specs.declared.lists.Reach.TheVariants.{Direct}
use Rattle.redl_tree.specs.declared.kinds.Say.{Say}
use Rattle.redl_laws.proofs.Soundness.Walk.{some-⊕}
use Rattle.redl_laws.proofs.Soundness.Properties.{some-only, some-without}
use Rattle.redl_laws.proofs.Soundness.RowLaws.{is_empty, own-has}

-- an element that is neither among the current kids nor among the former ones isn't among the restored ones
pub restored-adds : (test : Tag → Bool) (prop : Prop) (current former : Nodes) → some_element test current ≡ false → some_element test former ≡ false →
    some_element test (restored prop current former) ≡ false
restored-adds test Run current former c f = some-⊕ test (only (is_uncovered Run) current) (without (is_uncovered Run) former) (some-only test (is_uncovered Run) current c) (some-without test (is_uncovered Run) former f)
restored-adds test Para current former c f = some-⊕ test (without (is_uncovered Para) former) (only (is_uncovered Para) current) (some-without test (is_uncovered Para) former f) (some-only test (is_uncovered Para) current c)
restored-adds test Sect current former c f = some-⊕ test (only (is_uncovered Sect) current) (without (is_uncovered Sect) former) (some-only test (is_uncovered Sect) current c) (some-without test (is_uncovered Sect) former f)
restored-adds test Table current former c f = f
restored-adds test Except current former c f = f
restored-adds test RowProp current former c f = some-⊕ test (without (is_uncovered RowProp) former) (only (is_uncovered RowProp) current) (some-without test (is_uncovered RowProp) former f) (some-only test (is_uncovered RowProp) current c)
restored-adds test CellProp current former c f = some-⊕ test (without (is_uncovered CellProp) former) (only (is_uncovered CellProp) current) (some-without test (is_uncovered CellProp) former f) (some-only test (is_uncovered CellProp) current c)

some_stays : {X : Type 0} (test : X → Bool) (xs : List X) → not (is_empty xs) ≡ true → all_of_some test xs ≡ false → list_all test xs ≡ false
some_stays test [] full e = absurd (true≢false (sym full))
some_stays test (x ∷ xs) full e = e

-- a row that stays has a cell that stays, where it had one
pub row-keeps : (says : List Say) (kids : Nodes) → has_own "tc" Direct kids ≡ true → row_goes says kids ≡ false → list_all (cell_is_cut says) (own "tc" Direct kids) ≡ false
row-keeps says kids full e =
    some_stays (cell_is_cut says) (own "tc" Direct kids) (sym (own-has "tc" Direct kids) ∙ full) (or_parts (row_is_cut says kids) (cells_go says Direct kids) e).1

-- a table that stays has a row that stays, where it had one
pub table-keeps : (says : List Say) (kids : Nodes) → has_own "tr" Direct kids ≡ true → rows_go says Direct kids ≡ false → list_all (row_goes says) (own "tr" Direct kids) ≡ false
table-keeps says kids full e = some_stays (row_goes says) (own "tr" Direct kids) (sym (own-has "tr" Direct kids) ∙ full) e
