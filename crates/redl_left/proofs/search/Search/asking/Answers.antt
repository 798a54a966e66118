-- The listed rows have the same first one as all of them, whatever is asked, and none of them asks for an element of one letter
-- without an attribute.
use Rattle.std.proofs.Common.{ap, refl, ℕ, List, Vec, Global, true, Option, length, map}
use Rattle.std.proofs.Math.Path.{fun_ext}
use Rattle.redl_tree.specs.declared.kinds.Space.{Space}
use Rattle.redl_left.specs.Finds.{Table, first_row}
use Rattle.redl_left.specs.Named.{named_of}
use Rattle.redl_left.specs.Search.{rows_at}
use Rattle.redl_left.specs.declared.row.Row.{Row}
use Rattle.redl_left.specs.declared.rows.TheConstants.{ROWS}
use Rattle.redl_left.proofs.BareLaws.{unless_bare}
use Rattle.redl_left.proofs.search.Search.asking.Goals as goal

pub returns : goal.returns
returns c =
    let named = named_of c.args.named in
    let lists = map (λ (own : Vec Row Global). own.items) c.in_ok-by_length.by_length.items in
    let with_first : (List ℕ → Space → List ℕ → List ℕ → Option Row) → Table = λ first. record { first = first; by_kind = true; named = named } in
    ap with_first (fun_ext (λ (parent : List ℕ). fun_ext (λ (space : Space). fun_ext (λ (local : List ℕ). fun_ext (λ (tail : List ℕ).
    unless_bare named parent space local tail (first_row named (rows_at lists ROWS (length local)) parent space local tail)
    (c.in_ok-by_length.ensures (length local) named parent space local tail refl))))))
