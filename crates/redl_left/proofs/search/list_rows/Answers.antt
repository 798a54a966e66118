use Rattle.std.proofs.Common.{◌≡◌, ◌∙◌, ◌++◌, ◌∷◌, [], ap, sym, subst, map, length, arith, ℕ, List, Vec, Global}
use Rattle.std.proofs.lemmas.List.{map-append, length-map}
use Rattle.redl_left.specs.Search.{Agree, rows_at}
use Rattle.redl_left.specs.declared.row.Row.{Row}
use Rattle.redl_left.proofs.RowLaws.{agree_filtered, each-push}
use Rattle.redl_left.proofs.search.list_rows.Goals as goal

pub loop-alloc-preserved : goal.loop-alloc-preserved
loop-alloc-preserved c = λ n.
    let rows = c.args.rows.now in
    let rows_in : Vec Row Global → List Row = λ own. own.items in
    let old = map rows_in c.loop-alloc.lists.items in
    let own = c.in_ok-own.own.items in
    let At : List (List Row) → Type 0 = λ lists. Agree rows n (rows_at lists rows n) in
    let more : map rows_in c.push.new.self.items ≡ old ++ own ∷ [] =
    ap (map rows_in) c.in_ok-push.ensures.items ∙ map-append rows_in c.loop-alloc.lists.items (c.in_ok-own.own ∷ []) in
    let of_size : Agree rows c.len-size.result own = subst (Agree rows c.len-size.result) (sym c.in_ok-own.ensures) (agree_filtered rows c.len-size.result) in
    let last : Agree rows (length old) own = let At_size : ℕ → Type 0 = λ m. Agree rows m own in
    subst At_size (omega (arith, c.len-size.ensures, length-map c.loop-alloc.lists.items rows_in)) of_size in
    subst At (sym more) (each-push (Agree rows) rows old own c.loop-alloc.invariant last n)
