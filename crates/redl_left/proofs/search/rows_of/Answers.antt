use Rattle.std.proofs.Common.{◌≡◌, ◌∙◌, ◌++◌, ◌∷◌, ◌+◌, [], ap, sym, append_assoc, drop, get_or, List}
use Rattle.std.specs.Prelude.{filter}
use Rattle.std.proofs.lemmas.List.{drop_more}
use Rattle.redl_left.specs.Search.{may_ask}
use Rattle.redl_left.specs.declared.fact.Fact.TheVariants.{Ins}
use Rattle.redl_left.specs.declared.name.Name.TheVariants.{NumberingChange}
use Rattle.redl_left.specs.declared.row.Where.TheVariants.{Word}
use Rattle.redl_left.specs.declared.row.When.TheVariants.{Always}
use Rattle.redl_left.specs.declared.row.Value.TheVariants.{Nothing}
use Rattle.redl_left.specs.declared.row.Row.{Row}
use Rattle.redl_left.proofs.RowLaws.{filter-append}
use Rattle.redl_left.proofs.search.rows_of.Goals as goal

-- never met, since the place is among the rows
no_row : Row
no_row = record { fact = Ins; place = Word NumberingChange; when = Always; value = Nothing }

pub loop-row-preserved : goal.loop-row-preserved
unfolding no_row
loop-row-preserved c =
    let rows = c.args.rows.now in
    let i = c.loop-row.row-index in
    let row = get_or rows i no_row in
    let may = may_ask c.args.size in
    let rest = drop (i + 1) rows in
    let here : drop i rows ≡ row ∷ rest = drop_more rows i no_row c.loop-row-test.true in
    ap (λ (own : List Row). own ++ filter may rest) c.in_ok-push_row.ensures
    ∙ append_assoc c.loop-row.own.items (filter may (row ∷ [])) (filter may rest)
    ∙ ap (λ (more : List Row). c.loop-row.own.items ++ more) (sym (filter-append may (row ∷ []) rest) ∙ ap (filter may) (sym here))
    ∙ c.loop-row.invariant
