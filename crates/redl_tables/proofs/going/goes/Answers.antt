use Rattle.std.proofs.Common.{sym, ap, ◌∙◌}
use Rattle.redl_tables.proofs.StayLaws.{own-keeps}
use Rattle.redl_laws.proofs.Soundness.PartLaws.{row-keeps, table-keeps}
use Rattle.redl_tree.specs.Roles.Lists.{into}
use Rattle.redl_tree.specs.Decisions.Tables.{all_of_some, cell_is_cut, own, row_goes}
use Rattle.redl_tree.specs.Model.View.{nodes_of, tag_of, kids_of}
use Rattle.redl_tree.specs.declared.lists.Reach.TheVariants.{Direct}
use Rattle.redl_tables.proofs.going.goes.Goals as goal

pub returns-then-is_word-2-clause-row : goal.returns-then-is_word-2-clause-row
returns-then-is_word-2-clause-row c =
    let says = c.args.says.now in
    let gone = c.goes_itself-then-is_word-2.ensures ∙ ap (row_goes says) c.kids-then-is_word-2.ensures.kids in
    λ stays is_row full. row-keeps says (kids_of c.args.elem.now) full (sym gone ∙ stays)

pub returns-then-is_word-3-clause-table : goal.returns-then-is_word-3-clause-table
returns-then-is_word-3-clause-table c =
    let says = c.args.says.now in
    let gone = c.all_go.ensures ∙ ap (λ kids. all_of_some (row_goes says) (own "tr" Direct kids)) c.kids-then-is_word-3.ensures.kids in
    λ stays is_table full. table-keeps says (kids_of c.args.elem.now) full (sym gone ∙ stays)

pub returns-then-in_row-clause-shell : goal.returns-then-in_row-clause-shell
returns-then-in_row-clause-shell c =
    let test = cell_is_cut c.args.says.now in
    let reach = into Direct (tag_of c.args.elem.now) in
    let gone =
    c.all_go-then-in_row.ensures ∙ ap (λ r. all_of_some test (own "tc" r (nodes_of c.kids-then-in_row.result.now))) c.into.ensures
    ∙ ap (λ kids. all_of_some test (own "tc" reach kids)) c.kids-then-in_row.ensures.kids in
    rw c.if-in_row.true (λ stays is_shell full. own-keeps "tc" reach test (kids_of c.args.elem.now) full (sym gone ∙ stays))

pub returns-else-in_row-clause-shell : goal.returns-else-in_row-clause-shell
returns-else-in_row-clause-shell c =
    let test = row_goes c.args.says.now in
    let reach = into Direct (tag_of c.args.elem.now) in
    let gone =
    c.all_go-else-in_row.ensures ∙ ap (λ r. all_of_some test (own "tr" r (nodes_of c.kids-else-in_row.result.now))) c.into-else-in_row.ensures
    ∙ ap (λ kids. all_of_some test (own "tr" reach kids)) c.kids-else-in_row.ensures.kids in
    rw c.if-in_row.false (λ stays is_shell full. own-keeps "tr" reach test (kids_of c.args.elem.now) full (sym gone ∙ stays))
