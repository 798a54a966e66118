-- The values that are named are those of the lines that the first walk gave.
use Rattle.std.proofs.Common.{◌≡◌, ◌∙◌, ap, ℕ, List, Bool, true, map, Vec, Global}
use Rattle.std.proofs.Math.Path.{fun_ext}
use Rattle.std.proofs.lemmas.Result.{IfOk-weaker}
use Rattle.redl_tree.specs.Model.View.{nodes_of}
use Rattle.redl_left.specs.Finds.{Table, rows_table}
use Rattle.redl_left.specs.Lines.{all_lines, asking, left_lines, naming_tables, tables_of_nodes}
use Rattle.redl_left.specs.Named.{named_in, named_of}
use Rattle.redl_left.specs.declared.fact.Fact.{Fact}
use Rattle.redl_left.specs.declared.line.Line.{Line}
use Rattle.redl_left.specs.declared.rows.TheConstants.{ROWS}
use Rattle.redl_left.proofs.left.lines.Goals as goal

pub returns : goal.returns
unfolding left_lines
returns c =
    let nodes = nodes_of c.args.nodes.now in
    let lines_in : Vec Line Global → List Line = λ lines. lines.items in
    let first = ap (λ (tables : List (Vec Line Global)). map lines_in tables) c.deref.ensures.value in
    let names : named_of c.in_ok-named.named ≡ named_in (naming_tables nodes) =
    fun_ext (λ fact. fun_ext (λ value. c.in_ok-named.ensures fact value ∙ ap (λ (tables : List (List Line)). named_in tables fact value) first ∙ c.in_ok-naming.ensures.named fact value)) in
    IfOk-weaker c.into_lines.result _ (λ (lines : Vec Line Global). lines.items ≡ all_lines (tables_of_nodes (asking nodes) nodes))
    (λ lines e. e ∙ ap all_lines (c.in_ok-seen.ensures ∙ ap (λ (table : Table). tables_of_nodes table nodes) c.in_ok-search.ensures
    ∙ ap (λ (named : Fact → List ℕ → Bool). tables_of_nodes (rows_table ROWS true named) nodes) names))
    c.into_lines.ensures
