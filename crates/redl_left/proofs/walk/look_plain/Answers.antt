-- What the pieces of the text are found to be is what its nodes are found to be.
use Rattle.std.proofs.Common.{List, ℕ, ap, sym, ◌∙◌}
use Rattle.std.proofs.lemmas.Result.{on_ok_weaker}
use Rattle.redl_tree.specs.Model.IdleTexts.{idle_nodes, is_idle_text}
use Rattle.redl_left.specs.Finds.{Find, finds}
use Rattle.redl_left.specs.Lines.{noted_all}
use Rattle.redl_left.specs.Search.{table_of}
use Rattle.redl_left.specs.Seen.{tables_of}
use Rattle.redl_left.proofs.PieceLaws.{kept_finds, kept_pieces}
use Rattle.redl_left.proofs.walk.look_plain.Goals as goal

pub returns-then-passes-clause-noted : goal.returns-then-passes-clause-noted
returns-then-passes-clause-noted c = λ parent.
    let table = table_of c.args.below.search.now in
    let part = c.args.below.part.now in
    ap (λ (found : List Find). noted_all (tables_of c.args.seen.now) found)
    (sym (ap (λ (t : List ℕ). finds table part parent (idle_nodes t)) (sym c.text.ensures.text) ∙ c.passes.ensures c.if-passes.true part parent))

pub look_pieces-requires-clause-pieces : goal.look_pieces-requires-clause-pieces
look_pieces-requires-clause-pieces c =
    kept_pieces c.args.plain.now c.text-2.result.now (ap is_idle_text (sym c.text-2.ensures.text) ∙ c.text-2.ensures.idle) c.text-2.ensures.nodes

pub returns-clause-noted : goal.returns-clause-noted
returns-clause-noted c = λ parent.
    let t = c.args.plain.now in
    let is = ap is_idle_text (sym c.text-2.ensures.text) ∙ c.text-2.ensures.idle in
    let has = kept_pieces t c.text-2.result.now is c.text-2.ensures.nodes in
    on_ok_weaker c.look_pieces.result (λ n.
    n ∙ ap (λ (found : List Find). noted_all (tables_of c.args.seen.now) found) (kept_finds c.args.below.search.now c.args.below.part.now parent t is)) (c.look_pieces.ensures.noted has)
