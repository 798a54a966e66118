-- The bytes before the next tag are a piece of their own.
use Rattle.std.proofs.Common.{◌≢◌, ◌∙◌, ap, sym, subst, List, ℕ, []}
use Rattle.redl_grammar.specs.declared.section.Section.TheVariants.{InElement}
use Rattle.redl_grammar.specs.Pieces.{Stands, stretch}
use Rattle.redl_grammar.specs.Stretches.{begins_item}
use Rattle.redl_reading.specs.Lists.{after, is_other}
use Rattle.redl_left.proofs.PieceLaws.{filled, run_stands}
use Rattle.redl_left.proofs.pieces.run_before_tag.Goals as goal

pub returns : goal.returns
returns c = λ has.
    let t = c.args.bytes.now in
    let run = c.far_until.result.0.now in
    let rest = c.far_until.result.1.now in
    let some : run ≢ [] = filled run (sym c.is_empty.ensures ∙ c.if-is_empty.false) in
    let none = ap begins_item (sym c.far_until.ensures.rest) ∙ sym c.begins_item.ensures ∙ c.if-begins_item.false in
    let stands = run_stands t has (λ e. some (c.far_until.ensures.front ∙ e)) none in
    subst (λ (r : List ℕ). Stands InElement t (stretch run) r) (sym c.far_until.ensures.rest)
    (subst (λ (r : List ℕ). Stands InElement t (stretch r) (after (is_other 60) t)) (sym c.far_until.ensures.front) stands)
