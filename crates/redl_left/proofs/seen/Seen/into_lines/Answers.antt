-- The lines of one fact after those of another.
use Rattle.std.proofs.Common.{◌≡◌, ◌∷◌, ◌++◌, [], ap, sym, ◌∙◌, rules, refl, map, List, Vec, Global, append_assoc, append-nil}
use Rattle.std.proofs.lemmas.List.{nil_from_length}
use Rattle.std.specs.Vec.Iter.{into_iter_items}
use Rattle.redl_left.specs.Lines.{all_lines}
use Rattle.redl_left.specs.declared.line.Line.{Line}
use Rattle.redl_left.proofs.seen.Seen.into_lines.Goals as goal

pub loop-lines-init : goal.loop-lines-init
loop-lines-init c =
    let items : into_iter_items c.into_iter-lines-iterator.result ≡ c.args.self.tables.items = search rules in
    rw (items, c.new-all.ensures.items) refl

pub loop-lines-preserved : goal.loop-lines-preserved
loop-lines-preserved c =
    let rest = into_iter_items c.next.new.self in
    let lines = c.in-Some.lines in
    let later : List Line = all_lines (map (λ lines. lines.items) rest) in
    let here : into_iter_items c.loop-lines.lines-iterator ≡ lines ∷ rest = c.in-Some.ensures.steps.0 in
    ap (λ (all : List Line). all ++ later) c.in_ok-append.ensures.items
    ∙ append_assoc c.loop-lines.all.items lines.items later
    ∙ ap (λ (its : List (Vec Line Global)). c.loop-lines.all.items ++ all_lines (map (λ lines. lines.items) its)) (sym here)
    ∙ c.loop-lines.invariant

pub returns : goal.returns
returns c =
    let none : into_iter_items c.loop-lines.lines-iterator ≡ [] =
    nil_from_length _ (sym c.loop-lines.lines-iterator.rest.ok.0 ∙ c.in-None.ensures.steps.0) in
    sym (append-nil c.loop-lines.all.items) ∙ (rw none at c.loop-lines.invariant)
