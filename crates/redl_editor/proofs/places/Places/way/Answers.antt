use Rattle.std.proofs.Common.{◌≡◌, ◌-◌, suc, length, take, drop, ap, ◌∙◌, arith}
use Rattle.redl_editor.proofs.PlaceLaws.{ends-count, start-below, start-within, way-cut}
use Rattle.redl_editor.specs.Places.{start_at}
use Rattle.redl_editor.proofs.places.Places.way.Goals as goal
use Rattle.redl_editor.proofs.places.Places.way.Goals.{else-start-end-via-then-start-end+else-end-len, else-start-end-via-else-start-end}

pub returns-then-end-len : goal.returns-then-end-len
returns-then-end-len c = λ ways has within.
    let leaf = c.args.leaf in
    let start : c.start_of-start.result ≡ start_at leaf ways =
    c.start_of-start.ensures ways (c.deref.ensures.value ∙ has.ends) (omega (arith, within)) in
    let next : c.saturating_add.result ≡ suc leaf =
    omega (arith, c.saturating_add.ensures, within, ap length has.ends, ends-count 0 ways, ap length c.deref-2.ensures.value, c.deref-2.type_inv.1) in
    let end : c.start_of-end.result ≡ start_at (suc leaf) ways =
    c.start_of-end.ensures ways (c.deref-2.ensures.value ∙ has.ends) (omega (arith, within, next)) ∙ ap (λ k. start_at k ways) next in
    let steps = c.deref-then-end-len.ensures.value ∙ has.steps in
    ap (λ n. take (n - c.start_of-start.result) (drop c.start_of-start.result c.deref-then-end-len.result.now)) end
    ∙ ap (λ n. take (start_at (suc leaf) ways - n) (drop n c.deref-then-end-len.result.now)) start
    ∙ ap (λ xs. take (start_at (suc leaf) ways - start_at leaf ways) (drop (start_at leaf ways) xs)) steps
    ∙ way-cut leaf ways within

pub returns : goal.returns
returns c = λ ways has within.
    let leaf = c.args.leaf in
    let start : c.start_of-start.result ≡ start_at leaf ways =
    c.start_of-start.ensures ways (c.deref.ensures.value ∙ has.ends) (omega (arith, within)) in
    let next : c.saturating_add.result ≡ suc leaf =
    omega (arith, c.saturating_add.ensures, within, ap length has.ends, ends-count 0 ways, ap length c.deref-2.ensures.value, c.deref-2.type_inv.1) in
    let end : c.start_of-end.result ≡ start_at (suc leaf) ways =
    c.start_of-end.ensures ways (c.deref-2.ensures.value ∙ has.ends) (omega (arith, within, next)) ∙ ap (λ k. start_at k ways) next in
    elim c.else-start-end.branch [
      | else-start-end-via-then-start-end+else-end-len w ↦
          absurd (omega (arith, end, w.len.ensures, w.if-end-len.false, ap length has.steps, start-within (suc leaf) ways))
      | else-start-end-via-else-start-end w ↦ absurd (omega (arith, start, end, w.if-start-end.false, start-below leaf ways within))
    ]
