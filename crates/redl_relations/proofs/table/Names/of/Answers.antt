-- Part by part.
use Rattle.std.proofs.Common.{◌+◌, ◌<◌, ◌≤◌, ap, sym, ◌∙◌, arith, drop, length, Bool, Option, Some, None, true, false, ◌≡◌, ℕ, if◌then◌else◌, refl}
use Rattle.redl_reading.specs.Steps.{or_else}
use Rattle.redl_opc.specs.Shape.{parts_of}
use Rattle.redl_relations.specs.Relations.{has_part_name, number_from}
use Rattle.redl_relations.specs.Inside.Parts.{is_at}
use Rattle.redl_relations.specs.Inside.Tables.{number_at}
use Rattle.redl_relations.proofs.Laws.{number-here, number-end, or_else-none, or_else-assoc}
use Rattle.redl_relations.proofs.table.Names.of.Goals as goal

one_more : (b : Bool) (x : ℕ) (rest : Option ℕ) → or_else (if b then Some x else None) rest ≡ (if b then Some x else rest)
one_more true x rest = refl
one_more false x rest = refl

pub loop-part-preserved : goal.loop-part-preserved
loop-part-preserved c = λ name.
    let nodes = c.args.pkg.now in
    let n = c.loop-part.part in
    let p = has_part_name name in
    let old = number_at c.loop-part.names name in
    let within : n < length (parts_of nodes) = omega (arith, c.parts-part-end.ensures.value) in
    let more = number_from p (n + 1) (drop (n + 1) (parts_of nodes)) in
    ap (λ (o : Option ℕ). or_else o more) (c.in_ok-add.ensures name)
    ∙ or_else-assoc old (if is_at p nodes n then Some n else None) more
    ∙ ap (or_else old) (one_more (is_at p nodes n) n more ∙ sym (number-here p nodes n within))
    ∙ c.loop-part.invariant name

pub returns : goal.returns
returns c = λ name.
    let nodes = c.args.pkg.now in
    let now = number_at c.loop-part.names name in
    let past : length (parts_of nodes) ≤ c.loop-part.part = omega (arith, c.parts-part-end.ensures.value, c.loop-part-test.false) in
    sym (ap (or_else now) (number-end (has_part_name name) nodes c.loop-part.part past) ∙ or_else-none now)
    ∙ c.loop-part.invariant name
