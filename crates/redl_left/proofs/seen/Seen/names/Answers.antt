-- The lines of names are in their place.
use Rattle.std.proofs.Common.{◌<◌, ◌∙◌, ap, sym, arith, false, get_or, length, map, Bool, List, ℕ, Vec, Global}
use Rattle.std.specs.List.{list_any}
use Rattle.std.proofs.lemmas.List.{get_or-map}
use Rattle.redl_left.specs.Named.{is_value_of}
use Rattle.redl_left.specs.declared.line.Line.{Line}
use Rattle.redl_left.proofs.NameLaws.{map_map}
use Rattle.redl_left.proofs.seen.Seen.names.Goals as goal

pub returns-in-Some : goal.returns-in-Some
returns-in-Some c = λ told.
    let items = c.args.self.now.tables.items in
    let lines_in : Vec Line Global → List Line = λ lines. lines.items in
    let among : List Line → Bool = λ lines. list_any (is_value_of c.args.value.now) lines in
    let n = c.number.result in
    let lines = c.in-Some.lines.now in
    let within : n < length items = omega (arith, c.in-Some.ensures.lookup) in
    ap (λ (k : ℕ). get_or (map among (map lines_in items)) k false) (sym c.number.ensures)
    ∙ ap (λ (bs : List Bool). get_or bs n false) (map_map among lines_in items)
    ∙ get_or-map (λ (l : Vec Line Global). among (lines_in l)) items n lines false within
    ∙ ap (λ (tables : List (Vec Line Global)). among (lines_in (get_or tables n lines))) (sym c.deref.ensures.value)
    ∙ ap (λ (l : Vec Line Global). among (lines_in l)) (sym c.in-Some.ensures.lookup.1)
    ∙ ap among (sym c.deref-in-Some.ensures.value)
    ∙ c.tells.ensures told
