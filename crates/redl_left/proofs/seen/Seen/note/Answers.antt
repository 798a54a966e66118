-- The lines of the fact are in their place.
use Rattle.std.proofs.Common.{◌≡◌, List, [], ℕ, Vec, Global, map, get_or, set, ap, sym, ◌∙◌}
use Rattle.std.proofs.lemmas.List.{map-set, get_or-map}
use Rattle.std.proofs.lemmas.Result.{on_ok_weaker}
use Rattle.redl_left.specs.Finds.{Find}
use Rattle.redl_left.specs.Lines.{noted}
use Rattle.redl_left.specs.declared.line.Line.{Line}
use Rattle.redl_left.proofs.seen.Seen.note.Goals as goal

pub returns-in-Some : goal.returns-in-Some
returns-in-Some c =
    let items = c.args.self.now.tables.items in
    let n = c.number.result in
    let lines_in : Vec Line Global → List Line = λ lines. lines.items in
    let find : Find = record { fact = c.args.fact; part = c.args.part.now; value = c.args.value.now } in
    let was : c.in-Some.lines.now.items ≡ get_or (map lines_in items) n [] =
    ap lines_in c.in-Some.ensures.value ∙ sym (get_or-map lines_in items n c.in-Some.lines.now [] c.in-Some.ensures.item.3.0) in
    on_ok_weaker c.note.result (λ here.
    map-set lines_in items n c.note.new.lines
    ∙ ap (λ (lines : List Line). set (map lines_in items) n lines) (here ∙ ap (λ (lines : List Line). noted lines find) was)
    ∙ ap (λ (k : ℕ). set (map lines_in items) k (noted (get_or (map lines_in items) k []) find)) c.number.ensures) c.note.ensures
