use Rattle.std.proofs.Common.{◌++◌, List, sym, ap, ◌∙◌}
use Rattle.std.specs.List.{flat_map}
use Rattle.redl_io.proofs.Puts.{puts_then, puts_fails}
use Rattle.redl_order.specs.Borrowed.{all_borrowed}
use Rattle.redl_bare.specs.Units.{BareUnit, story_units}
use Rattle.redl_bare.specs.Fields.{no_field}
use Rattle.redl_bare.specs.BareText.{closing}
use Rattle.redl_bare.specs.Inside.Puts.{left_line, left_lines}
use Rattle.redl_bare.specs.Inside.Views.{fields_view, line_view}
use Rattle.redl_bare.proofs.package.put_bare.Goals as goal

pub put_stories-requires : goal.put_stories-requires
put_stories-requires g c = c.restart.ensures.new.marks

pub returns-in_err-put_stories : goal.returns-in_err-put_stories
returns-in_err-put_stories g c =
    let units : List BareUnit = flat_map story_units (all_borrowed c.args.stories.items) in
    let writer = c.restart.new.self in
    puts_fails (closing (left_line (line_view writer.line) (fields_view writer.fields) units))
    (ap (λ l. left_lines l no_field units ++ closing (left_line l no_field units)) (sym c.restart.ensures.new.line)
    ∙ ap (λ f. left_lines (line_view writer.line) f units ++ closing (left_line (line_view writer.line) f units)) (sym c.restart.ensures.new.fields))
    c.from_residual.ensures.1 (rw c.restart.ensures.sink at c.in_err-put_stories.ensures.puts)

pub returns : goal.returns
returns g c =
    let units : List BareUnit = flat_map story_units (all_borrowed c.args.stories.items) in
    let writer = c.restart.new.self in
    puts_then
    (ap (λ l. left_lines l no_field units ++ closing (left_line l no_field units)) (sym c.restart.ensures.new.line)
    ∙ ap (λ f. left_lines (line_view writer.line) f units ++ closing (left_line (line_view writer.line) f units)) (sym c.restart.ensures.new.fields)
    ∙ ap (λ l. left_lines (line_view writer.line) (fields_view writer.fields) units ++ closing l) (sym c.in_ok-put_stories.ensures.after.line))
    (rw c.restart.ensures.sink at c.in_ok-put_stories.ensures.puts) c.close.ensures
