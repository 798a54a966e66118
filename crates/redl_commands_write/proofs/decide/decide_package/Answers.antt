use Rattle.std.proofs.Common.{Ok, ap, sym}
use Rattle.std.proofs.lemmas.Result.{err_from_is_err_and}
use Rattle.redl_commands.specs.Decide.{book_written, with_choices}
use Rattle.redl_inputs.proofs.ReadLaws.{reads_stops, reads_then_takes, takes_ok, takes_stops}
use Rattle.redl_inputs.specs.Steps.{◌>>=◌}
use Rattle.redl_words.specs.Views.{choices_view}
use Rattle.redl_commands_write.proofs.decide.decide_package.Goals as goal

pub returns-in_err-admitted : goal.returns-in_err-admitted
returns-in_err-admitted g c =
    let p = err_from_is_err_and c.from_residual.result c.from_residual.ensures.1 in
    rw (p.1, p.2) (reads_stops (λ before reader files. with_choices c.args.command.now.reviewer c.args.command.now.rank (choices_view c.args.command.now.choices.items) before >>= (λ admission. Ok (book_written admission)))
    (rw (c.deref.ensures.value, c.deref-2.ensures.value) at c.in_err-admitted.ensures))

pub returns-in_err-admit_choices : goal.returns-in_err-admit_choices
returns-in_err-admit_choices g c =
    let p = err_from_is_err_and c.from_residual-in_err-admit_choices.result c.from_residual-in_err-admit_choices.ensures.1 in
    rw (p.1, p.2) (reads_then_takes (λ before reader. with_choices c.args.command.now.reviewer c.args.command.now.rank (choices_view c.args.command.now.choices.items) before >>= (λ admission. Ok (book_written admission)))
    (rw (c.deref.ensures.value, c.deref-2.ensures.value) at c.in_ok-admitted.ensures)
    (takes_stops (λ admission reader. Ok (book_written admission)) (rw c.deref-3.ensures.value at c.in_err-admit_choices.ensures)))

pub returns : goal.returns
returns g c =
    reads_then_takes (λ before reader. with_choices c.args.command.now.reviewer c.args.command.now.rank (choices_view c.args.command.now.choices.items) before >>= (λ admission. Ok (book_written admission)))
    (rw (c.deref.ensures.value, c.deref-2.ensures.value) at c.in_ok-admitted.ensures)
    (takes_ok (λ admission. Ok (book_written admission)) (rw c.deref-3.ensures.value at c.in_ok-admit_choices.ensures) (ap Ok (sym c.write_book.ensures)))
