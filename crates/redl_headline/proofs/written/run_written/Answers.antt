use Rattle.redl_app.specs.Formats.{program_brings}
use Rattle.redl_headline.proofs.Writing.{headline}
use Rattle.redl_headline.proofs.written.run_written.Goals as goal
use Rattle.redl_io.specs.Faults.{Rose}

pub returns : goal.returns
returns g c =
    headline (g.F.Shelf.told c.args.shelf.now) g.O.Sink.told c.args.out.now c.run_words.new.out c.args.words.now (program_brings c.args.skin.now) c.run_words.result
    (Rose (g.F.Shelf.faults c.args.shelf.now) (g.F.Shelf.faults c.run_words.new.shelf)) (Rose (g.O.Sink.faults c.args.out.now) (g.O.Sink.faults c.run_words.new.out))
    c.run_words.ensures.answers.status c.run_words.ensures.answers.bytes
