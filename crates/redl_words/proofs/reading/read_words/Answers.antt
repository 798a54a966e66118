use Rattle.redl_words.proofs.CommandLaws.{found, usage, texts}
use Rattle.redl_words.proofs.reading.read_words.Goals as goal

pub returns : goal.returns
returns c =
    let r = c.read_command.result in
    let words = c.args.words.now in
    record { found = found r words c.read_command.ensures; usage = usage r words c.read_command.ensures; utf8 = texts r words c.requires c.read_command.ensures }
