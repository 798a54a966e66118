use Rattle.std.proofs.Common.{◌∙◌, sym}
use Rattle.redl_grammar.proofs.Names.{size_fits}
use Rattle.redl_markup.proofs.name.decoded_char.Goals as goal

pub split_at-requires : goal.split_at-requires
split_at-requires c = rw c.decode-c.ensures.size (size_fits c.args.bytes.now c.in_ok-c.c (sym c.decode-c.ensures.char ∙ c.in_ok-c.was))
