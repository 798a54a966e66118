use Rattle.std.proofs.Common.{Some, sym}
use Rattle.redl_grammar.proofs.Names.{bytes_end, bytes_stop, bytes_go}
use Rattle.redl_markup.proofs.name.end_of_name.Goals as goal

pub returns-in_default : goal.returns-in_default
returns-in_default c = bytes_end c.args.colons c.args.bytes.now c.after_name_bytes-rest.result.now c.after_name_bytes-rest.ensures c.in_default.ensures.value

pub returns-then-is_ascii : goal.returns-then-is_ascii
returns-then-is_ascii c =
    bytes_stop c.args.colons c.args.bytes.now c.after_name_bytes-rest.result.now c.in-Some.first.now c.after_name_bytes-rest.ensures c.in-Some.ensures.value (sym c.if-is_ascii.ensures)

pub returns : goal.returns
returns c =
    bytes_go c.args.colons c.args.bytes.now c.after_name_bytes-rest.result.now (Some c.end_of_characters.result.now) c.after_name_bytes-rest.ensures c.end_of_characters.ensures
