use Rattle.std.proofs.Common.{◌≢◌, arith}
use Rattle.redl_xml.proofs.IdleParts.{plain_part, idle_text_there}
use Rattle.redl_xml.proofs.idle.plain_of.Goals as goal

pub new-requires-clause-idle : goal.new-requires-clause-idle
new-requires-clause-idle c =
    let idle = c.args.idle in
    let some : idle.elems ≢ 0 = grind arith in
    (plain_part c.requires.0 c.args.bytes.now idle.rest.now idle.nodes idle.elems idle.deepest c.requires.1 some).idle

pub new-requires-clause-nodes : goal.new-requires-clause-nodes
new-requires-clause-nodes c =
    let idle = c.args.idle in
    let some : idle.elems ≢ 0 = grind arith in
    omega (arith, (plain_part c.requires.0 c.args.bytes.now idle.rest.now idle.nodes idle.elems idle.deepest c.requires.1 some).counted, c.in-Ok.ensures)

pub new-requires-clause-elems : goal.new-requires-clause-elems
new-requires-clause-elems c =
    let idle = c.args.idle in
    let some : idle.elems ≢ 0 = grind arith in
    omega (arith, (plain_part c.requires.0 c.args.bytes.now idle.rest.now idle.nodes idle.elems idle.deepest c.requires.1 some).among, c.in-Ok-try_from.ensures)

pub returns : goal.returns
returns c = λ scope passed.
    let idle = c.args.idle in
    let some : idle.elems ≢ 0 = grind arith in
    rw c.new.ensures (idle_text_there scope c.args.bytes.now idle.rest.now idle.nodes idle.elems idle.deepest passed some (omega (arith, c.in-Ok.ensures)))
