use Rattle.std.proofs.Common.{ap, length, arith}
use Rattle.redl_xml.proofs.Scoping.{declared_long}
use Rattle.redl_xml.proofs.namespaces.enter_declaring.Goals as goal

pub overflow_sub-result : goal.overflow_sub-result
overflow_sub-result c =
    let long = declared_long c.args.scopes.now c.declare_attributes.new.scopes c.args.tail.now c.in_ok-declare_attributes.ensures in
    let same = ap length c.known_space.ensures.same in
    omega (arith, long, c.len-around.ensures, c.len.ensures, same)

pub returns-clause-declared : goal.returns-clause-declared
returns-clause-declared c =
    let long = declared_long c.args.scopes.now c.declare_attributes.new.scopes c.args.tail.now c.in_ok-declare_attributes.ensures in
    let same = ap length c.known_space.ensures.same in
    omega (arith, long, c.len-around.ensures, c.len.ensures, same)
