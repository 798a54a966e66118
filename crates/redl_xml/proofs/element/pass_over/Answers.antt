use Rattle.std.proofs.Common.{◌≡◌, length, ap, arith, inl}
use Rattle.redl_xml.specs.Inside.Elements.{State}
use Rattle.redl_xml.specs.Inside.Buildings.{building_view}
use Rattle.redl_xml.specs.Inside.Passing.{AddsText}
use Rattle.redl_xml.proofs.Buildings.{length-open}
use Rattle.redl_xml.proofs.element.pass_over.Goals as goal

pub returns-clause-ahead : goal.returns-clause-ahead
returns-clause-ahead c =
    let idle = c.in-Some.idle in
    let b = c.pass_over.new.self in
    let s = building_view c.args.building.now in
    let adds : AddsText s (building_view b) c.args.bytes.now idle.rest.now idle.nodes idle.deepest = rw c.in-Some.is at c.in_ok-tried.ensures.passed in
    let depth : c.len.result ≡ length s.open_elements = omega (arith, c.len.ensures, b.open.ok.0, length-open b.open.items b.before.items, ap (λ (x : State). length x.open_elements) adds.added) in
    inl (record {
      made = building_view b;
      nodes = idle.nodes;
      deepest = idle.deepest;
      adds = adds;
      deep = omega (arith, c.add_nodes.ensures.deepest, depth);
      many = c.add_nodes.ensures.nodes;
      alike = c.drop_past_limits.ensures.rest;
      kept = c.drop_past_limits.ensures.kept;
    })
