use Rattle.std.proofs.Common.{ap, length, arith}
use Rattle.redl_xml.proofs.Nearest.{length-scope_view}
use Rattle.redl_xml.proofs.scope.Scopes.len.Goals as goal

pub returns : goal.returns
returns c = omega (arith, c.len.ensures, c.self.inside.declarations.ok.0, length-scope_view c.self.inside.declarations.items, ap length c.self.view_is)
