use Rattle.std.proofs.Common.{sym, ◌∙◌}
use Rattle.redl_excerpts.proofs.DetailLaws.{text-kept, text-lost}
use Rattle.redl_excerpts.proofs.checked.kept.Goals as goal

pub returns-then-is_utf8-clause-value : goal.returns-then-is_utf8-clause-value
returns-then-is_utf8-clause-value c = (text-kept _ _ c.as_bytes.ensures (sym c.if-is_utf8.true ∙ c.is_utf8.ensures)).0

pub returns-then-is_utf8-clause-utf8 : goal.returns-then-is_utf8-clause-utf8
returns-then-is_utf8-clause-utf8 c = (text-kept _ _ c.as_bytes.ensures (sym c.if-is_utf8.true ∙ c.is_utf8.ensures)).1

pub returns-clause-value : goal.returns-clause-value
returns-clause-value c = text-lost _ _ _ c.as_bytes.ensures (sym c.if-is_utf8.false ∙ c.is_utf8.ensures) c.in_ok-nothing.ensures
