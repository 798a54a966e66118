use Rattle.std.proofs.Common.{All, IsUtf8, subst, sym}
use Rattle.redl_app_tests.proofs.tests.calls.call_in.Goals as goal

pub run-requires-clause-utf8 : goal.run-requires-clause-utf8
run-requires-clause-utf8 g c = subst (All IsUtf8) (sym c.deref.ensures.value) c.in_ok-words.ensures
