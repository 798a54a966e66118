use Rattle.redl_io.proofs.Known.{append_known-steady}
use Rattle.redl_io.proofs.std_sink.StdSinkSink.put.Goals as goal

pub returns-in-Ok-clause-appends : goal.returns-in-Ok-clause-appends
returns-in-Ok-clause-appends g c = append_known-steady _ _ _ (g.met.W.Stream.steady _ _) c.in-Ok.ensures.contents

pub returns-in-Err-clause-appends : goal.returns-in-Err-clause-appends
returns-in-Err-clause-appends g c = append_known-steady _ _ _ (g.met.W.Stream.steady _ _) c.in-Err.ensures.contents
