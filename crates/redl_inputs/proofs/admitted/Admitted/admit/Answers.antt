use Rattle.std.proofs.lemmas.Result.{on_ok_weaker}
use Rattle.redl_inputs.proofs.AdmissionLaws.{admitted_all}
use Rattle.redl_inputs.specs.Views.{admission_view}
use Rattle.redl_inputs.proofs.admitted.Admitted.admit.Goals as goal

pub returns : goal.returns
returns c =
    on_ok_weaker c.add_all.result
    (λ added. admitted_all (admission_view c.args.self.now) c.args.entries.items c.admit_many.new.self c.in_ok-refused.refused.items c.add_all.new.self
    c.in_ok-refused.ensures.admitted c.in_ok-refused.ensures.refused added) c.add_all.ensures
