use Rattle.std.proofs.Common.{◌≡◌, [], Ok, ap, sym, ◌∙◌, arith}
use Rattle.redl_commands_sample.proofs.SampleLaws.{sampled_within}
use Rattle.redl_commands.specs.Sample.{summarized}
use Rattle.redl_inputs.proofs.ReadLaws.{takes_ok}
use Rattle.redl_inputs.specs.Admission.{no_admission}
use Rattle.redl_sample.specs.Packages.{package_text}
use Rattle.redl_commands_sample.proofs.sample.make_sample.Goals as goal

pub returns : goal.returns
returns c =
    let number = c.args.number in
    let first : c.deref.result.now ≡ package_text number = c.deref.ensures.value ∙ c.in_ok-bytes.ensures in
    sampled_within number _ (omega (arith, c.if-number-gt-SAMPLE_LIMIT.false))
    (takes_ok (λ nodes. Ok (summarized number (no_admission (package_text number) nodes []))) (rw first at c.in_ok-package.ensures.read)
    (ap Ok (sym (c.in_ok-summarize.ensures (package_text number)))))
