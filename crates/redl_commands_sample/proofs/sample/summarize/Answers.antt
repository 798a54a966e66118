use Rattle.std.proofs.Common.{◌∙◌, ap, refl}
use Rattle.redl_commands_sample.proofs.SampleLaws.{summarized_after}
use Rattle.redl_commands.specs.Writing.{only_bytes}
use Rattle.redl_sample.specs.Summaries.{summary_text}
use Rattle.redl_sample.specs.declared.summary.SampleSummary.{SampleSummary}
use Rattle.redl_commands_sample.proofs.sample.summarize.Goals as goal

pub returns : goal.returns
returns c whole =
    c.only.ensures ∙ ap (λ (summary : SampleSummary). only_bytes (summary_text summary)) c.in_ok-summary.ensures
    ∙ summarized_after c.args.number whole c.args.pkg c.in_ok-session.session _ c.in_ok-session.ensures refl
