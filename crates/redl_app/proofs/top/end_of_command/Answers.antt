use Rattle.std.proofs.Common.{◌≡◌, Err, None, Ok, Some, ap, refl, sym, ◌∙◌}
use Rattle.std.specs.Option.{option_copied}
use Rattle.redl_outcome.proofs.FormatLaws.{ends_after, ends_at_once, has_its_format, lacks_format, misuse_of_none}
use Rattle.redl_outcome.proofs.PlanLaws.{reads_alone, reads_no_package, reads_package}
use Rattle.redl_outcome.specs.Files.{all_files, other_files}
use Rattle.redl_outcome.specs.Plans.{has_asked, made_by, package_of, plan}
use Rattle.redl_lines.specs.Failures.{failure_view, misuse_cause}
use Rattle.redl_lines.specs.declared.end.End.TheVariants.{Failed}
use Rattle.redl_words.specs.Views.{command_of}
use Rattle.redl_app.proofs.top.end_of_command.Goals as goal

pub returns-in-Err-clause-ends : goal.returns-in-Err-clause-ends
returns-in-Err-clause-ends g c =
    let brought = g.B.Brings.brought c.args.brings.now in
    let asked = plan (command_of c.args.command.now) in
    ends_at_once _ _ (has_asked brought asked) (all_files asked) (λ reader files. made_by reader files brought asked.makes) (misuse_cause c.in-Err.misuse)
    (misuse_of_none c.in-Err.misuse) (sym c.in-Err.ensures.asked)

pub returns-in-Err-clause-usage : goal.returns-in-Err-clause-usage
returns-in-Err-clause-usage g c =
    lacks_format (g.B.Brings.brought c.args.brings.now) (plan (command_of c.args.command.now)) (misuse_cause c.in-Err.misuse) (sym c.in-Err.ensures.asked)

pub returns-in_default-clause-ends : goal.returns-in_default-clause-ends
returns-in_default-clause-ends g c =
    let brought = g.B.Brings.brought c.args.brings.now in
    let asked = plan (command_of c.args.command.now) in
    let there : has_asked brought asked ≡ Ok tt = sym c.in-Ok.ensures.asked in
    let none : package_of asked.makes ≡ None = sym c.package.ensures ∙ ap option_copied c.in_default.is in
    ends_after _ (has_asked brought asked) (all_files asked) (λ reader files. made_by reader files brought asked.makes) tt there
    (record {
      made = c.carry_out.ensures.ends.made;
      reads = reads_alone brought asked.makes (other_files asked) none c.carry_out.ensures.ends.reads;
      finishes = c.carry_out.ensures.ends.finishes;
    })

pub returns-in_default-clause-usage : goal.returns-in_default-clause-usage
returns-in_default-clause-usage g c =
    has_its_format (g.B.Brings.brought c.args.brings.now) (plan (command_of c.args.command.now)) c.carry_out.result (sym c.in-Ok.ensures.asked)

pub returns-in-Ok-fetch_package-clause-ends : goal.returns-in-Ok-fetch_package-clause-ends
returns-in-Ok-fetch_package-clause-ends g c =
    let brought = g.B.Brings.brought c.args.brings.now in
    let asked = plan (command_of c.args.command.now) in
    let there : has_asked brought asked ≡ Ok tt = sym c.in-Ok.ensures.asked in
    let some : package_of asked.makes ≡ Some c.in-Some.name.now = sym c.package.ensures ∙ ap option_copied c.in-Some.is in
    ends_after _ (has_asked brought asked) (all_files asked) (λ reader files. made_by reader files brought asked.makes) tt there
    (record {
      made = c.carry_out-in-Ok-fetch_package.ensures.ends.made;
      reads = reads_package brought asked.makes (other_files asked) c.in-Some.name.now c.in-Ok-fetch_package.text.items some c.in-Ok-fetch_package.ensures
          (rw c.deref.ensures.value at c.carry_out-in-Ok-fetch_package.ensures.ends.reads);
      finishes = c.carry_out-in-Ok-fetch_package.ensures.ends.finishes;
    })

pub returns-in-Ok-fetch_package-clause-usage : goal.returns-in-Ok-fetch_package-clause-usage
returns-in-Ok-fetch_package-clause-usage g c =
    has_its_format (g.B.Brings.brought c.args.brings.now) (plan (command_of c.args.command.now)) c.carry_out-in-Ok-fetch_package.result (sym c.in-Ok.ensures.asked)

pub returns-in-Err-fetch_package-clause-ends : goal.returns-in-Err-fetch_package-clause-ends
returns-in-Err-fetch_package-clause-ends g c =
    let brought = g.B.Brings.brought c.args.brings.now in
    let asked = plan (command_of c.args.command.now) in
    let there : has_asked brought asked ≡ Ok tt = sym c.in-Ok.ensures.asked in
    let some : package_of asked.makes ≡ Some c.in-Some.name.now = sym c.package.ensures ∙ ap option_copied c.in-Some.is in
    ends_after _ (has_asked brought asked) (all_files asked) (λ reader files. made_by reader files brought asked.makes) tt there
    (record {
      made = Err (failure_view c.in-Err-fetch_package.failure);
      reads = reads_no_package brought asked.makes (other_files asked) c.in-Some.name.now some c.in-Err-fetch_package.ensures;
      finishes = (refl, refl, refl);
    })

pub returns-in-Err-fetch_package-clause-usage : goal.returns-in-Err-fetch_package-clause-usage
returns-in-Err-fetch_package-clause-usage g c =
    has_its_format (g.B.Brings.brought c.args.brings.now) (plan (command_of c.args.command.now)) (Failed c.in-Err-fetch_package.failure) (sym c.in-Ok.ensures.asked)
