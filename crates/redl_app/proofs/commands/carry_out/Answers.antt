-- Each command makes what the outcome says: an answer for each arm, since a command has its own definition.
use Rattle.std.proofs.Common.{◌∙◌, refl, sym}
use Rattle.redl_commands.specs.Views.{writing_view}
use Rattle.redl_inputs.proofs.ReadLaws.{reads_nothing}
use Rattle.redl_inputs.specs.Views.{result_view}
use Rattle.redl_lines.specs.Ends.{end_status, end_view}
use Rattle.redl_app.proofs.BroughtLaws.{leaves_same}
use Rattle.redl_app.proofs.commands.carry_out.Goals as goal

pub unwrap-place-requires : goal.unwrap-place-requires
unwrap-place-requires g c = let asked = rw c.in-List.is at c.requires.format in rw asked.1 refl

pub list-requires-clause-place : goal.list-requires-clause-place
list-requires-clause-place g c = let asked = rw c.in-List.is at c.requires.format in asked.2 ∙ (sym asked.1 ∙ c.unwrap-place.ensures)

pub list-requires-clause-name : goal.list-requires-clause-name
list-requires-clause-name g c = (rw c.in-List.is at c.requires.utf8).1

pub list-requires-clause-utf8 : goal.list-requires-clause-utf8
list-requires-clause-utf8 g c = (rw c.in-List.is at c.requires.utf8).3

pub put_page-requires : goal.put_page-requires
put_page-requires g c = (rw c.in-Page.is at c.requires.utf8).4

pub write_package-requires : goal.write_package-requires
write_package-requires g c = rw c.deref-in-Write.ensures.value (rw c.in-Write.is at c.requires.utf8).2

pub join_files-requires-clause-utf8 : goal.join_files-requires-clause-utf8
join_files-requires-clause-utf8 g c = rw c.deref-in-Join.ensures.value (rw c.in-Join.is at c.requires.utf8).0

pub join_files-requires-clause-some : goal.join_files-requires-clause-some
join_files-requires-clause-some g c = rw c.deref-in-Join.ensures.value (rw c.in-Join.is at c.requires.utf8).1

pub returns-in-Settle-clause-ends : goal.returns-in-Settle-clause-ends
returns-in-Settle-clause-ends g c = record {
  made = result_view writing_view c.settle_package.result;
  reads = rw (c.in-Settle.is, c.unwrap.ensures) (reads_nothing _ c.settle_package.ensures);
  finishes = c.put.ensures;
}

pub returns-in-Text-clause-ends : goal.returns-in-Text-clause-ends
returns-in-Text-clause-ends g c = record {
  made = c.put_text.ensures.made;
  reads = rw (c.in-Text.is, c.unwrap-in-Text.ensures) (reads_nothing _ c.put_text.ensures.reads);
  finishes = c.put_text.ensures.finishes;
}

pub returns-in-List-clause-ends : goal.returns-in-List-clause-ends
returns-in-List-clause-ends g c = record {
  made = result_view writing_view c.list.result;
  reads = rw (c.in-List.is, c.unwrap-in-List.ensures) c.list.ensures.read;
  finishes = c.put-in-List.ensures;
}

pub returns-in-Page-clause-ends : goal.returns-in-Page-clause-ends
returns-in-Page-clause-ends g c = record {
  made = c.put_page.ensures.made;
  reads = rw (c.in-Page.is, c.unwrap-in-Page.ensures, ← c.skin.ensures) c.put_page.ensures.reads;
  finishes = c.put_page.ensures.finishes;
}

pub returns-in-Write-clause-ends : goal.returns-in-Write-clause-ends
returns-in-Write-clause-ends g c = record {
  made = result_view writing_view c.write_package.result;
  reads = rw (c.in-Write.is, c.unwrap-in-Write.ensures) (rw (c.deref.ensures.value, c.deref-in-Write.ensures.value) at c.write_package.ensures);
  finishes = c.put-in-Write.ensures;
}

pub returns-in-Join-clause-ends : goal.returns-in-Join-clause-ends
returns-in-Join-clause-ends g c = record {
  made = result_view writing_view c.join_files.result;
  reads = rw c.in-Join.is (rw c.deref-in-Join.ensures.value at c.join_files.ensures);
  finishes = c.put-in-Join.ensures;
}

pub returns-in-Check-clause-ends : goal.returns-in-Check-clause-ends
returns-in-Check-clause-ends g c = record {
  made = result_view writing_view c.check_package.result;
  reads = rw (c.in-Check.is, c.unwrap-in-Check.ensures) (reads_nothing _ c.check_package.ensures);
  finishes = c.put-in-Check.ensures;
}

pub decide_package-requires-clause-reviewer : goal.decide_package-requires-clause-reviewer
decide_package-requires-clause-reviewer g c = (rw c.in-Decide.is at c.requires.utf8).1

pub decide_package-requires-clause-journals : goal.decide_package-requires-clause-journals
decide_package-requires-clause-journals g c = (rw c.in-Decide.is at c.requires.utf8).2

pub decide_package-requires-clause-rank : goal.decide_package-requires-clause-rank
decide_package-requires-clause-rank g c = (rw c.in-Decide.is at c.requires.utf8).4

pub returns-in-Decide-clause-ends : goal.returns-in-Decide-clause-ends
returns-in-Decide-clause-ends g c = record {
  made = result_view writing_view c.decide_package.result;
  reads = rw (c.in-Decide.is, c.unwrap-in-Decide.ensures) c.decide_package.ensures;
  finishes = c.put-in-Decide.ensures;
}

pub returns-in-Sample-clause-ends : goal.returns-in-Sample-clause-ends
returns-in-Sample-clause-ends g c = record {
  made = result_view writing_view c.make_sample.result;
  reads = rw c.in-Sample.is (reads_nothing _ c.make_sample.ensures);
  finishes = c.put-in-Sample.ensures;
}

pub unwrap-place-requires-in-Report : goal.unwrap-place-requires-in-Report
unwrap-place-requires-in-Report g c = let asked = rw c.in-Report.is at c.requires.report in rw asked.1 refl

pub report-requires-clause-place : goal.report-requires-clause-place
report-requires-clause-place g c = let asked = rw c.in-Report.is at c.requires.report in asked.2 ∙ (sym asked.1 ∙ c.unwrap-place-in-Report.ensures)

pub report-requires-clause-utf8 : goal.report-requires-clause-utf8
report-requires-clause-utf8 g c = (rw c.in-Report.is at c.requires.utf8).3

pub returns-in-Report-clause-ends : goal.returns-in-Report-clause-ends
returns-in-Report-clause-ends g c = record {
  made = result_view writing_view c.report.result;
  reads = rw (c.in-Report.is, c.unwrap-in-Report.ensures) c.report.ensures.read;
  finishes = c.put-in-Report.ensures;
}

pub resume_package-requires-clause-second : goal.resume_package-requires-clause-second
resume_package-requires-clause-second g c = (rw c.in-Resume.is at c.requires.utf8).1

pub resume_package-requires-clause-firsts : goal.resume_package-requires-clause-firsts
resume_package-requires-clause-firsts g c = (rw c.in-Resume.is at c.requires.utf8).2

pub resume_package-requires-clause-seconds : goal.resume_package-requires-clause-seconds
resume_package-requires-clause-seconds g c = (rw c.in-Resume.is at c.requires.utf8).3

pub returns-in-Resume-clause-ends : goal.returns-in-Resume-clause-ends
returns-in-Resume-clause-ends g c = record {
  made = result_view writing_view c.resume_package.result;
  reads = rw (c.in-Resume.is, c.unwrap-in-Resume.ensures) c.resume_package.ensures;
  finishes = c.put-in-Resume.ensures;
}

pub returns-in-List-clause-reports : goal.returns-in-List-clause-reports
returns-in-List-clause-reports g c = rw c.in-List.is (leaves_same (end_status (end_view c.put-in-List.result)) (g.B.Brings.reports c.args.brings.now) (g.B.Brings.reports c.list.new.self) c.list.ensures.reports)

pub returns-in-Report-clause-formats : goal.returns-in-Report-clause-formats
returns-in-Report-clause-formats g c = rw c.in-Report.is (leaves_same (end_status (end_view c.put-in-Report.result)) (g.B.Brings.formats c.args.brings.now) (g.B.Brings.formats c.report.new.self) c.report.ensures.formats)
