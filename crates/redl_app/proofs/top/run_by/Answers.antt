-- The clauses of `run_by`, each of the outcome of the call. It is long because there are nineteen of them.
use Rattle.std.proofs.Common.{◌≡◌, ◌∙◌, sym, ℕ, List}
use Rattle.redl_outcome.proofs.LeftLaws.{leaves_package}
use Rattle.redl_outcome.proofs.SittingLaws.{call_resumes}
use Rattle.redl_outcome.proofs.TopLaws.{due_by, answers, writes, tells, read_cause, write_cause, out_stands, untouched, shelf_stands}
use Rattle.redl_outcome.proofs.WordLaws.{are_named, asks_by_words, asks_for_nothing, is_wanted, leaves_by_words, leaves_all, misused_ends, names_asked, only_misused}
use Rattle.redl_io.specs.Faults.{Rose}
use Rattle.redl_lines.specs.Ends.{Tells, call_end_view}
use Rattle.redl_app.proofs.top.run_by.Goals as goal

pub returns-clause-status : goal.returns-clause-status
returns-clause-status g c =
    let brought = g.B.Brings.brought c.args.brings.now in
    let ends = c.end_of_words-end.ensures.ends (due_by c.args.words.now brought) (is_wanted c.args.words.now brought c.read_words-read.result c.read_words-read.ensures.found c.read_words-read.ensures.usage) in
    rw c.status.ensures (answers brought (names_asked c.args.words.now brought c.read_words-read.result c.read_words-read.ensures.found) ends)

pub returns-clause-usage : goal.returns-clause-usage
returns-clause-usage g c = λ misused.
    rw c.status.ensures (misused_ends (g.B.Brings.brought c.args.brings.now) c.args.words.now c.read_words-read.result (call_end_view c.end_of_words-end.result) c.read_words-read.ensures.found
    c.end_of_words-end.ensures.words c.end_of_words-end.ensures.usage misused)

pub returns-clause-only_usage : goal.returns-clause-only_usage
returns-clause-only_usage g c = λ usage.
    only_misused (g.B.Brings.brought c.args.brings.now) c.args.words.now c.read_words-read.result (call_end_view c.end_of_words-end.result) c.read_words-read.ensures.found
    c.read_words-read.ensures.usage c.end_of_words-end.ensures.words c.end_of_words-end.ensures.usage (sym c.status.ensures ∙ usage)

pub returns-clause-read : goal.returns-clause-read
returns-clause-read g c = λ fault.
    let ends = c.end_of_words-end.ensures.ends (due_by c.args.words.now _) (is_wanted c.args.words.now _ c.read_words-read.result c.read_words-read.ensures.found c.read_words-read.ensures.usage) in
    read_cause (are_named c.args.words.now _ c.read_words-read.result c.read_words-read.ensures.found) ends (sym c.status.ensures ∙ fault)

pub returns-clause-write : goal.returns-clause-write
returns-clause-write g c = λ fault.
    let ends = c.end_of_words-end.ensures.ends (due_by c.args.words.now _) (is_wanted c.args.words.now _ c.read_words-read.result c.read_words-read.ensures.found c.read_words-read.ensures.usage) in
    write_cause g.O.Sink.told g.O.Sink.faults _ _ ends.made _ ends.finishes (sym c.status.ensures ∙ fault)

pub returns-clause-asked : goal.returns-clause-asked
returns-clause-asked g c = λ command reads.
    let brought = g.B.Brings.brought c.args.brings.now in
    let ends = c.end_of_words-end.ensures.ends (due_by c.args.words.now brought) (is_wanted c.args.words.now brought c.read_words-read.result c.read_words-read.ensures.found c.read_words-read.ensures.usage) in
    rw c.status.ensures (asks_by_words brought {Told = λ (lines : List ℕ). Tells g.E.Sink.told g.E.Sink.faults c.args.err.now c.tell.new.err lines}
    c.args.words.now c.read_words-read.result (call_end_view c.end_of_words-end.result) c.read_words-read.ensures.found c.read_words-read.ensures.usage
    c.end_of_words-end.ensures.words ends c.tell.ensures command reads)

pub returns-clause-unasked : goal.returns-clause-unasked
returns-clause-unasked g c = λ none.
    let brought = g.B.Brings.brought c.args.brings.now in
    asks_for_nothing brought c.args.words.now c.read_words-read.result c.read_words-read.ensures.found
    (c.end_of_words-end.ensures.ends (due_by c.args.words.now brought) (is_wanted c.args.words.now brought c.read_words-read.result c.read_words-read.ensures.found c.read_words-read.ensures.usage)) none

pub returns-clause-shelf_stands : goal.returns-clause-shelf_stands
returns-clause-shelf_stands g c = λ other.
    let ends = c.end_of_words-end.ensures.ends (due_by c.args.words.now _) (is_wanted c.args.words.now _ c.read_words-read.result c.read_words-read.ensures.found c.read_words-read.ensures.usage) in
    shelf_stands g.O.Sink.told g.O.Sink.faults _ _ ends.made (call_end_view c.end_of_words-end.result) (g.F.Shelf.faults c.end_of_words-end.new.shelf ≡ g.F.Shelf.faults c.args.shelf.now) ends.finishes ends.reads.stands (λ e. other (c.status.ensures ∙ e))

pub returns-clause-out_stands : goal.returns-clause-out_stands
returns-clause-out_stands g c = λ other.
    let ends = c.end_of_words-end.ensures.ends (due_by c.args.words.now _) (is_wanted c.args.words.now _ c.read_words-read.result c.read_words-read.ensures.found c.read_words-read.ensures.usage) in
    out_stands g.O.Sink.told g.O.Sink.faults _ _ ends.made (call_end_view c.end_of_words-end.result) ends.finishes (λ e. other (c.status.ensures ∙ e))

pub returns-clause-same_files : goal.returns-clause-same_files
returns-clause-same_files g c =
    let ends = c.end_of_words-end.ensures.ends (due_by c.args.words.now _) (is_wanted c.args.words.now _ c.read_words-read.result c.read_words-read.ensures.found c.read_words-read.ensures.usage) in
    ends.reads.same_files

pub returns-clause-bytes : goal.returns-clause-bytes
returns-clause-bytes g c =
    let brought = g.B.Brings.brought c.args.brings.now in
    let ends = c.end_of_words-end.ensures.ends (due_by c.args.words.now brought) (is_wanted c.args.words.now brought c.read_words-read.result c.read_words-read.ensures.found c.read_words-read.ensures.usage) in
    rw c.status.ensures (writes brought (names_asked c.args.words.now brought c.read_words-read.result c.read_words-read.ensures.found) ends)

pub returns-clause-untouched : goal.returns-clause-untouched
returns-clause-untouched g c = λ not_done not_refused not_failed.
    let ends = c.end_of_words-end.ensures.ends (due_by c.args.words.now _) (is_wanted c.args.words.now _ c.read_words-read.result c.read_words-read.ensures.found c.read_words-read.ensures.usage) in
    untouched g.O.Sink.told g.O.Sink.faults _ _ ends.made (call_end_view c.end_of_words-end.result) ends.finishes
    (λ e. not_done (c.status.ensures ∙ e)) (λ e. not_refused (c.status.ensures ∙ e)) (λ e. not_failed (c.status.ensures ∙ e))

pub returns-clause-lines : goal.returns-clause-lines
returns-clause-lines g c =
    let brought = g.B.Brings.brought c.args.brings.now in
    let ends = c.end_of_words-end.ensures.ends (due_by c.args.words.now brought) (is_wanted c.args.words.now brought c.read_words-read.result c.read_words-read.ensures.found c.read_words-read.ensures.usage) in
    rw c.status.ensures (tells
    (λ (lines : List ℕ). Tells g.E.Sink.told g.E.Sink.faults c.args.err.now c.tell.new.err lines)
    (are_named c.args.words.now brought c.read_words-read.result c.read_words-read.ensures.found) (names_asked c.args.words.now brought c.read_words-read.result c.read_words-read.ensures.found) ends c.tell.ensures)

pub returns-clause-taken : goal.returns-clause-taken
returns-clause-taken g c = λ command reads.
    rw c.status.ensures (leaves_by_words (λ plan. plan.format) _ _ _ c.args.words.now c.read_words-read.result (call_end_view c.end_of_words-end.result) c.read_words-read.ensures.found c.read_words-read.ensures.usage
    c.end_of_words-end.ensures.taken c.end_of_words-end.ensures.no_format c.end_of_words-end.ensures.words command reads)

pub returns-clause-no_format : goal.returns-clause-no_format
returns-clause-no_format g c = λ none.
    leaves_all _ _ c.args.words.now c.read_words-read.result c.read_words-read.ensures.found c.end_of_words-end.ensures.no_format none

pub returns-clause-left : goal.returns-clause-left
returns-clause-left g c =
    let brought = g.B.Brings.brought c.args.brings.now in
    leaves_package c.status.result (g.F.Shelf.told c.args.shelf.now) c.args.words.now brought
    (Rose (g.F.Shelf.faults c.args.shelf.now) (g.F.Shelf.faults c.end_of_words-end.new.shelf)) (Rose (g.O.Sink.faults c.args.out.now) (g.O.Sink.faults c.end_of_words-end.new.out))
    (returns-clause-status g c)

pub returns-clause-taken_report : goal.returns-clause-taken_report
returns-clause-taken_report g c = λ command reads.
    rw c.status.ensures (leaves_by_words (λ plan. plan.report) _ _ _ c.args.words.now c.read_words-read.result (call_end_view c.end_of_words-end.result) c.read_words-read.ensures.found c.read_words-read.ensures.usage
    c.end_of_words-end.ensures.taken_report c.end_of_words-end.ensures.no_report c.end_of_words-end.ensures.words command reads)

pub returns-clause-no_report : goal.returns-clause-no_report
returns-clause-no_report g c = λ none.
    leaves_all _ _ c.args.words.now c.read_words-read.result c.read_words-read.ensures.found c.end_of_words-end.ensures.no_report none

pub returns-clause-resumes : goal.returns-clause-resumes
returns-clause-resumes g c =
    let brought = g.B.Brings.brought c.args.brings.now in
    call_resumes c.status.result (g.F.Shelf.told c.args.shelf.now) c.args.words.now brought
    (Rose (g.F.Shelf.faults c.args.shelf.now) (g.F.Shelf.faults c.end_of_words-end.new.shelf)) (Rose (g.O.Sink.faults c.args.out.now) (g.O.Sink.faults c.end_of_words-end.new.out))
    (returns-clause-status g c)
