-- What a call comes to for which memory ran out before anything was done.
use Rattle.std.proofs.Common.{inl, inr, ℕ, List, [], Option, refl}
use Rattle.redl_outcome.proofs.SittingLaws.{differ_exactly}
use Rattle.redl_outcome.specs.Answers.{IsWritten}
use Rattle.redl_outcome.specs.Brought.{Brought}
use Rattle.redl_outcome.specs.Sittings.{Resumes}
use Rattle.redl_outcome.specs.Files.{files_of}
use Rattle.redl_outcome.specs.Plans.{plan}
use Rattle.redl_inputs.proofs.AskLaws.{asks_nothing}
use Rattle.redl_inputs.proofs.ReaderLaws.{reads_command}
use Rattle.redl_io.specs.Shelf.{Files}
use Rattle.redl_io.specs.declared.shelf.Request.{Request}
use Rattle.redl_lines.specs.Ends.{Tells}
use Rattle.redl_lines.specs.Lines.{no_memory_line}
use Rattle.redl_lines.specs.declared.status.Status.TheVariants as status
use Rattle.redl_app.specs.Answers.{Answers}
use Rattle.redl_words.specs.Commands.{resume}

is_not_written : IsWritten status.NoMemory → ⊥
is_not_written (inl is) = absurd (cc is)
is_not_written (inr is) = absurd (cc is)

resumes_nothing : (held : Option Files) (words : List (List ℕ)) (brought : Brought) → Resumes status.NoMemory held words brought
resumes_nothing held words brought p q firsts journals is files reader reads may = (
  λ written. absurd (is_not_written written),
  λ e. absurd (cc e),
  (differ_exactly reader words files brought p q firsts journals (reads_command reader words (resume p q firsts journals) reads is)).1,
)

-- nothing was taken and nothing went out but the line
pub answers_without_memory : {F O E : Type 0} (held : F → Option Files) (misses : F → ℕ) (noted : F → Option (List Request)) (shelf : F) (told : O → Option (List ℕ)) (faults : O → ℕ) (out : O)
    (lines_told : E → Option (List ℕ)) (line_faults : E → ℕ) (err err_new : E) (words : List (List ℕ)) (brought : Brought)
    → Tells lines_told line_faults err err_new no_memory_line
    → Answers held misses noted shelf shelf told faults out out lines_told line_faults err err_new words brought status.NoMemory
answers_without_memory held misses noted shelf told faults out lines_told line_faults err err_new words brought tells = record {
  status = λ files reader reads may. tt;
  usage = λ misused. inr refl;
  only_usage = λ e. absurd (cc e);
  read = λ e. absurd (cc e);
  write = λ e. absurd (cc e);
  asked = λ command reads. record { front = []; later = files_of brought (plan command); prefix = refl; asked = asks_nothing (noted shelf); ends = tt };
  unasked = λ none. refl;
  shelf_stands = λ other. refl;
  out_stands = λ other. refl;
  same_files = refl;
  bytes = λ files reader reads may. refl;
  left = λ written. absurd (is_not_written written);
  resumes = resumes_nothing (held shelf) words brought;
  untouched = λ not_done not_refused not_failed. refl;
  lines = λ files reader reads may. (no_memory_line, refl, tells);
}
