use Rattle.redl_app.proofs.AnswerLaws.{answers_without_memory}
use Rattle.redl_app.proofs.call.run_words.Goals as goal

pub returns-in-Err : goal.returns-in-Err
returns-in-Err g c = record {
  answers = rw (c.in-Err.ensures.same_shelf, c.in-Err.ensures.same_out, c.refuse_words.ensures.status)
      (answers_without_memory _ _ _ _ _ _ _ _ _ _ _ _ _ (rw c.in-Err.ensures.same_err at c.refuse_words.ensures.lines));
}
