-- What the editor counts for an entry is its cost, and a refusal leaves the session as it is. It is long because each way to return has an answer for the session's invariant.
use Rattle.std.proofs.Common.{◌≡◌, ◌≤◌, ◌+◌, List, sym, ap, subst, ◌∙◌, arith}
use Rattle.redl_editor.specs.Documents.{Document}
use Rattle.redl_journal.specs.declared.entry.Entry.{Entry}
use Rattle.redl_session.proofs.Consistency.{book-repeat}
use Rattle.redl_session.specs.Says.{say_of_verdict}
use Rattle.redl_session.specs.Sessions.{SessionState}
use Rattle.redl_live_session.proofs.LiveLaws.{book-back, live-cost, live-counted, live-with, same-counted, state_of}
use Rattle.redl_live_session.specs.Costs.{IsCounted, entry_cost}
use Rattle.redl_live_session.proofs.live_session.LiveSession.admit_counted.Goals as goal
use Rattle.redl_live_session.proofs.live_session.LiveSession.admit_counted.Goals.{in-Long-1, in-Long-2, in-Short-1, in-Short-2}

pub invariant_of-self : goal.invariant_of-self
invariant_of-self g c =
    live-with c.self.inside.editor c.set_counted.new.self c.self.inside.index c.self.inside.book c.add_copy.new.book c.args.entry c.say_of-say.result
    c.self.invariant c.in_default.ensures.known.0 c.in_default.ensures.known.1 c.in-Ok-true.ensures.added (c.say_of-say.ensures ∙ ap say_of_verdict c.verdict.ensures)
    c.in-Ok.ensures.says

pub invariant_of-self-in-Ok-2 : goal.invariant_of-self-in-Ok-2
invariant_of-self-in-Ok-2 g c =
    live-with c.self.inside.editor c.set_counted.new.self c.self.inside.index c.self.inside.book c.add_copy.new.book c.args.entry c.say_of-say.result
    c.self.invariant c.in_default.ensures.known.0 c.in_default.ensures.known.1 c.in-Ok-true.ensures.added (c.say_of-say.ensures ∙ ap say_of_verdict c.verdict.ensures)
    c.in-Ok.ensures.says

pub invariant_of-self-in-Err-set_counted : goal.invariant_of-self-in-Err-set_counted
invariant_of-self-in-Err-set_counted g c =
    let back : c.remove.new.self ≡ c.self.inside.book =
    book-back c.self.inside.book c.add_copy.new.book c.remove.new.self c.args.entry c.in-Ok-true.ensures.added (sym c.in-Ok-true.field-0-test ∙ c.in-Ok-true.ensures.was_new) c.remove.ensures.removed in
    let stays : c.set_counted.new.self ≡ c.self.inside.editor = c.in-Err-set_counted.ensures.untouched in
    rw (back, stays) c.self.invariant

pub returns-in-Err-set_counted-clause-untouched : goal.returns-in-Err-set_counted-clause-untouched
returns-in-Err-set_counted-clause-untouched g c =
    let back : c.remove.new.self ≡ c.self.inside.book =
    book-back c.self.inside.book c.add_copy.new.book c.remove.new.self c.args.entry c.in-Ok-true.ensures.added (sym c.in-Ok-true.field-0-test ∙ c.in-Ok-true.ensures.was_new) c.remove.ensures.removed in
    let stays : c.set_counted.new.self ≡ c.self.inside.editor = c.in-Err-set_counted.ensures.untouched in
    ap (λ (document : Document). state_of document c.self.inside.index c.self.inside.locks c.remove.new.self) stays
    ∙ ap (λ (book : List Entry). state_of c.self.inside.editor c.self.inside.index c.self.inside.locks book) back
    ∙ c.self.view_is

pub invariant_of-self-in-Ok-false : goal.invariant_of-self-in-Ok-false
invariant_of-self-in-Ok-false g c =
    let same : c.add_copy.new.book ≡ c.self.inside.book =
    book-repeat c.self.inside.book c.add_copy.new.book c.args.entry c.self.invariant.session.ordered c.in-Ok-false.ensures.added (sym c.in-Ok-false.field-0-test ∙ c.in-Ok-false.ensures.was_new) in
    rw same c.self.invariant

pub invariant_of-self-in-Ok-false-2 : goal.invariant_of-self-in-Ok-false-2
invariant_of-self-in-Ok-false-2 g c =
    let same : c.add_copy.new.book ≡ c.self.inside.book =
    book-repeat c.self.inside.book c.add_copy.new.book c.args.entry c.self.invariant.session.ordered c.in-Ok-false.ensures.added (sym c.in-Ok-false.field-0-test ∙ c.in-Ok-false.ensures.was_new) in
    rw same c.self.invariant

pub returns-in-Ok-false-clause-repeat : goal.returns-in-Ok-false-clause-repeat
returns-in-Ok-false-clause-repeat g c =
    let same : c.add_copy.new.book ≡ c.self.inside.book =
    book-repeat c.self.inside.book c.add_copy.new.book c.args.entry c.self.invariant.session.ordered c.in-Ok-false.ensures.added (sym c.in-Ok-false.field-0-test ∙ c.in-Ok-false.ensures.was_new) in
    let back = ap (λ (book : List Entry). state_of c.self.inside.editor c.self.inside.index c.self.inside.locks book) same ∙ c.self.view_is in
    elim c.match-entry-2.branch [ in-Long-2 w ↦ λ _. w.self-is ∙ back | in-Short-2 w ↦ λ _. w.self-is ∙ back ]

pub returns-in-Ok-clause-steps : goal.returns-in-Ok-clause-steps
returns-in-Ok-clause-steps g c =
    let editor = c.self.inside.editor in
    let index = c.self.inside.index in
    let locks = c.self.inside.locks in
    let book = c.self.inside.book in
    let cost = live-cost editor index locks book c.add_copy.new.book c.args.entry c.say_of-say.result c.self.invariant c.in_default.ensures.known.0 c.in_default.ensures.known.1
    c.in-Ok-true.ensures.added (c.say_of-say.ensures ∙ ap say_of_verdict c.verdict.ensures) (sym c.in_default.ensures.cause) in
    omega (arith, c.set_counted.ensures.steps, cost, ap (λ (s : SessionState). entry_cost s c.args.entry) c.self.view_is)

pub returns-in-Err-set_counted-clause-steps : goal.returns-in-Err-set_counted-clause-steps
returns-in-Err-set_counted-clause-steps g c =
    let editor = c.self.inside.editor in
    let index = c.self.inside.index in
    let locks = c.self.inside.locks in
    let book = c.self.inside.book in
    let cost = live-cost editor index locks book c.add_copy.new.book c.args.entry c.say_of-say.result c.self.invariant c.in_default.ensures.known.0 c.in_default.ensures.known.1
    c.in-Ok-true.ensures.added (c.say_of-say.ensures ∙ ap say_of_verdict c.verdict.ensures) (sym c.in_default.ensures.cause) in
    omega (arith, c.set_counted.ensures.steps, cost, ap (λ (s : SessionState). entry_cost s c.args.entry) c.self.view_is)

pub returns-in-Ok-clause-counted : goal.returns-in-Ok-clause-counted
returns-in-Ok-clause-counted g c =
    let index = c.self.inside.index in
    let locks = c.self.inside.locks in
    let before = c.args.steps.now in
    let after = c.set_counted.new.steps in
    let old = state_of c.self.inside.editor index locks c.self.inside.book in
    let new = state_of c.set_counted.new.self index locks c.add_copy.new.book in
    let now = live-with c.self.inside.editor c.set_counted.new.self index c.self.inside.book c.add_copy.new.book c.args.entry c.say_of-say.result
    c.self.invariant c.in_default.ensures.known.0 c.in_default.ensures.known.1 c.in-Ok-true.ensures.added (c.say_of-say.ensures ∙ ap say_of_verdict c.verdict.ensures)
    c.in-Ok.ensures.says in
    let counted : IsCounted old new before after =
    live-counted c.self.inside.editor c.set_counted.new.self index locks c.self.inside.book c.add_copy.new.book before after c.self.invariant now c.in-Ok.ensures.counted in
    let from : IsCounted c.args.self.now new before after = subst (λ (s : SessionState). IsCounted s new before after) c.self.view_is counted in
    elim c.match-entry.branch [
      | in-Long-1 w ↦ subst (λ (s : SessionState). IsCounted c.args.self.now s before after) (sym w.self-is) from
      | in-Short-1 w ↦ subst (λ (s : SessionState). IsCounted c.args.self.now s before after) (sym w.self-is) from
    ]

pub returns-in-Ok-false-clause-counted : goal.returns-in-Ok-false-clause-counted
returns-in-Ok-false-clause-counted g c =
    let same : c.add_copy.new.book ≡ c.self.inside.book =
    book-repeat c.self.inside.book c.add_copy.new.book c.args.entry c.self.invariant.session.ordered c.in-Ok-false.ensures.added (sym c.in-Ok-false.field-0-test ∙ c.in-Ok-false.ensures.was_new) in
    let back = ap (λ (book : List Entry). state_of c.self.inside.editor c.self.inside.index c.self.inside.locks book) same ∙ c.self.view_is in
    elim c.match-entry-2.branch [
      | in-Long-2 w ↦ same-counted _ _ c.args.self.now _ (w.self-is ∙ back)
      | in-Short-2 w ↦ same-counted _ _ c.args.self.now _ (w.self-is ∙ back)
    ]
