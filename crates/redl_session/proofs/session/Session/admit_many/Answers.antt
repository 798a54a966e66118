use Rattle.std.proofs.Common.{subst}
use Rattle.std.proofs.lemmas.Result.{on_err_weaker}
use Rattle.redl_session.proofs.Admissions.{stops_after}
use Rattle.redl_session.proofs.Consistency.{ordered-taken}
use Rattle.redl_session.specs.Refusals.{TakesFirst}
use Rattle.redl_session.specs.Sessions.{SessionState, StopsAfter}
use Rattle.redl_session.proofs.session.Session.admit_many.Goals as goal

pub invariant_of-self : goal.invariant_of-self
invariant_of-self c = record {
  numbered = c.self.invariant.numbered;
  sound = c.self.invariant.sound;
  ordered = ordered-taken c.take_in.result c.self.inside.index c.self.inside.locks c.self.inside.book c.take_in.new.book c.args.entries.items
      c.self.invariant.ordered c.take_in.ensures.book c.take_in.ensures.stopped;
}

pub returns-clause-stopped : goal.returns-clause-stopped
returns-clause-stopped c =
    let before : SessionState = record { nodes = c.self.inside.original; revisions = c.self.inside.index; locks = c.self.inside.locks; book = c.self.inside.book } in
    let now : SessionState = record { nodes = c.self.inside.original; revisions = c.self.inside.index; locks = c.self.inside.locks; book = c.take_in.new.book } in
    let stops : TakesFirst c.self.inside.index c.self.inside.locks c.self.inside.book c.take_in.new.book c.args.entries.items → StopsAfter c.args.self.now now c.args.entries.items =
    λ stopped. subst (λ (s : SessionState). StopsAfter s now c.args.entries.items) c.self.view_is (stops_after before c.take_in.new.book c.args.entries.items stopped) in
    on_err_weaker c.take_in.result stops c.take_in.ensures.stopped
