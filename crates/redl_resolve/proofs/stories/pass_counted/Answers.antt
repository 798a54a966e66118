use Rattle.redl_resolve.proofs.stories.pass_counted.Goals as goal

pub returns-clause-soundness : goal.returns-clause-soundness
returns-clause-soundness g c = rw (← c.in_ok-copies.ensures) c.into_passed_counted.ensures.soundness
