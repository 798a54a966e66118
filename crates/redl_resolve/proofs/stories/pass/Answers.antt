use Rattle.redl_resolve.proofs.stories.pass.Goals as goal

pub returns-clause-soundness : goal.returns-clause-soundness
returns-clause-soundness c = rw (← c.in_ok-copies.ensures) c.into_passed.ensures.soundness
