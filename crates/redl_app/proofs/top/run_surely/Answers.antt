use Rattle.std.proofs.Common.{inl, refl}
use Rattle.redl_outcome.proofs.TopLaws.{answered_surely, never_rose}
use Rattle.redl_io.specs.MemShelf.{file_named}
use Rattle.redl_app.proofs.top.run_surely.Goals as goal

pub returns : goal.returns
returns g c = λ reader is.
    answered_surely c.run_by.result _ _ _ never_rose never_rose (c.run_by.ensures.status (file_named c.args.shelf.now) reader is (inl refl))
