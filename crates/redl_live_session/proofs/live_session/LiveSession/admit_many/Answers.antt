use Rattle.std.proofs.Common.{List, length, sym, ap, ◌∙◌}
use Rattle.redl_session.proofs.SaysLaws.{length-says_of}
use Rattle.redl_tree.specs.declared.kinds.Say.{Say}
use Rattle.redl_live_session.proofs.live_session.LiveSession.admit_many.Goals as goal

pub changes_to-requires : goal.changes_to-requires
changes_to-requires c =
    ap (λ (said : List Say). length said) (c.says.ensures ∙ c.self.invariant.decided)
    ∙ length-says_of c.self.inside.book (length c.self.inside.index) ∙ sym c.count.ensures
