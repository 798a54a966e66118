use Rattle.redl_live_session.proofs.LiveLaws.{live-begun}
use Rattle.redl_live_session.proofs.live_session.LiveSession.start.Goals as goal

pub invariant_of-result : goal.invariant_of-result
invariant_of-result c =
    live-begun c.in_ok-editor.editor c.args.pkg c.args.index c.new-2.result c.count.result c.in_ok-editor.ensures c.count.ensures c.new-2.ensures
    c.requires.numbered c.requires.sound
