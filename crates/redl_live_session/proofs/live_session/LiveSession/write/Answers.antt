use Rattle.std.proofs.Common.{◌≡◌, None, subst}
use Rattle.redl_index.specs.Numbers.{numbered_package}
use Rattle.redl_rules.specs.Attributes.{broken_rule}
use Rattle.redl_session.proofs.Left.{left_is_sound, left_survives}
use Rattle.redl_session.specs.Sessions.{SessionState, says}
use Rattle.redl_live_session.proofs.live_session.LiveSession.write.Goals as goal

pub returns-clause-survival : goal.returns-clause-survival
returns-clause-survival g c =
    left_survives (says c.args.self.now) c.args.self.now.nodes (subst (λ (s : SessionState). numbered_package s.nodes ≡ s.nodes) c.self.view_is c.self.invariant.session.numbered)

pub returns-clause-soundness : goal.returns-clause-soundness
returns-clause-soundness g c =
    let numbered = subst (λ (s : SessionState). numbered_package s.nodes ≡ s.nodes) c.self.view_is c.self.invariant.session.numbered in
    let sound = subst (λ (s : SessionState). broken_rule s.nodes ≡ None) c.self.view_is c.self.invariant.session.sound in
    left_is_sound (says c.args.self.now) c.args.self.now.nodes numbered sound
