use Rattle.redl_laws.proofs.Soundness.AllRules.{soundness}
use Rattle.redl_resolve.proofs.laws.packages_stay_sound.Goals as goal

pub returns : goal.returns
returns c = λ value has_id declares says given indexed sound.
    soundness value has_id declares says given (record { indexed = indexed; sound = sound })
