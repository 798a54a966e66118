use Rattle.redl_markup.proofs.character.is_text.Goals as goal

pub returns : goal.returns
returns c = (λ t. c.after_ascii.ensures.ahead (c.is_decoded_text.ensures.0 t), λ h. c.is_decoded_text.ensures.1 (c.after_ascii.ensures.behind h))
