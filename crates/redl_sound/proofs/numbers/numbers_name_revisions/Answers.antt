use Rattle.redl_sound.proofs.Numbered.Package.{numbers-name, numbers-name-numbered}
use Rattle.redl_sound.proofs.numbers.numbers_name_revisions.Goals as goal

pub returns : goal.returns
returns c = record { numbered = numbers-name-numbered; indexed = numbers-name }
