use Rattle.std.proofs.Common.{refl}
use Rattle.redl_page_numbers.proofs.put_levels.format_name.Goals as goal

pub returns-in-Decimal : goal.returns-in-Decimal
returns-in-Decimal c = rw c.in-Decimal.is refl

pub returns-in-DecimalZero : goal.returns-in-DecimalZero
returns-in-DecimalZero c = rw c.in-DecimalZero.is refl

pub returns-in-Padded : goal.returns-in-Padded
returns-in-Padded c = rw c.in-Padded.is refl

pub returns-in-UpperRoman : goal.returns-in-UpperRoman
returns-in-UpperRoman c = rw c.in-UpperRoman.is refl

pub returns-in-LowerRoman : goal.returns-in-LowerRoman
returns-in-LowerRoman c = rw c.in-LowerRoman.is refl

pub returns-in-UpperLetter : goal.returns-in-UpperLetter
returns-in-UpperLetter c = rw c.in-UpperLetter.is refl

pub returns-in-LowerLetter : goal.returns-in-LowerLetter
returns-in-LowerLetter c = rw c.in-LowerLetter.is refl

pub returns-in-Ordinal : goal.returns-in-Ordinal
returns-in-Ordinal c = rw c.in-Ordinal.is refl

pub returns-in-Nothing : goal.returns-in-Nothing
returns-in-Nothing c = rw c.in-Nothing.is refl

pub returns-in-Bullet : goal.returns-in-Bullet
returns-in-Bullet c = rw c.in-Bullet.is refl
