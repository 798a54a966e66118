use Rattle.std.proofs.Common.{[], refl, sym}
use Rattle.std.proofs.lemmas.List.{append-nil}
use Rattle.redl_io.proofs.Puts.{puts_fails, puts_as}
use Rattle.redl_editor.proofs.writing.write_package.Goals as goal

pub returns-in_err-write_among : goal.returns-in_err-write_among
returns-in_err-write_among g c = puts_fails [] (sym (append-nil _)) c.from_residual.ensures.1 (c.in_err-write_among.ensures.text [] refl)

pub returns : goal.returns
returns g c = puts_as (c.in_ok-write_among.ensures.text [] refl)
