use Rattle.std.proofs.Common.{refl}
use Rattle.redl_io.proofs.Puts.{puts_then, puts_fails}
use Rattle.redl_bare.specs.Units.{story}
use Rattle.redl_bare.proofs.LineLaws.{one_put, one_fails}
use Rattle.redl_bare.proofs.line.put_story.Goals as goal

pub returns-in_err-close : goal.returns-in_err-close
returns-in_err-close g c =
    one_fails _ c.args.writer.now _ (story c.args.which) _ refl c.from_residual.ensures.1 (puts_fails _ refl c.from_residual.ensures.1 c.in_err-close.ensures)

pub returns : goal.returns
returns g c =
    one_put c.args.writer.now _ (story c.args.which) _ refl (puts_then refl c.in_ok-close.ensures (rw (c.as_slice.ensures, c.name.ensures) at c.put_pieces.ensures)) refl c.none-writer.ensures refl
