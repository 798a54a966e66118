use Rattle.std.proofs.Common.{option_map}
use Rattle.redl_io.proofs.Puts.{puts_then, puts_fails}
use Rattle.redl_page_stories.proofs.StartLaws.{remark-text}
use Rattle.redl_page_stories.proofs.starts.put_empty_remark.Goals as goal

pub returns-in_err-put_remark : goal.returns-in_err-put_remark
returns-in_err-put_remark g c = puts_fails _ (remark-text (option_map (λ id. id.now) c.args.id)) c.from_residual.ensures.1 c.in_err-put_remark.ensures

pub returns : goal.returns
returns g c = puts_then (remark-text (option_map (λ id. id.now) c.args.id)) c.in_ok-put_remark.ensures c.put_piece.ensures
