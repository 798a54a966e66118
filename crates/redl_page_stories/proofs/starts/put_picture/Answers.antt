use Rattle.std.proofs.Common.{option_map}
use Rattle.redl_io.proofs.Puts.{puts_then, puts_fails}
use Rattle.redl_page_stories.proofs.StartLaws.{picture-text}
use Rattle.redl_page_stories.proofs.starts.put_picture.Goals as goal

pub returns-in_err-put_embed : goal.returns-in_err-put_embed
returns-in_err-put_embed g c =
    puts_fails _ (picture-text (option_map (λ id. id.now) c.args.embed) (option_map (λ text. text.now) c.args.description)) c.from_residual.ensures.1 c.in_err-put_embed.ensures

pub returns : goal.returns
returns g c =
    puts_then (picture-text (option_map (λ id. id.now) c.args.embed) (option_map (λ text. text.now) c.args.description)) c.in_ok-put_embed.ensures c.put_picture_end.ensures
