use Rattle.std.proofs.Common.{sym, ◌∙◌}
use Rattle.redl_html.proofs.PieceLaws.{puts_is}
use Rattle.redl_page.proofs.ChangeLaws.{rank_words-text}
use Rattle.redl_page.proofs.changes.put_rank_words.Goals as goal

pub returns : goal.returns
returns g c = puts_is (rank_words-text c.args.rank (sym c.is_lowest.ensures ∙ c.if-is_lowest.false)) c.put_rank.ensures
