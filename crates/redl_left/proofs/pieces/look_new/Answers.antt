-- An end tag is kept as no find.
use Rattle.std.proofs.Common.{ap}
use Rattle.redl_markup.specs.PieceViews.{bare_view}
use Rattle.redl_markup.specs.Views.{name_view}
use Rattle.redl_left.specs.Search.{table_of}
use Rattle.redl_left.proofs.PieceLaws.{end_is_known}
use Rattle.redl_left.proofs.pieces.look_new.Goals as goal

pub returns-in-End-clause-known : goal.returns-in-End-clause-known
returns-in-End-clause-known c =
    let table = table_of c.args.below.search.now in
    c.keep.ensures table c.requires.known
    (end_is_known table c.args.text.now (bare_view c.args.piece) (name_view c.in-End.field-0) c.in-End.field-1.now (ap bare_view c.in-End.is) c.requires.text c.requires.legal)
