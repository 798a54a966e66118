-- What the first piece is: a known tag, the bytes before a tag, or what is read.
use Rattle.std.proofs.Common.{◌∙◌, ap, sym, List}
use Rattle.redl_grammar.specs.declared.section.Section.TheVariants.{InElement}
use Rattle.redl_grammar.specs.Pieces.{stretch}
use Rattle.redl_grammar.specs.ScanPieces.{piece_at}
use Rattle.redl_markup.specs.PieceViews.{bare_view}
use Rattle.redl_left.specs.Finds.{Find}
use Rattle.redl_left.specs.Lines.{noted_all}
use Rattle.redl_left.specs.Search.{table_of}
use Rattle.redl_left.specs.Seen.{tables_of}
use Rattle.redl_left.proofs.PieceLaws.{before_rest, piece_there, read_stands, there_gives, took}
use Rattle.redl_left.proofs.pieces.look_piece.Goals as goal

pub returns-in-Some-clause-took : goal.returns-in-Some-clause-took
returns-in-Some-clause-took c = λ has.
    let table = table_of c.args.below.search.now in
    let part = c.args.below.part.now in
    let old = tables_of c.args.seen.now in
    let begins = c.in-Some.ensures table c.requires.known in
    took table part old (tables_of c.note_fact.new.seen) c.args.text.now has begins.tag c.in-Some.rest.now begins.stands
    (c.in_ok-note_fact.ensures ∙ ap (λ (found : List Find). noted_all old found) (sym (begins.finds part)))

pub returns-in-Some-run_before_tag-clause-took : goal.returns-in-Some-run_before_tag-clause-took
returns-in-Some-run_before_tag-clause-took c = λ has.
    let one = c.in-Some-run_before_tag in
    took (table_of c.args.below.search.now) c.args.below.part.now (tables_of c.args.seen.now) (tables_of c.note_text.new.seen) c.args.text.now has (stretch one.run'.now) one.rest.now
    (one.ensures has) c.in_ok-note_text.ensures

pub known_piece-requires : goal.known_piece-requires
known_piece-requires c = piece_there c.args.text.now c.requires.pieces c.requires.some

pub unwrap-piece-requires : goal.unwrap-piece-requires
unwrap-piece-requires c =
    there_gives (λ x. (bare_view x.0, x.1.now)) c.known_piece.result (piece_at InElement c.args.text.now) c.known_piece.ensures
    (piece_there c.args.text.now c.requires.pieces c.requires.some)

pub look_new-requires-clause-legal : goal.look_new-requires-clause-legal
look_new-requires-clause-legal c =
    (read_stands (λ x. (bare_view x.0, x.1.now)) c.known_piece.result c.args.text.now c.unwrap-piece.result c.known_piece.ensures c.unwrap-piece.ensures).legal

pub look_new-requires-clause-text : goal.look_new-requires-clause-text
look_new-requires-clause-text c =
    let x = c.unwrap-piece.result in
    let stands = read_stands (λ y. (bare_view y.0, y.1.now)) c.known_piece.result c.args.text.now x c.known_piece.ensures c.unwrap-piece.ensures in
    c.before-2.ensures ∙ before_rest c.args.text.now (bare_view x.0) x.1.now stands.whole

pub returns-clause-took : goal.returns-clause-took
returns-clause-took c = λ has.
    let x = c.unwrap-piece.result in
    let stands = read_stands (λ y. (bare_view y.0, y.1.now)) c.known_piece.result c.args.text.now x c.known_piece.ensures c.unwrap-piece.ensures in
    took (table_of c.args.below.search.now) c.args.below.part.now (tables_of c.args.seen.now) (tables_of c.look_new.new.seen) c.args.text.now has (bare_view x.0) x.1.now
    stands c.in_ok-look_new.ensures.noted
