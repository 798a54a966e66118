-- The first node of a kept text and what comes after it. It is long because a node is a text, an empty tag, or a tag with kids.
use Rattle.std.proofs.Common.{◌∙◌, ℕ, ap, sym, refl, true≢false, List, [], length, arith}
use Rattle.redl_grammar.specs.declared.section.Section.TheVariants.{InElement}
use Rattle.redl_markup.specs.PieceViews.{bare_view}
use Rattle.redl_markup.specs.Views.{name_view}
use Rattle.redl_grammar.specs.Pieces.{start_tag, empty_tag, end_tag, stretch}
use Rattle.redl_grammar.specs.References.{is_there}
use Rattle.redl_grammar.proofs.Pieces.{piece_shorter}
use Rattle.redl_tree.specs.Model.Nodes.{Nodes, element, Empty, End}
use Rattle.redl_tree.specs.Model.Folds.{plain_tag, nodes_in}
use Rattle.redl_tree.specs.declared.kinds.Space.TheVariants.{W}
use Rattle.redl_laid.proofs.FoldFronts.{front, front_there}
use Rattle.redl_tree.proofs.Reading.FoldLaws.{nothing_in, nothing_reads}
use Rattle.redl_laid.proofs.FrontLaws.{empty_fits, start_fits, kids_fit, parts_are}
use Rattle.redl_laid.proofs.laid.first_in.Goals as goal

pub returns-then-is_empty-clause-none : goal.returns-then-is_empty-clause-none
returns-then-is_empty-clause-none c = λ yes. nothing_in c.args.text.now (grind (arith, c.is_empty.ensures, c.if-is_empty.true))

pub known_piece-requires : goal.known_piece-requires
known_piece-requires c = front_there W c.args.text.now c.requires.reads (λ none. grind (arith, c.is_empty.ensures, c.if-is_empty.false, ap length none))

pub returns-in_err-piece-clause-none : goal.returns-in_err-piece-clause-none
returns-in_err-piece-clause-none c = λ yes.
    let there = front_there W c.args.text.now c.requires.reads (λ none. grind (arith, c.is_empty.ensures, c.if-is_empty.false, ap length none)) in
    absurd (true≢false (sym there ∙ ap is_there c.in_err-piece.ensures))

pub new-requires-clause-reads : goal.new-requires-clause-reads
new-requires-clause-reads c =
    let e = rw c.in-Stretch.is at c.in_ok-piece.ensures in
    (front W c.args.text.now (stretch c.in-Stretch.bytes.now, c.in_ok-piece.rest.now) c.requires.reads e).0

pub new-requires-clause-short : goal.new-requires-clause-short
new-requires-clause-short c =
    omega (arith, c.requires.short, piece_shorter InElement c.args.text.now (bare_view c.in_ok-piece.piece, c.in_ok-piece.rest.now) c.in_ok-piece.ensures)

pub plain_tag-requires : goal.plain_tag-requires
plain_tag-requires c =
    let e = rw c.in-Empty.is at c.in_ok-piece.ensures in
    omega (arith, c.requires.short, empty_fits c.args.text.now c.in-Empty.tag.name c.in-Empty.tag.tail c.in_ok-piece.rest.now e)

pub new-requires-in-Empty-clause-reads : goal.new-requires-in-Empty-clause-reads
new-requires-in-Empty-clause-reads c = nothing_reads

pub new-requires-in-Empty-2-clause-reads : goal.new-requires-in-Empty-2-clause-reads
new-requires-in-Empty-2-clause-reads c =
    let e = rw c.in-Empty.is at c.in_ok-piece.ensures in
    (front W c.args.text.now (empty_tag c.in-Empty.tag.name c.in-Empty.tag.tail, c.in_ok-piece.rest.now) c.requires.reads e).0

pub new-requires-in-Empty-2-clause-short : goal.new-requires-in-Empty-2-clause-short
new-requires-in-Empty-2-clause-short c =
    omega (arith, c.requires.short, piece_shorter InElement c.args.text.now (bare_view c.in_ok-piece.piece, c.in_ok-piece.rest.now) c.in_ok-piece.ensures)

pub end_of_kids-requires : goal.end_of_kids-requires
end_of_kids-requires c =
    let e = rw c.in-Start.is at c.in_ok-piece.ensures in
    (front W c.args.text.now (start_tag c.in-Start.tag.name c.in-Start.tag.tail, c.in_ok-piece.rest.now) c.requires.reads e).kids

pub returns-in_err-kids-in-Start-clause-none : goal.returns-in_err-kids-in-Start-clause-none
returns-in_err-kids-in-Start-clause-none c = λ yes.
    let e = rw c.in-Start.is at c.in_ok-piece.ensures in
    let opened = front W c.args.text.now (start_tag c.in-Start.tag.name c.in-Start.tag.tail, c.in_ok-piece.rest.now) c.requires.reads e in
    absurd (true≢false (ap is_there (c.in_err-kids-in-Start.ensures opened.kids)))

pub plain_tag-requires-in-Start : goal.plain_tag-requires-in-Start
plain_tag-requires-in-Start c =
    let e = rw c.in-Start.is at c.in_ok-piece.ensures in
    omega (arith, c.requires.short, start_fits c.args.text.now c.in-Start.tag.name c.in-Start.tag.tail c.in_ok-piece.rest.now e)

pub new-requires-in-Start-clause-reads : goal.new-requires-in-Start-clause-reads
new-requires-in-Start-clause-reads c =
    let e = rw c.in-Start.is at c.in_ok-piece.ensures in
    let opened = front W c.args.text.now (start_tag c.in-Start.tag.name c.in-Start.tag.tail, c.in_ok-piece.rest.now) c.requires.reads e in
    let parts = parts_are opened.kids c.in_ok-kids-in-Start.kids.now c.in_ok-kids-in-Start.white.now c.in_ok-kids-in-Start.rest.now (c.in_ok-kids-in-Start.ensures opened.kids) in
    rw parts.0 at opened.kids.inner_reads

pub new-requires-in-Start-clause-short : goal.new-requires-in-Start-clause-short
new-requires-in-Start-clause-short c =
    let e = rw c.in-Start.is at c.in_ok-piece.ensures in
    let opened = front W c.args.text.now (start_tag c.in-Start.tag.name c.in-Start.tag.tail, c.in_ok-piece.rest.now) c.requires.reads e in
    let parts = parts_are opened.kids c.in_ok-kids-in-Start.kids.now c.in_ok-kids-in-Start.white.now c.in_ok-kids-in-Start.rest.now (c.in_ok-kids-in-Start.ensures opened.kids) in
    omega (arith, c.requires.short, piece_shorter InElement c.args.text.now (start_tag c.in-Start.tag.name c.in-Start.tag.tail, c.in_ok-piece.rest.now) e, (kids_fit W c.in_ok-piece.rest.now opened.kids).0, ap length parts.0)

pub new-requires-in-Start-2-clause-reads : goal.new-requires-in-Start-2-clause-reads
new-requires-in-Start-2-clause-reads c =
    let e = rw c.in-Start.is at c.in_ok-piece.ensures in
    let opened = front W c.args.text.now (start_tag c.in-Start.tag.name c.in-Start.tag.tail, c.in_ok-piece.rest.now) c.requires.reads e in
    let parts = parts_are opened.kids c.in_ok-kids-in-Start.kids.now c.in_ok-kids-in-Start.white.now c.in_ok-kids-in-Start.rest.now (c.in_ok-kids-in-Start.ensures opened.kids) in
    rw parts.2 at opened.kids.rest_reads

pub new-requires-in-Start-2-clause-short : goal.new-requires-in-Start-2-clause-short
new-requires-in-Start-2-clause-short c =
    let e = rw c.in-Start.is at c.in_ok-piece.ensures in
    let opened = front W c.args.text.now (start_tag c.in-Start.tag.name c.in-Start.tag.tail, c.in_ok-piece.rest.now) c.requires.reads e in
    let parts = parts_are opened.kids c.in_ok-kids-in-Start.kids.now c.in_ok-kids-in-Start.white.now c.in_ok-kids-in-Start.rest.now (c.in_ok-kids-in-Start.ensures opened.kids) in
    omega (arith, c.requires.short, piece_shorter InElement c.args.text.now (start_tag c.in-Start.tag.name c.in-Start.tag.tail, c.in_ok-piece.rest.now) e, (kids_fit W c.in_ok-piece.rest.now opened.kids).1, ap length parts.2)

pub returns-in-Stretch-clause-some : goal.returns-in-Stretch-clause-some
returns-in-Stretch-clause-some c =
    let e = rw c.in-Stretch.is at c.in_ok-piece.ensures in
    rw c.new.ensures (front W c.args.text.now (stretch c.in-Stretch.bytes.now, c.in_ok-piece.rest.now) c.requires.reads e).1

pub returns-in-Stretch-clause-shorter : goal.returns-in-Stretch-clause-shorter
returns-in-Stretch-clause-shorter c =
    rw c.new.ensures (piece_shorter InElement c.args.text.now (bare_view c.in_ok-piece.piece, c.in_ok-piece.rest.now) c.in_ok-piece.ensures)

pub returns-in-Empty-clause-some : goal.returns-in-Empty-clause-some
returns-in-Empty-clause-some c =
    let e = rw c.in-Empty.is at c.in_ok-piece.ensures in
    let tag = c.in-Empty.tag in
    let f = front W c.args.text.now (empty_tag tag.name tag.tail, c.in_ok-piece.rest.now) c.requires.reads e in
    rw (c.plain_tag.ensures, c.new-in-Empty.ensures, c.new-in-Empty-2.ensures)
    (f.1 ∙ ap (λ (k : Nodes). element (plain_tag tag.name W tag.tail Empty) k (nodes_in W c.in_ok-piece.rest.now)) (sym (nothing_in [] refl)))

pub returns-in-Empty-clause-shorter : goal.returns-in-Empty-clause-shorter
returns-in-Empty-clause-shorter c =
    let less = piece_shorter InElement c.args.text.now (bare_view c.in_ok-piece.piece, c.in_ok-piece.rest.now) c.in_ok-piece.ensures in
    (omega (arith, less, ap length c.new-in-Empty-2.ensures), omega (arith, less, ap length c.new-in-Empty.ensures))

pub returns-in_ok-kids-in-Start-clause-some : goal.returns-in_ok-kids-in-Start-clause-some
returns-in_ok-kids-in-Start-clause-some c =
    let e = rw c.in-Start.is at c.in_ok-piece.ensures in
    let tag = c.in-Start.tag in
    let opened = front W c.args.text.now (start_tag tag.name tag.tail, c.in_ok-piece.rest.now) c.requires.reads e in
    let found = c.in_ok-kids-in-Start in
    let parts = parts_are opened.kids found.kids.now found.white.now found.rest.now (found.ensures opened.kids) in
    rw (c.plain_tag-in-Start.ensures, c.new-in-Start.ensures, c.new-in-Start-2.ensures)
    (opened.parts
    ∙ ap (λ (t : List ℕ). element (plain_tag tag.name W tag.tail (End opened.kids.white)) (nodes_in W t) (nodes_in W opened.kids.rest)) parts.0
    ∙ ap (λ (w : List ℕ). element (plain_tag tag.name W tag.tail (End w)) (nodes_in W found.kids.now) (nodes_in W opened.kids.rest)) parts.1
    ∙ ap (λ (t : List ℕ). element (plain_tag tag.name W tag.tail (End found.white.now)) (nodes_in W found.kids.now) (nodes_in W t)) parts.2)

pub returns-in_ok-kids-in-Start-clause-shorter : goal.returns-in_ok-kids-in-Start-clause-shorter
returns-in_ok-kids-in-Start-clause-shorter c =
    let e = rw c.in-Start.is at c.in_ok-piece.ensures in
    let tag = c.in-Start.tag in
    let opened = front W c.args.text.now (start_tag tag.name tag.tail, c.in_ok-piece.rest.now) c.requires.reads e in
    let found = c.in_ok-kids-in-Start in
    let parts = parts_are opened.kids found.kids.now found.white.now found.rest.now (found.ensures opened.kids) in
    let less = piece_shorter InElement c.args.text.now (start_tag tag.name tag.tail, c.in_ok-piece.rest.now) e in
    let fit = kids_fit W c.in_ok-piece.rest.now opened.kids in
    (omega (arith, less, fit.1, ap length parts.2, ap length c.new-in-Start-2.ensures), omega (arith, less, fit.0, ap length parts.0, ap length c.new-in-Start.ensures))

pub returns-in-End-clause-none : goal.returns-in-End-clause-none
returns-in-End-clause-none c = λ yes.
    let e = rw c.in-End.is at c.in_ok-piece.ensures in
    absurd (front W c.args.text.now (end_tag (name_view c.in-End.field-0) c.in-End.field-1.now, c.in_ok-piece.rest.now) c.requires.reads e)
