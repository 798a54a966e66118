use Rattle.std.proofs.Common.{◌+◌, arith, drop}
use Rattle.std.specs.List.{flat_map}
use Rattle.redl_io.proofs.Puts.{so_far_goes_on, so_far_stops, so_far_ends}
use Rattle.redl_html.specs.Pieces.{pieces_text}
use Rattle.redl_page_numbers.specs.Pieces.{sort_list}
use Rattle.redl_page_numbers.proofs.PieceLaws.{at_end, in_turn}
use Rattle.redl_page_numbers.proofs.put_rows.put_sort.Goals as goal

pub returns-in_err-put_story : goal.returns-in_err-put_story
returns-in_err-put_story g c =
    let xs = c.args.stories.now in
    let i = c.loop-story.story-index in
    let x = c.story-item.result in
    so_far_stops (pieces_text ((sort_list c.args.documents) x)) (pieces_text (flat_map (sort_list c.args.documents) (drop (i + 1) xs)))
    (in_turn (sort_list c.args.documents) xs i x (omega arith) c.story-item.is) c.from_residual.ensures.1 c.loop-story.invariant c.in_err-put_story.ensures

pub loop-story-preserved : goal.loop-story-preserved
loop-story-preserved g c =
    let xs = c.args.stories.now in
    let i = c.loop-story.story-index in
    let x = c.story-item.result in
    so_far_goes_on (pieces_text ((sort_list c.args.documents) x)) (pieces_text (flat_map (sort_list c.args.documents) (drop (i + 1) xs)))
    (in_turn (sort_list c.args.documents) xs i x (omega arith) c.story-item.is) c.loop-story.invariant c.in_ok-put_story.ensures

pub returns : goal.returns
returns g c = so_far_ends (at_end (sort_list c.args.documents) c.args.stories.now c.loop-story.story-index (omega arith)) c.loop-story.invariant
