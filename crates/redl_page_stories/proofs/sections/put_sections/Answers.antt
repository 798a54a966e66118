use Rattle.std.proofs.Common.{◌+◌, ◌<◌, ◌≤◌, ◌++◌, arith, ap, sym, ◌∙◌, length, drop}
use Rattle.redl_io.proofs.Puts.{so_far_goes_on, so_far_stops, so_far_ends}
use Rattle.redl_opc.specs.Shape.{parts_of}
use Rattle.redl_opc.specs.Parts.{story}
use Rattle.redl_opc.proofs.WalkLaws.{parts-end}
use Rattle.redl_shown.specs.Shown.{shown}
use Rattle.redl_page_stories.specs.Document.{sections, section_at, is_first_after}
use Rattle.redl_html.specs.Pieces.{pieces_text}
use Rattle.redl_page_stories.specs.Views.{facts_of}
use Rattle.redl_page_stories.proofs.NodeLaws.{sections-step}
use Rattle.redl_page_stories.proofs.sections.put_sections.Goals as goal

pub returns-in_err-first : goal.returns-in_err-first
returns-in_err-first g c =
    let part = c.loop-part.part in
    let pkg = c.args.pkg.now in
    let within : part < length (parts_of pkg) = omega (arith, c.parts-part-end.ensures.value) in
    so_far_stops (pieces_text (section_at shown (facts_of c.args.facts.now) pkg c.args.documents c.loop-part.first part))
    (pieces_text (sections shown (facts_of c.args.facts.now) c.args.documents (is_first_after c.args.documents c.loop-part.first (story pkg part)) (drop (part + 1) (parts_of pkg))))
    (sections-step shown (facts_of c.args.facts.now) c.args.documents c.loop-part.first pkg part within)
    c.from_residual.ensures.1 c.loop-part.invariant c.in_err-first.ensures.puts

pub loop-part-preserved : goal.loop-part-preserved
loop-part-preserved g c =
    let part = c.loop-part.part in
    let pkg = c.args.pkg.now in
    let within : part < length (parts_of pkg) = omega (arith, c.parts-part-end.ensures.value) in
    so_far_goes_on (pieces_text (section_at shown (facts_of c.args.facts.now) pkg c.args.documents c.loop-part.first part))
    (pieces_text (sections shown (facts_of c.args.facts.now) c.args.documents c.in_ok-first.first (drop (part + 1) (parts_of pkg))))
    (sections-step shown (facts_of c.args.facts.now) c.args.documents c.loop-part.first pkg part within
    ∙ ap (λ f. pieces_text (section_at shown (facts_of c.args.facts.now) pkg c.args.documents c.loop-part.first part) ++ pieces_text (sections shown (facts_of c.args.facts.now) c.args.documents f (drop (part + 1) (parts_of pkg)))) (sym c.in_ok-first.ensures.first))
    c.loop-part.invariant c.in_ok-first.ensures.puts

pub returns : goal.returns
returns g c =
    let past : length (parts_of c.args.pkg.now) ≤ c.loop-part.part = omega (arith, c.parts-part-end.ensures.value, c.loop-part-test.false) in
    so_far_ends (ap (λ parts. pieces_text (sections shown (facts_of c.args.facts.now) c.args.documents c.loop-part.first parts)) (parts-end c.args.pkg.now c.loop-part.part past)) c.loop-part.invariant
