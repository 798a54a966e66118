use Rattle.std.proofs.Common.{ap, sym, ◌∙◌, ◌+◌, ◌∷◌, arith, drop}
use Rattle.std.proofs.lemmas.List.{drop_more, drop_all}
use Rattle.std.specs.List.{flat_map}
use Rattle.redl_io.proofs.Puts.{so_far_goes_on, so_far_stops, so_far_ends}
use Rattle.redl_html.specs.Pieces.{pieces_text}
use Rattle.redl_page_pictures.specs.List.{lead_item}
use Rattle.redl_page_pictures.proofs.ListLaws.{leads-more}
use Rattle.redl_page_pictures.proofs.list.put_leads.Goals as goal

pub returns-in_err-put_lead : goal.returns-in_err-put_lead
returns-in_err-put_lead g c =
    let all = c.args.leads.now in
    let i = c.loop-lead.lead-index in
    let lead = c.lead-item.result in
    so_far_stops (pieces_text (lead_item lead)) (pieces_text (flat_map lead_item (drop (i + 1) all)))
    (ap (λ xs. pieces_text (flat_map lead_item xs)) (drop_more all i lead (omega arith) ∙ ap (λ x. x ∷ drop (i + 1) all) (sym c.lead-item.is)) ∙ leads-more lead (drop (i + 1) all))
    c.from_residual.ensures.1 c.loop-lead.invariant c.in_err-put_lead.ensures

pub loop-lead-preserved : goal.loop-lead-preserved
loop-lead-preserved g c =
    let all = c.args.leads.now in
    let i = c.loop-lead.lead-index in
    let lead = c.lead-item.result in
    so_far_goes_on (pieces_text (lead_item lead)) (pieces_text (flat_map lead_item (drop (i + 1) all)))
    (ap (λ xs. pieces_text (flat_map lead_item xs)) (drop_more all i lead (omega arith) ∙ ap (λ x. x ∷ drop (i + 1) all) (sym c.lead-item.is)) ∙ leads-more lead (drop (i + 1) all))
    c.loop-lead.invariant c.in_ok-put_lead.ensures

pub returns : goal.returns
returns g c = so_far_ends (ap (λ xs. pieces_text (flat_map lead_item xs)) (drop_all c.loop-lead.lead-index c.args.leads.now (omega arith))) c.loop-lead.invariant
