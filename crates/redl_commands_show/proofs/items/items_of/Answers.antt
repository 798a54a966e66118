-- What is known of the revisions is what the definition says of them.
use Rattle.std.proofs.Common.{◌≡◌, ◌∙◌, ℕ, ap, length, map}
use Rattle.redl_clauses.specs.Clauses.{clauses_of}
use Rattle.redl_commands_shown.specs.Page.{Known, item_words, known_of, session_said}
use Rattle.redl_edits.specs.Edits.{package_edits}
use Rattle.redl_excerpts.specs.Properties.{changed_lines}
use Rattle.redl_places.specs.Places.{place_on}
use Rattle.redl_places.specs.Views.{place_at}
use Rattle.redl_remarks.specs.Ids.{remark_ids}
use Rattle.redl_commands_show.proofs.PageLaws.{items-same}
use Rattle.redl_commands_show.proofs.items.items_of.Goals as goal

pub returns : goal.returns
unfolding session_said
returns c =
    let state = c.args.session.now in
    let index = c.index-index.result.now in
    let known : Known = record {
      clauses = c.in_ok-clauses_of.field-0.items;
      place_on = place_at c.in_ok-of.field-0;
      lines = c.in_ok-changed_lines.field-0.items;
      edits = c.in_ok-edits_of.field-0.items;
      ids = c.in_ok-remark_ids.field-0.items;
    } in
    c.in_ok-items.ensures
    ∙ ap (map (item_words known)) (c.revisions.ensures.value ∙ c.index-index.ensures)
    ∙ items-same known (known_of state)
    (c.in_ok-clauses_of.ensures ∙ ap (λ nodes. clauses_of nodes c.count.result) c.package-pkg.ensures ∙ ap (clauses_of state.nodes) (c.count.ensures ∙ ap length c.index-index.ensures))
    (c.in_ok-changed_lines.ensures ∙ ap (λ nodes. changed_lines nodes index) c.package-pkg.ensures ∙ ap (changed_lines state.nodes) c.index-index.ensures)
    (c.in_ok-edits_of.ensures ∙ ap (λ nodes. package_edits nodes index) c.package-pkg.ensures ∙ ap (package_edits state.nodes) c.index-index.ensures)
    (c.in_ok-remark_ids.ensures ∙ ap (λ nodes. remark_ids nodes c.count-2.result) c.package-pkg.ensures ∙ ap (remark_ids state.nodes) (c.count-2.ensures ∙ ap length c.index-index.ensures))
    (λ v. c.in_ok-of.ensures v ∙ ap (λ nodes. place_on nodes v) c.package-pkg.ensures) state.revisions
