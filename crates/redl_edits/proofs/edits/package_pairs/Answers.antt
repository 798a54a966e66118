use Rattle.std.proofs.Common.{◌≡◌, ◌∙◌, ap, sym, subst, List}
use Rattle.redl_spans.specs.Stories.{nothing_walked, stories_walked}
use Rattle.redl_spans.specs.Walks.{Walk}
use Rattle.redl_spans.specs.declared.span.Span.{Span}
use Rattle.redl_tree.specs.Decisions.Packages.{stories}
use Rattle.redl_edits.specs.Inside.Ends.{AreInOrder}
use Rattle.redl_edits.proofs.OrderLaws.{stories-in-order}
use Rattle.redl_edits.proofs.edits.package_pairs.Goals as goal

pub add_beside-requires : goal.add_beside-requires
add_beside-requires c =
    let walked : c.spans-spans.result.now ≡ (stories_walked (stories c.args.pkg.now) nothing_walked).spans = c.spans-spans.ensures ∙ ap (λ (w : Walk). w.spans) c.in_ok-walk.ensures in
    let P : List Span → Type 0 = λ spans. AreInOrder spans in
    subst P (sym walked) (stories-in-order (stories c.args.pkg.now))

pub add_enclosed-requires : goal.add_enclosed-requires
add_enclosed-requires c =
    let walked : c.spans-spans.result.now ≡ (stories_walked (stories c.args.pkg.now) nothing_walked).spans = c.spans-spans.ensures ∙ ap (λ (w : Walk). w.spans) c.in_ok-walk.ensures in
    let P : List Span → Type 0 = λ spans. AreInOrder spans in
    subst P (sym walked) (stories-in-order (stories c.args.pkg.now))

pub add_formatted-requires : goal.add_formatted-requires
add_formatted-requires c =
    let walked : c.spans-spans.result.now ≡ (stories_walked (stories c.args.pkg.now) nothing_walked).spans = c.spans-spans.ensures ∙ ap (λ (w : Walk). w.spans) c.in_ok-walk.ensures in
    let P : List Span → Type 0 = λ spans. AreInOrder spans in
    subst P (sym walked) (stories-in-order (stories c.args.pkg.now))
