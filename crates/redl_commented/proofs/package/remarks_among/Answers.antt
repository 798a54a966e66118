-- Each step reads what the one before it found. Without comments there is nothing on any revision.
use Rattle.std.proofs.Common.{◌≡◌, ◌∙◌, ◌+◌, ap, sym, arith, List, [], Option, Some, slice_get}
use Rattle.std.proofs.lemmas.List.{nil_from_length}
use Rattle.redl_comments.specs.declared.comment.Comment.{Comment}
use Rattle.redl_spans.specs.Stories.{package_walked}
use Rattle.redl_spans.specs.Walks.{Walk}
use Rattle.redl_spans.specs.declared.place.CommentPlace.{CommentPlace}
use Rattle.redl_spans.specs.declared.span.Span.{Span}
use Rattle.redl_commented.specs.On.{Remarks, members_of, no_remarks, remarks_on}
use Rattle.redl_commented.specs.Package.{ids_of, ranged_among, remarks_among}
use Rattle.redl_commented.specs.Ranges.{own_ranges, ranged_of}
use Rattle.redl_commented.specs.declared.range.Range.{Range}
use Rattle.redl_commented.specs.declared.range.Ranged.{Ranged}
use Rattle.redl_commented.proofs.OnLaws.{nothing-kept, nothing-remarked}
use Rattle.redl_commented.proofs.package.remarks_among.Goals as goal

pub returns-then-is_empty : goal.returns-then-is_empty
returns-then-is_empty c = λ k less.
    let pkg = c.args.pkg.now in
    let threads = c.args.threads.now in
    let no_comments : c.args.comments.now ≡ [] = nil_from_length _ (grind (arith, c.is_empty.ensures, c.if-is_empty.true)) in
    ap (λ (on : List Remarks). slice_get on k) c.in_ok-none.ensures ∙ nothing-kept c.args.revisions k less
    ∙ ap (λ (remarks : Remarks). Some remarks) (sym (nothing-remarked no_remarks (members_of (package_walked pkg).spans (k + 1))))
    ∙ ap (λ (cs : List Comment). Some (remarks_among pkg cs threads (k + 1))) (sym no_comments)

pub returns : goal.returns
returns c = λ k less.
    let pkg = c.args.pkg.now in
    let comments = c.args.comments.now in
    let threads = c.args.threads.now in
    let walk = package_walked pkg in
    let own = own_ranges walk.places (ids_of comments) in
    let ids : c.deref.result.now ≡ ids_of comments = c.deref.ensures.value ∙ c.in_ok-ids.ensures in
    let places : c.places.result.now ≡ walk.places = c.places.ensures ∙ ap (λ (w : Walk). w.places) c.in_ok-walk.ensures in
    let spans : c.spans.result.now ≡ walk.spans = c.spans.ensures ∙ ap (λ (w : Walk). w.spans) c.in_ok-walk.ensures in
    let owned : c.deref-2.result.now ≡ own =
    c.deref-2.ensures.value ∙ c.in_ok-own.ensures ∙ ap (λ (ps : List CommentPlace). own_ranges ps c.deref.result.now) places ∙ ap (own_ranges walk.places) ids in
    let ranged : c.in_ok-ranged.ranged.items ≡ ranged_among pkg comments threads =
    c.in_ok-ranged.ensures ∙ ap (λ (os : List (Option Range)). ranged_of os threads) owned in
    c.in_ok-on.ensures k less
    ∙ ap (λ (ss : List Span). Some (remarks_on ss c.in_ok-ranged.ranged.items (k + 1))) spans
    ∙ ap (λ (rs : List Ranged). Some (remarks_on walk.spans rs (k + 1))) ranged
