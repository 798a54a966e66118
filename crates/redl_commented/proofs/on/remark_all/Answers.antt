-- Member by member.
use Rattle.std.proofs.Common.{◌≡◌, ◌∙◌, ◌+◌, ◌-◌, ◌∷◌, refl, sym, ap, subst, arith, ℕ, List, drop, filter, length, take, slice_get}
use Rattle.std.proofs.lemmas.List.{drop_more, drop_all}
use Rattle.std.specs.Option.{option_map}
use Rattle.redl_spans.specs.declared.span.Span.{Span}
use Rattle.redl_commented.specs.Inside.Fronts.{BeginBefore}
use Rattle.redl_commented.specs.On.{Remarks, all_remarked, end_of, ends_after, ends_by, is_of, number_on, on_member}
use Rattle.redl_commented.specs.Orders.{Rises}
use Rattle.redl_commented.proofs.OnLaws.{begins-next, begins-nothing, begun-counted, first-on, remarked-none, remarked-step}
use Rattle.redl_commented.proofs.OrderLaws.{rises-drop}
use Rattle.redl_commented.proofs.on.remark_all.Goals as goal

pub loop-at-init : goal.loop-at-init
loop-at-init c = record {
  front = record { few = omega arith; top = c.new.ensures.items };
  begin = begins-nothing c.args.spans.now;
  each = λ k. refl;
}

pub advance-requires : goal.advance-requires
advance-requires c =
    let spans = c.args.spans.now in
    let i = c.loop-at.at in
    let span = c.span_at-span.result in
    let here : drop i spans ≡ span ∷ drop (i + 1) spans = drop_more spans i span (omega (arith, c.loop-at-test.true)) ∙ ap (λ (s : Span). s ∷ drop (i + 1) spans) (sym c.span_at-span.ensures) in
    record {
      rises = c.requires.starts;
      front = c.loop-at.invariant.front;
      begin = subst (λ (ss : List Span). BeginBefore ss (take c.loop-at.front.next c.args.all.now)) here c.loop-at.invariant.begin;
    }

pub loop-at-preserved : goal.loop-at-preserved
loop-at-preserved c =
    let all = c.args.all.now in
    let spans = c.args.spans.now in
    let i = c.loop-at.at in
    let span = c.span_at-span.result in
    let rest = drop (i + 1) spans in
    let here : drop i spans ≡ span ∷ rest = drop_more spans i span (omega (arith, c.loop-at-test.true)) ∙ ap (λ (s : Span). s ∷ rest) (sym c.span_at-span.ensures) in
    let rises : Rises end_of (span ∷ rest) = subst (Rises end_of) here (rises-drop end_of i spans c.requires.members) in
    let front = c.advance.new.self in
    let is = c.in_ok-advance.ensures.front in
    let found = c.deref.result.now in
    let same : found ≡ take 20 (on_member all span) =
    c.deref.ensures.value ∙ c.in_ok-found.ensures ∙ ap (filter (ends_after span.from)) is.top ∙ first-on span 20 front.next all c.in_ok-advance.ensures.begin c.in_ok-advance.ensures.above in
    let many : c.number_on-number.result ≡ number_on all span =
    c.number_on-number.ensures ∙ ap (λ (n : ℕ). front.next - n) (c.requires.ends span.from)
    ∙ ap (λ (n : ℕ). n - length (filter (ends_by span.from) all)) (begun-counted span.to front.next all is.few c.in_ok-advance.ensures.begin c.in_ok-advance.ensures.above) in
    record {
      front = is;
      begin = begins-next span.to rest (take front.next all) rises.0 c.in_ok-advance.ensures.begin;
      each = λ k.
          ap (option_map (λ (remarks : Remarks). all_remarked all remarks (filter (is_of (k + 1)) rest))) (c.in_ok-remark.ensures k)
          ∙ remarked-step all (k + 1) span rest found c.number_on-number.result same many (slice_get c.loop-at.on.items k)
          ∙ ap (λ (ss : List Span). option_map (λ (remarks : Remarks). all_remarked all remarks (filter (is_of (k + 1)) ss)) (slice_get c.loop-at.on.items k)) (sym here)
          ∙ c.loop-at.invariant.each k;
    }

pub returns : goal.returns
returns c = λ k.
    let all = c.args.all.now in
    let now = slice_get c.loop-at.on.items k in
    sym (remarked-none now all)
    ∙ ap (λ (ss : List Span). option_map (λ (remarks : Remarks). all_remarked all remarks (filter (is_of (k + 1)) ss)) now) (sym (drop_all c.loop-at.at c.args.spans.now (omega (arith, c.loop-at-test.false))))
    ∙ c.loop-at.invariant.each k
