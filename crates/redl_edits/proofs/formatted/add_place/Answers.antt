use Rattle.std.proofs.Common.{◌++◌, ◌∙◌, ℕ, ap, sym, subst, add-one, bytes_eq, get_or, if◌then◌else◌, List}
use Rattle.std.proofs.lemmas.List.{append-nil, get_or_default}
use Rattle.redl_classes.specs.declared.pair.Pair.{Pair}
use Rattle.redl_spans.specs.declared.span.Span.{Span}
use Rattle.redl_edits.specs.Alike.{is_change_if}
use Rattle.redl_edits.specs.Inside.Authors.{seen_of}
use Rattle.redl_edits.specs.Inside.Known.{AreSeen, facts_with}
use Rattle.redl_edits.specs.Inside.Reaches.{Reach, seen_with}
use Rattle.redl_edits.proofs.BesideLaws.{none}
use Rattle.redl_edits.proofs.FormattedLaws.{AreSeen-more, AreSeen-none, behind-not, reach-own}
use Rattle.redl_edits.proofs.LooseLaws.{loose-not}
use Rattle.redl_edits.proofs.formatted.add_place.Goals as goal

pub returns-in_default-clause-seen : goal.returns-in_default-clause-seen
returns-in_default-clause-seen c =
    let facts = (facts_with c.args.known.index.now c.args.known.spans.now c.args.known.passed.now c.args.known.said.now.formats.items) in
    AreSeen-none facts c.args.seen.now c.args.seen.now c.args.place c.args.dark (subst (AreSeen facts c.args.seen.now) (add-one c.args.place) c.requires.seen)
    c.requires.known.order c.requires.bound (sym c.in_default.ensures)

pub returns-in_default-clause-pairs : goal.returns-in_default-clause-pairs
returns-in_default-clause-pairs c =
    let facts = (facts_with c.args.known.index.now c.args.known.spans.now c.args.known.passed.now c.args.known.said.now.formats.items) in
    sym (append-nil c.args.pairs.now.items)
    ∙ ap (λ (ps : List Pair). c.args.pairs.now.items ++ ps)
    (sym (behind-not facts c.args.place c.requires.bound
    (loose-not c.args.known.index.now c.args.known.spans.now (get_or c.args.known.spans.now c.args.place none) (ap is_change_if (sym c.in_default.ensures)))))

pub add_behind-requires-clause-reach : goal.add_behind-requires-clause-reach
add_behind-requires-clause-reach c = λ d.
    let facts = (facts_with c.args.known.index.now c.args.known.spans.now c.args.known.passed.now c.args.known.said.now.formats.items) in
    let own = get_or c.args.known.spans.now c.args.place none in
    subst (λ (one : Span). Reach facts one c.args.place c.in_ok-reach.reach) (get_or_default c.args.known.spans.now c.args.place none d c.requires.bound)
    (subst (Reach facts own c.args.place)
    (sym (c.in_ok-reach.ensures.own ∙ ap (λ (author : List ℕ). seen_with (seen_of c.args.seen.now author) own c.args.dark) c.as_bytes.ensures))
    (reach-own facts c.args.seen.now c.args.place c.args.dark (subst (AreSeen facts c.args.seen.now) (add-one c.args.place) c.requires.seen)
    c.requires.known.order c.requires.bound c.in-Some.revision.now (sym c.in-Some.ensures) (c.requires.dark none)))

pub returns-clause-seen : goal.returns-clause-seen
returns-clause-seen c =
    let facts = (facts_with c.args.known.index.now c.args.known.spans.now c.args.known.passed.now c.args.known.said.now.formats.items) in
    let own = get_or c.args.known.spans.now c.args.place none in
    AreSeen-more facts c.args.seen.now c.see.new.self c.args.place c.args.dark (subst (AreSeen facts c.args.seen.now) (add-one c.args.place) c.requires.seen)
    c.requires.known.order c.requires.bound c.in-Some.revision.now (sym c.in-Some.ensures) (c.requires.dark none)
    (λ other.
    c.in_ok-reach.ensures.after other
    ∙ ap (λ (author : List ℕ). if bytes_eq author other then seen_with (seen_of c.args.seen.now author) own c.args.dark else seen_of c.args.seen.now other) c.as_bytes.ensures)
