-- A part that wasn't seen.
use Rattle.std.proofs.Common.{◌≡◌, ◌++◌, ◌∙◌, ℕ, List, Bool, true, false, not, ap, refl, filter}
use Rattle.std.specs.BTreeSet.{contains}
use Rattle.std.specs.Ordering.{nat_cmp}
use Rattle.std.proofs.lemmas.Result.{on_ok_weaker}
use Rattle.redl_opc.specs.Stories.{stories_of_part}
use Rattle.redl_order.specs.Order.{has_name, story_of_kind}
use Rattle.redl_order.specs.Borrowed.{all_borrowed}
use Rattle.redl_order.proofs.OnceLaws.{one_more_seen, pushes_one}
use Rattle.redl_order.proofs.once.push_once.Goals as goal

not_there : (added was : Bool) → added ≡ not was → added ≡ true → was ≡ false
not_there true false e f = refl
not_there true true e f = cc
not_there false was e f = cc

pub returns-then-branch : goal.returns-then-branch
returns-then-branch c =
    let pkg = c.args.pkg.now in
    let part = c.args.part in
    let kind = c.args.kind in
    let was : ℕ → Bool = contains nat_cmp c.args.seen.now in
    let now : ℕ → Bool = contains nat_cmp c.insert.new.self in
    let old = all_borrowed c.args.roots.now.items in
    on_ok_weaker c.push_story.result (λ is.
    pushes_one (story_of_kind kind pkg) was now old (all_borrowed c.push_story.new.roots.items) part
    (not_there c.in_ok-insert.field-0 (was part) c.in_ok-insert.ensures.added c.if-branch.true)
    (λ m. c.in_ok-insert.ensures.updates.0 m ∙ one_more_seen part m (was m))
    (is ∙ ap (λ (name : List ℕ). old ++ filter (has_name name) (stories_of_part pkg part)) c.word.ensures)) c.push_story.ensures
