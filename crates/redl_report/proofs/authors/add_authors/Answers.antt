-- A line more, for a group that is no longer than all revisions.
use Rattle.std.proofs.Common.{◌≡◌, ◌∙◌, ◌++◌, ◌≤◌, ℕ, List, map, length, sym, ap, subst, arith}
use Rattle.std.proofs.lemmas.List.{append-nil, length-map}
use Rattle.std.specs.List.{AllByRecursion}
use Rattle.std.specs.Map.Iter.{deref}
use Rattle.redl_index.specs.declared.revision.Revision.{Revision}
use Rattle.redl_report.specs.Groups.{Group, group_at, group_with}
use Rattle.redl_report.specs.Reports.{author_line, author_of}
use Rattle.redl_report.proofs.ListLaws.{made-more}
use Rattle.redl_report.proofs.GroupLaws.{no-longer}
use Rattle.redl_report.proofs.authors.add_authors.Goals as goal

abbrev IsShort : List Revision → Group Revision → Type 0
IsShort revisions group = length group.items ≤ length revisions

pub loop-name-init : goal.loop-name-init
loop-name-init c =
    let groups = ap (map group_at) c.into_iter-name-iterator.ensures.into_iter_gives.0 ∙ c.in_ok-groups.ensures in
    record {
      lines = ap (λ (gs : List (Group Revision)). c.args.lines.now.items ++ map (author_line c.args.book.now) gs) groups;
      few = subst (AllByRecursion (IsShort c.args.revisions.now)) (sym groups) (no-longer author_of c.args.revisions.now);
    }

pub author_line-requires : goal.author_line-requires
author_line-requires c =
    let all = subst (AllByRecursion (IsShort c.args.revisions.now)) (ap (map group_at) c.in-Some.ensures.steps) c.loop-name.invariant.few in
    let short : length (map deref c.deref-in-loop-name.result.now) ≤ length c.args.revisions.now =
    subst (λ (items : List Revision). length items ≤ length c.args.revisions.now) (ap (map deref) (sym c.deref-in-loop-name.ensures.value)) all.0 in
    let same : length (map deref c.deref-in-loop-name.result.now) ≡ length c.deref-in-loop-name.result.now = length-map c.deref-in-loop-name.result.now deref in
    omega (arith, short, same, c.requires)

pub loop-name-preserved : goal.loop-name-preserved
loop-name-preserved c =
    let steps = ap (map group_at) c.in-Some.ensures.steps in
    record {
      lines = made-more (author_line c.args.book.now) c.loop-name.lines.items c.push.new.self.items (group_with c.in-Some.name.now.items (map deref c.in-Some.own.now.items)) c.in_ok-line.line
          (map group_at c.loop-name.name-iterator) (map group_at c.next.new.self) _ c.in_ok-push.ensures.items
          (c.in_ok-line.ensures ∙ ap (λ (name : List ℕ). author_line c.args.book.now (group_with name (map deref c.deref-in-loop-name.result.now))) c.deref.ensures.value
          ∙ ap (λ items. author_line c.args.book.now (group_with c.in-Some.name.now.items (map deref items))) c.deref-in-loop-name.ensures.value)
          steps c.loop-name.invariant.lines;
      few = (subst (AllByRecursion (IsShort c.args.revisions.now)) steps c.loop-name.invariant.few).1;
    }

pub returns : goal.returns
returns c =
    sym (append-nil c.loop-name.lines.items) ∙ ap (λ left. c.loop-name.lines.items ++ map (author_line c.args.book.now) (map group_at left)) (sym c.in-None.ensures.steps.0) ∙ c.loop-name.invariant.lines
