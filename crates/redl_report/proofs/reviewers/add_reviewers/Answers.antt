-- A line more, for a group of entries that are a book.
use Rattle.std.proofs.Common.{◌∙◌, ◌++◌, ℕ, List, map, sym, ap, subst}
use Rattle.std.proofs.lemmas.List.{append-nil}
use Rattle.std.specs.List.{AllByRecursion}
use Rattle.std.specs.Map.Iter.{deref}
use Rattle.redl_journal.specs.declared.entry.Entry.{Entry}
use Rattle.redl_report.specs.Groups.{Group, group_at, group_with}
use Rattle.redl_report.specs.Reports.{reviewer_line}
use Rattle.redl_report.proofs.ListLaws.{made-more}
use Rattle.redl_report.proofs.OwnLaws.{IsOwn, all-own}
use Rattle.redl_report.proofs.reviewers.add_reviewers.Goals as goal

pub loop-name-init : goal.loop-name-init
loop-name-init c =
    let groups = ap (map group_at) c.into_iter-name-iterator.ensures.into_iter_gives.0 ∙ c.in_ok-groups.ensures.groups in
    record {
      lines = ap (λ (gs : List (Group Entry)). c.args.lines.now.items ++ map (reviewer_line c.args.count) gs) groups;
      own = subst (AllByRecursion IsOwn) (sym groups) (all-own c.args.book.now c.in_ok-groups.ensures.ordered c.in_ok-groups.ensures.allowed);
    }

pub reviewer_line-requires : goal.reviewer_line-requires
reviewer_line-requires c =
    let all = subst (AllByRecursion IsOwn) (ap (map group_at) c.in-Some.ensures.steps) c.loop-name.invariant.own in
    let same = ap (map deref) (sym c.deref-in-loop-name.ensures.value) in
    let own = subst (λ (items : List Entry). IsOwn (group_with c.in-Some.name.now.items items)) same all.0 in
    record { book = own.book; allowed = own.allowed }

pub loop-name-preserved : goal.loop-name-preserved
loop-name-preserved c =
    let steps = ap (map group_at) c.in-Some.ensures.steps in
    record {
      lines = made-more (reviewer_line c.args.count) c.loop-name.lines.items c.push.new.self.items (group_with c.in-Some.name.now.items (map deref c.in-Some.own.now.items)) c.in_ok-line.line
          (map group_at c.loop-name.name-iterator) (map group_at c.next.new.self) _ c.in_ok-push.ensures.items
          (c.in_ok-line.ensures ∙ ap (λ (name : List ℕ). reviewer_line c.args.count (group_with name (map deref c.deref-in-loop-name.result.now))) c.deref.ensures.value
          ∙ ap (λ items. reviewer_line c.args.count (group_with c.in-Some.name.now.items (map deref items))) c.deref-in-loop-name.ensures.value)
          steps c.loop-name.invariant.lines;
      own = (subst (AllByRecursion IsOwn) steps c.loop-name.invariant.own).1;
    }

pub returns-clause-lines : goal.returns-clause-lines
returns-clause-lines c =
    sym (append-nil c.loop-name.lines.items) ∙ ap (λ left. c.loop-name.lines.items ++ map (reviewer_line c.args.count) (map group_at left)) (sym c.in-None.ensures.steps.0) ∙ c.loop-name.invariant.lines
