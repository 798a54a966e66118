-- An entry more is in the group of its reviewer.
use Rattle.std.proofs.Common.{◌∙◌, ℕ, List, map, sym, ap}
use Rattle.std.proofs.lemmas.List.{map_push}
use Rattle.std.specs.Map.Iter.{deref}
use Rattle.redl_journal.specs.declared.entry.Entry.{Entry}
use Rattle.redl_join.proofs.Unions.{moved}
use Rattle.redl_report.specs.Groups.{Group, grouped, with_item}
use Rattle.redl_report.specs.Reports.{reviewer_of}
use Rattle.redl_report.proofs.GroupLaws.{grouped-more}
use Rattle.redl_report.proofs.groups.by_reviewer.Goals as goal

pub loop-entry-preserved : goal.loop-entry-preserved
loop-entry-preserved c =
    let seen = map deref c.loop-entry.yielded in
    let entry = c.in-Some.entry.now in
    record {
      whole = moved deref c.loop-entry.yielded c.in-Some.entry c.loop-entry.entry-iterator c.next.new.self c.args.book.now c.in-Some.ensures.steps c.loop-entry.invariant.whole;
      groups =
          c.in_ok-add_item.ensures
          ∙ ap (λ (groups : List (Group Entry)). with_item groups c.as_bytes.result.now entry) c.loop-entry.invariant.groups
          ∙ ap (λ (name : List ℕ). with_item (grouped reviewer_of seen) name entry) c.as_bytes.ensures
          ∙ grouped-more reviewer_of seen entry
          ∙ ap (grouped reviewer_of) (sym (map_push deref c.loop-entry.yielded c.in-Some.entry));
    }
