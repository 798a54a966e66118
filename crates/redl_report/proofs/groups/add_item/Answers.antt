-- A thing more in the group that is there, or a group more.
use Rattle.std.proofs.Common.{◌≡◌, ◌∙◌, List, ℕ, None, map, sym, ap, subst}
use Rattle.std.specs.Map.{lookup}
use Rattle.redl_report.specs.Groups.{group_at, with_item}
use Rattle.redl_report.proofs.KeptGroups.{group-new, group-set, is_name}
use Rattle.redl_report.proofs.groups.add_item.Goals as goal

pub returns-in-Some : goal.returns-in-Some
returns-in-Some g c =
    ap (λ kept. map group_at kept) (c.get_mut.follows.holds c.push.new.self).0
    ∙ group-set c.args.groups.now.entries c.args.name.now c.args.item c.in-Some.others.now c.push.new.self c.in-Some.ensures.ordered (sym c.in-Some.ensures.value) c.in_ok-push.ensures.items

pub returns : goal.returns
returns g c =
    let kept = c.args.groups.now.entries in
    let absent : lookup (is_name c.in_ok-name.name.items) kept ≡ None =
    subst (λ (name : List ℕ). lookup (is_name name) kept ≡ None) (sym c.in_ok-name.ensures.items) (sym c.in_default.ensures.value) in
    ap (λ kept. map group_at kept) (rw c.get_mut.follows.holds-at-none at c.in_ok-insert.ensures.entries)
    ∙ group-new kept c.in_ok-name.name c.args.item c.push-2.new.self absent (rw c.new-first.ensures.items at c.in_ok-push-2.ensures.items)
    ∙ ap (λ (name : List ℕ). with_item (map group_at kept) name c.args.item.now) c.in_ok-name.ensures.items
