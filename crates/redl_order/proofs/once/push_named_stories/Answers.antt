-- Those to which references lead, and then all.
use Rattle.std.proofs.Common.{◌++◌, ◌∙◌, ℕ, Bool, false, List, [], ap, sym, append-nil, filter_map, rules}
use Rattle.std.specs.List.{flat_map}
use Rattle.std.specs.BTreeSet.{contains}
use Rattle.std.specs.Ordering.{nat_cmp}
use Rattle.std.proofs.lemmas.Result.{on_ok_weaker}
use Rattle.redl_opc.specs.Shape.{parts_of}
use Rattle.redl_relations.specs.Relations.{document_part}
use Rattle.redl_relations.specs.Leads.{lead}
use Rattle.redl_order.specs.Order.{ids, numbers_from, each_once, part_led_to, story_of_kind}
use Rattle.redl_order.specs.Borrowed.{all_borrowed}
use Rattle.redl_order.specs.declared.reference.Reference.{Reference}
use Rattle.redl_order.proofs.OnceLaws.{each_once-same, filter_map-same}
use Rattle.redl_order.proofs.once.push_named_stories.Goals as goal

pub returns : goal.returns
returns c =
    let pkg = c.args.pkg.now in
    let kind = c.args.kind in
    let story = story_of_kind kind pkg in
    let numbers = numbers_from 0 (parts_of pkg) in
    let f = lead c.args.leads.now in
    let g = part_led_to pkg (document_part pkg) in
    let leds = filter_map f (ids kind c.args.references.now) in
    let first : ℕ → Bool = contains nat_cmp c.new-seen.result in
    let none : ℕ → Bool = λ n. false in
    let old = all_borrowed c.args.roots.now.items in
    let new = all_borrowed c.push_all.new.roots.items in
    on_ok_weaker c.push_all.result (λ q.
    sym (append-nil new) ∙ q [] ∙ c.in_ok-push_led_to.ensures (numbers ++ [])
    ∙ ap (λ (l : List ℕ). old ++ flat_map story (each_once first (leds ++ l))) (append-nil numbers)
    ∙ ap (λ (l : List ℕ). old ++ flat_map story l) (each_once-same first none (λ m. search rules) (leds ++ numbers))
    ∙ ap (λ (l : List ℕ). old ++ flat_map story (each_once none (l ++ numbers)))
    (filter_map-same f g c.requires.leads (ids kind c.args.references.now) ∙ ap (λ (rs : List Reference). filter_map g (ids kind rs)) c.requires.references)) c.push_all.ensures
