use Rattle.std.proofs.Common.{◌≡◌, ℕ, List, false, sym, ap, ◌∙◌, subst}
use Rattle.std.specs.Str.{bytes_eq}
use Rattle.std.specs.Prelude.{◌&&◌, ◌||◌, ◌==◌}
use Rattle.redl_join.specs.Inside.Numbers.{is_numbered, has_number}
use Rattle.redl_join.proofs.NumbersOf.{given, are_more}
use Rattle.redl_join.proofs.numbers.give_number.Goals as goal

pub returns-clause-numbers : goal.returns-clause-numbers
returns-clause-numbers c =
    let lacks : is_numbered c.args.numbers.now.entries c.in_ok-name.name.items ≡ false =
    subst (λ (name : List ℕ). is_numbered c.args.numbers.now.entries name ≡ false) (sym c.in_ok-name.ensures.items) c.in_default.ensures.none in
    rw c.in_ok-insert.ensures.entries
    (are_more c.args.numbers.now.entries c.in_ok-name.name c.in-Ok.number c.requires lacks (c.in-Ok.ensures.1 ∙ c.len.ensures.len))

pub returns-clause-given : goal.returns-clause-given
returns-clause-given c = λ name n.
    let lacks : is_numbered c.args.numbers.now.entries c.in_ok-name.name.items ≡ false =
    subst (λ (reviewer : List ℕ). is_numbered c.args.numbers.now.entries reviewer ≡ false) (sym c.in_ok-name.ensures.items) c.in_default.ensures.none in
    rw c.in_ok-insert.ensures.entries
    (given c.args.numbers.now.entries c.in_ok-name.name c.in-Ok.number name n lacks
    ∙ ap (λ (reviewer : List ℕ). (bytes_eq reviewer name && c.in-Ok.number == n) || has_number c.args.numbers.now.entries name n) c.in_ok-name.ensures.items)
