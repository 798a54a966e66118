use Rattle.std.proofs.Common.{◌≡◌, ◌∙◌, ap, sym, subst, eqb, length, map, List}
use Rattle.std.specs.BTreeSet.{btree_set_len}
use Rattle.std.specs.Slice.Iter.{iter_rest}
use Rattle.std.proofs.lemmas.Iterator.{YieldsList-from_slice, items_from_drains}
use Rattle.std.proofs.lemmas.Iterator.Consumers.{YieldsList-from_copied}
use Rattle.std.proofs.lemmas.List.{map-id}
use Rattle.redl_grammar.specs.Names.{are_distinct}
use Rattle.redl_markup.specs.Views.{name_view}
use Rattle.redl_markup.specs.declared.name.Name as code
use Rattle.redl_markup.proofs.Alike.{count_test}
use Rattle.redl_markup.proofs.distinct.many_unlike.Goals as goal

pub returns : goal.returns
returns c =
    let names = c.args.names.now in
    let chain = YieldsList-from_copied {ys = names} (YieldsList-from_slice names (ap iter_rest c.copied.ensures.source ∙ c.iter.ensures.rest)) in
    let ran = c.in_ok-set.ensures.ran in
    let same : ran.0 ≡ names = sym (map-id ran.0) ∙ items_from_drains ran.0 ran.1 chain in
    let P : List code.Name → Type 0 = λ xs. eqb (btree_set_len c.in_ok-set.set) (length xs) ≡ are_distinct (map name_view xs) in
    rw c.len.ensures.len (subst P same (count_test ran.0 c.in_ok-set.set ran.2))
