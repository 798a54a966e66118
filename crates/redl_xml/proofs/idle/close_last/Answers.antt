use Rattle.std.proofs.Common.{◌≡◌, ◌∙◌, ◌++◌, ◌-◌, ℕ, sym, ap, length, arith, Option, Some, slice_get}
use Rattle.std.specs.Option.{option_to_list}
use Rattle.std.specs.Vec.{vec_len}
use Rattle.std.proofs.Math.ListN.{get_or}
use Rattle.std.proofs.lemmas.Option.{slice_get_within, get_or_from_slice_get}
use Rattle.redl_markup.specs.declared.name.Name as code
use Rattle.redl_markup.specs.Views.{name_view}
use Rattle.redl_xml.proofs.FoldLoop.{last_popped}
use Rattle.redl_xml.proofs.idle.close_last.Goals as goal

pub returns-clause-closed : goal.returns-clause-closed
returns-clause-closed c =
    let old = c.args.names.now in
    let name = c.in_ok-name.field-0.now in
    let there : slice_get old.items (length old.items - 1) ≡ Some name = rw c.deref.ensures.value at (sym c.in_ok-name.ensures.value) in
    let within = slice_get_within old.items (length old.items - 1) name there in
    let long : vec_len old ≡ length old.items = omega (arith, old.ok.0) in
    let last : c.pop.result ≡ Some name =
    c.pop.ensures.value name (omega (arith, within, long)) ∙ ap (λ (n : ℕ). Some (get_or old.items (n - 1) name)) long ∙ ap (λ (x : code.Name). Some x) (get_or_from_slice_get old.items (length old.items - 1) name name there)
    in
    record {
      name = name_view name;
      names = last_popped old.items c.pop.new.self.items name (c.pop.ensures.items ∙ ap (λ (r : Option code.Name). c.pop.new.self.items ++ option_to_list r) last);
      whole = c.in_ok-rest.ensures;
    }
