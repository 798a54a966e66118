use Rattle.std.proofs.Common.{◌≡◌, ◌∙◌, ◌+◌, ◌++◌, ◌∷◌, [], All, List, length, length-append, ap, sym, subst, arith}
use Rattle.std.proofs.lemmas.List.Elements.{All-push}
use Rattle.redl_index.specs.Revisions.{IsListable}
use Rattle.redl_index.specs.declared.revision.Revision.{Revision}
use Rattle.redl_index.proofs.IndexLaws.{numbers-more}
use Rattle.redl_index.proofs.index.Index.add.Goals as goal

pub invariant_of-self-2 : goal.invariant_of-self-2
invariant_of-self-2 c =
    let had = c.self.inside.revisions.items in
    let items : c.push.new.self.items ≡ had ++ c.args.revision ∷ [] = c.in_ok-push.ensures.items in
    let P : List Revision → Type 0 = All IsListable in
    record {
      told = subst P (sym items) (All-push IsListable had c.args.revision c.self.invariant.told c.requires.told);
      numbers = numbers-more had c.push.new.self.items c.args.revision items c.self.invariant.numbers
          (c.requires.number ∙ ap (λ (rs : List Revision). length rs + 1) (sym c.self.view_is));
      few = omega (arith, ap length items, ap (λ (rs : List Revision). length rs) c.self.view_is, c.requires.few, length-append had (c.args.revision ∷ []));
    }
