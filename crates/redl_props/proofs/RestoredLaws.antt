-- What is restored, by the sort of the properties.
use Rattle.std.proofs.Common.{◌≡◌, false, refl, ap, ◌⊎◌, inl, inr}
use Rattle.redl_tree.specs.Model.Nodes.{Nodes, no_nodes, bytes, element, ◌⊕◌}
use Rattle.redl_tree.specs.Decisions.Restored.{is_uncovered, restored}
use Rattle.redl_tree.specs.declared.kinds.Prop.{Prop}
use Rattle.redl_tree.specs.declared.kinds.Prop.TheVariants.{Run, Para, Sect, Table, Except, Row, Cell}
use Rattle.redl_tree.specs.Model.Kids.{only, without}

-- a test that nothing passes takes nothing away
without_none : (xs : Nodes) → without (λ tag. false) xs ≡ xs
without_none no_nodes = refl
without_none (bytes b rest) = ap (bytes b) (without_none rest)
without_none (element tag kids rest) = ap (element tag kids) (without_none rest)

-- the former kids are all that is restored
pub restored-table : (what : Prop) (current former : Nodes) → ((what ≡ Table) ⊎ (what ≡ Except)) → without (is_uncovered what) former ≡ restored what current former
restored-table what current former (inl e) = rw e (without_none former)
restored-table what current former (inr e) = rw e (without_none former)

-- what the change does not cover comes first
pub restored-first : (what : Prop) (current former : Nodes) → ((what ≡ Run) ⊎ (what ≡ Sect))
    → only (is_uncovered what) current ⊕ without (is_uncovered what) former ≡ restored what current former
restored-first what current former (inl e) = rw e refl
restored-first what current former (inr e) = rw e refl

-- what the change does not cover comes last
pub restored-last : (what : Prop) (current former : Nodes) → ((what ≡ Para) ⊎ ((what ≡ Row) ⊎ (what ≡ Cell)))
    → without (is_uncovered what) former ⊕ only (is_uncovered what) current ≡ restored what current former
restored-last what current former (inl e) = rw e refl
restored-last what current former (inr (inl e)) = rw e refl
restored-last what current former (inr (inr e)) = rw e refl
