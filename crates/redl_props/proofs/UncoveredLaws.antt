-- A change of properties covers all idle elements: none of them is uncovered.
use Rattle.std.proofs.Common.{◌≡◌, refl, false, List, [], ◌∷◌, ℕ}
use Rattle.redl_tree.specs.Decisions.Restored.{is_uncovered}
use Rattle.redl_tree.specs.Model.IdleTexts.{idle_nodes}
use Rattle.redl_tree.specs.Model.Kids.{some_element}
use Rattle.redl_tree.specs.declared.kinds.Prop.{Prop}
use Rattle.redl_tree.specs.declared.kinds.Prop.TheVariants.{Run, Para, Sect, Table, Except, Row, Cell}
use Rattle.redl_tree.proofs.Idle.Items.{none_idle}
use Rattle.redl_tree.proofs.Idle.Lists.{NoneIs, names_none}

pub none_uncovered : (what : Prop) → NoneIs false (is_uncovered what)
none_uncovered Run = names_none ("ins" ∷ "del" ∷ "moveFrom" ∷ "moveTo" ∷ []) false refl
none_uncovered Para = names_none ("rPr" ∷ "sectPr" ∷ []) false refl
none_uncovered Sect = names_none ("headerReference" ∷ "footerReference" ∷ []) false refl
none_uncovered Table = λ tag i. refl
none_uncovered Except = λ tag i. refl
none_uncovered Row = names_none ("ins" ∷ "del" ∷ []) false refl
none_uncovered Cell = names_none ("cellIns" ∷ "cellDel" ∷ "cellMerge" ∷ []) false refl

pub idle_uncovered : (what : Prop) (t : List ℕ) → some_element (is_uncovered what) (idle_nodes t) ≡ false
idle_uncovered what t = none_idle (is_uncovered what) (none_uncovered what) t
