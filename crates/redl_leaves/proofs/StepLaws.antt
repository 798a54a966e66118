-- Several steps of an editor, one after the other.
use Rattle.std.proofs.Common.{◌≡◌, ◌∷◌, [], List, map, refl, sym, ap, ◌∙◌, subst}
use Rattle.redl_laws.proofs.Leaves.Ways.{made-slots, made-tallied}
use Rattle.redl_tree.specs.Leaves.States.{States, slots_of, AreTallied}
use Rattle.redl_tree.specs.Leaves.Ways.{leaf_at, made_at, made_each}
use Rattle.redl_tree.specs.Model.Nodes.{Tag}
use Rattle.redl_tree.specs.declared.kinds.Say.{Say}
use Rattle.redl_leaves.specs.Steps.{AreMade, way_of}
use Rattle.redl_leaves.specs.declared.stepping.Made.{Made}

-- these steps are left
pub record Steps (says : List Say) (ancestors : List Tag) (old : States) (all : List Made) (now : States) (left : List Made) : Type 0 where
  pub tallied : AreTallied ancestors now
  pub made : AreMade says left now
  pub becomes : made_each says ancestors (map way_of left) now ≡ made_each says ancestors (map way_of all) old

made-same : (says : List Say) (left : List Made) (old new : States) → slots_of new ≡ slots_of old → AreMade says left old → AreMade says left new
made-same says [] old new same h = tt
made-same says (one ∷ later) old new same h =
    ((λ leaf found. h.0 leaf (sym (ap (leaf_at one.way.now) same) ∙ found)), made-same says later old new same h.1)

pub steps-begun : (says : List Say) (ancestors : List Tag) (old : States) (all : List Made) → AreTallied ancestors old → AreMade says all old → Steps says ancestors old all old all
steps-begun says ancestors old all tallied made = record { tallied = tallied; made = made; becomes = refl }

pub steps-more : (says : List Say) (ancestors : List Tag) (old : States) (all : List Made) (now new : States) (one : Made) (later : List Made)
    → Steps says ancestors old all now (one ∷ later) → new ≡ made_at says ancestors one.way.now now → Steps says ancestors old all new later
steps-more says ancestors old all now new one later h step = record {
  tallied = subst (λ (s : States). AreTallied ancestors s) (sym step) (made-tallied says ancestors one.way.now now h.tallied);
  made = made-same says later now new (ap slots_of step ∙ made-slots says ancestors one.way.now now) h.made.1;
  becomes = ap (made_each says ancestors (map way_of later)) step ∙ h.becomes;
}
