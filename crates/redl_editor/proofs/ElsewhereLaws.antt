-- A leaf that holds no member or marker of the revisions that are set stays as it was, but where something round it goes.
use Rattle.std.proofs.Common.{◌≡◌, ◌==◌, inl, inr, ℕ, Bool, true, false, List, slice_get, Option, Some, if◌then◌else◌, refl, sym, ap, subst, ◌∙◌}
use Rattle.redl_editor.proofs.CountLaws.{get-map}
use Rattle.redl_editor.proofs.FormerLaws.{changed-same}
use Rattle.redl_editor.specs.Changes.{is_changed}
use Rattle.redl_editor.specs.Documents.{Document, leaf_of, present_at}
use Rattle.redl_editor.specs.Elsewhere.{IsAsBefore, StaysElsewhere}
use Rattle.redl_laws.proofs.Leaves.Locality.{pass_leaf-same}
use Rattle.redl_laws.proofs.Leaves.Says.{set_say-other}
use Rattle.redl_tree.specs.Decisions.Packages.{stories}
use Rattle.redl_tree.specs.Leaves.Leaf.{LeafPath, leaves}
use Rattle.redl_tree.specs.Leaves.Present.{any_goes, pass_leaf, present_leaf}
use Rattle.redl_tree.specs.Leaves.Settings.{SameBut, set_say}
use Rattle.redl_tree.specs.Model.Nodes.{Nodes, no_nodes}
use Rattle.redl_tree.specs.Model.View.{Element}
use Rattle.redl_tree.specs.declared.kinds.Say.{Say}

-- one leaf under two lists of says
as-before : (old new : List Say) (path : LeafPath) → pass_leaf old path.leaf ≡ pass_leaf new path.leaf
    → IsAsBefore (Some (present_leaf old path)) (Some (present_leaf new path))
as-before old new path same = at (any_goes old path.containers) (any_goes new path.containers)
  where
    at : (b c : Bool) → IsAsBefore (Some (if b then no_nodes else pass_leaf old path.leaf)) (Some (if c then no_nodes else pass_leaf new path.leaf))
    at b true = inr (inl refl)
    at true false = inr (inr refl)
    at false false = inl (ap Some (sym same))

present-is : (nodes : Nodes) (says : List Say) (number place : ℕ) (story : Element) (path : LeafPath) → slice_get (stories nodes) number ≡ Some story
    → slice_get (leaves story) place ≡ Some path → present_at (record { nodes = nodes; says = says }) number place ≡ Some (present_leaf says path)
present-is nodes says number place story path there at =
    ap (λ o. leaf_of says o place) there ∙ get-map (present_leaf says) (leaves story) place path at

stays-elsewhere : (is_set : ℕ → Bool) (nodes : Nodes) (old new : List Say) → SameBut is_set old new
    → StaysElsewhere is_set (record { nodes = nodes; says = old }) (record { nodes = nodes; says = new })
stays-elsewhere is_set nodes old new same number place story path there at free =
    let P : Option Nodes → Type 0 = λ o. IsAsBefore o (present_at (record { nodes = nodes; says = new }) number place) in
    let Q : Option Nodes → Type 0 = λ o. IsAsBefore (Some (present_leaf old path)) o in
    subst P (sym (present-is nodes old number place story path there at))
    (subst Q (sym (present-is nodes new number place story path there at)) (as-before old new path (pass_leaf-same is_set old new same path.leaf free)))

-- a document with other says
pub elsewhere-stays : (is_set : ℕ → Bool) (old new : Document) (says : List Say) → SameBut is_set old.says says → new ≡ record old { says = says } → StaysElsewhere is_set old new
elsewhere-stays is_set old new says same is =
    subst (λ (d : Document). StaysElsewhere is_set old d) (sym is) (stays-elsewhere is_set old.nodes old.says says same)

pub one-same : (says : List Say) (rev : ℕ) (say : Say) → SameBut (λ n. n == rev) says (set_say says rev say)
one-same says rev say n h = sym (set_say-other says rev say n h)

pub changed-stays : (old new : Document) (says : List Say) → new ≡ record old { says = says } → StaysElsewhere (is_changed old.says new.says) old new
changed-stays old new says is =
    elsewhere-stays (is_changed old.says new.says) old new says
    (subst (λ (s : List Say). SameBut (is_changed old.says new.says) old.says s) (ap (λ (d : Document). d.says) is) (changed-same old.says new.says)) is
