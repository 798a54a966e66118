-- A split loses nothing: the containers round their leaves are the original nodes.
use Rattle.std.proofs.Common.{◌≡◌, ◌∙◌, refl, sym, ap, List, [], ◌∷◌, Bool, true, false, true≢false, ◌&&◌, Option, Some, None, if◌then◌else◌}
use Rattle.std.specs.Cmp.{second_so}
use Rattle.redl_tree.specs.Model.Nodes.{Tag, Nodes, no_nodes, bytes, element, ◌⊕◌}
use Rattle.redl_tree.specs.Roles.Names.{is}
use Rattle.redl_tree.specs.Roles.Lists.{in_blocks, is_thick}
use Rattle.redl_tree.specs.Leaves.Slots.{Slots, Sibling, para_sibling, thin_sibling, thick_sibling, open_sibling, has_mark, chain_next, thick_next, chained, chain_after, slot_of, slots_from, sibling, siblings, slots_in}
use Rattle.redl_tree.specs.Leaves.Rebuilt.{original}
use Rattle.redl_tree.proofs.Model.Laws.{⊕_assoc}
use Rattle.redl_laws.proofs.Leaves.Containers.{AllContainers, Carries, all-containers}
use Rattle.redl_laws.proofs.Leaves.Rebuilt.{IsAwaited}

-- what a sibling is made of
abbrev whole : Sibling → Nodes
whole (para_sibling marked nodes) = nodes
whole (thin_sibling nodes) = nodes
whole (thick_sibling nodes) = nodes
whole (open_sibling tag kids inner) = element tag (original inner) no_nodes

abbrev all_whole : List Sibling → Nodes
all_whole [] = no_nodes
all_whole (sibling ∷ later) = whole sibling ⊕ all_whole later

slots-original : (b : Bool) (chain : Option Nodes) (later : List Sibling) → IsAwaited chain later → original (slots_from b chain later) ≡ chained chain (all_whole later)
slots-original b None [] g = refl
slots-original b (Some chain) [] g = absurd (true≢false (sym g))
slots-original b chain (para_sibling marked nodes ∷ later) g =
    at (marked && chain_next later) refl (λ h. slots-original b (Some (chained chain nodes)) later h) (slots-original b None later tt)
  where
    more : (chain : Option Nodes) (rest : Nodes) → chained chain nodes ⊕ rest ≡ chained chain (nodes ⊕ rest)
    more None rest = refl
    more (Some c) rest = ⊕_assoc c nodes rest

    at : (on : Bool) → (marked && chain_next later) ≡ on →
        (chain_next later ≡ true → original (slots_from b (Some (chained chain nodes)) later) ≡ chained chain nodes ⊕ all_whole later) →
        original (slots_from b None later) ≡ all_whole later →
        original (slot_of b (para_sibling marked nodes) chain on (thick_next later) (slots_from b (chain_after (para_sibling marked nodes) chain on) later))
        ≡ chained chain (nodes ⊕ all_whole later)
    at true w ih ends = ih (second_so marked (chain_next later) w) ∙ more chain (all_whole later)
    at false w ih ends = ap (λ n. chained chain nodes ⊕ n) ends ∙ more chain (all_whole later)
slots-original b None (thin_sibling nodes ∷ later) g = ap (λ n. nodes ⊕ n) (slots-original b None later tt)
slots-original b (Some chain) (thin_sibling nodes ∷ later) g = slots-original b (Some (chain ⊕ nodes)) later g ∙ ⊕_assoc chain nodes (all_whole later)
slots-original b None (thick_sibling nodes ∷ later) g = ap (λ n. nodes ⊕ n) (slots-original b None later tt)
slots-original b (Some chain) (thick_sibling nodes ∷ later) g = absurd (true≢false (sym g))
slots-original b None (open_sibling tag kids inner ∷ later) g = ap (element tag (original inner)) (slots-original b None later tt)
slots-original b (Some chain) (open_sibling tag kids inner ∷ later) g = absurd (true≢false (sym g))

whole-sibling : (opens : List Tag → Tag → Bool) (ancestors : List Tag) (tag : Tag) (kids : Nodes) (inner : Slots) → original inner ≡ kids → whole (sibling opens ancestors tag kids inner) ≡ element tag kids no_nodes
whole-sibling opens ancestors tag kids inner e = at (opens ancestors tag) (is "p" tag && in_blocks ancestors) (is_thick tag)
  where
    at : (o p t : Bool) →
        whole (if o then open_sibling tag kids inner else if p then para_sibling (has_mark kids) (element tag kids no_nodes)
        else if t then thick_sibling (element tag kids no_nodes) else thin_sibling (element tag kids no_nodes)) ≡ element tag kids no_nodes
    at true p t = ap (λ n. element tag n no_nodes) e
    at false true t = refl
    at false false true = refl
    at false false false = refl

whole-later : (opens : List Tag → Tag → Bool) (ancestors : List Tag) (nodes : Nodes) → all_whole (siblings opens ancestors nodes) ≡ nodes
whole-later opens ancestors no_nodes = refl
whole-later opens ancestors (bytes b rest) = ap (bytes b) (whole-later opens ancestors rest)
whole-later opens ancestors (element tag kids rest) =
    ap (λ n. n ⊕ all_whole (siblings opens ancestors rest))
    (whole-sibling opens ancestors tag kids (slots_in opens (tag ∷ ancestors) kids)
    (slots-original (in_blocks (tag ∷ ancestors)) None (siblings opens (tag ∷ ancestors) kids) tt ∙ whole-later opens (tag ∷ ancestors) kids))
    ∙ ap (element tag kids) (whole-later opens ancestors rest)

-- the law of the split: it loses nothing, whatever is a container
pub original-slots : (opens : List Tag → Tag → Bool) (ancestors : List Tag) (nodes : Nodes) → original (slots_in opens ancestors nodes) ≡ nodes
original-slots opens ancestors nodes = slots-original (in_blocks ancestors) None (siblings opens ancestors nodes) tt ∙ whole-later opens ancestors nodes

-- so are the kids of each container those that its slots were made of
abbrev pub IsSplit : List Tag → Tag → Nodes → Slots → Type 0
IsSplit ancestors tag kids inner = original inner ≡ kids

pub split-containers : (opens : List Tag → Tag → Bool) (ancestors : List Tag) (nodes : Nodes) → AllContainers IsSplit ancestors (slots_in opens ancestors nodes)
split-containers opens ancestors nodes = all-containers IsSplit opens (λ ancestors nodes. Unit {0}) carries ancestors nodes tt
  where
    carries : Carries opens (λ ancestors nodes. Unit {0}) IsSplit
    carries = record {
      after_bytes = λ ancestors b rest known. tt;
      after_element = λ ancestors tag kids rest known. tt;
      below = λ ancestors tag kids rest known o. tt;
      here = λ ancestors tag kids rest known o. original-slots opens (tag ∷ ancestors) kids;
    }
