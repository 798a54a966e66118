-- Which rules hold in all stories of a package, a part at a time.
use Rattle.std.proofs.Common.{◌≡◌, ◌+◌, ◌<◌, ◌≤◌, ℕ, [], ◌∷◌, length, Some, None, option_to_list, true, ap, sym, ◌∙◌}
use Rattle.redl_tree.specs.Model.Nodes.{Nodes}
use Rattle.redl_tree.specs.Rules.Sound.{holds}
use Rattle.redl_tree.specs.Decisions.Packages.{stories}
use Rattle.redl_opc.specs.Elements.{Element}
use Rattle.redl_opc.specs.Shape.{parts_of, refusal}
use Rattle.redl_opc.specs.Parts.{story}
use Rattle.redl_opc.specs.Stories.{stories_of_part, stories_from}
use Rattle.redl_opc.proofs.WalkLaws.{stories_from-start, stories_from-part, stories_from-end}
use Rattle.redl_rules.specs.declared.kept.Kept.{Kept}
use Rattle.redl_rules.specs.Keeping.{all_kept, in_both, element_kept, kept_among}
use Rattle.redl_rules.proofs.KeptLaws.{in_both-by, in_both-all, kept_among_one, kept-more}

-- the rules that were told of the stories of the parts below this one, and those of all later stories, are the rules of all stories
abbrev pub IsKeptBelow : ℕ → Nodes → Kept → Type 0
IsKeptBelow part pkg kept = in_both kept (kept_among (stories_from part pkg)) ≡ kept_among (stories pkg)

-- before the first part
pub kept-first : (pkg : Nodes) (kept : Kept) → refusal pkg ≡ None → kept ≡ all_kept → IsKeptBelow 0 pkg kept
kept-first pkg kept shape is =
    let all = stories_from 0 pkg in
    ap (λ (k : Kept). in_both k (kept_among all)) is ∙ in_both-by (λ test. true) (λ test. holds test all)
    ∙ ap kept_among (stories_from-start pkg shape)

-- behind the last one
pub kept-last : (pkg : Nodes) (part : ℕ) (kept : Kept) → length (parts_of pkg) ≤ part → IsKeptBelow part pkg kept → kept ≡ kept_among (stories pkg)
kept-last pkg part kept past is =
    sym (in_both-all kept) ∙ ap (λ ss. in_both kept (kept_among ss)) (sym (stories_from-end pkg part past)) ∙ is

module _ (pkg : Nodes) (part : ℕ) (kept : Kept) (within : part < length (parts_of pkg)) (is : IsKeptBelow part pkg kept) where
  -- behind a part with this story
  pub kept-story : (now : Kept) (root : Element) → story pkg part ≡ Some root → now ≡ in_both kept (element_kept [] root.tag root.kids) → IsKeptBelow (part + 1) pkg now
  kept-story now root found told =
      let one : stories_of_part pkg part ≡ root ∷ [] = ap option_to_list found in
      kept-more kept now (stories_of_part pkg part) (stories_from (part + 1) pkg) (stories_from part pkg)
      (told ∙ ap (in_both kept) (sym (kept_among_one root) ∙ ap kept_among (sym one))) (stories_from-part pkg part within) ∙ is

  -- behind one that is no story
  pub kept-other : story pkg part ≡ None → IsKeptBelow (part + 1) pkg kept
  kept-other found =
      let none : stories_of_part pkg part ≡ [] = ap option_to_list found in
      kept-more kept kept (stories_of_part pkg part) (stories_from (part + 1) pkg) (stories_from part pkg)
      (sym (in_both-all kept) ∙ ap (λ ss. in_both kept (kept_among ss)) (sym none)) (stories_from-part pkg part within) ∙ is
