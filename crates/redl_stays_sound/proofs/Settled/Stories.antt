-- The stories of a passed package have no roles, where all revisions are decided.
use Rattle.std.proofs.Common.{◌≡◌, List, [], ◌∷◌, ℕ, Bool, true, map, refl, ap, ◌∙◌}
use Rattle.std.specs.List.{list_all}
use Rattle.std.proofs.lemmas.Bool.{and_from, and_parts}
use Rattle.redl_laws.proofs.Soundness.AllRules.{nine, numbered_sound}
use Rattle.redl_laws.proofs.Soundness.Walk.{everywhere-one}
use Rattle.redl_laws.proofs.Survival.Indexed.{AreStories, indexed_stories, passed, stories-pass}
use Rattle.redl_stays_sound.proofs.Settled.Ground.{AreGrounded, grounded}
use Rattle.redl_stays_sound.proofs.Settled.Numbers.{package-said}
use Rattle.redl_stays_sound.proofs.Settled.Walk.{pass-settled}
use Rattle.redl_stays_sound.specs.Settled.{AllSettle, SettlesAll, are_said, has_no_role}
use Rattle.redl_tree.proofs.Roles.Named.{by_names}
use Rattle.redl_tree.specs.Decisions.Packages.{is_story_root, stories}
use Rattle.redl_tree.specs.Decisions.Pass.{pass}
use Rattle.redl_tree.specs.Model.Nodes.{Nodes, Tag}
use Rattle.redl_tree.specs.Model.View.{Element}
use Rattle.redl_tree.proofs.Revisions.NumberLaws.{stories-numbered}
use Rattle.redl_tree.specs.Revisions.Markers.{Value}
use Rattle.redl_tree.specs.Revisions.Numbers.{numbered_package_by}
use Rattle.redl_tree.specs.Rules.Sound.{holds}
use Rattle.redl_tree.specs.declared.kinds.Say.{Say}

root-plain : (root : Tag) (kids : Nodes) → is_story_root root ≡ true → has_no_role [] root kids ≡ true
root-plain root kids name =
    by_names (λ t. has_no_role [] t kids ≡ true) ("document" ∷ "hdr" ∷ "ftr" ∷ "footnotes" ∷ "endnotes" ∷ "comments" ∷ []) root name
    (refl, (refl, (refl, (refl, (refl, (refl, tt))))))

all-settled : (says : List Say) (xs : List Element) → AreStories xs → AreGrounded xs → list_all (are_said says) xs ≡ true → holds has_no_role (map (passed says) xs) ≡ true
all-settled says [] stories ground said = refl
all-settled says (x ∷ xs) stories ground said =
    let both = and_parts (are_said says x) (list_all (are_said says) xs) said in
    and_from _ _
    (everywhere-one has_no_role [] x.tag (pass says (x.tag ∷ []) x.kids) (root-plain x.tag (pass says (x.tag ∷ []) x.kids) stories.0.root)
    (pass-settled says x.tag x.kids ground.0 ground.1 both.0))
    (all-settled says xs stories.1 ground.2 both.1)

pub settles-all : (value : Value) (has_id declares : List ℕ → Bool) → SettlesAll value has_id declares
settles-all value has_id declares says nodes indexed sound said =
    let are = indexed_stories value nodes indexed in
    ap (holds has_no_role) (stories-pass says nodes)
    ∙ all-settled says (stories nodes) are (grounded has_id declares (stories nodes) are (nine has_id declares nodes sound)) said

-- where all are decided none is left
pub all-settle : (value : Value) (has_id declares : List ℕ → Bool) → AllSettle value has_id declares
all-settle value has_id declares says nodes sound many decided =
    let is = numbered_sound value has_id declares nodes sound in
    settles-all value has_id declares says (numbered_package_by value nodes) is.indexed is.sound
    (ap (list_all (are_said says)) (stories-numbered value nodes) ∙ package-said value says (stories nodes) many decided)
