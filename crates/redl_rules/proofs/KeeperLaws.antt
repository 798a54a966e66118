-- The visit of a story tells the rules that hold.
use Rattle.std.proofs.Common.{◌≡◌, refl, ap, sym, ◌∙◌, Bool, ◌&&◌, List, [], ◌∷◌, if◌then◌else◌}
use Rattle.redl_tree.specs.Model.Nodes.{Tag, Nodes, no_nodes, bytes, element}
use Rattle.redl_tree.specs.Rules.Tests.{Test, everywhere}
use Rattle.redl_tree.specs.Roles.Arounds.{around_of, around_inside, role_in}
use Rattle.redl_tree.specs.Roles.Places.{role}
use Rattle.redl_tree.specs.declared.around.Around.{Around}
use Rattle.redl_tree.proofs.Roles.AroundLaws.{around_of-∷, role-in}
use Rattle.redl_visit.specs.declared.ancestors.Ancestors.{Ancestors}
use Rattle.redl_visit.specs.Summaries.{ancestors_of, ancestors_inside}
use Rattle.redl_visit.specs.Visits.{visited, visited_element}
use Rattle.redl_visit.proofs.VisitLaws.{visited-choice}
use Rattle.redl_visit.proofs.SummaryLaws.{ancestors_of-∷}
use Rattle.redl_rules.specs.declared.kept.Kept.{Kept}
use Rattle.redl_rules.specs.declared.round.Round.{Round}
use Rattle.redl_rules.specs.Rounds.{round_of, round_inside}
use Rattle.redl_rules.specs.Keeping.{kept_by, in_both, kept_here, kept_in, element_kept}
use Rattle.redl_rules.specs.Visiting.{kept_by_round, keeper_rule}
use Rattle.redl_rules.proofs.KeptLaws.{in_both-assoc, in_both-all, in_both-by}
use Rattle.redl_rules.proofs.RuleLaws.{test_1-by, test_2-by, test_3-by, test_4-by, test_5-by, test_6-by, test_7-by, test_8-by, test_9-by}

nine : {a b c d e f g h i j k l m n o p q r : Bool} → a ≡ j → b ≡ k → c ≡ l → d ≡ m → e ≡ n → f ≡ o → g ≡ p → h ≡ q → i ≡ r →
    (a ∷ b ∷ c ∷ d ∷ e ∷ f ∷ g ∷ h ∷ i ∷ []) ≡ (j ∷ k ∷ l ∷ m ∷ n ∷ o ∷ p ∷ q ∷ r ∷ [])
nine s t u v w x y z α = rw (s, t, u, v, w, x, y, z, α) refl

-- what the rules say of an element by itself, by what its ancestors are to it
pub here-kept : (ancestors : List Tag) (tag : Tag) (kids : Nodes) →
    let around = around_of ancestors in
    kept_by_round around (around_inside tag around) (round_of ancestors) (role_in around tag) tag kids ≡ kept_here ancestors tag kids
here-kept ancestors tag kids =
    let around = around_of ancestors in
    let Told : List Bool → Kept = λ rules. record { rules = rules } in
    ap (λ k. kept_by_round around (around_inside tag around) (round_of ancestors) k tag kids) (sym (role-in ancestors tag))
    ∙ ap (λ (inner : Around). kept_by_round around inner (round_of ancestors) (role ancestors tag) tag kids) (sym (around_of-∷ tag ancestors))
    ∙ sym (ap Told
    (nine (test_1-by ancestors tag kids) (test_2-by ancestors tag kids) (test_3-by ancestors tag kids) (test_4-by ancestors tag kids) (test_5-by ancestors tag kids)
    (test_6-by ancestors tag kids) (test_7-by ancestors tag kids) (test_8-by ancestors tag kids) (test_9-by ancestors tag kids)))

-- what is round the kids of an element
pub round_of-∷ : (tag : Tag) (ancestors : List Tag) →
    round_inside tag (role_in (around_of ancestors) tag) (ancestors_inside tag (ancestors_of ancestors)) (round_of ancestors) ≡ round_of (tag ∷ ancestors)
round_of-∷ tag ancestors =
    ap (λ k. round_inside tag k (ancestors_inside tag (ancestors_of ancestors)) (round_of ancestors)) (sym (role-in ancestors tag))
    ∙ ap (λ (inner : Ancestors). round_inside tag (role ancestors tag) inner (round_of ancestors)) (ancestors_of-∷ tag ancestors)

-- an element, where the same is known of its kids
element-visited : (ancestors : List Tag) (tag : Tag) (kids : Nodes) →
    ((x : Kept) → visited ancestors_inside keeper_rule (ancestors_of (tag ∷ ancestors)) (round_of (tag ∷ ancestors)) kids x ≡ in_both x (kept_in (tag ∷ ancestors) kids)) →
    (kept : Kept) → visited_element ancestors_inside keeper_rule (ancestors_of ancestors) (round_of ancestors) tag kids kept
    ≡ in_both (in_both kept (kept_here ancestors tag kids)) (kept_in (tag ∷ ancestors) kids)
element-visited ancestors tag kids below kept =
    let inner = ancestors_inside tag (ancestors_of ancestors) in
    let round = round_of ancestors in
    let within = round_inside tag (role_in (around_of ancestors) tag) inner round in
    let entered : Kept = keeper_rule.enter (ancestors_of ancestors) round tag kids kept in
    visited-choice ancestors_inside keeper_rule inner (λ b. if b then within else round) kids entered
    ∙ ap (λ r. visited ancestors_inside keeper_rule inner r kids entered) (round_of-∷ tag ancestors)
    ∙ ap (λ a. visited ancestors_inside keeper_rule a (round_of (tag ∷ ancestors)) kids entered) (ancestors_of-∷ tag ancestors)
    ∙ ap (λ k. visited ancestors_inside keeper_rule (ancestors_of (tag ∷ ancestors)) (round_of (tag ∷ ancestors)) kids (in_both kept k)) (here-kept ancestors tag kids)
    ∙ below (in_both kept (kept_here ancestors tag kids))

-- a visit of nodes leaves the rules that held before and hold of all elements among these
pub keeper-visited : (ancestors : List Tag) (nodes : Nodes) (kept : Kept) →
    visited ancestors_inside keeper_rule (ancestors_of ancestors) (round_of ancestors) nodes kept ≡ in_both kept (kept_in ancestors nodes)
keeper-visited ancestors no_nodes kept = sym (in_both-all kept)
keeper-visited ancestors (bytes b rest) kept = keeper-visited ancestors rest kept
keeper-visited ancestors (element tag kids rest) kept =
    let f : Test → Bool = λ test. test ancestors tag kids in
    let g : Test → Bool = λ test. everywhere test (tag ∷ ancestors) kids in
    let h : Test → Bool = λ test. everywhere test ancestors rest in
    ap (visited ancestors_inside keeper_rule (ancestors_of ancestors) (round_of ancestors) rest) (element-visited ancestors tag kids (keeper-visited (tag ∷ ancestors) kids) kept)
    ∙ keeper-visited ancestors rest (in_both (in_both kept (kept_by f)) (kept_by g))
    ∙ ap (λ k. in_both k (kept_by h)) (in_both-assoc kept f g ∙ ap (in_both kept) (in_both-by f g))
    ∙ in_both-assoc kept (λ test. f test && g test) h
    ∙ ap (in_both kept) (in_both-by (λ test. f test && g test) h)

-- so a visit of the kids of a story's root tells the rules that hold in the story, where it begins with those that hold of the root
pub story-kept : (tag : Tag) (kids : Nodes) (here inner : Ancestors) (round : Round) (begun : Kept) →
    here ≡ ancestors_of [] → inner ≡ ancestors_inside tag here → round ≡ round_of (tag ∷ []) → begun ≡ kept_here [] tag kids →
    visited ancestors_inside keeper_rule inner round kids begun ≡ element_kept [] tag kids
story-kept tag kids here inner round begun is_here is_inner is_round is_begun =
    ap (λ a. visited ancestors_inside keeper_rule a round kids begun) (is_inner ∙ ap (ancestors_inside tag) is_here ∙ ancestors_of-∷ tag [])
    ∙ ap (λ r. visited ancestors_inside keeper_rule (ancestors_of (tag ∷ [])) r kids begun) is_round
    ∙ ap (λ k. visited ancestors_inside keeper_rule (ancestors_of (tag ∷ [])) (round_of (tag ∷ [])) kids k) is_begun
    ∙ keeper-visited (tag ∷ []) kids (kept_here [] tag kids)
