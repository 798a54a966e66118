-- The roots of the stories of a package that was read and then numbered have no role.
use Rattle.std.proofs.Common.{◌≡◌, refl, List, [], ◌∷◌, Bool, true, false, if◌then◌else◌, ◌&&◌, ◌∙◌, sym, ap}
use Rattle.std.proofs.lemmas.Bool.{and_from}
use Rattle.redl_tree.specs.Decisions.Packages.{is_root, is_plain, roots_are_plain, element_stories, StoryRule, left_after, changed_in}
use Rattle.redl_tree.specs.Model.Nodes.{Tag, Nodes, no_nodes, bytes, element}
use Rattle.redl_tree.specs.Revisions.Labels.{unlabelled_tag, unlabelled}
use Rattle.redl_tree.specs.Revisions.Markers.{Value}
use Rattle.redl_tree.specs.Revisions.Numbers.{number_rule, numbered_package_by}

-- a change of stories leaves the roots as they are
pub roots-changed : {S : Type 0} (rule : StoryRule S) (given : S) (ancestors : List Tag) (nodes : Nodes)
    → roots_are_plain ancestors (changed_in rule given ancestors nodes) ≡ roots_are_plain ancestors nodes
roots-changed rule given ancestors no_nodes = refl
roots-changed rule given ancestors (bytes b rest) = roots-changed rule given ancestors rest
roots-changed rule given ancestors (element tag kids rest) =
    let left = left_after rule given (element_stories ancestors tag kids) in
    ap (λ b. b && roots_are_plain ancestors (changed_in rule left ancestors rest)) (at (is_root ancestors tag) (roots-changed rule given (tag ∷ ancestors) kids))
    ∙ ap (λ b. (if is_root ancestors tag then is_plain tag.kind else roots_are_plain (tag ∷ ancestors) kids) && b) (roots-changed rule left ancestors rest)
  where
    at : (b : Bool) → roots_are_plain (tag ∷ ancestors) (changed_in rule given (tag ∷ ancestors) kids) ≡ roots_are_plain (tag ∷ ancestors) kids
        → (if b then is_plain tag.kind else roots_are_plain (tag ∷ ancestors) (if b then rule.kids given tag kids else changed_in rule given (tag ∷ ancestors) kids))
        ≡ (if b then is_plain tag.kind else roots_are_plain (tag ∷ ancestors) kids)
    at true below = refl
    at false below = below

-- nodes without labels have plain roots
pub roots-unlabelled : (ancestors : List Tag) (nodes : Nodes) → unlabelled nodes ≡ nodes → roots_are_plain ancestors nodes ≡ true
roots-unlabelled ancestors no_nodes e = refl
roots-unlabelled ancestors (bytes b rest) e = roots-unlabelled ancestors rest cc
roots-unlabelled ancestors (element tag kids rest) e =
    let same : unlabelled_tag tag ≡ tag = cc in
    and_from (if is_root ancestors tag then is_plain tag.kind else roots_are_plain (tag ∷ ancestors) kids) (roots_are_plain ancestors rest)
    (at (is_root ancestors tag) (ap (λ t. is_plain t.kind) (sym same)) (roots-unlabelled (tag ∷ ancestors) kids cc)) (roots-unlabelled ancestors rest cc)
  where
    at : (b : Bool) → is_plain tag.kind ≡ true → roots_are_plain (tag ∷ ancestors) kids ≡ true
        → (if b then is_plain tag.kind else roots_are_plain (tag ∷ ancestors) kids) ≡ true
    at true here below = here
    at false here below = below

-- so a package that was read, and then numbered, has plain roots
pub roots-numbered : (value : Value) (nodes : Nodes) → unlabelled nodes ≡ nodes → roots_are_plain [] (numbered_package_by value nodes) ≡ true
roots-numbered value nodes bare = roots-changed (number_rule value) 1 [] nodes ∙ roots-unlabelled [] nodes bare
