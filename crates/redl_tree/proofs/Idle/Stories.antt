-- Among idle nodes no story begins, and a change of stories leaves them as they are.
use Rattle.std.proofs.Common.{◌≡◌, ◌∙◌, refl, ap, List, [], ◌∷◌, ◌++◌, Bool, true, false, ◌&&◌, if◌then◌else◌}
use Rattle.std.proofs.Math.Bool.{and-false}
use Rattle.redl_tree.specs.Model.Nodes.{Tag, Nodes, no_nodes, bytes, element, ◌⊕◌}
use Rattle.redl_tree.specs.Model.View.{Element}
use Rattle.redl_tree.specs.Roles.Names.{is}
use Rattle.redl_tree.specs.Roles.Idle.{is_idle_in}
use Rattle.redl_tree.specs.Decisions.Packages.{level_of, is_data_level, is_root, stories_in, element_stories, StoryRule, left_after, changed_in}
use Rattle.redl_tree.proofs.Idle.Tags.{Idle, idle_parts}
use Rattle.redl_tree.proofs.Idle.Lists.{names_none}

pub no_root : (ancestors : List Tag) (in_run : Bool) (tag : Tag) → Idle in_run tag → is_root ancestors tag ≡ false
no_root ancestors in_run tag i =
    ap (λ b. is_data_level (level_of ancestors) && b) (names_none ("document" ∷ "hdr" ∷ "ftr" ∷ "footnotes" ∷ "endnotes" ∷ "comments" ∷ []) in_run refl tag i)
    ∙ and-false (is_data_level (level_of ancestors))

pub stories_idle : (ancestors : List Tag) (in_run : Bool) (nodes : Nodes) → is_idle_in in_run nodes ≡ true → stories_in ancestors nodes ≡ []
stories_idle ancestors in_run no_nodes h = refl
stories_idle ancestors in_run (bytes b rest) h = stories_idle ancestors in_run rest h
stories_idle ancestors in_run (element tag kids rest) h =
    let p = idle_parts in_run tag kids rest h in
    ap (λ b. (if b then record { tag = tag; kids = kids } ∷ [] else stories_in (tag ∷ ancestors) kids) ++ stories_in ancestors rest) (no_root ancestors in_run tag p.own)
    ∙ ap (λ (found : List Element). found ++ stories_in ancestors rest) (stories_idle (tag ∷ ancestors) (is "r" tag) kids p.below)
    ∙ stories_idle ancestors in_run rest p.later

pub stories_past : (ancestors : List Tag) (in_run : Bool) (x y : Nodes) → is_idle_in in_run x ≡ true → stories_in ancestors (x ⊕ y) ≡ stories_in ancestors y
stories_past ancestors in_run no_nodes y h = refl
stories_past ancestors in_run (bytes b rest) y h = stories_past ancestors in_run rest y h
stories_past ancestors in_run (element tag kids rest) y h =
    let p = idle_parts in_run tag kids rest h in
    ap (λ b. (if b then record { tag = tag; kids = kids } ∷ [] else stories_in (tag ∷ ancestors) kids) ++ stories_in ancestors (rest ⊕ y)) (no_root ancestors in_run tag p.own)
    ∙ ap (λ (found : List Element). found ++ stories_in ancestors (rest ⊕ y)) (stories_idle (tag ∷ ancestors) (is "r" tag) kids p.below)
    ∙ stories_past ancestors in_run rest y p.later

pub changed_idle : {S : Type 0} (rule : StoryRule S) (given : S) (ancestors : List Tag) (in_run : Bool) (nodes : Nodes) → is_idle_in in_run nodes ≡ true → changed_in rule given ancestors nodes ≡ nodes
changed_idle rule given ancestors in_run no_nodes h = refl
changed_idle rule given ancestors in_run (bytes b rest) h = ap (bytes b) (changed_idle rule given ancestors in_run rest h)
changed_idle rule given ancestors in_run (element tag kids rest) h =
    let p = idle_parts in_run tag kids rest h in
    let later = left_after rule given (element_stories ancestors tag kids) in
    ap (λ b. element tag (if b then rule.kids given tag kids else changed_in rule given (tag ∷ ancestors) kids) (changed_in rule later ancestors rest)) (no_root ancestors in_run tag p.own)
    ∙ ap (λ (k : Nodes). element tag k (changed_in rule later ancestors rest)) (changed_idle rule given (tag ∷ ancestors) (is "r" tag) kids p.below)
    ∙ ap (element tag kids) (changed_idle rule later ancestors in_run rest p.later)

pub changed_past : {S : Type 0} (rule : StoryRule S) (given : S) (ancestors : List Tag) (in_run : Bool) (x y : Nodes) → is_idle_in in_run x ≡ true → changed_in rule given ancestors (x ⊕ y) ≡ x ⊕ changed_in rule given ancestors y
changed_past rule given ancestors in_run no_nodes y h = refl
changed_past rule given ancestors in_run (bytes b rest) y h = ap (bytes b) (changed_past rule given ancestors in_run rest y h)
changed_past rule given ancestors in_run (element tag kids rest) y h =
    let p = idle_parts in_run tag kids rest h in
    let left = left_after rule given (element_stories ancestors tag kids) in
    let same : left ≡ given =
    ap (λ b. left_after rule given (if b then record { tag = tag; kids = kids } ∷ [] else stories_in (tag ∷ ancestors) kids)) (no_root ancestors in_run tag p.own)
    ∙ ap (left_after rule given) (stories_idle (tag ∷ ancestors) (is "r" tag) kids p.below)
    in
    ap (λ b. element tag (if b then rule.kids given tag kids else changed_in rule given (tag ∷ ancestors) kids) (changed_in rule left ancestors (rest ⊕ y))) (no_root ancestors in_run tag p.own)
    ∙ ap (λ (k : Nodes). element tag k (changed_in rule left ancestors (rest ⊕ y))) (changed_idle rule given (tag ∷ ancestors) (is "r" tag) kids p.below)
    ∙ ap (λ now. element tag kids (changed_in rule now ancestors (rest ⊕ y))) same
    ∙ ap (element tag kids) (changed_past rule given ancestors in_run rest y p.later)
