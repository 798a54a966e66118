-- The text of a package whose stories are kept apart, a node at a time.
use Rattle.std.proofs.Common.{◌≡◌, ◌∙◌, ◌++◌, ◌<◌, ◌≤◌, ◌+◌, ◌&&◌, ℕ, zero, suc, List, [], ◌∷◌, length, get_or, drop, map, Bool, true, false, refl, sym, ap, arith, if◌then◌else◌}
use Rattle.std.proofs.lemmas.List.{append-nil}
use Rattle.redl_tree.proofs.Model.Laws.{text-⊕, text-in_front}
use Rattle.redl_tree.proofs.Decisions.StoryLaws.{changed_in-in_front, stories_in-in_front, left_after-append}
use Rattle.redl_tree.specs.Decisions.Packages.{is_root, level_of, is_data_level, is_story_root, stories_in, element_stories, StoryRule, left_after, changed_in}
use Rattle.redl_tree.specs.Decisions.StoryWalk.{changed_item, item_stories}
use Rattle.redl_tree.specs.Leaves.Shown.{shown_rule, next_states, later_states}
use Rattle.redl_tree.specs.Leaves.States.{States, no_states}
use Rattle.redl_tree.specs.Model.Nodes.{Tag, Nodes, no_nodes, Item, in_front}
use Rattle.redl_tree.specs.Model.Text.{text, item_text}
use Rattle.redl_tree.specs.declared.level.Level.{Level}
use Rattle.redl_editor.specs.Stories.{states_kept}
use Rattle.redl_editor.specs.declared.story.Story.{Story}

-- ---- one node, and those after it

pub text-changed : {S : Type 0} (rule : StoryRule S) (given : S) (ancestors : List Tag) (x : Item) (ys : Nodes)
    → text (changed_in rule given ancestors (in_front x ys))
    ≡ item_text (changed_item rule given ancestors x) ++ text (changed_in rule (left_after rule given (item_stories ancestors x)) ancestors ys)
text-changed rule given ancestors x ys =
    let later = changed_in rule (left_after rule given (item_stories ancestors x)) ancestors ys in
    ap text (changed_in-in_front rule given ancestors x ys)
    ∙ text-⊕ (in_front (changed_item rule given ancestors x) no_nodes) later
    ∙ ap (λ t. t ++ text later) (text-in_front (changed_item rule given ancestors x) no_nodes ∙ append-nil (item_text (changed_item rule given ancestors x)))

pub left-more : {S : Type 0} (rule : StoryRule S) (given : S) (ancestors : List Tag) (x : Item) (ys : Nodes)
    → left_after rule (left_after rule given (item_stories ancestors x)) (stories_in ancestors ys) ≡ left_after rule given (stories_in ancestors (in_front x ys))
left-more rule given ancestors x ys =
    sym (left_after-append rule given (item_stories ancestors x) (stories_in ancestors ys)) ∙ ap (left_after rule given) (sym (stories_in-in_front ancestors x ys))

-- ---- an element that holds nothing

pub after-empty : (each : List States) (level : Level) (ancestors : List Tag) (tag : Tag) (kids : Nodes) → level ≡ level_of ancestors → kids ≡ no_nodes
    → (if is_data_level level && is_story_root tag then later_states each else each) ≡ left_after shown_rule each (element_stories ancestors tag kids)
after-empty each level ancestors tag kids here none =
    ap (λ l. if is_data_level l && is_story_root tag then later_states each else each) here ∙ at (is_root ancestors tag)
  where
    at : (b : Bool) → (if b then later_states each else each) ≡ left_after shown_rule each (if b then record { tag = tag; kids = kids } ∷ [] else stories_in (tag ∷ ancestors) kids)
    at true = refl
    at false = ap (λ ns. left_after shown_rule each (stories_in (tag ∷ ancestors) ns)) (sym none)

-- ---- the next story

pub drop-next : (each : List States) (n : ℕ) → drop (n + 1) each ≡ later_states (drop n each)
drop-next each n = let here : n + 1 ≡ suc n = omega arith in ap (λ k. drop k each) here ∙ at each n
  where
    at : (xs : List States) (k : ℕ) → drop (suc k) xs ≡ later_states (drop k xs)
    at [] zero = refl
    at [] (suc k) = refl
    at (x ∷ xs) zero = refl
    at (x ∷ xs) (suc k) = at xs k

pub drop-past : (each : List States) (n : ℕ) → length each ≤ n → drop n each ≡ later_states (drop n each)
drop-past [] zero past = refl
drop-past [] (suc n) past = refl
drop-past (x ∷ xs) zero past = absurd (omega (arith, past))
drop-past (x ∷ xs) (suc n) past = drop-past xs n (omega (arith, past))

pub next-there : (stories : List Story) (n : ℕ) (x : Story) → n < length stories → x ≡ get_or stories n x → next_states (drop n (map states_kept stories)) ≡ states_kept x
next-there [] n x lt is = absurd (omega (arith, lt))
next-there (y ∷ ys) zero x lt is = ap states_kept (sym is)
next-there (y ∷ ys) (suc n) x lt is = next-there ys n x (omega (arith, lt)) is

pub next-past : (stories : List Story) (n : ℕ) → length stories ≤ n → next_states (drop n (map states_kept stories)) ≡ no_states
next-past [] zero past = refl
next-past [] (suc n) past = refl
next-past (y ∷ ys) zero past = absurd (omega (arith, past))
next-past (y ∷ ys) (suc n) past = next-past ys n (omega (arith, past))
