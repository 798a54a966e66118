-- Leaves by their numbers.
use Rattle.std.proofs.Common.{◌≡◌, ◌∙◌, ◌<◌, ◌≤◌, ◌+◌, ℕ, zero, suc, List, [], ◌∷◌, length, get_or, slice_get, None, false, refl, sym, ap, subst, arith}
use Rattle.std.proofs.lemmas.Option.{slice_get_past, slice_get_read}
use Rattle.redl_laws.proofs.Leaves.Costs.{count-leaves}
use Rattle.redl_laws.proofs.Leaves.Lending.{lent-count, lent-numbered}
use Rattle.redl_laws.proofs.Leaves.Places.{ways-count}
use Rattle.redl_tree.specs.Leaves.Containers.{opens}
use Rattle.redl_tree.specs.Leaves.Leaf.{leaves, leaf_count}
use Rattle.redl_tree.specs.Leaves.Slots.{slots_in}
use Rattle.redl_tree.specs.Leaves.States.{States, slots_of, lent}
use Rattle.redl_tree.specs.Leaves.Ways.{ways, lent_at}
use Rattle.redl_tree.specs.Model.View.{Element}
use Rattle.redl_tree.specs.declared.kinds.Say.{Say}
use Rattle.redl_editor.proofs.CoverLaws.{way-numbered}
use Rattle.redl_editor.specs.Kept.{IsKept, AreKept, count_of, lent_story}
use Rattle.redl_editor.specs.Places.{HasWays}
use Rattle.redl_editor.specs.Stories.{states_kept, slots_kept}
use Rattle.redl_editor.specs.declared.story.Story.{Story}
use Rattle.redl_editor.specs.declared.table.Table.{Table}

-- ---- how many there are

-- the ways in this table, which are as many as the leaves of the story with this number
pub record CountsWays (parts : List Element) (k : ℕ) (table : Table) : Type 0 where
  pub all : List (List ℕ)
  pub has : HasWays table.places all
  pub count : length all ≡ count_of (slice_get parts k)

ways-leaves : (says : List Say) (part : Element) (story : Story) (table : Table) → IsKept says part story table → length (ways (slots_kept story)) ≡ length (leaves part)
ways-leaves says part story table kept =
    ways-count 0 (slots_kept story) ∙ ap leaf_count kept.states.split ∙ sym (count-leaves (part ∷ []) (slots_in opens (part.tag ∷ []) part.kids))

pub count-here : (says : List Say) (parts : List Element) (stories : List Story) (tables : List Table) → AreKept says parts stories tables → (k : ℕ) (table : Table)
    → k < length tables → table ≡ get_or tables k table → CountsWays parts k table
count-here says [] [] [] kept k table lt is = absurd (omega (arith, lt))
count-here says [] [] (one ∷ tables) kept k table lt is = absurd kept
count-here says [] (story ∷ stories) tables kept k table lt is = absurd kept
count-here says (part ∷ parts) [] tables kept k table lt is = absurd kept
count-here says (part ∷ parts) (story ∷ stories) [] kept k table lt is = absurd kept
count-here says (part ∷ parts) (story ∷ stories) (one ∷ tables) kept zero table lt is = record {
  all = ways (slots_kept story);
  has = subst (λ (t : Table). HasWays t.places (ways (slots_kept story))) (sym is) kept.0.table.places;
  count = ways-leaves says part story one kept.0;
}
count-here says (part ∷ parts) (story ∷ stories) (one ∷ tables) kept (suc k) table lt is =
    let later = count-here says parts stories tables kept.1 k table (omega (arith, lt)) is in record { all = later.all; has = later.has; count = later.count }

pub count-past : (says : List Say) (parts : List Element) (stories : List Story) (tables : List Table) → AreKept says parts stories tables → (k : ℕ)
    → length tables ≤ k → count_of (slice_get parts k) ≡ 0
count-past says [] [] [] kept k past = refl
count-past says [] [] (one ∷ tables) kept k past = absurd kept
count-past says [] (story ∷ stories) tables kept k past = absurd kept
count-past says (part ∷ parts) [] tables kept k past = absurd kept
count-past says (part ∷ parts) (story ∷ stories) [] kept k past = absurd kept
count-past says (part ∷ parts) (story ∷ stories) (one ∷ tables) kept zero past = absurd (omega (arith, past))
count-past says (part ∷ parts) (story ∷ stories) (one ∷ tables) kept (suc k) past = count-past says parts stories tables kept.1 k (omega (arith, past))

-- ---- the present leaf with a number

pub lent-past : (states : States) (place : ℕ) → length (ways (slots_of states)) ≤ place → slice_get (lent false states) place ≡ None
lent-past states place past =
    let count = ways-count 0 (slots_of states) in
    slice_get_past (lent false states) place (omega (arith, past, count, lent-count false states))

pub lent-there : (states : States) (place : ℕ) (way : List ℕ) → place < length (ways (slots_of states)) → way ≡ get_or (ways (slots_of states)) place []
    → lent_at false way states ≡ slice_get (lent false states) place
lent-there states place way lt is =
    let count = ways-count 0 (slots_of states) in
    let numbered = way-numbered (slots_of states) place (omega (arith, lt, count)) in
    let here : 0 + place ≡ place = omega arith in
    ap (λ w. lent_at false w states) is
    ∙ sym (lent-numbered false (get_or (ways (slots_of states)) place []) states numbered.0)
    ∙ ap (slice_get (lent false states)) (numbered.1 ∙ here)

-- of the story with a number
pub story-past : (stories : List Story) (k place : ℕ) → length stories ≤ k → lent_story (slice_get stories k) place ≡ None
story-past stories k place past = ap (λ s. lent_story s place) (slice_get_past stories k past)

pub story-there : (stories : List Story) (k place : ℕ) (x : Story) → k < length stories → x ≡ get_or stories k x
    → lent_story (slice_get stories k) place ≡ slice_get (lent false (states_kept x)) place
story-there stories k place x lt is = ap (λ s. lent_story s place) (slice_get_read stories (length stories) k x refl lt is)
