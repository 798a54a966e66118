-- Stories that are taken one after the other.
use Rattle.std.proofs.Common.{◌≡◌, ◌∙◌, List, [], ◌∷◌, ◌++◌, refl, sym, ap, subst, append_assoc}
use Rattle.redl_tree.specs.Model.View.{Element}
use Rattle.redl_editor.specs.Inside.Begun.{IsBegun, AreBegun, AddsBegun}
use Rattle.redl_editor.specs.declared.story.Story.{Story}

append-none : (xs : List Story) → xs ++ [] ≡ xs
append-none [] = refl
append-none (x ∷ xs) = ap (λ more. x ∷ more) (append-none xs)

pub begun-append : (parts others : List Element) (xs ys : List Story) → AreBegun parts xs → AreBegun others ys → AreBegun (parts ++ others) (xs ++ ys)
begun-append [] others [] ys h k = k
begun-append [] others (x ∷ xs) ys h k = absurd h
begun-append (part ∷ parts) others [] ys h k = absurd h
begun-append (part ∷ parts) others (x ∷ xs) ys h k = (h.0, begun-append parts others xs ys h.1 k)

-- nothing was added
pub adds-none : (old : List Story) → AddsBegun [] old old
adds-none old = record { added = []; items = sym (append-none old); begun = tt }

-- one story was added
pub adds-one : (part : Element) (old new : List Story) (story : Story) → new ≡ old ++ story ∷ [] → IsBegun part story → AddsBegun (part ∷ []) old new
adds-one part old new story is begun = record { added = story ∷ []; items = is; begun = (begun, tt) }

-- and more after it
pub adds-more : (parts others : List Element) (old mid new : List Story) → AddsBegun parts old mid → AddsBegun others mid new → AddsBegun (parts ++ others) old new
adds-more parts others old mid new first then = record {
  added = first.added ++ then.added;
  items = then.items ∙ ap (λ xs. xs ++ then.added) first.items ∙ append_assoc old first.added then.added;
  begun = begun-append parts others first.added then.added first.begun then.begun;
}

-- ---- a first part of the stories

-- of all these stories, those before the rest were added
pub record Taken (whole rest : List Element) (old new : List Story) : Type 0 where
  pub done : List Element
  pub splits : whole ≡ done ++ rest
  pub adds : AddsBegun done old new

pub taken-begins : (whole : List Element) (old : List Story) → Taken whole whole old old
taken-begins whole old = record { done = []; splits = refl; adds = adds-none old }

pub taken-more : (whole rest here later : List Element) (old mid new : List Story) → rest ≡ here ++ later → Taken whole rest old mid → AddsBegun here mid new
    → Taken whole later old new
taken-more whole rest here later old mid new is so_far adds = record {
  done = so_far.done ++ here;
  splits = so_far.splits ∙ ap (λ xs. so_far.done ++ xs) is ∙ sym (append_assoc so_far.done here later);
  adds = adds-more so_far.done here old mid new so_far.adds adds;
}

parts-none : (xs : List Element) → xs ++ [] ≡ xs
parts-none [] = refl
parts-none (x ∷ xs) = ap (λ more. x ∷ more) (parts-none xs)

pub taken-ends : (whole rest : List Element) (old new : List Story) → rest ≡ [] → Taken whole rest old new → AddsBegun whole old new
taken-ends whole rest old new none so_far =
    subst (λ (parts : List Element). AddsBegun parts old new)
    (sym (so_far.splits ∙ ap (λ xs. so_far.done ++ xs) none ∙ parts-none so_far.done)) so_far.adds

-- all were added to none
pub begun-all : (whole : List Element) (new : List Story) → AddsBegun whole [] new → AreBegun whole new
begun-all whole new adds = subst (λ (xs : List Story). AreBegun whole xs) (sym adds.items) adds.begun
