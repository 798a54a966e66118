-- Excerpts that are told of nodes, one after another.
use Rattle.std.proofs.Common.{◌≡◌, ℕ, Bool, true, false, List, Option, [], ◌++◌, refl, sym, ap, ◌∙◌, append_assoc}
use Rattle.std.proofs.lemmas.List.{append-nil}
use Rattle.std.proofs.Math.Bool.{or-true}
use Rattle.redl_tree.specs.Model.Nodes.{Tag, Nodes, Item, bytes_item, element_item, idle_item, in_front}
use Rattle.redl_tree.specs.Roles.Names.{is}
use Rattle.redl_tree.specs.Roles.Places.{is_quiet}
use Rattle.redl_excerpts.specs.declared.excerpt.Excerpt.{Excerpt}
use Rattle.redl_excerpts.specs.Excerpts.{TellsEach}
use Rattle.redl_said.specs.Lines.{along, line_of}
use Rattle.redl_excerpts.specs.Mentions.{Mention, Where, in_element, in_paragraph, inside, item_mentions, mentions, past}
use Rattle.redl_said.specs.Said.{element_said, holds_text, item_said, said, start_said}
use Rattle.redl_excerpts.proofs.MentionLaws.{mentions_idle}
use Rattle.redl_excerpts.proofs.TellLaws.{tells-as, tells-nothing, tells-then}

-- the excerpts are told of a first part of the mentions, and these are left
pub record TellsSoFar (old now : List (Option Excerpt)) (whole left : ℕ → List Mention) : Type 0 where
  pub part : ℕ → List Mention
  pub told : TellsEach old now part
  pub is : (v : ℕ) → part v ++ left v ≡ whole v

pub tells-begins : (excerpts : List (Option Excerpt)) (whole : ℕ → List Mention) → TellsSoFar excerpts excerpts whole whole
tells-begins excerpts whole = record { part = λ v. []; told = tells-nothing excerpts; is = λ v. refl }

pub tells-begins-at : (excerpts : List (Option Excerpt)) (whole left : ℕ → List Mention) → ((v : ℕ) → left v ≡ whole v) → TellsSoFar excerpts excerpts whole left
tells-begins-at excerpts whole left same = record { part = λ v. []; told = tells-nothing excerpts; is = same }

pub tells-goes_on : (old now next : List (Option Excerpt)) (whole left here rest : ℕ → List Mention) → TellsSoFar old now whole left → TellsEach now next here → ((v : ℕ) → left v ≡ here v ++ rest v)
    → TellsSoFar old next whole rest
tells-goes_on old now next whole left here rest so_far tells splits = record {
  part = λ v. so_far.part v ++ here v;
  told = tells-then old now next so_far.part here so_far.told tells;
  is = λ v. append_assoc (so_far.part v) (here v) (rest v) ∙ ap (λ (ms : List Mention). so_far.part v ++ ms) (sym (splits v)) ∙ so_far.is v;
}

pub tells-ends : (old now : List (Option Excerpt)) (whole left : ℕ → List Mention) → TellsSoFar old now whole left → ((v : ℕ) → left v ≡ []) → TellsEach old now whole
tells-ends old now whole left so_far none =
    tells-as old now so_far.part whole (λ v. sym (append-nil (so_far.part v)) ∙ ap (λ (ms : List Mention). so_far.part v ++ ms) (sym (none v)) ∙ so_far.is v) so_far.told

-- the nodes behind one node
pub mentions-in_front : (moved : Bool) (v : ℕ) (here : Where) (item : Item) (rest : Nodes)
    → mentions moved v here (in_front item rest) ≡ item_mentions moved v here item ++ mentions moved v (past here (item_said true here.in_text item)) rest
mentions-in_front moved v here (bytes_item b) rest = refl
mentions-in_front moved v here (element_item tag kids) rest = refl
mentions-in_front moved v here (idle_item t) rest = mentions_idle moved v here t rest

-- ---- an element

pub inside-paragraph : (here : Where) (tag : Tag) (kids : Nodes) → is "p" tag ≡ true → inside here tag kids ≡ in_paragraph kids (line_of (said true false kids))
inside-paragraph here tag kids para = rw para refl

pub inside-quiet : (here : Where) (tag : Tag) (kids : Nodes) → is "p" tag ≡ false → is_quiet tag ≡ true → inside here tag kids ≡ record here { in_text = false; siblings = kids }
inside-quiet here tag kids para quiet = rw (para, quiet) refl

pub inside-element : (here : Where) (tag : Tag) (kids : Nodes) → is "p" tag ≡ false → is_quiet tag ≡ false → inside here tag kids ≡ in_element here tag kids (along here.place (start_said tag))
inside-element here tag kids para quiet = rw (para, quiet) refl

pub said-paragraph : (tag : Tag) (kids : Nodes) → is "p" tag ≡ true → element_said true tag kids ≡ []
said-paragraph tag kids para = rw (para, or-true (is_quiet tag)) refl

pub said-quiet : (tag : Tag) (kids : Nodes) → is_quiet tag ≡ true → element_said true tag kids ≡ []
said-quiet tag kids quiet = rw quiet refl

pub said-element : (tag : Tag) (kids : Nodes) → is "p" tag ≡ false → is_quiet tag ≡ false → element_said true tag kids ≡ start_said tag ++ said true (holds_text tag) kids
said-element tag kids para quiet = rw (para, quiet) refl

-- a member tells, and then what is inside it
pub told-inside : (old mid new : List (Option Excerpt)) (first : ℕ → List Mention) (moved : ℕ → Bool) (here there : Where) (tag : Tag) (kids below : Nodes)
    → TellsEach old mid first → TellsEach mid new (λ v. mentions (moved v) v there below) → there ≡ inside here tag kids → below ≡ kids
    → TellsEach old new (λ v. first v ++ mentions (moved v) v (inside here tag kids) kids)
told-inside old mid new first moved here there tag kids below one two same kids_same =
    tells-then old mid new first (λ v. mentions (moved v) v (inside here tag kids) kids) one
    (tells-as mid new (λ v. mentions (moved v) v there below) (λ v. mentions (moved v) v (inside here tag kids) kids)
    (λ v. ap (λ w. mentions (moved v) v w below) same ∙ ap (λ ns. mentions (moved v) v (inside here tag kids) ns) kids_same) two)
