-- Two stretches of an element that meet are one stretch, where they form no `]]>`.
use Rattle.std.proofs.Common.{◌≡◌, ◌≢◌, ◌∙◌, refl, sym, ap, ℕ, List, [], ◌∷◌, ◌++◌, append_assoc, append-nil, true, false, ◌&&◌, ◌⊎◌, inl, inr, true≢false, codes}
use Rattle.std.specs.Prelude.{◌==◌}
use Rattle.std.specs.List.{AllByRecursion}
use Rattle.std.proofs.lemmas.Bool.{and_parts, and_from, or_cases, or_left, or_right, both_ways, false_from_ne_true}
use Rattle.redl_grammar.specs.References.{has_references}
use Rattle.redl_grammar.specs.Stretches.{IsRun, Item, item_then, IsItem, items_then, Head, head_then, no_head, IsStretch}
use Rattle.redl_grammar.specs.declared.section.Section.TheVariants.{InElement}
use Rattle.redl_grammar.proofs.Stretches.{items_then-append}
use Rattle.redl_reading.specs.Lists.{begins, lacks, is_other}
use Rattle.redl_reading.proofs.Runs.{passes-append}
use Rattle.redl_reread_sound.specs.Together.{forms_end}
use Rattle.redl_reread_sound.proofs.Ends.{lacks-both}
use Rattle.redl_reread_sound.proofs.References.{references-append}

-- ---- where `]]>` stands across the meeting of parts, it does so of the wholes

begins-more : (word bs more : List ℕ) → begins word bs ≡ true → begins word (bs ++ more) ≡ true
begins-more [] bs more h = refl
begins-more (w ∷ ws) [] more h = absurd (true≢false (sym h))
begins-more (w ∷ ws) (b ∷ bs) more h =
    let both = and_parts (b == w) (begins ws bs) h in
    and_from (b == w) (begins ws (bs ++ more)) both.0 (begins-more ws bs more both.1)

forms-longer : (a : ℕ) (b c : List ℕ) → forms_end b c ≡ true → forms_end (a ∷ b) c ≡ true
forms-longer a [] c h = absurd (true≢false (sym h))
forms-longer a (x ∷ []) c h = or_right (a == 93 && (x == 93 && begins (codes ">") c)) (forms_end (x ∷ []) c) h
forms-longer a (x ∷ y ∷ b) c h = h

forms-behind : (z b c : List ℕ) → forms_end b c ≡ true → forms_end (z ++ b) c ≡ true
forms-behind [] b c h = h
forms-behind (a ∷ z) b c h = forms-longer a (z ++ b) c (forms-behind z b c h)

forms-before : (b c more : List ℕ) → forms_end b c ≡ true → forms_end b (c ++ more) ≡ true
forms-before [] c more h = absurd (true≢false (sym h))
forms-before (x ∷ []) c more h =
    let both = and_parts (x == 93) (begins (codes "]>") c) h in
    and_from (x == 93) (begins (codes "]>") (c ++ more)) both.0 (begins-more (codes "]>") c more both.1)
forms-before (x ∷ y ∷ []) c more h = at (or_cases (x == 93 && (y == 93 && begins (codes ">") c)) (forms_end (y ∷ []) c) h) (λ k. forms-before (y ∷ []) c more k)
  where
    at : ((x == 93 && (y == 93 && begins (codes ">") c)) ≡ true) ⊎ (forms_end (y ∷ []) c ≡ true) → (forms_end (y ∷ []) c ≡ true → forms_end (y ∷ []) (c ++ more) ≡ true)
        → forms_end (x ∷ y ∷ []) (c ++ more) ≡ true
    at (inl k) ih =
        let first = and_parts (x == 93) (y == 93 && begins (codes ">") c) k in
        let second = and_parts (y == 93) (begins (codes ">") c) first.1 in
        or_left (x == 93 && (y == 93 && begins (codes ">") (c ++ more))) (forms_end (y ∷ []) (c ++ more))
        (and_from (x == 93) (y == 93 && begins (codes ">") (c ++ more)) first.0 (and_from (y == 93) (begins (codes ">") (c ++ more)) second.0 (begins-more (codes ">") c more second.1)))
    at (inr k) ih = or_right (x == 93 && (y == 93 && begins (codes ">") (c ++ more))) (forms_end (y ∷ []) (c ++ more)) (ih k)
forms-before (x ∷ y ∷ z ∷ b) c more h = forms-before (y ∷ z ∷ b) c more h

none-behind : (z b c : List ℕ) → forms_end (z ++ b) c ≡ false → forms_end b c ≡ false
none-behind z b c h = false_from_ne_true (forms_end b c) (λ t. both_ways (forms_end (z ++ b) c) h (forms-behind z b c t))

none-before : (b c more : List ℕ) → forms_end b (c ++ more) ≡ false → forms_end b c ≡ false
none-before b c more h = false_from_ne_true (forms_end b c) (λ t. both_ways (forms_end b (c ++ more)) h (forms-before b c more t))

-- ---- runs and items

abbrev pub Items : Type 0
Items = List (Item × List ℕ)

abbrev pub AreItems : Items → Type 0
AreItems more = AllByRecursion (λ i. IsItem InElement i.0 × IsRun InElement i.1) more

runs-glued : (x y : List ℕ) → IsRun InElement x → IsRun InElement y → forms_end x y ≡ false → IsRun InElement (x ++ y)
runs-glued x y h g well =
    let a = and_parts (has_references x) (lacks (codes "]]>") x) h.allowed in
    let b = and_parts (has_references y) (lacks (codes "]]>") y) g.allowed in
    record {
      no_tag = passes-append (is_other 60) x y h.no_tag g.no_tag;
      allowed = and_from (has_references (x ++ y)) (lacks (codes "]]>") (x ++ y)) (references-append x y a.0 b.0) (lacks-both x y a.1 b.1 well);
    }

item-append : (i : Item) (x y : List ℕ) → item_then i x ++ y ≡ item_then i (x ++ y)
item-append i x y = items_then-append ((i, []) ∷ []) x y

-- items, the last of which goes on with this run, and then others
abbrev glued_items : Items → List ℕ → Items → Items
glued_items [] run more = more
glued_items (i ∷ []) run more = (i.0, i.1 ++ run) ∷ more
glued_items (i ∷ j ∷ items) run more = i ∷ glued_items (j ∷ items) run more

glued-text : (i : Item × List ℕ) (items : Items) (run : List ℕ) (more : Items) → items_then (glued_items (i ∷ items) run more) [] ≡ items_then (i ∷ items) (run ++ items_then more [])
glued-text i [] run more = ap (item_then i.0) (append_assoc i.1 run (items_then more []))
glued-text i (j ∷ items) run more = ap (λ (z : List ℕ). item_then i.0 (i.1 ++ z)) (glued-text j items run more)

glued-are : (i : Item × List ℕ) (items : Items) (run : List ℕ) (more : Items) → AreItems (i ∷ items) → IsRun InElement run → AreItems more
    → forms_end (items_then (i ∷ items) []) run ≡ false → AreItems (glued_items (i ∷ items) run more)
glued-are i [] run more h r g well =
    let last : forms_end i.1 run ≡ false =
    none-behind (item_then i.0 []) i.1 run (ap (λ (z : List ℕ). forms_end z run) (item-append i.0 [] i.1 ∙ ap (item_then i.0) (sym (append-nil i.1))) ∙ well) in
    ((h.0.0, runs-glued i.1 run h.0.1 r last), g)
glued-are i (j ∷ items) run more h r g well =
    let rest : forms_end (items_then (j ∷ items) []) run ≡ false =
    none-behind (item_then i.0 i.1) (items_then (j ∷ items) []) run (ap (λ (z : List ℕ). forms_end z run) (item-append i.0 i.1 (items_then (j ∷ items) [])) ∙ well) in
    (h.0, glued-are j items run more h.1 r g rest)

-- ---- stretches

-- a stretch in an element has no head
abbrev content : {b : List ℕ} → IsStretch InElement b → List ℕ
content h = h.first ++ items_then h.more []

pub headless : (b : List ℕ) (h : IsStretch InElement b) → b ≡ content h
headless b h = h.whole ∙ ap (λ (head : Head). head_then head (h.first ++ items_then h.more [])) h.is_head

filled-append : (b c : List ℕ) → (b ≢ []) → (b ++ c ≢ [])
filled-append [] c h = absurd (h refl)
filled-append (x ∷ b) c h = λ e. cc

glue : (b c first run : List ℕ) (items more : Items) → IsRun InElement first → AreItems items → b ≡ first ++ items_then items [] → (b ≢ []) → IsRun InElement run → AreItems more
    → c ≡ run ++ items_then more [] → forms_end b run ≡ false → IsStretch InElement (b ++ c)
glue b c first run [] more f a whole filled r m other well = record {
  head = no_head;
  first = first ++ run;
  more = more;
  is_head = refl;
  first_run = runs-glued first run f r (ap (λ (z : List ℕ). forms_end z run) (sym (append-nil first) ∙ sym whole) ∙ well);
  each = m;
  whole = ap (λ (z : List ℕ). z ++ c) (whole ∙ append-nil first) ∙ ap (λ (z : List ℕ). first ++ z) other ∙ sym (append_assoc first run (items_then more []));
  filled = filled-append b c filled;
}
glue b c first run (i ∷ items) more f a whole filled r m other well = record {
  head = no_head;
  first = first;
  more = glued_items (i ∷ items) run more;
  is_head = refl;
  first_run = f;
  each = glued-are i items run more a r m (none-behind first (items_then (i ∷ items) []) run (ap (λ (z : List ℕ). forms_end z run) (sym whole) ∙ well));
  whole = ap (λ (z : List ℕ). z ++ c) whole ∙ append_assoc first (items_then (i ∷ items) []) c
      ∙ ap (λ (z : List ℕ). first ++ z) (items_then-append (i ∷ items) [] c ∙ ap (items_then (i ∷ items)) other ∙ sym (glued-text i items run more));
  filled = filled-append b c filled;
}

-- two stretches in an element that form no `]]>` are one
pub stretches-glued : (b c : List ℕ) → IsStretch InElement b → IsStretch InElement c → forms_end b c ≡ false → IsStretch InElement (b ++ c)
stretches-glued b c h g well =
    glue b c h.first g.first h.more g.more h.first_run h.each (headless b h) h.filled g.first_run g.each (headless c g)
    (none-before b g.first (items_then g.more []) (ap (forms_end b) (sym (headless c g)) ∙ well))
