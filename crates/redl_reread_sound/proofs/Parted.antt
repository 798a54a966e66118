-- A stretch of an element that begins with another one goes on as a stretch, or as nothing, and forms no `]]>` with it.
use Rattle.std.proofs.Common.{◌≡◌, ◌∙◌, refl, sym, ap, subst, ℕ, List, [], ◌∷◌, ◌++◌, append_assoc, append-nil, Bool, true, false, ◌&&◌, ◌||◌, not, ◌⊎◌, inl, inr, codes}
use Rattle.std.specs.Prelude.{◌==◌}
use Rattle.std.specs.List.{list_all}
use Rattle.std.proofs.lemmas.Bool.{and_parts, and_from, both_ways, false_from_ne_true, not-true}
use Rattle.std.proofs.lemmas.Option.{same_Some}
use Rattle.redl_grammar.specs.References.{has_references}
use Rattle.redl_grammar.specs.ScanStretches.{item_at}
use Rattle.redl_grammar.specs.Stretches.{IsRun, Item, comment, instruction, cdata, item_then, items_then, begins_item, ends_stretch, no_head, IsStretch}
use Rattle.redl_grammar.specs.declared.section.Section.TheVariants.{InElement}
use Rattle.redl_grammar.proofs.Items.{item_again, item_begins}
use Rattle.redl_grammar.proofs.Stretches.{items_then-append}
use Rattle.redl_reading.specs.Lists.{after, begins, lacks, is_other}
use Rattle.redl_reading.proofs.Runs.{stops, after_again, list_all-parts}
use Rattle.redl_reread_sound.specs.Together.{forms_end}
use Rattle.redl_reread_sound.proofs.Ends.{has-across}
use Rattle.redl_reread_sound.proofs.Glued.{Items, AreItems, headless}

-- ---- where `]]>` stands across the meeting of parts

and_false : (b : Bool) → (b && false) ≡ false
and_false true = refl
and_false false = refl

-- nothing is formed with no bytes
pub forms-none : (b : List ℕ) → forms_end b [] ≡ false
forms-none [] = refl
forms-none (x ∷ []) = and_false (x == 93)
forms-none (x ∷ y ∷ []) = both (x == 93) (y == 93)
  where
    both : (p q : Bool) → ((p && (q && false)) || (q && false)) ≡ false
    both true true = refl
    both true false = refl
    both false true = refl
    both false false = refl
forms-none (x ∷ y ∷ z ∷ b) = forms-none (y ∷ z ∷ b)

-- only bytes before a `<` count
close-short : (c t : List ℕ) → begins (codes ">") (c ++ (60 ∷ t)) ≡ begins (codes ">") c
close-short [] t = refl
close-short (x ∷ c) t = refl

closes-short : (c t : List ℕ) → begins (codes "]>") (c ++ (60 ∷ t)) ≡ begins (codes "]>") c
closes-short [] t = refl
closes-short (x ∷ []) t = refl
closes-short (x ∷ y ∷ c) t = refl

forms-short : (b c t : List ℕ) → forms_end b (c ++ (60 ∷ t)) ≡ forms_end b c
forms-short [] c t = refl
forms-short (x ∷ []) c t = ap (λ k. x == 93 && k) (closes-short c t)
forms-short (x ∷ y ∷ []) c t = cc (close-short c t, closes-short c t)
forms-short (x ∷ y ∷ z ∷ b) c t = forms-short (y ∷ z ∷ b) c t

-- only bytes after a `>` count
after-mark : (z c : List ℕ) → forms_end (62 ∷ z) c ≡ forms_end z c
after-mark [] c = refl
after-mark (x ∷ []) c = refl
after-mark (x ∷ y ∷ z) c = refl

forms-one : (a : ℕ) (w z c : List ℕ) → forms_end (a ∷ (w ++ (62 ∷ z))) c ≡ forms_end (w ++ (62 ∷ z)) c
forms-one a [] [] c = ap (λ t. t || false) (and_false (a == 93))
forms-one a [] (x ∷ z) c = refl
forms-one a (b ∷ []) z c = refl
forms-one a (b ∷ d ∷ w) z c = refl

forms-apart : (w z c : List ℕ) → forms_end (w ++ (62 ∷ z)) c ≡ forms_end z c
forms-apart [] z c = after-mark z c
forms-apart (a ∷ w) z c = forms-one a w z c ∙ forms-apart w z c

-- ---- items

-- an item begins with `<`
item-opens : (i : Item) (z : List ℕ) → (t : List ℕ) × (item_then i z ≡ 60 ∷ t)
item-opens (comment text) z = (_, refl)
item-opens (instruction name text) z = (_, refl)
item-opens (cdata text) z = (_, refl)

-- and ends with `>`
item-closes : (i : Item) (z : List ℕ) → (w : List ℕ) × (item_then i z ≡ w ++ (62 ∷ z))
item-closes (comment text) z = (codes "<!--" ++ (text ++ codes "--"), simp append_assoc)
item-closes (instruction name text) z = (codes "<?" ++ (name ++ (text ++ codes "?")), simp append_assoc)
item-closes (cdata text) z = (codes "<![CDATA[" ++ (text ++ codes "]]"), simp append_assoc)

-- so what stands before the last run of a stretch forms nothing with what follows
behind-item : (run : List ℕ) (i : Item) (z c : List ℕ) → forms_end (run ++ item_then i z) c ≡ forms_end z c
behind-item run i z c =
    let ends = item-closes i z in
    ap (λ (x : List ℕ). forms_end x c) (ap (λ (x : List ℕ). run ++ x) ends.1 ∙ sym (append_assoc run ends.0 (62 ∷ z))) ∙ forms-apart (run ++ ends.0) z c

before-items : (b run : List ℕ) (more : Items) → forms_end b (run ++ items_then more []) ≡ forms_end b run
before-items b run [] = ap (forms_end b) (append-nil run)
before-items b run (i ∷ more) =
    let opens = item-opens i.0 (i.1 ++ items_then more []) in
    ap (λ (x : List ℕ). forms_end b (run ++ x)) opens.1 ∙ forms-short b run opens.0

-- ---- runs

-- a longer run goes on as a run
record GoesOnAsRun (run other x y : List ℕ) : Type 0 where
  rest : List ℕ
  longer : other ≡ run ++ rest
  left : x ≡ rest ++ y

run-parted : (run other x y : List ℕ) → list_all (is_other 60) run ≡ true → stops (is_other 60) y ≡ true → run ++ x ≡ other ++ y → GoesOnAsRun run other x y
run-parted [] other x y none end e = record { rest = other; longer = refl; left = e }
run-parted (b ∷ run) [] x y none end e =
    let both = and_parts (is_other 60 b) (list_all (is_other 60) run) none in
    let other = subst (λ (z : List ℕ). stops (is_other 60) z ≡ true) (sym e) end in
    absurd (both_ways (is_other 60 b) (not-true (is_other 60 b) other) both.0)
run-parted (b ∷ run) (c ∷ other) x y none end e =
    let both = and_parts (is_other 60 b) (list_all (is_other 60) run) none in
    let same : b ≡ c = cc in
    let tails : run ++ x ≡ other ++ y = cc in
    let rest = run-parted run other x y both.1 end tails in
    record { rest = rest.rest; longer = cc (rest.longer); left = rest.left }

references-behind : (x y : List ℕ) → has_references (x ++ y) ≡ true → has_references y ≡ true
references-behind [] y h = h
references-behind (b ∷ x) y h = references-behind x y (and_parts _ (has_references (x ++ y)) h).1

lacks-behind : (word x y : List ℕ) → lacks word (x ++ y) ≡ true → lacks word y ≡ true
lacks-behind word [] y h = h
lacks-behind word (b ∷ x) y h = lacks-behind word x y (and_parts (not (begins word (b ∷ (x ++ y)))) (lacks word (x ++ y)) h).1

run-behind : (x y : List ℕ) → IsRun InElement (x ++ y) → IsRun InElement y
run-behind x y h =
    let both = and_parts (has_references (x ++ y)) (lacks (codes "]]>") (x ++ y)) h.allowed in
    record {
      no_tag = (list_all-parts (is_other 60) x y h.no_tag).1;
      allowed = and_from (has_references y) (lacks (codes "]]>") y) (references-behind x y both.0) (lacks-behind (codes "]]>") x y both.1);
    }

run-well : (x y : List ℕ) → IsRun InElement (x ++ y) → forms_end x y ≡ false
run-well x y h =
    let whole = (and_parts (has_references (x ++ y)) (lacks (codes "]]>") (x ++ y)) h.allowed).1 in
    false_from_ne_true (forms_end x y) (λ t. both_ways (lacks (codes "]]>") (x ++ y)) (has-across x y t) whole)

-- ---- stretches

-- what follows a stretch within a longer one, before what follows both
pub record GoesOn (b x y : List ℕ) : Type 0 where
  pub more : List ℕ
  pub left : x ≡ more ++ y
  pub is : (more ≡ []) ⊎ IsStretch InElement more
  pub well : forms_end b more ≡ false

stretch-or-none : (run : List ℕ) (more : Items) → IsRun InElement run → AreItems more → (run ++ items_then more [] ≡ []) ⊎ IsStretch InElement (run ++ items_then more [])
stretch-or-none run more r m = at (run ++ items_then more []) refl
  where
    at : (z : List ℕ) → z ≡ run ++ items_then more [] → (z ≡ []) ⊎ IsStretch InElement z
    at [] e = inl refl
    at (b ∷ z) e = inr (record { head = no_head; first = run; more = more; is_head = refl; first_run = r; each = m; whole = e; filled = λ n. cc })

-- what ends a stretch begins no item
no-item : (z : List ℕ) → ends_stretch z ≡ true → begins_item z ≡ false
no-item [] end = refl
no-item (b ∷ z) end = not-true (begins_item (b ∷ z)) (and_parts (b == 60) (not (begins_item (b ∷ z))) end).1

end-stops : (z : List ℕ) → ends_stretch z ≡ true → stops (is_other 60) z ≡ true
end-stops [] end = refl
end-stops (b ∷ z) end = ap (λ t. not (not t)) (and_parts (b == 60) (not (begins_item (b ∷ z))) end).0

item-stops : (i : Item) (z : List ℕ) → stops (is_other 60) (item_then i z) ≡ true
item-stops (comment text) z = refl
item-stops (instruction name text) z = refl
item-stops (cdata text) z = refl

items-stop : (more : Items) (y : List ℕ) → ends_stretch y ≡ true → stops (is_other 60) (items_then more y) ≡ true
items-stop [] y end = end-stops y end
items-stop (i ∷ more) y end = item-stops i.0 (i.1 ++ items_then more y)

after-run : (run z : List ℕ) → IsRun InElement run → stops (is_other 60) z ≡ true → after (is_other 60) (run ++ z) ≡ z
after-run run z h stop = after_again (is_other 60) run z h.no_tag stop

-- a run and items with what follows them, within a longer run and items
parted : (run other : List ℕ) (items more : Items) (x y : List ℕ) → IsRun InElement run → AreItems items → IsRun InElement other → AreItems more → ends_stretch y ≡ true
    → run ++ items_then items x ≡ other ++ items_then more y → GoesOn (run ++ items_then items []) x y
parted run other [] more x y r a o m end e =
    let it = run-parted run other x (items_then more y) r.no_tag (items-stop more y end) e in
    let rest : List ℕ = it.rest ++ items_then more [] in
    let whole : IsRun InElement (run ++ it.rest) = subst (λ (z : List ℕ). IsRun InElement z) it.longer o in
    record {
      more = rest;
      left = it.left ∙ sym (append_assoc it.rest (items_then more []) y ∙ ap (λ (z : List ℕ). it.rest ++ z) (items_then-append more [] y));
      is = stretch-or-none it.rest more (run-behind run it.rest whole) m;
      well = ap (λ (z : List ℕ). forms_end z rest) (append-nil run) ∙ before-items run it.rest more ∙ run-well run it.rest whole;
    }
parted run other (i ∷ items) [] x y r a o m end e =
    let opened : List ℕ = item_then i.0 (i.1 ++ items_then items x) in
    let same : opened ≡ y =
    sym (after-run run opened r (item-stops i.0 (i.1 ++ items_then items x))) ∙ ap (after (is_other 60)) e ∙ after-run other y o (end-stops y end) in
    absurd (both_ways (begins_item y) (no-item y end) (ap begins_item (sym same) ∙ item_begins i.0 (i.1 ++ items_then items x)))
parted run other (i ∷ items) (j ∷ more) x y r a o m end e =
    let u : List ℕ = i.1 ++ items_then items x in
    let v : List ℕ = j.1 ++ items_then more y in
    let same : item_then i.0 u ≡ item_then j.0 v =
    sym (after-run run (item_then i.0 u) r (item-stops i.0 u)) ∙ ap (after (is_other 60)) e ∙ after-run other (item_then j.0 v) o (item-stops j.0 v) in
    let behind : u ≡ v = same_Some u v (sym (item_again InElement i.0 u a.0.0) ∙ ap (item_at InElement) same ∙ item_again InElement j.0 v m.0.0) in
    let it = parted i.1 j.1 items more x y a.0.1 a.1 m.0.1 m.1 end behind in
    record { more = it.more; left = it.left; is = it.is; well = behind-item run i.0 (i.1 ++ items_then items []) it.more ∙ it.well }

content-then : (b x : List ℕ) (h : IsStretch InElement b) → b ++ x ≡ h.first ++ items_then h.more x
content-then b x h =
    ap (λ (z : List ℕ). z ++ x) (headless b h) ∙ append_assoc h.first (items_then h.more []) x ∙ ap (λ (z : List ℕ). h.first ++ z) (items_then-append h.more [] x)

pub stretch-parted : (b s x y : List ℕ) → IsStretch InElement b → IsStretch InElement s → ends_stretch y ≡ true → b ++ x ≡ s ++ y → GoesOn b x y
stretch-parted b s x y h g end e =
    subst (λ (z : List ℕ). GoesOn z x y) (sym (headless b h))
    (parted h.first g.first h.more g.more x y h.first_run h.each g.first_run g.each end (sym (content-then b x h) ∙ e ∙ content-then s y g))

-- ---- the first byte

-- bytes that begin as a tag does have no run and no item before it
opens-none : (run : List ℕ) (items : Items) (x : List ℕ) → IsRun InElement run → ends_stretch (run ++ items_then items x) ≡ true → run ++ items_then items [] ≡ []
opens-none [] [] x h end = refl
opens-none [] (i ∷ items) x h end =
    let opened : List ℕ = item_then i.0 (i.1 ++ items_then items x) in
    absurd (both_ways (begins_item opened) (no-item opened end) (item_begins i.0 (i.1 ++ items_then items x)))
opens-none (b ∷ run) items x h end =
    let none = and_parts (is_other 60 b) (list_all (is_other 60) run) h.no_tag in
    let tag = and_parts (b == 60) (not (begins_item (b ∷ (run ++ items_then items x)))) end in
    absurd (both_ways (b == 60) (not-true (b == 60) none.0) tag.0)

-- a stretch begins as no tag does
pub stretch-opens : (b x : List ℕ) → IsStretch InElement b → ends_stretch (b ++ x) ≡ false
stretch-opens b x h =
    false_from_ne_true (ends_stretch (b ++ x))
    (λ end. h.filled (headless b h ∙ opens-none h.first h.more x h.first_run (ap ends_stretch (sym (content-then b x h)) ∙ end)))
