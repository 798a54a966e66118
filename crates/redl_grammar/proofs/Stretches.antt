-- A stretch is read exactly if the bytes begin with it.
use Rattle.std.proofs.Common.{◌≡◌, ◌≢◌, ℕ, zero, suc, ◌<◌, ◌≤◌, Bool, true, false, cond, eqb, List, [], ◌∷◌, ◌++◌, length, Option, Some, None, refl, sym, ap, ◌∙◌, append_assoc, length-append, arith, inl, inr}
use Rattle.std.specs.Prelude.{not}
use Rattle.std.specs.List.{AllByRecursion}
use Rattle.std.proofs.lemmas.Option.{same_Some, cond_some, none-some}
use Rattle.redl_grammar.specs.declared.section.Section.{Section}
use Rattle.redl_grammar.specs.declared.section.Section.TheVariants.{BeforeRoot, InElement, AfterRoot}
use Rattle.redl_reading.specs.Lists.{front, after, before, is_filled, is_other}
use Rattle.redl_reading.specs.Steps.{done, next, turn, turns}
use Rattle.redl_grammar.specs.Stretches.{is_run, IsRun, Item, comment, instruction, cdata, item_then, IsItem, items_then, Head, head_then, IsStretch, begins_item, ends_stretch}
use Rattle.redl_grammar.specs.Pieces.{Piece, stretch}
use Rattle.redl_grammar.specs.ScanStretches.{item_at, after_head, stretch_step, items_end, stretch_at}
use Rattle.redl_reading.proofs.Runs.{stops, front-after, front_passes, after_stops, front_again, after_again}
use Rattle.std.proofs.lemmas.Bool.{and_parts, and_from, cases_Bool, not-true}
use Rattle.redl_reading.proofs.Words.{before-append}
use Rattle.redl_reading.proofs.Turns.{Going, begins as begins_turns, goes_on, ends}
use Rattle.redl_reading.proofs.Steps.{bind_some}
use Rattle.redl_grammar.proofs.Attributes.{is_filled-some, filled-is}
use Rattle.redl_grammar.proofs.Items.{item_takes, item_again, item_begins}
use Rattle.redl_grammar.proofs.Declarations.{NoHead, content_no_head, head_takes, head_again, head_then-append}

abbrev no_tag : ℕ → Bool
no_tag = is_other 60

-- ---- turns

step_refuses : (place : Section) (bs : List ℕ) → is_run place (front no_tag bs) ≡ false → stretch_step place bs ≡ done None
unfolding stretch_step
step_refuses place bs r = rw r refl

step_ends : (place : Section) (bs : List ℕ) → is_run place (front no_tag bs) ≡ true → begins_item (after no_tag bs) ≡ false → stretch_step place bs ≡ done (Some (after no_tag bs))
unfolding stretch_step
step_ends place bs r e = rw (r, e) refl

step_fails : (place : Section) (bs : List ℕ) → is_run place (front no_tag bs) ≡ true → begins_item (after no_tag bs) ≡ true → item_at place (after no_tag bs) ≡ None → stretch_step place bs ≡ done None
unfolding stretch_step
step_fails place bs r e i = rw (r, e, i) refl

step_goes : (place : Section) (bs rest : List ℕ) → is_run place (front no_tag bs) ≡ true → begins_item (after no_tag bs) ≡ true → item_at place (after no_tag bs) ≡ Some rest → stretch_step place bs ≡ next rest
unfolding stretch_step
step_goes place bs rest r e i = rw (r, e, i) refl

-- what was read of runs and items
pub record Reads (place : Section) (bs rest : List ℕ) : Type 0 where
  pub first : List ℕ
  pub more : List (Item × List ℕ)
  pub whole : bs ≡ first ++ items_then more rest
  pub first_run : IsRun place first
  pub each : AllByRecursion (λ i. IsItem place i.0 × IsRun place i.1) more
  pub end : ends_stretch rest ≡ true

run_is : (place : Section) (bs : List ℕ) → is_run place (front no_tag bs) ≡ true → IsRun place (front no_tag bs)
run_is place bs h = record { no_tag = front_passes no_tag bs; allowed = h }

end_is : (rest : List ℕ) → stops no_tag rest ≡ true → begins_item rest ≡ false → ends_stretch rest ≡ true
end_is [] s e = refl
end_is (b ∷ bs) s e =
    elim (cases_Bool (eqb b 60)) [
      | inl tag ↦ and_from _ _ tag (ap not e)
      | inr other ↦ absurd (let k = rw other at s in cc)
    ]

end_stops : (rest : List ℕ) → ends_stretch rest ≡ true → stops no_tag rest ≡ true
end_stops [] h = refl
end_stops (b ∷ bs) h = rw (and_parts (eqb b 60) (not (begins_item (b ∷ bs))) h).0 refl

end_no_item : (rest : List ℕ) → ends_stretch rest ≡ true → begins_item rest ≡ false
end_no_item [] h = refl
end_no_item (b ∷ bs) h = not-true (begins_item (b ∷ bs)) (and_parts (eqb b 60) (not (begins_item (b ∷ bs))) h).1

item_stops : (i : Item) (rest : List ℕ) → stops no_tag (item_then i rest) ≡ true
item_stops (comment text) rest = refl
item_stops (instruction name text) rest = refl
item_stops (cdata text) rest = refl

reads_end : (place : Section) (bs rest : List ℕ) → is_run place (front no_tag bs) ≡ true → begins_item (after no_tag bs) ≡ false → after no_tag bs ≡ rest → Reads place bs rest
reads_end place bs rest r e same =
    record {
      first = front no_tag bs;
      more = [];
      whole = sym (front-after no_tag bs) ∙ ap (λ (z : List ℕ). front no_tag bs ++ z) same;
      first_run = run_is place bs r;
      each = tt;
      end = rw (← same) (end_is (after no_tag bs) (after_stops no_tag bs) e);
    }

reads_more : (place : Section) (bs next_bs rest : List ℕ) → is_run place (front no_tag bs) ≡ true → item_at place (after no_tag bs) ≡ Some next_bs → Reads place next_bs rest → Reads place bs rest
reads_more place bs next_bs rest r e reads =
    let t = item_takes place (after no_tag bs) next_bs e in
    record {
      first = front no_tag bs;
      more = (t.0, reads.first) ∷ reads.more;
      whole = sym (front-after no_tag bs) ∙ ap (λ (z : List ℕ). front no_tag bs ++ z) (t.1 ∙ ap (item_then t.0) reads.whole);
      first_run = run_is place bs r;
      each = ((t.2, reads.first_run), reads.each);
      end = reads.end;
    }

take_turns : (place : Section) (n : ℕ) (bs rest : List ℕ) → turns (stretch_step place) n bs ≡ Some rest → Reads place bs rest
take_turns place zero bs rest e = absurd cc
take_turns place (suc n) bs rest e =
    elim (cases_Bool (is_run place (front no_tag bs))) [
      | inl r ↦ elim (cases_Bool (begins_item (after no_tag bs))) [
        | inl begun ↦ by_item n bs rest r begun (item_at place (after no_tag bs)) refl e (take_turns place n)
        | inr lacks ↦ reads_end place bs rest r lacks (same_Some (after no_tag bs) rest (rw (step_ends place bs r lacks) at e))
      ]
      | inr r ↦ absurd (none-some rest (rw (step_refuses place bs r) at e))
    ] where
      by_item : (n : ℕ) (bs rest : List ℕ) → is_run place (front no_tag bs) ≡ true → begins_item (after no_tag bs) ≡ true → (o : Option (List ℕ)) → item_at place (after no_tag bs) ≡ o → turn (stretch_step place bs) (turns (stretch_step place) n) ≡ Some rest → ((b y : List ℕ) → turns (stretch_step place) n b ≡ Some y → Reads place b y) → Reads place bs rest
      by_item n bs rest r begun None i e go = absurd (none-some rest (rw (step_fails place bs r begun i) at e))
      by_item n bs rest r begun (Some next_bs) i e go = reads_more place bs next_bs rest r i (go next_bs rest (rw (step_goes place bs next_bs r begun i) at e))

again_turns : (place : Section) (more : List (Item × List ℕ)) (n : ℕ) (first rest : List ℕ) → length more < n → IsRun place first → AllByRecursion (λ i. IsItem place i.0 × IsRun place i.1) more → ends_stretch rest ≡ true
    → turns (stretch_step place) n (first ++ items_then more rest) ≡ Some rest
again_turns place more zero first rest lt run each end = absurd (omega arith)
again_turns place [] (suc n) first rest lt run each end =
    let f = front_again no_tag first rest run.no_tag (end_stops rest end) in
    let a = after_again no_tag first rest run.no_tag (end_stops rest end) in
    let step = step_ends place (first ++ rest) (rw f run.allowed) (rw a (end_no_item rest end)) in
    rw (step, a) refl
again_turns place (i ∷ more) (suc n) first rest lt run each end =
    let inner : List ℕ = i.1 ++ items_then more rest in
    let opened : List ℕ = item_then i.0 inner in
    let f = front_again no_tag first opened run.no_tag (item_stops i.0 inner) in
    let a = after_again no_tag first opened run.no_tag (item_stops i.0 inner) in
    let step = step_goes place (first ++ opened) inner (rw f run.allowed) (rw a (item_begins i.0 inner)) (rw a (item_again place i.0 inner each.0.0)) in
    rw step (again_turns place more n i.1 rest (omega arith) each.0.1 each.1 end)

-- ---- stretches

item_then-append : (i : Item) (x y : List ℕ) → item_then i x ++ y ≡ item_then i (x ++ y)
item_then-append (comment text) x y = simp append_assoc
item_then-append (instruction name text) x y = simp append_assoc
item_then-append (cdata text) x y = simp append_assoc

-- what is written after items may be split anywhere
pub items_then-append : (more : List (Item × List ℕ)) (x y : List ℕ) → items_then more x ++ y ≡ items_then more (x ++ y)
items_then-append [] x y = refl
items_then-append (i ∷ more) x y =
    item_then-append i.0 (i.1 ++ items_then more x) y ∙ ap (item_then i.0) (append_assoc i.1 (items_then more x) y ∙ ap (λ (z : List ℕ). i.1 ++ z) (items_then-append more x y))

-- a stretch's text with what follows it
pub whole_then : (head : Head) (first : List ℕ) (more : List (Item × List ℕ)) (rest : List ℕ) → head_then head (first ++ items_then more []) ++ rest ≡ head_then head (first ++ items_then more rest)
whole_then head first more rest =
    head_then-append head (first ++ items_then more []) rest ∙ ap (head_then head) (append_assoc first (items_then more []) rest ∙ ap (λ (z : List ℕ). first ++ z) (items_then-append more [] rest))

pub stretch_takes : (place : Section) (bs : List ℕ) (x : Piece × List ℕ) → stretch_at place bs ≡ Some x → (s : List ℕ) × (x.0 ≡ stretch s) × (bs ≡ s ++ x.1) × IsStretch place s × (ends_stretch x.1 ≡ true)
unfolding stretch_at items_end
stretch_takes place bs x e =
    let content : List ℕ = after_head place bs in
    let r = bind_some (items_end place content) (λ rest. cond (is_filled (before bs rest)) (Some (stretch (before bs rest), rest)) None) x e in
    let c = cond_some (is_filled (before bs r.0)) (stretch (before bs r.0), r.0) x r.2 in
    let h = head_takes place bs in
    let t = take_turns place (suc (length content)) content r.0 r.1 in
    let s : List ℕ = head_then h.0 (t.first ++ items_then t.more []) in
    let whole : bs ≡ s ++ r.0 = h.1 ∙ ap (head_then h.0) t.whole ∙ sym (whole_then h.0 t.first t.more r.0) in
    let cut : before bs r.0 ≡ s = ap (λ (z : List ℕ). before z r.0) whole ∙ before-append s r.0 in
    let filled : s ≢ [] = is_filled-some s (rw (← cut) c.0) in
    let made : (stretch s, r.0) ≡ x = ap (λ (z : List ℕ). (stretch z, r.0)) (sym cut) ∙ c.1 in
    let rest : r.0 ≡ x.1 = ap (λ (y : Piece × List ℕ). y.1) made in (
      s,
      sym (ap (λ (y : Piece × List ℕ). y.0) made),
      whole ∙ ap (λ (z : List ℕ). s ++ z) rest,
      record { head = h.0; first = t.first; more = t.more; is_head = h.2; first_run = t.first_run; each = t.each; whole = refl; filled = filled },
      rw (← rest) t.end,
    )

item_long : (i : Item) (rest : List ℕ) → length rest < length (item_then i rest)
item_long (comment text) rest = omega (arith, length-append {A = ℕ})
item_long (instruction name text) rest = omega (arith, length-append {A = ℕ})
item_long (cdata text) rest = omega (arith, length-append {A = ℕ})

items_long : (more : List (Item × List ℕ)) (rest : List ℕ) → length more ≤ length (items_then more rest)
items_long [] rest = omega arith
items_long (i ∷ more) rest = omega (arith, items_long more rest, item_long i.0 (i.1 ++ items_then more rest), length-append i.1 (items_then more rest))

-- a stretch that stands there, and ends there, is read
pub stretch_again : (place : Section) (s rest : List ℕ) → IsStretch place s → ends_stretch rest ≡ true → stretch_at place (s ++ rest) ≡ Some (stretch s, rest)
unfolding stretch_at items_end
stretch_again place s rest h end =
    let content : List ℕ = h.first ++ items_then h.more rest in
    let whole : s ++ rest ≡ head_then h.head content = ap (λ (z : List ℕ). z ++ rest) h.whole ∙ whole_then h.head h.first h.more rest in
    let none : place ≡ BeforeRoot → NoHead content = λ same. before_root place same h.first h.more h.first_run h.each in
    let here : after_head place (s ++ rest) ≡ content = ap (after_head place) whole ∙ head_again place h.head content h.is_head none in
    let long : length h.more < suc (length content) = omega (arith, items_long h.more rest, length-append h.first (items_then h.more rest)) in
    let read = again_turns place h.more (suc (length content)) h.first rest long h.first_run h.each end in
    rw (here, read, before-append s rest, filled-is s h.filled) refl where
      before_root : (place : Section) → place ≡ BeforeRoot → (first : List ℕ) (more : List (Item × List ℕ)) → IsRun place first → AllByRecursion (λ i. IsItem place i.0 × IsRun place i.1) more → NoHead (first ++ items_then more rest)
      before_root BeforeRoot same first more run each = content_no_head first more rest run each end
      before_root InElement same first more run each = absurd cc
      before_root AfterRoot same first more run each = absurd cc

-- ---- the loop of the code

after_shorter : (bs : List ℕ) → length (after no_tag bs) ≤ length bs
after_shorter bs = omega (arith, ap length (front-after no_tag bs), length-append (front no_tag bs) (after no_tag bs))

-- from here the loop over a stretch's items still finds the end of the stretch
abbrev pub Loop : Section → List ℕ → List ℕ → Type 0
Loop place left bs = Going (stretch_step place) length left (items_end place bs)

-- before the first item
pub loop_begins : (place : Section) (bs : List ℕ) → Loop place bs bs
unfolding items_end
loop_begins place bs = begins_turns (stretch_step place) length bs

-- text that may not stand here ends the search without a stretch
pub loop_refuses : (place : Section) (left run bs : List ℕ) → Loop place left bs → run ≡ front no_tag left → is_run place run ≡ false → items_end place bs ≡ None
loop_refuses place left run bs g f r = ends (stretch_step place) length left None (items_end place bs) g (step_refuses place left (rw (← f) r))

-- where no item begins after the text, the stretch ends
pub loop_ends : (place : Section) (left run rest bs : List ℕ) → Loop place left bs → run ≡ front no_tag left → rest ≡ after no_tag left → is_run place run ≡ true → begins_item rest ≡ false → items_end place bs ≡ Some rest
loop_ends place left run rest bs g f a r e =
    rw a (ends (stretch_step place) length left (Some (after no_tag left)) (items_end place bs) g (step_ends place left (rw (← f) r) (ap begins_item (sym a) ∙ e)))

-- where an item begins and none can be read, there is no stretch
pub loop_fails : (place : Section) (left run rest bs : List ℕ) → Loop place left bs → run ≡ front no_tag left → rest ≡ after no_tag left → is_run place run ≡ true → begins_item rest ≡ true → item_at place rest ≡ None → items_end place bs ≡ None
loop_fails place left run rest bs g f a r e i = ends (stretch_step place) length left None (items_end place bs) g (step_fails place left (rw (← f) r) (ap begins_item (sym a) ∙ e) (rw (← a) i))

-- an item that is read leaves fewer bytes
pub loop_shrinks : (place : Section) (left rest next_bs : List ℕ) → rest ≡ after no_tag left → item_at place rest ≡ Some next_bs → length next_bs < length left
loop_shrinks place left rest next_bs a i =
    let t = item_takes place rest next_bs i in
    omega (arith, after_shorter left, ap length a, ap length t.1, item_long t.0 next_bs)

-- past the text and the item after it
pub loop_goes : (place : Section) (left run rest next_bs bs : List ℕ) → Loop place left bs → run ≡ front no_tag left → rest ≡ after no_tag left → is_run place run ≡ true → begins_item rest ≡ true → item_at place rest ≡ Some next_bs → Loop place next_bs bs
loop_goes place left run rest next_bs bs g f a r e i =
    goes_on (stretch_step place) length left next_bs (items_end place bs) g (step_goes place left next_bs (rw (← f) r) (ap begins_item (sym a) ∙ e) (rw (← a) i)) (loop_shrinks place left rest next_bs a i)
