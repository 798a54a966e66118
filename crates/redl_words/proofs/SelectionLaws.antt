-- The texts of selections: what was read is what the text means, and what the text means is read.
use Rattle.std.proofs.Common.{◌≡◌, ◌≢◌, ℕ, ◌+◌, ◌^◌, ◌<◌, ◌≤◌, Bool, true, false, cond, eqb, List, [], ◌∷◌, ◌++◌, length, Option, Some, None, refl, sym, ap, subst, ◌∙◌, ◌↔◌, inl, inr, arith, append-nil, append_assoc, map, All, MatchOption, get_or, drop, Bor, IsTrue}
use Rattle.std.specs.Prelude.{ℤ, codes, decimal, nat_le, option_map}
use Rattle.std.specs.List.{list_all, join_with_byte, slice_split, count_by, AllByRecursion}
use Rattle.std.specs.Str.{bytes_eq}
use Rattle.std.proofs.lemmas.Bool.{eqb-true, le-leb, leb-true, and_parts, and_from, cases_Bool, eq-eqb}
use Rattle.std.proofs.lemmas.List.{at_drop_more, at_drop_all}
use Rattle.std.proofs.lemmas.Option.{same_Some, cond_some}
use Rattle.std.proofs.lemmas.List.Splits.{join_with_byte-slice_split, length-slice_split, slice_split_none, slice_split_at}
use Rattle.std.proofs.lemmas.List.Folds.{list_all-append}
use Rattle.std.proofs.lemmas.List.Elements.{All-from_recursion, recursion_from_All}
use Rattle.std.proofs.lemmas.Slice.Eq.{bytes_eq-Decides}
use Rattle.std.proofs.lemmas.Str.Pattern.{IsSplitOnceResult, split_parts}
use Rattle.redl_reading.proofs.Options.{map_some}
use Rattle.redl_stamp.specs.Moment.{moment_of}
use Rattle.redl_journal.specs.Reading.{number_in}
use Rattle.redl_reading.specs.Steps.{Gives}
use Rattle.redl_reading.specs.Lists.{field_at, is_other}
use Rattle.redl_journal.proofs.Parts.{number_takes, number_again, decimal_lacks}
use Rattle.redl_reading.proofs.Steps.{bind_some}
use Rattle.redl_reading.proofs.Fields.{field_takes, field_again}
use Rattle.redl_kinds.specs.declared.rev_kind.RevKind.{RevKind}
use Rattle.redl_kinds.specs.Kinds.{is_named}
use Rattle.redl_kinds.specs.KindNames.{kind_name, kind_named}
use Rattle.redl_kinds.proofs.KindNameLaws.{kind_named-exact}
use Rattle.redl_kinds.specs.declared.group.Group.{Group}
use Rattle.redl_kinds.specs.declared.group.Group.TheVariants as groups
use Rattle.redl_kinds.specs.declared.selection.Listed.{Listed}
use Rattle.redl_kinds.specs.declared.selection.Listed.TheVariants.{One, Range}
use Rattle.redl_kinds.specs.Selections.{Selection, all, numbers, author, span, kind, group, edits}
use Rattle.redl_words.specs.Selections.{IsItem, ListsNumbers, GivesSpan, GivesDates, NamesKind, Means, group_name, item_text}
use Rattle.redl_words.specs.Reading.Selections.{range_in, item_parts, item_in, numbers_after, numbers_in, group_named, kind_or, kinds_in, moments_in, span_in, labelled, selection_parts, selection_in}
use Rattle.redl_words.proofs.DateLaws.{date_has_no_slash}

pub bytes_same : (xs ys : List ℕ) → bytes_eq xs ys ≡ true → xs ≡ ys
bytes_same xs ys e = (bytes_eq-Decides xs ys).0 e

-- the first of several tests that holds
pub pick : {A : Type 0} (P : A → Type 0) (t : Bool) (x : A) (rest : Option A) (y : A) → cond t (Some x) rest ≡ Some y → (t ≡ true → P x) → (rest ≡ Some y → P y) → P y
pick P true x rest y e here later = subst P (same_Some x y e) (here refl)
pick P false x rest y e here later = later e

-- ---- parts of a text

-- the call of `split_once` gives the parts that reading gives
pub split_field : (c : ℕ) (bs : List ℕ) (r : Option (Bor (List ℕ) × Bor (List ℕ))) → IsSplitOnceResult c bs r → c < 128 → Gives (λ x. (x.0.now, x.1.now)) r (field_at c bs)
split_field c bs r h small = of r (split_parts c bs r h small) where
  absent : (xs : List ℕ) → ((i : ℕ) → i < length xs → get_or xs i 0 ≢ c) → list_all (is_other c) xs ≡ true
  absent [] h = refl
  absent (x ∷ xs) h =
      let other : eqb x c ≡ false = elim (cases_Bool (eqb x c)) [ inl same ↦ absurd (h 0 (omega arith) (eqb-true x c same)) | inr unlike ↦ unlike ] in
      let first : is_other c x ≡ true = rw other refl in
      and_from (is_other c x) (list_all (is_other c) xs) first (absent xs (λ i within. h (Prim.Native.Nat.suc i) (omega arith)))

  none : (o : Option (List ℕ × List ℕ)) → field_at c bs ≡ o → ((i : ℕ) → i < length bs → get_or bs i 0 ≢ c) → field_at c bs ≡ None
  none None e h = e
  none (Some x) e h = absurd (in_the_middle x.0 x.1 (field_takes c bs x e)) where
    at_end : (xs ys : List ℕ) → get_or (xs ++ (c ∷ ys)) (length xs) 0 ≡ c
    at_end [] ys = refl
    at_end (x ∷ xs) ys = at_end xs ys

    longer : (xs ys : List ℕ) → length xs < length (xs ++ (c ∷ ys))
    longer [] ys = omega arith
    longer (x ∷ xs) ys = let l = longer xs ys in omega arith

    in_the_middle : (xs ys : List ℕ) → bs ≡ xs ++ (c ∷ ys) → ⊥
    in_the_middle xs ys e =
        h (length xs) (subst (λ (l : List ℕ). length xs < length l) (sym e) (longer xs ys)) (ap (λ (l : List ℕ). get_or l (length xs) 0) e ∙ at_end xs ys)

  of : (r : Option (Bor (List ℕ) × Bor (List ℕ)))
      → MatchOption r ((i : ℕ) → i < length bs → get_or bs i 0 ≢ c) (λ x. (bs ≡ x.0.now ++ (c ∷ x.1.now)) × ((i : ℕ) → i < length x.0.now → get_or x.0.now i 0 ≢ c))
      → Gives (λ x. (x.0.now, x.1.now)) r (field_at c bs)
  of None h = none (field_at c bs) refl h
  of (Some x) h = ap (field_at c) h.0 ∙ field_again c x.0.now x.1.now (absent x.0.now h.1)

-- ---- listed numbers

-- a text with the byte c in it is none without it
has_no_other : (c : ℕ) (xs ys : List ℕ) → list_all (is_other c) (xs ++ (c ∷ ys)) ≡ true → ⊥
has_no_other c [] ys h =
    let both = and_parts (is_other c c) (list_all (is_other c) ys) h in
    let same : is_other c c ≡ false = rw (eq-eqb c c refl) refl in
    cc
has_no_other c (x ∷ xs) ys h = has_no_other c xs ys (and_parts (is_other c x) (list_all (is_other c) (xs ++ (c ∷ ys))) h).1

-- no field ends where there is no such byte
field_none : (c : ℕ) (bs : List ℕ) → list_all (is_other c) bs ≡ true → field_at c bs ≡ None
field_none c bs h = of (field_at c bs) refl where
  of : (o : Option (List ℕ × List ℕ)) → field_at c bs ≡ o → field_at c bs ≡ None
  of None e = e
  of (Some x) e = absurd (has_no_other c x.0 x.1 (subst (λ (l : List ℕ). list_all (is_other c) l ≡ true) (field_takes c bs x e) h))

range_takes : (first last : List ℕ) (item : Listed) → range_in first last ≡ Some item → (item_text item ≡ first ++ (45 ∷ last)) × IsItem item
unfolding range_in
range_takes first last item e =
    let start = bind_some (number_in first) _ item e in
    let end = bind_some (number_in last) _ item start.2 in
    let test = cond_some (nat_le start.0 end.0) (Range start.0 end.0) item end.2 in
    let from = number_takes first start.0 start.1 in
    let to = number_takes last end.0 end.1 in
    let order : start.0 ≤ end.0 = leb-true start.0 end.0 test.0 in
    let written : item_text (Range start.0 end.0) ≡ first ++ (45 ∷ last) =
    ap (λ (l : List ℕ). l ++ (45 ∷ decimal end.0)) from.0 ∙ ap (λ (l : List ℕ). first ++ (45 ∷ l)) to.0 in
    subst (λ (i : Listed). (item_text i ≡ first ++ (45 ∷ last)) × IsItem i) test.1 (written, (order, to.1))

range_again : (first last : ℕ) → first ≤ last → last < 2 ^ 32 → range_in (decimal first) (decimal last) ≡ Some (Range first last)
unfolding range_in
range_again first last order small =
    let test : nat_le first last ≡ true = le-leb first last order in
    rw (number_again first (omega arith), number_again last small, test) refl

item_takes : (text : List ℕ) (item : Listed) → item_in text ≡ Some item → (item_text item ≡ text) × IsItem item
unfolding item_in
item_takes text item e = of (field_at 45 text) refl e where
  of : (o : Option (List ℕ × List ℕ)) → field_at 45 text ≡ o → item_parts text o ≡ Some item → (item_text item ≡ text) × IsItem item
  of None is e =
      let n = map_some One (number_in text) item e in
      let t = number_takes text n.0 n.1 in
      subst (λ (i : Listed). (item_text i ≡ text) × IsItem i) n.2 t
  of (Some ends) is e =
      let t = range_takes ends.0 ends.1 item e in
      (t.0 ∙ sym (field_takes 45 text ends is), t.1)

item_again : (item : Listed) → IsItem item → item_in (item_text item) ≡ Some item
unfolding item_in
item_again (One number) h = rw (field_none 45 (decimal number) (decimal_lacks 45 number (omega arith) h), number_again number h) refl
item_again (Range first last) h = rw (field_again 45 (decimal first) (decimal last) (decimal_lacks 45 first (omega arith) (omega (arith, h.0, h.1)))) (range_again first last h.0 h.1)

pub record Listing (pieces : List (List ℕ)) (before listed : List Listed) : Type 0 where
  pub more : List Listed
  pub whole : listed ≡ before ++ more
  pub written : pieces ≡ map item_text more
  pub items : AllByRecursion IsItem more

numbers_take : (pieces : List (List ℕ)) (before listed : List Listed) → numbers_after before pieces ≡ Some listed → Listing pieces before listed
unfolding numbers_after
numbers_take [] before listed e = record { more = []; whole = sym (same_Some before listed e) ∙ sym (append-nil before); written = refl; items = tt }
numbers_take (piece ∷ pieces) before listed e =
    let n = bind_some (item_in piece) (λ item. numbers_after (before ++ item ∷ []) pieces) listed e in
    let t = item_takes piece n.0 n.1 in
    let rest = numbers_take pieces (before ++ n.0 ∷ []) listed n.2 in
    record {
      more = n.0 ∷ rest.more;
      whole = rest.whole ∙ append_assoc before (n.0 ∷ []) rest.more;
      written = ap (λ (p : List ℕ). p ∷ pieces) (sym t.0) ∙ ap (λ (ps : List (List ℕ)). item_text n.0 ∷ ps) rest.written;
      items = (t.1, rest.items);
    }

numbers_back : (more before : List Listed) → AllByRecursion IsItem more → numbers_after before (map item_text more) ≡ Some (before ++ more)
unfolding numbers_after
numbers_back [] before h = ap Some (sym (append-nil before))
numbers_back (item ∷ more) before h =
    rw (item_again item h.0) (numbers_back more (before ++ item ∷ []) h.1 ∙ ap Some (append_assoc before (item ∷ []) more))

no_comma : (item : Listed) → IsItem item → All (λ (x : ℕ). eqb x 44 ≡ false) (item_text item)
no_comma item h = All-from_recursion (λ (x : ℕ). eqb x 44 ≡ false) (item_text item) (each (item_text item) (lacks item h)) where
  lacks : (item : Listed) → IsItem item → list_all (is_other 44) (item_text item) ≡ true
  lacks (One number) h = decimal_lacks 44 number (omega arith) h
  lacks (Range first last) h =
      list_all-append (is_other 44) (decimal first) (45 ∷ decimal last)
      ∙ and_from (list_all (is_other 44) (decimal first)) (list_all (is_other 44) (45 ∷ decimal last))
      (decimal_lacks 44 first (omega arith) (omega (arith, h.0, h.1))) (decimal_lacks 44 last (omega arith) h.1)

  not-true : (b : Bool) → Rattle.std.specs.Prelude.not b ≡ true → b ≡ false
  not-true true e = absurd cc
  not-true false e = refl

  each : (ds : List ℕ) → list_all (is_other 44) ds ≡ true → AllByRecursion (λ (x : ℕ). eqb x 44 ≡ false) ds
  each [] h = tt
  each (d ∷ ds) h = let both = and_parts (is_other 44 d) (list_all (is_other 44) ds) h in (not-true (eqb d 44) both.0, each ds both.1)

split_back : (item : Listed) (more : List Listed) → AllByRecursion IsItem (item ∷ more)
    → slice_split (λ b. eqb b 44) (join_with_byte 44 (map item_text (item ∷ more))) ≡ map item_text (item ∷ more)
split_back item [] h = slice_split_none (λ b. eqb b 44) (item_text item) (no_comma item h.0)
split_back item (next ∷ more) h =
    slice_split_at (λ b. eqb b 44) (item_text item) 44 (join_with_byte 44 (map item_text (next ∷ more))) (no_comma item h.0) refl
    ∙ ap (λ (ps : List (List ℕ)). item_text item ∷ ps) (split_back next more h.1)

-- what is read behind a label is what the label and the text list
listed_takes : (label value : List ℕ) (listed : List Listed) → numbers_in value ≡ Some listed → ListsNumbers label (label ++ value) listed
unfolding numbers_in
listed_takes label value listed e =
    let t = numbers_take (slice_split (λ b. eqb b 44) value) [] listed e in
    let joined : value ≡ join_with_byte 44 (map item_text listed) =
    sym (join_with_byte-slice_split 44 value) ∙ ap (join_with_byte 44) t.written ∙ ap (λ (l : List Listed). join_with_byte 44 (map item_text l)) (sym t.whole) in
    let some : listed ≢ [] = λ empty.
    let none : map item_text t.more ≡ [] = ap (map item_text) (sym t.whole ∙ empty) in
    let long = length-slice_split (λ b. eqb b 44) value in
    let short : length (slice_split (λ b. eqb b 44) value) ≡ 0 = ap length (t.written ∙ none) in
    omega (arith, long, short) in
    record {
      written = ap (λ (l : List ℕ). label ++ l) joined;
      some = some;
      items = All-from_recursion IsItem listed (subst (AllByRecursion IsItem) (sym t.whole) t.items);
    }

numbers_case : (value : List ℕ) (s : Selection) → option_map numbers (numbers_in value) ≡ Some s → Means (codes "numbers:" ++ value) s
numbers_case value s e =
    let n = map_some numbers (numbers_in value) s e in
    subst (Means (codes "numbers:" ++ value)) n.2 (listed_takes (codes "numbers:") value n.0 n.1)

edits_case : (value : List ℕ) (s : Selection) → option_map edits (numbers_in value) ≡ Some s → Means (codes "edit:" ++ value) s
edits_case value s e =
    let n = map_some edits (numbers_in value) s e in
    subst (Means (codes "edit:" ++ value)) n.2 (listed_takes (codes "edit:") value n.0 n.1)

numbers_again : (listed : List Listed) → listed ≢ [] → AllByRecursion IsItem listed → numbers_in (join_with_byte 44 (map item_text listed)) ≡ Some listed
unfolding numbers_in
numbers_again [] some h = absurd (some refl)
numbers_again (item ∷ more) some h = ap (numbers_after []) (split_back item more h) ∙ numbers_back (item ∷ more) [] h

-- ---- kinds

group_takes : (name : List ℕ) (g : Group) → group_named name ≡ Some g → group_name g ≡ name
unfolding group_named
group_takes name g e = one
  where
    P : Group → Type 0
    P g = group_name g ≡ name

    is : (word : List ℕ) → bytes_eq name word ≡ true → word ≡ name
    is word same = sym (bytes_same name word same)

    five : cond (bytes_eq name (codes "props")) (Some groups.Props) None ≡ Some g → P g
    five e = pick P (bytes_eq name (codes "props")) groups.Props None g e (is (codes "props")) (λ none. absurd cc)

    four : cond (bytes_eq name (codes "cells")) (Some groups.Cells) (cond (bytes_eq name (codes "props")) (Some groups.Props) None) ≡ Some g → P g
    four e = pick P (bytes_eq name (codes "cells")) groups.Cells _ g e (is (codes "cells")) five

    three : cond (bytes_eq name (codes "rows")) (Some groups.Rows) (cond (bytes_eq name (codes "cells")) (Some groups.Cells) (cond (bytes_eq name (codes "props")) (Some groups.Props) None)) ≡ Some g → P g
    three e = pick P (bytes_eq name (codes "rows")) groups.Rows _ g e (is (codes "rows")) four

    one : P g
    one = pick P (bytes_eq name (codes "content")) groups.Content _ g e (is (codes "content"))
        (λ rest. pick P (bytes_eq name (codes "marks")) groups.Marks _ g rest (is (codes "marks")) three)

group_again : (g : Group) → kinds_in (group_name g) ≡ Some (group g)
unfolding kind_named group_named
group_again groups.Content = refl
group_again groups.Marks = refl
group_again groups.Rows = refl
group_again groups.Cells = refl
group_again groups.Props = refl

kind_again : (name : List ℕ) (k : RevKind) → kind_named name ≡ Some k → kinds_in name ≡ Some (kind k)
kind_again name k e = rw e refl

kind_case : (value : List ℕ) (s : Selection) → kinds_in value ≡ Some s → Means (codes "kind:" ++ value) s
kind_case value s e = of (kind_named value) refl e where
  of : (o : Option RevKind) → kind_named value ≡ o → kind_or o (group_named value) ≡ Some s → Means (codes "kind:" ++ value) s
  of (Some k) is e =
      let t = (kind_named-exact value k).0 is in
      let means : NamesKind (codes "kind:" ++ value) k = record { written = ap (λ (l : List ℕ). codes "kind:" ++ l) (sym t.1); named = t.0 } in
      subst (Means (codes "kind:" ++ value)) (same_Some (kind k) s e) means
  of None is e =
      let g = map_some group (group_named value) s e in
      let means : Means (codes "kind:" ++ value) (group g.0) = ap (λ (l : List ℕ). codes "kind:" ++ l) (sym (group_takes value g.0 g.1)) in
      subst (Means (codes "kind:" ++ value)) g.2 means

-- the call that finds a kind by its name gives what reading gives
pub kind_found : (name : List ℕ) (r : Option RevKind) → ((k : RevKind) → (r ≡ Some k) ↔ (IsTrue (is_named k) × (kind_name k ≡ name))) → kind_named name ≡ r
kind_found name None h = of (kind_named name) refl where
  of : (o : Option RevKind) → kind_named name ≡ o → kind_named name ≡ None
  of None e = e
  of (Some k) e = let found = (h k).1 ((kind_named-exact name k).0 e) in absurd cc
kind_found name (Some k) h = (kind_named-exact name k).1 ((h k).0 refl)

-- ---- spans

-- two dates
pub dates_take : (text : List ℕ) (m : ℤ × ℤ) → moments_in text ≡ Some m → GivesDates text m.0 m.1
unfolding moments_in
dates_take text m e =
    let dates = bind_some (field_at 47 text) _ m e in
    let start = bind_some (moment_of dates.0.0) _ m dates.2 in
    let end = bind_some (moment_of dates.0.1) _ m start.2 in
    let same : (start.0, end.0) ≡ m = same_Some (start.0, end.0) m end.2 in
    record {
      first = dates.0.0;
      second = dates.0.1;
      written = field_takes 47 text dates.0 dates.1;
      starts = start.1 ∙ ap (λ (p : ℤ × ℤ). Some p.0) same;
      ends = end.1 ∙ ap (λ (p : ℤ × ℤ). Some p.1) same;
    }

pub dates_again : (first second : List ℕ) (start end : ℤ) → moment_of first ≡ Some start → moment_of second ≡ Some end → moments_in (first ++ (47 ∷ second)) ≡ Some (start, end)
unfolding moments_in
dates_again first second start end s e = rw (field_again 47 first second (date_has_no_slash first start s), s, e) refl

span_case : (value : List ℕ) (s : Selection) → span_in value ≡ Some s → Means (codes "span:" ++ value) s
span_case value s e =
    let m = map_some (λ (m : ℤ × ℤ). span m.0 m.1) (moments_in value) s e in
    let dates = dates_take value m.0 m.1 in
    let means : GivesSpan (codes "span:" ++ value) m.0.0 m.0.1 = record {
      first = dates.first;
      second = dates.second;
      written = ap (λ (l : List ℕ). codes "span:" ++ l) dates.written;
      starts = dates.starts;
      ends = dates.ends;
    } in
    subst (Means (codes "span:" ++ value)) m.2 means

span_again : (first second : List ℕ) (start end : ℤ) → moment_of first ≡ Some start → moment_of second ≡ Some end → span_in (first ++ (47 ∷ second)) ≡ Some (span start end)
span_again first second start end s e = ap (option_map (λ moments. span moments.0 moments.1)) (dates_again first second start end s e)

-- ---- texts with a label

labelled_takes : (label value : List ℕ) (s : Selection) → labelled label value ≡ Some s → Means (label ++ (58 ∷ value)) s
unfolding labelled
labelled_takes label value s e =
    elim (cases_Bool (bytes_eq label (codes "numbers"))) [
      | inl hit ↦ at (codes "numbers") hit (numbers_case value s (rw hit at e))
      | inr one ↦
          elim (cases_Bool (bytes_eq label (codes "author"))) [
            | inl hit ↦
                let same : Some (author value) ≡ Some s = rw (one, hit) at e in
                at (codes "author") hit (subst (Means (codes "author:" ++ value)) (same_Some (author value) s same) refl)
            | inr two ↦
                elim (cases_Bool (bytes_eq label (codes "kind"))) [
                  | inl hit ↦ at (codes "kind") hit (kind_case value s (rw (one, two, hit) at e))
                  | inr three ↦
                      elim (cases_Bool (bytes_eq label (codes "span"))) [
                        | inl hit ↦ at (codes "span") hit (span_case value s (rw (one, two, three, hit) at e))
                        | inr four ↦
                            elim (cases_Bool (bytes_eq label (codes "edit"))) [
                              | inl hit ↦ at (codes "edit") hit (edits_case value s (rw (one, two, three, four, hit) at e))
                              | inr five ↦ absurd (let none : None ≡ Some s = rw (one, two, three, four, five) at e in cc)
                            ]
                      ]
                ]
          ]
    ] where
      at : (word : List ℕ) → bytes_eq label word ≡ true → Means (word ++ (58 ∷ value)) s → Means (label ++ (58 ∷ value)) s
      at word hit h = subst (λ (l : List ℕ). Means (l ++ (58 ∷ value)) s) (sym (bytes_same label word hit)) h

labelled_again : (label value : List ℕ) → list_all (is_other 58) label ≡ true → selection_in (label ++ (58 ∷ value)) ≡ labelled label value
unfolding selection_in
labelled_again label value h = rw (field_again 58 label value h) refl

-- ---- both

pub selection_takes : (text : List ℕ) (s : Selection) → selection_in text ≡ Some s → Means text s
unfolding selection_in
selection_takes text s e = of (field_at 58 text) refl e where
  of : (o : Option (List ℕ × List ℕ)) → field_at 58 text ≡ o → selection_parts text o ≡ Some s → Means text s
  of None is e =
      let c = cond_some (bytes_eq text (codes "all")) all s e in
      subst (Means text) c.1 (bytes_same text (codes "all") c.0)
  of (Some parts) is e = subst (λ (l : List ℕ). Means l s) (sym (field_takes 58 text parts is)) (labelled_takes parts.0 parts.1 s e)

all_again : selection_in (codes "all") ≡ Some all
unfolding selection_in field_at
all_again = refl

numbers_label : (v : List ℕ) → selection_in (codes "numbers:" ++ v) ≡ option_map numbers (numbers_in v)
unfolding labelled
numbers_label v = labelled_again (codes "numbers") v refl

author_label : (v : List ℕ) → selection_in (codes "author:" ++ v) ≡ Some (author v)
unfolding labelled
author_label v = labelled_again (codes "author") v refl

kind_label : (v : List ℕ) → selection_in (codes "kind:" ++ v) ≡ kinds_in v
unfolding labelled
kind_label v = labelled_again (codes "kind") v refl

span_label : (v : List ℕ) → selection_in (codes "span:" ++ v) ≡ span_in v
unfolding labelled
span_label v = labelled_again (codes "span") v refl

edits_label : (v : List ℕ) → selection_in (codes "edit:" ++ v) ≡ option_map edits (numbers_in v)
unfolding labelled
edits_label v = labelled_again (codes "edit") v refl

pub selection_again : (text : List ℕ) (s : Selection) → Means text s → selection_in text ≡ Some s
selection_again text all h = ap selection_in h ∙ all_again
selection_again text (numbers listed) h =
    ap selection_in h.written ∙ numbers_label (join_with_byte 44 (map item_text listed)) ∙ ap (option_map numbers) (numbers_again listed h.some (recursion_from_All IsItem listed h.items))
selection_again text (author name) h = ap selection_in h ∙ author_label name
selection_again text (span start end) h =
    ap selection_in h.written ∙ span_label (h.first ++ (47 ∷ h.second)) ∙ span_again h.first h.second start end h.starts h.ends
selection_again text (kind of_kind) h =
    ap selection_in h.written ∙ kind_label (kind_name of_kind) ∙ kind_again (kind_name of_kind) of_kind ((kind_named-exact (kind_name of_kind) of_kind).1 (h.named, refl))
selection_again text (group of_group) h = ap selection_in h ∙ kind_label (group_name of_group) ∙ group_again of_group
selection_again text (edits listed) h =
    ap selection_in h.written ∙ edits_label (join_with_byte 44 (map item_text listed)) ∙ ap (option_map edits) (numbers_again listed h.some (recursion_from_All IsItem listed h.items))

-- ---- the loop over listed numbers

at_piece : {Y : Type 0} (read : List (List ℕ) → Y) (pieces : List (List ℕ)) (i : ℕ) (first : List ℕ) → (i < length pieces) × (first ≡ get_or pieces i first)
    → read (drop i pieces) ≡ read (first ∷ drop (i + 1) pieces)
at_piece read pieces i first h = at_drop_more read pieces i first h.0 ∙ ap (λ (piece : List ℕ). read (piece ∷ drop (i + 1) pieces)) (sym h.1)

pub numbers_stop : (listed : List Listed) (pieces : List (List ℕ)) (i : ℕ) (piece : List ℕ) → (i < length pieces) × (piece ≡ get_or pieces i piece)
    → item_in piece ≡ None → numbers_after listed (drop i pieces) ≡ None
unfolding numbers_after
numbers_stop listed pieces i piece h none = at_piece (numbers_after listed) pieces i piece h ∙ rw none refl

pub numbers_go : (listed : List Listed) (pieces : List (List ℕ)) (i : ℕ) (piece : List ℕ) (item : Listed) → (i < length pieces) × (piece ≡ get_or pieces i piece)
    → item_in piece ≡ Some item → numbers_after listed (drop i pieces) ≡ numbers_after (listed ++ item ∷ []) (drop (i + 1) pieces)
unfolding numbers_after
numbers_go listed pieces i piece item h some = at_piece (numbers_after listed) pieces i piece h ∙ rw some refl

pub numbers_end : (listed : List Listed) (pieces : List (List ℕ)) (i : ℕ) → i ≡ length pieces → numbers_after listed (drop i pieces) ≡ Some listed
unfolding numbers_after
numbers_end listed pieces i h = at_drop_all (numbers_after listed) pieces i (omega (arith, h))
