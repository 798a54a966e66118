-- A comment, an instruction or CDATA is read exactly if the bytes begin with it.
use Rattle.std.proofs.Common.{◌≡◌, ◌≢◌, ℕ, Bool, true, false, cond, eqb, List, [], ◌∷◌, ◌++◌, Option, Some, None, refl, sym, ap, subst, ◌∙◌, inl, inr}
use Rattle.std.specs.Prelude.{not, ◌||◌, codes}
use Rattle.redl_grammar.specs.declared.section.Section.{Section}
use Rattle.redl_grammar.specs.declared.section.Section.TheVariants.{BeforeRoot, InElement, AfterRoot}
use Rattle.redl_grammar.specs.Characters.{is_space}
use Rattle.redl_reading.specs.Lists.{behind, begins, lacks, past}
use Rattle.redl_grammar.specs.Stretches.{is_comment, begins_other, is_xml, is_apart, IsInstruction, Item, comment, instruction, cdata, item_then, IsItem, begins_item}
use Rattle.redl_grammar.specs.ScanNames.{word_at}
use Rattle.redl_grammar.specs.ScanStretches.{comment_at, begins_with_space, instruction_end, instruction_at, cdata_at, opened_at, item_at}
use Rattle.std.proofs.lemmas.Bool.{and_parts, and_from, cases_Bool, not-true}
use Rattle.redl_reading.proofs.Words.{behind_takes, begins_some, past_here, past_later, past_takes, past_again}
use Rattle.redl_grammar.proofs.Names.{ends_name, is_delimiter, word_takes, word_again}
use Rattle.redl_reading.proofs.Steps.{bind_some}
use Rattle.redl_grammar.proofs.Attributes.{space_ends_name}

-- ---- comments

no_nil : (c r : List ℕ) → [] ≡ c ++ (45 ∷ 45 ∷ r) → ⊥
no_nil [] r e = cc
no_nil (d ∷ ds) r e = cc

other_behind : (c bs r : List ℕ) → begins (codes "-") bs ≡ false → bs ≡ c ++ (45 ∷ 45 ∷ r) → begins_other 45 c ≡ true
other_behind c [] r lacking e = absurd (no_nil c r e)
other_behind [] (d ∷ ds) r lacking e =
    let h : d ≡ 45 = cc in
    absurd (let k : begins (codes "-") (d ∷ ds) ≡ true = rw h refl in cc)
other_behind (d ∷ ds) (x ∷ xs) r lacking e =
    let heads : x ≡ d = cc in
    elim (cases_Bool (eqb d 45)) [
      | inl dash ↦ absurd (let k : begins (codes "-") (x ∷ xs) ≡ true = rw (heads, dash) refl in cc)
      | inr other ↦ rw other refl
    ]

-- a dash followed by another one is refused, and so is one at the end
dash_behind : (b : ℕ) (c bs r : List ℕ) → begins (codes "--") (b ∷ bs) ≡ false → bs ≡ c ++ (45 ∷ 45 ∷ r) → (not (eqb b 45) || begins_other 45 c) ≡ true
dash_behind b c bs r lacking e =
    elim (cases_Bool (eqb b 45)) [
      | inl dash ↦ rw dash (other_behind c bs r (rw dash at lacking) e)
      | inr other ↦ rw other refl
    ]

dashes_take : (bs rest : List ℕ) → past (codes "--") bs ≡ Some rest → (c : List ℕ) × (bs ≡ c ++ (45 ∷ 45 ∷ rest)) × (is_comment c ≡ true)
dashes_take [] rest e = absurd cc
dashes_take (b ∷ bs) rest e =
    elim (cases_Bool (begins (codes "--") (b ∷ bs))) [
      | inl here ↦
          let r = begins_some (codes "--") (b ∷ bs) here in
          let same : Some r.0 ≡ Some rest = sym (past_here (codes "--") (b ∷ bs) r.0 r.1 (λ h. cc)) ∙ e in
          ([], behind_takes (codes "--") (b ∷ bs) rest (r.1 ∙ same), refl)
      | inr lacking ↦
          let t = dashes_take bs rest (sym (past_later (codes "--") b bs lacking) ∙ e) in
          (b ∷ t.0, ap (λ (z : List ℕ). b ∷ z) t.1, and_from _ _ (dash_behind b t.0 bs rest lacking t.1) t.2)
    ]

no_dash_here : (b : ℕ) (c r : List ℕ) → (not (eqb b 45) || begins_other 45 c) ≡ true → begins (codes "--") (b ∷ (c ++ (45 ∷ 45 ∷ r))) ≡ false
no_dash_here b [] r h =
    elim (cases_Bool (eqb b 45)) [
      | inl dash ↦ absurd (let k = rw dash at h in cc)
      | inr other ↦ rw other refl
    ]
no_dash_here b (d ∷ ds) r h =
    elim (cases_Bool (eqb b 45)) [
      | inl dash ↦ rw (dash, not-true (eqb d 45) (rw dash at h)) refl
      | inr other ↦ rw other refl
    ]

dashes_again : (c rest : List ℕ) → is_comment c ≡ true → past (codes "--") (c ++ (45 ∷ 45 ∷ rest)) ≡ Some rest
dashes_again [] rest h = refl
dashes_again (b ∷ bs) rest h =
    let both = and_parts (not (eqb b 45) || begins_other 45 bs) (is_comment bs) h in
    past_later (codes "--") b (bs ++ (45 ∷ 45 ∷ rest)) (no_dash_here b bs rest both.0) ∙ dashes_again bs rest both.1

comment_takes : (bs rest : List ℕ) → comment_at bs ≡ Some rest → (c : List ℕ) × (bs ≡ c ++ (codes "-->" ++ rest)) × (is_comment c ≡ true)
unfolding comment_at
comment_takes bs rest e =
    let m = bind_some (past (codes "--") bs) (behind (codes ">")) rest e in
    let t = dashes_take bs m.0 m.1 in
    (t.0, t.1 ∙ ap (λ (z : List ℕ). t.0 ++ (45 ∷ 45 ∷ z)) (behind_takes (codes ">") m.0 rest m.2), t.2)

comment_again : (c rest : List ℕ) → is_comment c ≡ true → comment_at (c ++ (codes "-->" ++ rest)) ≡ Some rest
unfolding comment_at
comment_again c rest h = rw (dashes_again c (62 ∷ rest) h) refl

-- ---- instructions

mark_apart : (b : ℕ) (t rest : List ℕ) → begins (codes "?>") (b ∷ t) ≡ false → begins (codes "?>") (b ∷ (t ++ (codes "?>" ++ rest))) ≡ false
mark_apart b [] rest h = elim (cases_Bool (eqb b 63)) [ inl e ↦ rw e refl | inr e ↦ rw e refl ]
mark_apart b (c ∷ t) rest h = h

instruction_end_takes : (bs rest : List ℕ) → instruction_end bs ≡ Some rest → (t : List ℕ) × (bs ≡ t ++ (codes "?>" ++ rest)) × (is_apart t ≡ true) × (lacks (codes "?>") t ≡ true)
unfolding instruction_end
instruction_end_takes bs rest e =
    elim (cases_Bool (begins (codes "?>") bs)) [
      | inl here ↦
          let r = begins_some (codes "?>") bs here in
          let found : past (codes "?>") bs ≡ Some rest = rw here at e in
          let same : Some r.0 ≡ Some rest = sym (past_here (codes "?>") bs r.0 r.1 (filled bs here)) ∙ found in
          ([], behind_takes (codes "?>") bs rest (r.1 ∙ same), refl, refl)
      | inr other ↦ by_space bs rest other (cond_past (begins_with_space bs) (past (codes "?>") bs) rest (rw other at e))
    ] where
      filled : (bs : List ℕ) → begins (codes "?>") bs ≡ true → (bs ≢ [])
      filled [] h = absurd cc
      filled (b ∷ bs) h = λ e. cc

      cond_past : (t : Bool) (o : Option (List ℕ)) (rest : List ℕ) → cond t o None ≡ Some rest → (t ≡ true) × (o ≡ Some rest)
      cond_past true o rest e = (refl, e)
      cond_past false o rest e = absurd cc

      apart_is : (bs t r : List ℕ) → begins_with_space bs ≡ true → bs ≡ t ++ r → is_apart t ≡ true
      apart_is bs [] r h e = refl
      apart_is [] (c ∷ t) r h e = absurd cc
      apart_is (b ∷ bs) (c ∷ t) r h e = let same : b ≡ c = cc in rw (← same) h

      by_space : (bs rest : List ℕ) → begins (codes "?>") bs ≡ false → (begins_with_space bs ≡ true) × (past (codes "?>") bs ≡ Some rest) → (t : List ℕ) × (bs ≡ t ++ (codes "?>" ++ rest)) × (is_apart t ≡ true) × (lacks (codes "?>") t ≡ true)
      by_space bs rest other h =
          let t = past_takes 63 (62 ∷ []) bs rest h.1 in
          (t.0, t.1, apart_is bs t.0 (codes "?>" ++ rest) h.0 t.1, t.2)

instruction_end_again : (t rest : List ℕ) → is_apart t ≡ true → lacks (codes "?>") t ≡ true → instruction_end (t ++ (codes "?>" ++ rest)) ≡ Some rest
unfolding instruction_end
instruction_end_again [] rest apart h = refl
instruction_end_again (b ∷ t) rest apart h =
    let found = past_again 63 (62 ∷ []) (b ∷ t) rest mark_apart h in
    let shut = begins (codes "?>") (b ∷ (t ++ (codes "?>" ++ rest))) in
    elim (cases_Bool shut) [
      | inl e ↦ rw e found
      | inr e ↦ rw (e, apart) found
    ]

instruction_takes : (bs rest : List ℕ) → instruction_at bs ≡ Some rest → (name : List ℕ) × (text : List ℕ) × (bs ≡ name ++ (text ++ (codes "?>" ++ rest))) × IsInstruction name text
unfolding instruction_at
instruction_takes bs rest e =
    let n = bind_some (word_at true bs) (λ name. cond (is_xml name.0) None (instruction_end name.1)) rest e in
    let w = word_takes true bs n.0 n.1 in
    let other = cond_end (is_xml n.0.0) (instruction_end n.0.1) rest n.2 in
    let t = instruction_end_takes n.0.1 rest other.1 in
    (n.0.0, t.0, w.0 ∙ ap (λ (z : List ℕ). n.0.0 ++ z) t.1, record { name = w.1; not_xml = other.0; apart = t.2; no_end = t.3 }) where
      cond_end : (t : Bool) (o : Option (List ℕ)) (rest : List ℕ) → cond t None o ≡ Some rest → (t ≡ false) × (o ≡ Some rest)
      cond_end true o rest e = absurd cc
      cond_end false o rest e = (refl, e)

mark_ends_name : (rest : List ℕ) → ends_name (63 ∷ rest) ≡ true
unfolding is_delimiter is_space
mark_ends_name rest = refl

pub text_ends_name : (t rest : List ℕ) → is_apart t ≡ true → ends_name (t ++ (codes "?>" ++ rest)) ≡ true
text_ends_name [] rest apart = mark_ends_name (62 ∷ rest)
text_ends_name (b ∷ t) rest apart = space_ends_name b apart

instruction_again : (name text rest : List ℕ) → IsInstruction name text → instruction_at (name ++ (text ++ (codes "?>" ++ rest))) ≡ Some rest
unfolding instruction_at
instruction_again name text rest h =
    rw (word_again true name (text ++ (codes "?>" ++ rest)) h.name (text_ends_name text rest h.apart), h.not_xml) (instruction_end_again text rest h.apart h.no_end)

-- ---- CDATA

brackets_apart : (b : ℕ) (t rest : List ℕ) → begins (codes "]]>") (b ∷ t) ≡ false → begins (codes "]]>") (b ∷ (t ++ (codes "]]>" ++ rest))) ≡ false
brackets_apart b [] rest h = elim (cases_Bool (eqb b 93)) [ inl e ↦ rw e refl | inr e ↦ rw e refl ]
brackets_apart b (c ∷ []) rest h =
    elim (cases_Bool (eqb b 93)) [
      | inl e ↦ elim (cases_Bool (eqb c 93)) [ inl f ↦ rw (e, f) refl | inr f ↦ rw (e, f) refl ]
      | inr e ↦ rw e refl
    ]
brackets_apart b (c ∷ d ∷ t) rest h = h

cdata_takes : (place : Section) (bs rest : List ℕ) → cdata_at place bs ≡ Some rest → (c : List ℕ) × (bs ≡ c ++ (codes "]]>" ++ rest)) × IsItem place (cdata c)
cdata_takes BeforeRoot bs rest e = absurd cc
cdata_takes AfterRoot bs rest e = absurd cc
cdata_takes InElement bs rest e = let t = past_takes 93 (93 ∷ 62 ∷ []) bs rest e in (t.0, t.1, (refl, t.2))

cdata_again : (place : Section) (c rest : List ℕ) → IsItem place (cdata c) → cdata_at place (c ++ (codes "]]>" ++ rest)) ≡ Some rest
cdata_again place c rest h =
    let P : Section → Type 0 = λ p. cdata_at p (c ++ (codes "]]>" ++ rest)) ≡ Some rest in
    subst P (sym h.0) (past_again 93 (93 ∷ 62 ∷ []) c rest brackets_apart h.1)

-- ---- items

opened_takes : (place : Section) (bs rest : List ℕ) (a b c : Option (List ℕ)) → behind (codes "<!--") bs ≡ a → behind (codes "<?") bs ≡ b → behind (codes "<![CDATA[") bs ≡ c → opened_at place a b c ≡ Some rest → (i : Item) × (bs ≡ item_then i rest) × IsItem place i
opened_takes place bs rest (Some text) b c ea eb ec e =
    let t = comment_takes text rest e in
    (comment t.0, behind_takes (codes "<!--") bs text ea ∙ ap (λ (z : List ℕ). codes "<!--" ++ z) t.1, t.2)
opened_takes place bs rest None (Some text) c ea eb ec e =
    let t = instruction_takes text rest e in
    (instruction t.0 t.1, behind_takes (codes "<?") bs text eb ∙ ap (λ (z : List ℕ). codes "<?" ++ z) t.2, t.3)
opened_takes place bs rest None None (Some text) ea eb ec e =
    let t = cdata_takes place text rest e in
    (cdata t.0, behind_takes (codes "<![CDATA[") bs text ec ∙ ap (λ (z : List ℕ). codes "<![CDATA[" ++ z) t.1, t.2)
opened_takes place bs rest None None None ea eb ec e = absurd cc

pub item_takes : (place : Section) (bs rest : List ℕ) → item_at place bs ≡ Some rest → (i : Item) × (bs ≡ item_then i rest) × IsItem place i
unfolding item_at
item_takes place bs rest e = opened_takes place bs rest (behind (codes "<!--") bs) (behind (codes "<?") bs) (behind (codes "<![CDATA[") bs) refl refl refl e

pub item_again : (place : Section) (i : Item) (rest : List ℕ) → IsItem place i → item_at place (item_then i rest) ≡ Some rest
unfolding item_at
item_again place (comment text) rest h = comment_again text rest h
item_again place (instruction name text) rest h = instruction_again name text rest h
item_again place (cdata text) rest h = cdata_again place text rest h

-- an item that is written begins as an item does
pub item_begins : (i : Item) (rest : List ℕ) → begins_item (item_then i rest) ≡ true
item_begins (comment text) rest = refl
item_begins (instruction name text) rest = refl
item_begins (cdata text) rest = refl
