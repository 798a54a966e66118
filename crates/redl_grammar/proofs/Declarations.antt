-- The head of a text is read exactly if the bytes begin with it.
use Rattle.std.proofs.Common.{◌≡◌, ℕ, Bool, true, false, cond, eqb, List, [], ◌∷◌, ◌++◌, Option, Some, None, refl, sym, ap, ◌∙◌, append_assoc, arith, inl, inr}
use Rattle.std.specs.Prelude.{not, codes}
use Rattle.std.specs.List.{list_all, AllByRecursion}
use Rattle.std.proofs.lemmas.Bool.{eqb-true, and_parts, cases_Bool, not-true, or_parts}
use Rattle.std.proofs.lemmas.Bool.Decides.{nat_tests}
use Rattle.std.proofs.lemmas.Option.{same_Some, cond_some, some_pair_parts, none-some}
use lib.Utf8.{encode}
use Rattle.redl_grammar.specs.declared.section.Section.{Section}
use Rattle.redl_grammar.specs.declared.section.Section.TheVariants.{BeforeRoot, InElement, AfterRoot}
use Rattle.redl_grammar.specs.Characters.{is_space, is_name_start, is_name_character}
use Rattle.redl_reading.specs.Lists.{behind, begins, front, after, is_filled}
use Rattle.redl_reading.specs.Steps.{◌>>=◌, or_same}
use Rattle.redl_grammar.specs.Names.{may_start, may_follow, IsWord, Name, name_text}
use Rattle.redl_grammar.specs.Tails.{IsSpace, Attribute, attribute_then}
use Rattle.redl_grammar.specs.Stretches.{IsSetting, is_version, is_encoding, is_standalone, Declaration, IsOptional, IsDeclaration, optional_then, declaration_then, byte_order_mark, Head, mark_then, declared_then, head_then, IsDeclared, no_head, IsHead, is_xml, IsInstruction, Item, comment, instruction, cdata, item_then, items_then, IsItem, IsRun, ends_stretch, begins_item}
use Rattle.redl_grammar.specs.ScanNames.{word_at}
use Rattle.redl_grammar.specs.ScanTags.{equated_at}
use Rattle.redl_grammar.specs.ScanStretches.{setting_at, optional_after, version_at, declaration_at, after_mark, after_declaration, after_head}
use Rattle.redl_reading.proofs.Runs.{stops, front-after, front_passes, front_again, after_again}
use Rattle.redl_reading.proofs.Words.{behind_takes, behind_again, behind_longer}
use Rattle.redl_grammar.proofs.Names.{ends_name, word_again}
use Rattle.redl_reading.proofs.Steps.{bind_some}
use Rattle.redl_grammar.proofs.Attributes.{is_filled-some, filled-is, space_ends_name, equated_then, equated_takes, equated_again}
use Rattle.redl_grammar.proofs.Items.{text_ends_name}
use Rattle.redl_grammar.proofs.Tags.{attribute_then-append}

-- ---- settings

pub record Sets (word bs value rest : List ℕ) : Type 0 where
  pub attribute : Attribute
  pub whole : bs ≡ attribute_then attribute rest
  pub legal : (fits : List ℕ → Bool) → fits value ≡ true → IsSetting word fits attribute

setting_takes : (word bs : List ℕ) (x : List ℕ × List ℕ) → setting_at word bs ≡ Some x → Sets word bs x.0 x.1
unfolding setting_at
setting_takes word bs x e =
    elim (cases_Bool (is_filled (front is_space bs))) [
      | inl filled ↦ of x filled (rw filled at e)
      | inr lacks ↦ absurd (none-some x (rw lacks at e))
    ] where
      of : (x : List ℕ × List ℕ) → is_filled (front is_space bs) ≡ true → (behind word (after is_space bs) >>= equated_at) ≡ Some x → Sets word bs x.0 x.1
      of x filled e =
          let m = bind_some (behind word (after is_space bs)) equated_at x e in
          let v = equated_takes m.0 x m.2 in
          let a : Attribute = record { gap = front is_space bs; name = record { prefix = []; local = word }; left = v.left; right = v.right; quote = v.quote; value = x.0 } in
          record {
            attribute = a;
            whole = sym (front-after is_space bs) ∙ ap (λ (z : List ℕ). front is_space bs ++ z) (behind_takes word (after is_space bs) m.0 m.1 ∙ ap (λ (z : List ℕ). word ++ z) v.whole);
            legal = λ fits h.
                record {
                  gap = (is_filled-some (front is_space bs) filled, front_passes is_space bs);
                  name = refl;
                  left = v.legal.on_left;
                  right = v.legal.on_right;
                  quote = v.legal.is_quote;
                  no_quote = v.legal.no_quote;
                  value = h;
                };
          }

-- a setting's text after its gap
setting_text : (word : List ℕ) (fits : List ℕ → Bool) (a : Attribute) (rest : List ℕ) → IsSetting word fits a → attribute_then a rest ≡ a.gap ++ (word ++ equated_then a.left a.right a.quote a.value rest)
setting_text word fits a rest h = ap (λ (n : Name). a.gap ++ (name_text n ++ equated_then a.left a.right a.quote a.value rest)) h.name

setting_again : (word : List ℕ) (fits : List ℕ → Bool) (a : Attribute) (rest : List ℕ) → ((more : List ℕ) → stops is_space (word ++ more) ≡ true) → IsSetting word fits a → setting_at word (attribute_then a rest) ≡ Some (a.value, rest)
unfolding setting_at
setting_again word fits a rest stop h =
    let equated : List ℕ = equated_then a.left a.right a.quote a.value rest in
    let text = setting_text word fits a rest h in
    let gap : front is_space (attribute_then a rest) ≡ a.gap = ap (front is_space) text ∙ front_again is_space a.gap (word ++ equated) h.gap.1 (stop equated) in
    let here : after is_space (attribute_then a rest) ≡ word ++ equated = ap (after is_space) text ∙ after_again is_space a.gap (word ++ equated) h.gap.1 (stop equated) in
    let value = equated_again a.left a.right a.quote a.value rest (record { on_left = h.left; on_right = h.right; is_quote = h.quote; no_quote = h.no_quote }) in
    rw (gap, here, filled-is a.gap h.gap.0, behind_again word equated) value

-- another word is there
setting_none : (word bs : List ℕ) → behind word (after is_space bs) ≡ None → setting_at word bs ≡ None
unfolding setting_at
setting_none word bs e = elim (cases_Bool (is_filled (front is_space bs))) [ inl f ↦ rw (f, e) refl | inr f ↦ rw f refl ]

other_setting : (other word : List ℕ) (fits : List ℕ → Bool) (a : Attribute) (rest : List ℕ) → ((more : List ℕ) → stops is_space (word ++ more) ≡ true) → ((more : List ℕ) → behind other (word ++ more) ≡ None) → IsSetting word fits a → setting_at other (attribute_then a rest) ≡ None
other_setting other word fits a rest stop apart h =
    let equated : List ℕ = equated_then a.left a.right a.quote a.value rest in
    let here : after is_space (attribute_then a rest) ≡ word ++ equated = ap (after is_space) (setting_text word fits a rest h) ∙ after_again is_space a.gap (word ++ equated) h.gap.1 (stop equated) in
    setting_none other (attribute_then a rest) (ap (behind other) here ∙ apart equated)

version_stops : (more : List ℕ) → stops is_space (codes "version" ++ more) ≡ true
unfolding is_space
version_stops more = refl

encoding_stops : (more : List ℕ) → stops is_space (codes "encoding" ++ more) ≡ true
unfolding is_space
encoding_stops more = refl

standalone_stops : (more : List ℕ) → stops is_space (codes "standalone" ++ more) ≡ true
unfolding is_space
standalone_stops more = refl

end_stops : (more : List ℕ) → stops is_space (codes "?>" ++ more) ≡ true
unfolding is_space
end_stops more = refl

-- ---- optional settings

optional_takes : (word : List ℕ) (fits : List ℕ → Bool) (bs rest : List ℕ) → optional_after fits bs (setting_at word bs) ≡ Some rest → (o : Option Attribute) × (bs ≡ optional_then o rest) × IsOptional (IsSetting word fits) o
optional_takes word fits bs rest e = of (setting_at word bs) refl e where
  of : (s : Option (List ℕ × List ℕ)) → setting_at word bs ≡ s → optional_after fits bs s ≡ Some rest → (o : Option Attribute) × (bs ≡ optional_then o rest) × IsOptional (IsSetting word fits) o
  of None g e = (None, same_Some bs rest e, tt)
  of (Some x) g e =
      let c = cond_some (fits x.0) x.1 rest e in
      let t = setting_takes word bs x g in
      (Some t.attribute, t.whole ∙ ap (attribute_then t.attribute) c.1, t.legal fits c.0)

optional_again : (word : List ℕ) (fits : List ℕ → Bool) (a : Attribute) (rest : List ℕ) → ((more : List ℕ) → stops is_space (word ++ more) ≡ true) → IsSetting word fits a → optional_after fits (attribute_then a rest) (setting_at word (attribute_then a rest)) ≡ Some rest
optional_again word fits a rest stop h = rw (setting_again word fits a rest stop h, h.value) refl

-- ---- the declaration

version_takes : (bs rest : List ℕ) → version_at bs ≡ Some rest → (a : Attribute) × (bs ≡ attribute_then a rest) × IsSetting (codes "version") is_version a
unfolding version_at
version_takes bs rest e =
    let s = bind_some (setting_at (codes "version") bs) (λ x. cond (is_version x.0) (Some x.1) None) rest e in
    let c = cond_some (is_version s.0.0) s.0.1 rest s.2 in
    let t = setting_takes (codes "version") bs s.0 s.1 in
    (t.attribute, t.whole ∙ ap (attribute_then t.attribute) c.1, t.legal is_version c.0)

version_again : (a : Attribute) (rest : List ℕ) → IsSetting (codes "version") is_version a → version_at (attribute_then a rest) ≡ Some rest
unfolding version_at
version_again a rest h = rw (setting_again (codes "version") is_version a rest version_stops h, h.value) refl

declaration_takes : (bs rest : List ℕ) → declaration_at bs ≡ Some rest → (d : Declaration) × (bs ≡ declaration_then d rest) × IsDeclaration d
unfolding declaration_at
declaration_takes bs rest e =
    let x = bind_some (behind (codes "<?xml") bs) (λ more. version_at more >>= λ v. optional_after is_encoding v (setting_at (codes "encoding") v) >>= λ n. optional_after is_standalone n (setting_at (codes "standalone") n) >>= λ s. behind (codes "?>") (after is_space s)) rest e in
    let v = bind_some (version_at x.0) (λ v. optional_after is_encoding v (setting_at (codes "encoding") v) >>= λ n. optional_after is_standalone n (setting_at (codes "standalone") n) >>= λ s. behind (codes "?>") (after is_space s)) rest x.2 in
    let n = bind_some (optional_after is_encoding v.0 (setting_at (codes "encoding") v.0)) (λ n. optional_after is_standalone n (setting_at (codes "standalone") n) >>= λ s. behind (codes "?>") (after is_space s)) rest v.2 in
    let s = bind_some (optional_after is_standalone n.0 (setting_at (codes "standalone") n.0)) (λ s. behind (codes "?>") (after is_space s)) rest n.2 in
    let version = version_takes x.0 v.0 v.1 in
    let encoding = optional_takes (codes "encoding") is_encoding v.0 n.0 n.1 in
    let standalone = optional_takes (codes "standalone") is_standalone n.0 s.0 s.1 in
    let space : List ℕ = front is_space s.0 in
    let end : s.0 ≡ space ++ (codes "?>" ++ rest) = sym (front-after is_space s.0) ∙ ap (λ (z : List ℕ). space ++ z) (behind_takes (codes "?>") (after is_space s.0) rest s.2) in (
      record { version = version.0; encoding = encoding.0; standalone = standalone.0; space = space },
      behind_takes (codes "<?xml") bs x.0 x.1
          ∙ ap (λ (z : List ℕ). codes "<?xml" ++ z)
          (version.1 ∙ ap (attribute_then version.0) (encoding.1 ∙ ap (optional_then encoding.0) (standalone.1 ∙ ap (optional_then standalone.0) end))),
      record { version = version.2; encoding = encoding.2; standalone = standalone.2; space = front_passes is_space s.0 },
    )

-- the end of a declaration begins no setting
end_after : (space rest : List ℕ) → IsSpace space → after is_space (space ++ (codes "?>" ++ rest)) ≡ codes "?>" ++ rest
end_after space rest h = after_again is_space space (codes "?>" ++ rest) h (end_stops rest)

standalone_again : (o : Option Attribute) (space rest : List ℕ) → IsOptional (IsSetting (codes "standalone") is_standalone) o → IsSpace space
    → (let bs = optional_then o (space ++ (codes "?>" ++ rest)) in optional_after is_standalone bs (setting_at (codes "standalone") bs) ≡ Some (space ++ (codes "?>" ++ rest)))
standalone_again (Some a) space rest h s = optional_again (codes "standalone") is_standalone a (space ++ (codes "?>" ++ rest)) standalone_stops h
standalone_again None space rest h s = rw (setting_none (codes "standalone") (space ++ (codes "?>" ++ rest)) (rw (end_after space rest s) refl)) refl

encoding_again : (n o : Option Attribute) (space rest : List ℕ) → IsOptional (IsSetting (codes "encoding") is_encoding) n → IsOptional (IsSetting (codes "standalone") is_standalone) o → IsSpace space
    → (let more = optional_then o (space ++ (codes "?>" ++ rest)) in let bs = optional_then n more in optional_after is_encoding bs (setting_at (codes "encoding") bs) ≡ Some more)
encoding_again (Some a) o space rest hn ho s = optional_again (codes "encoding") is_encoding a (optional_then o (space ++ (codes "?>" ++ rest))) encoding_stops hn
encoding_again None (Some b) space rest hn ho s = rw (other_setting (codes "encoding") (codes "standalone") is_standalone b (space ++ (codes "?>" ++ rest)) standalone_stops (λ more. refl) ho) refl
encoding_again None None space rest hn ho s = rw (setting_none (codes "encoding") (space ++ (codes "?>" ++ rest)) (rw (end_after space rest s) refl)) refl

declaration_again : (d : Declaration) (rest : List ℕ) → IsDeclaration d → declaration_at (declaration_then d rest) ≡ Some rest
unfolding declaration_at
declaration_again d rest h =
    let more : List ℕ = optional_then d.encoding (optional_then d.standalone (d.space ++ (codes "?>" ++ rest))) in
    rw (version_again d.version more h.version, encoding_again d.encoding d.standalone d.space rest h.encoding h.standalone h.space, standalone_again d.standalone d.space rest h.standalone h.space, end_after d.space rest h.space) refl

-- ---- what is no head

pub record NoHead (bs : List ℕ) : Type 0 where
  pub no_mark : behind byte_order_mark bs ≡ None
  pub no_declaration : declaration_at bs ≡ None

none_declared : (bs : List ℕ) → behind (codes "<?xml") bs ≡ None → declaration_at bs ≡ None
unfolding declaration_at
none_declared bs e = rw e refl

-- the letters of the declaration's name are a name
xml_word : IsWord true (codes "xml")
unfolding may_start may_follow is_name_start is_name_character encode
xml_word = record { first = 120; more = 109 ∷ 108 ∷ []; start = refl; each = refl; scalars = refl; whole = refl }

filled_ends_name : (bs : List ℕ) → is_filled (front is_space bs) ≡ true → ends_name bs ≡ true
filled_ends_name [] h = absurd cc
filled_ends_name (b ∷ bs) h =
    elim (cases_Bool (is_space b)) [
      | inl space ↦ space_ends_name b space
      | inr other ↦ absurd (let k = rw other at h in cc)
    ]

instruction_no_declaration : (name text rest : List ℕ) → IsInstruction name text → declaration_at (codes "<?" ++ (name ++ (text ++ (codes "?>" ++ rest)))) ≡ None
unfolding declaration_at version_at setting_at
instruction_no_declaration name text rest h = of (behind (codes "xml") (name ++ (text ++ (codes "?>" ++ rest)))) refl where
  not_so : (more : List ℕ) → behind (codes "xml") (name ++ (text ++ (codes "?>" ++ rest))) ≡ Some more → is_filled (front is_space more) ≡ true → ⊥
  not_so more e filled =
      let stands : name ++ (text ++ (codes "?>" ++ rest)) ≡ codes "xml" ++ more = behind_takes (codes "xml") (name ++ (text ++ (codes "?>" ++ rest))) more e in
      let by_name = word_again true name (text ++ (codes "?>" ++ rest)) h.name (text_ends_name text rest h.apart) in
      let by_xml = word_again true (codes "xml") more xml_word (filled_ends_name more filled) in
      let same = some_pair_parts name (codes "xml") (text ++ (codes "?>" ++ rest)) more (sym by_name ∙ ap (word_at true) stands ∙ by_xml) in
      let xml : is_xml name ≡ true = ap is_xml same.0 in
      (let k : false ≡ true = sym h.not_xml ∙ xml in cc)

  of : (o : Option (List ℕ)) → behind (codes "xml") (name ++ (text ++ (codes "?>" ++ rest))) ≡ o → declaration_at (codes "<?" ++ (name ++ (text ++ (codes "?>" ++ rest)))) ≡ None
  of None e = none_declared (codes "<?" ++ (name ++ (text ++ (codes "?>" ++ rest)))) e
  of (Some more) e =
      elim (cases_Bool (is_filled (front is_space more))) [
        | inl filled ↦ absurd (not_so more e filled)
        | inr lacks ↦ rw (e, lacks) refl
      ]

space_is_other : (b : ℕ) → is_space b ≡ true → (eqb b 239 ≡ false) × (eqb b 60 ≡ false)
unfolding is_space
space_is_other b h = (grind (arith, nat_tests), grind (arith, nat_tests))

run_no_head : (b : ℕ) (bs : List ℕ) → is_space b ≡ true → NoHead (b ∷ bs)
run_no_head b bs h =
    let other = space_is_other b h in
    record { no_mark = rw other.0 refl; no_declaration = none_declared (b ∷ bs) (rw other.1 refl) }

item_no_head : (i : Item) (rest : List ℕ) → IsItem BeforeRoot i → NoHead (item_then i rest)
item_no_head (comment text) rest h = record { no_mark = refl; no_declaration = none_declared (item_then (comment text) rest) refl }
item_no_head (instruction name text) rest h = record { no_mark = refl; no_declaration = instruction_no_declaration name text rest h }
item_no_head (cdata text) rest h = record { no_mark = refl; no_declaration = none_declared (item_then (cdata text) rest) refl }

rest_no_head : (rest : List ℕ) → ends_stretch rest ≡ true → NoHead rest
rest_no_head [] end = record { no_mark = refl; no_declaration = none_declared [] refl }
rest_no_head (b ∷ rest) end =
    let both = and_parts (eqb b 60) (not (begins_item (b ∷ rest))) end in
    let no_item : begins_item (b ∷ rest) ≡ false = not-true (begins_item (b ∷ rest)) both.1 in
    let no_mark : eqb b 239 ≡ false = ap (λ (n : ℕ). eqb n 239) (eqb-true b 60 both.0) in
    record {
      no_mark = rw no_mark refl;
      no_declaration = none_declared (b ∷ rest) (behind_longer (codes "<?") (codes "xml") (b ∷ rest) ((or_parts (begins (codes "<!") (b ∷ rest)) (begins (codes "<?") (b ∷ rest)) no_item).1));
    }

pub content_no_head : (first : List ℕ) (more : List (Item × List ℕ)) (rest : List ℕ) → IsRun BeforeRoot first → AllByRecursion (λ i. IsItem BeforeRoot i.0 × IsRun BeforeRoot i.1) more → ends_stretch rest ≡ true → NoHead (first ++ items_then more rest)
content_no_head (b ∷ bs) more rest run each end = run_no_head b (bs ++ items_then more rest) (and_parts (is_space b) (list_all is_space bs) run.allowed).0
content_no_head [] (i ∷ more) rest run each end = item_no_head i.0 (i.1 ++ items_then more rest) each.0.0
content_no_head [] [] rest run each end = rest_no_head rest end

-- ---- heads

mark_takes : (bs : List ℕ) → (m : Bool) × (bs ≡ mark_then m (after_mark bs))
unfolding after_mark
mark_takes bs = of (behind byte_order_mark bs) refl where
  of : (o : Option (List ℕ)) → behind byte_order_mark bs ≡ o → (m : Bool) × (bs ≡ mark_then m (or_same o bs))
  of None e = (false, refl)
  of (Some more) e = (true, behind_takes byte_order_mark bs more e)

declared_takes : (bs : List ℕ) → (o : Option Declaration) × (bs ≡ declared_then o (after_declaration bs)) × IsDeclared o
unfolding after_declaration
declared_takes bs = of (declaration_at bs) refl where
  of : (r : Option (List ℕ)) → declaration_at bs ≡ r → (o : Option Declaration) × (bs ≡ declared_then o (or_same r bs)) × IsDeclared o
  of None e = (None, refl, tt)
  of (Some more) e = let t = declaration_takes bs more e in (Some t.0, t.1, t.2)

pub head_takes : (place : Section) (bs : List ℕ) → (h : Head) × (bs ≡ head_then h (after_head place bs)) × IsHead place h
head_takes InElement bs = (no_head, refl, refl)
head_takes AfterRoot bs = (no_head, refl, refl)
head_takes BeforeRoot bs =
    let m = mark_takes bs in
    let d = declared_takes (after_mark bs) in
    (record { marked = m.0; declaration = d.0 }, m.1 ∙ ap (mark_then m.0) d.1, d.2)

mark_again : (m : Bool) (bs : List ℕ) → behind byte_order_mark bs ≡ None → after_mark (mark_then m bs) ≡ bs
unfolding after_mark
mark_again true bs e = refl
mark_again false bs e = rw e refl

declared_again : (o : Option Declaration) (bs : List ℕ) → IsDeclared o → NoHead bs → (after_declaration (declared_then o bs) ≡ bs) × (behind byte_order_mark (declared_then o bs) ≡ None)
unfolding after_declaration
declared_again None bs h none = (rw none.no_declaration refl, none.no_mark)
declared_again (Some d) bs h none = (rw (declaration_again d bs h) refl, refl)

pub head_again : (place : Section) (h : Head) (bs : List ℕ) → IsHead place h → (place ≡ BeforeRoot → NoHead bs) → after_head place (head_then h bs) ≡ bs
head_again InElement h bs legal none = ap (λ (k : Head). head_then k bs) legal
head_again AfterRoot h bs legal none = ap (λ (k : Head). head_then k bs) legal
head_again BeforeRoot h bs legal none =
    let d = declared_again h.declaration bs legal (none refl) in
    ap after_declaration (mark_again h.marked (declared_then h.declaration bs) d.1) ∙ d.0

pub head_then-append : (h : Head) (x y : List ℕ) → head_then h x ++ y ≡ head_then h (x ++ y)
head_then-append h x y = marked h.marked (declared_then h.declaration x) ∙ ap (mark_then h.marked) (declared h.declaration) where
  marked : (m : Bool) (z : List ℕ) → mark_then m z ++ y ≡ mark_then m (z ++ y)
  marked true z = refl
  marked false z = refl

  optional : (o : Option Attribute) (z : List ℕ) → optional_then o z ++ y ≡ optional_then o (z ++ y)
  optional None z = refl
  optional (Some a) z = attribute_then-append a z y

  end : (space z : List ℕ) → (space ++ (codes "?>" ++ z)) ++ y ≡ space ++ (codes "?>" ++ (z ++ y))
  end space z = append_assoc space (codes "?>" ++ z) y

  declared : (o : Option Declaration) → declared_then o x ++ y ≡ declared_then o (x ++ y)
  declared None = refl
  declared (Some d) =
      ap (λ (z : List ℕ). codes "<?xml" ++ z)
      (attribute_then-append d.version (optional_then d.encoding (optional_then d.standalone (d.space ++ (codes "?>" ++ x)))) y
      ∙ ap (attribute_then d.version)
      (optional d.encoding (optional_then d.standalone (d.space ++ (codes "?>" ++ x)))
      ∙ ap (optional_then d.encoding) (optional d.standalone (d.space ++ (codes "?>" ++ x)) ∙ ap (optional_then d.standalone) (end d.space x))))
