-- What is noted of the letters of a run's first properties.
use Rattle.std.proofs.Common.{◌≡◌, ◌∙◌, refl, sym, ap, ℕ, List, [], ◌∷◌, ◌++◌, Bool, true, false, ◌&&◌, codes, bytes_eq, Option, Some, None, option_and_then, unwrap_or, if◌then◌else◌}
use Rattle.std.specs.Option.{option_map}
use Rattle.std.proofs.lemmas.List.{append-nil}
use Rattle.std.proofs.lemmas.Slice.Eq.{bytes_eq-Decides}
use Rattle.redl_reading.specs.Steps.{or_else}
use Rattle.redl_relations.proofs.Laws.{or_else-assoc, or_else-none}
use Rattle.redl_tree.specs.Model.Nodes.{Tag, Nodes, no_nodes, bytes, element}
use Rattle.redl_tree.specs.Model.Laid.{AreLaid}
use Rattle.redl_tree.specs.Model.View.{Element}
use Rattle.redl_tree.specs.Roles.Names.{is, is_w, named}
use Rattle.redl_tree.specs.declared.kinds.Space.TheVariants.{W}
use Rattle.redl_idle.specs.Shows.{shows}
use Rattle.redl_lists.specs.Named.{first_named, if_named}
use Rattle.redl_lists.specs.Tables.{kids_in}
use Rattle.redl_hidden.specs.Runs.{run_hides, run_style_hides, value_hides}
use Rattle.redl_hidden.specs.Styles.{HiddenStyles, is_on, value_at, vanish_in}
use Rattle.redl_hidden.specs.Inside.Ahead.{after, after_more, ahead_rule, closing, hides_by, property_letters, style_letter, vanish_letter}
use Rattle.redl_hidden.specs.declared.ahead.Own.{Own}
use Rattle.redl_hidden.specs.declared.ahead.Level.{Level}
use Rattle.redl_hidden.specs.declared.ahead.Level.TheVariants.{Kids, Properties, Below}
use Rattle.redl_hidden.specs.declared.ahead.Within.{Within}

-- ---- letters one after the other

after-append : (own : Own) (x y : List ℕ) → after own (x ++ y) ≡ after (after own x) y
after-append own x y = sym (after_more own x y)

-- what was noted before the end of the properties, and after it
abbrev opened : Option Bool → Option (Option Bool) → Own
opened vanish style = record { vanish = vanish; style = style; closed = false }

abbrev shut : Option Bool → Option (Option Bool) → Own
shut vanish style = record { vanish = vanish; style = style; closed = true }

shut-stays : (v : Option Bool) (s : Option (Option Bool)) (letters : List ℕ) → after (shut v s) letters ≡ shut v s
shut-stays v s [] = refl
shut-stays v s (letter ∷ letters) = shut-stays v s letters

vanish-read : (v : Option Bool) (s : Option (Option Bool)) (on : Bool) → after (opened v s) (vanish_letter on) ≡ opened (or_else v (Some on)) s
vanish-read v s true = refl
vanish-read v s false = refl

style-read : (v : Option Bool) (s : Option (Option Bool)) (hides : Option Bool) → after (opened v s) (style_letter hides) ≡ opened v (or_else s (Some hides))
style-read v s None = refl
style-read v s (Some false) = refl
style-read v s (Some true) = refl

-- ---- one element

is_same : (name : List ℕ) (tag : Tag) → tag.space ≡ W → named name tag ≡ bytes_eq tag.local name
is_same name tag e = ap (λ s. is_w s && bytes_eq tag.local name) e

map-or_else : {A B : Type 0} (f : A → B) (x y : Option A) → option_map f (or_else x y) ≡ or_else (option_map f x) (option_map f y)
map-or_else f None y = refl
map-or_else f (Some a) y = refl

-- what an element says, if it has the name
map-if_named : {B : Type 0} (f : Element → B) (name : List ℕ) (tag : Tag) (kids : Nodes) (b : Bool) → named name tag ≡ b
    → option_map f (if_named name tag kids) ≡ (if b then Some (f (record { tag = tag; kids = kids })) else None)
map-if_named {B} f name tag kids b is = ap (λ (c : Bool). option_map f (if c then Some (record { tag = tag; kids = kids }) else None)) is ∙ by b
  where
    by : (c : Bool) → option_map f (if c then Some (record { tag = tag; kids = kids }) else None) ≡ (if c then Some (f (record { tag = tag; kids = kids })) else None)
    by true = refl
    by false = refl

-- `vanish` is not `rStyle`
apart : (local : List ℕ) → bytes_eq local (codes "vanish") ≡ true → bytes_eq local (codes "rStyle") ≡ false
apart local is = let same = (bytes_eq-Decides local (codes "vanish")).0 is in ap (λ l. bytes_eq l (codes "rStyle")) same

module _ (hidden : HiddenStyles) where
  abbrev says : Element → Option Bool
  says e = value_hides hidden (value_at (codes "val") e)

  -- what the style hides that properties name, where they name one
  abbrev style_in : Nodes → Option (Option Bool)
  style_in properties = option_map says (first_named (codes "rStyle") properties)

  one-read : (v : Option Bool) (s : Option (Option Bool)) (on : Bool) (hides : Option Bool) (is_vanish is_style : Bool) → (is_vanish ≡ true → is_style ≡ false)
      → after (opened v s) (if is_vanish then vanish_letter on else if is_style then style_letter hides else [])
      ≡ opened (or_else v (if is_vanish then Some on else None)) (or_else s (if is_style then Some hides else None))
  one-read v s on hides true true apart = absurd (cc (apart refl))
  one-read v s on hides true false apart = vanish-read v s on ∙ ap (opened (or_else v (Some on))) (sym (or_else-none s))
  one-read v s on hides false true apart = style-read v s hides ∙ ap (λ w. opened w (or_else s (Some hides))) (sym (or_else-none v))
  one-read v s on hides false false apart = ap (λ w. opened w s) (sym (or_else-none v)) ∙ ap (opened (or_else v None)) (sym (or_else-none s))

-- ---- nodes

module _ (within : Within) where
  abbrev at : Level → Within
  at level = record { hidden = within.hidden; level = level }

  abbrev known : HiddenStyles
  known = within.hidden.now

  below-shows : (nodes : Nodes) → shows ahead_rule (at Below) nodes ≡ []
  below-shows no_nodes = refl
  below-shows (bytes b rest) = below-shows rest
  below-shows (element tag kids rest) = ap (λ (l : List ℕ). (l ++ []) ++ shows ahead_rule (at Below) rest) (below-shows kids) ∙ below-shows rest

  properties-read : (nodes : Nodes) → AreLaid W nodes → (v : Option Bool) (s : Option (Option Bool))
      → after (opened v s) (shows ahead_rule (at Properties) nodes) ≡ opened (or_else v (vanish_in nodes)) (or_else s (style_in known nodes))
  properties-read no_nodes h v s = ap (λ w. opened w s) (sym (or_else-none v)) ∙ ap (opened (or_else v None)) (sym (or_else-none s))
  properties-read (bytes b rest) h v s = properties-read rest h.2 v s
  properties-read (element tag kids rest) h v s =
      let own = property_letters known tag.local tag.tail in
      let later = shows ahead_rule (at Properties) rest in
      let e : Element = record { tag = tag; kids = kids } in
      let is_vanish = bytes_eq tag.local (codes "vanish") in
      let is_style = bytes_eq tag.local (codes "rStyle") in
      let v1 = or_else v (if is_vanish then Some (is_on e) else None) in
      let s1 = or_else s (if is_style then Some (says known e) else None) in
      ap (λ (l : List ℕ). after (opened v s) ((own ++ (l ++ [])) ++ later)) (below-shows kids)
      ∙ ap (λ (l : List ℕ). after (opened v s) (l ++ later)) (append-nil own)
      ∙ after-append (opened v s) own later
      ∙ ap (λ o. after o later) (one-read known v s (is_on e) (says known e) is_vanish is_style (apart tag.local))
      ∙ properties-read rest h.3 v1 s1
      ∙ ap (λ w. opened w (or_else s1 (style_in known rest))) (both is_on (codes "vanish") is_vanish v (is_same (codes "vanish") tag h.0.of_space))
      ∙ ap (opened (or_else v (vanish_in (element tag kids rest)))) (both (says known) (codes "rStyle") is_style s (is_same (codes "rStyle") tag h.0.of_space))
    where
      both : {B : Type 0} (f : Element → B) (name : List ℕ) (b : Bool) (old : Option B) → named name tag ≡ b
          → or_else (or_else old (if b then Some (f (record { tag = tag; kids = kids })) else None)) (option_map f (first_named name rest))
          ≡ or_else old (option_map f (first_named name (element tag kids rest)))
      both f name b old is =
          or_else-assoc old (if b then Some (f (record { tag = tag; kids = kids })) else None) (option_map f (first_named name rest))
          ∙ ap (λ o. or_else old (or_else o (option_map f (first_named name rest)))) (sym (map-if_named f name tag kids b is))
          ∙ ap (or_else old) (sym (map-or_else f (if_named name tag kids) (first_named name rest)))

  -- what is noted of a run with such first properties
  abbrev noted : Option Element → Own
  noted None = opened None None
  noted (Some e) = shut (vanish_in e.kids) (style_in known e.kids)

  -- an element is the first properties, or is passed
  abbrev ending : Bool → List ℕ
  ending true = 6 ∷ []
  ending false = []

  one-kid : (kids : Nodes) → AreLaid W kids → (own : Element) → own.kids ≡ kids → (found : Option Element) (later : List ℕ) → after (opened None None) later ≡ noted found → (c : Bool)
      → after (opened None None) ((shows ahead_rule (at (if c then Properties else Below)) kids ++ ending c) ++ later) ≡ noted (or_else (if c then Some own else None) found)
  one-kid kids h own is found later so true =
      after-append (opened None None) (shows ahead_rule (at Properties) kids ++ 6 ∷ []) later
      ∙ ap (λ o. after o later) (after-append (opened None None) (shows ahead_rule (at Properties) kids) (6 ∷ []))
      ∙ ap (λ o. after (after o (6 ∷ [])) later) (properties-read kids h None None)
      ∙ shut-stays (vanish_in kids) (style_in known kids) later
      ∙ ap (λ k. shut (vanish_in k) (style_in known k)) (sym is)
  one-kid kids h own is found later so false = ap (λ (l : List ℕ). after (opened None None) ((l ++ []) ++ later)) (below-shows kids) ∙ so

  closing-is : (c : Bool) → closing (if c then Properties else Below) ≡ ending c
  closing-is true = refl
  closing-is false = refl

  pub kids-read : (nodes : Nodes) → AreLaid W nodes → after (opened None None) (shows ahead_rule (at Kids) nodes) ≡ noted (first_named (codes "rPr") nodes)
  kids-read no_nodes h = refl
  kids-read (bytes b rest) h = kids-read rest h.2
  kids-read (element tag kids rest) h =
      let own : Element = record { tag = tag; kids = kids } in
      let c = bytes_eq tag.local (codes "rPr") in
      let later = shows ahead_rule (at Kids) rest in
      ap (λ (l : List ℕ). after (opened None None) ((shows ahead_rule (at (if c then Properties else Below)) kids ++ l) ++ later)) (closing-is c)
      ∙ one-kid kids h.2 own refl (first_named (codes "rPr") rest) later (kids-read rest h.3) c
      ∙ ap (λ (d : Bool). noted (or_else (if d then Some own else None) (first_named (codes "rPr") rest))) (sym (is_same (codes "rPr") tag h.0.of_space))

-- ---- the run

style-known : (hidden : HiddenStyles) (properties : Nodes) → unwrap_or (style_in hidden properties) (value_hides hidden None) ≡ run_style_hides hidden properties
style-known hidden properties = by (first_named (codes "rStyle") properties)
  where
    by : (found : Option Element) → unwrap_or (option_map (says hidden) found) (value_hides hidden None) ≡ value_hides hidden (option_and_then (value_at (codes "val")) found)
    by None = refl
    by (Some e) = refl

run-known : (within : Within) (paragraph : Bool) (found : Option Element) → hides_by within.hidden.now paragraph (noted within found)
    ≡ unwrap_or (or_else (vanish_in (kids_in found)) (run_style_hides within.hidden.now (kids_in found))) paragraph
run-known within paragraph None = refl
run-known within paragraph (Some e) = ap (λ s. unwrap_or (or_else (vanish_in e.kids) s) paragraph) (style-known within.hidden.now e.kids)

pub ahead_hides : (within : Within) (paragraph : Bool) (nodes : Nodes) → AreLaid W nodes
    → hides_by within.hidden.now paragraph (after (opened None None) (shows ahead_rule (record { hidden = within.hidden; level = Kids }) nodes)) ≡ run_hides within.hidden.now paragraph nodes
ahead_hides within paragraph nodes h = ap (hides_by within.hidden.now paragraph) (kids-read within nodes h) ∙ run-known within paragraph (first_named (codes "rPr") nodes)
