-- Alike tags, which every rule treats alike: they have the same local name and namespace, or are deleted text and live text.
use Prim.Native.String.{String}
use Rattle.std.proofs.Common.{◌≡◌, List, [], ◌∷◌, Bool, true, false, ◌||◌, not, refl, sym, ap, ◌∙◌, true≢false, codes, bytes_eq, if◌then◌else◌}
use Rattle.std.proofs.lemmas.Bool.{and_parts, or_parts, not-true, and_right}
use Rattle.std.specs.List.{list_all}
use Rattle.redl_tree.specs.Model.Nodes.{Tag}
use Rattle.redl_tree.specs.Roles.Names.{is, is_math, is_any, is_w, is_m}
use Rattle.redl_tree.specs.Roles.Places.{is_quiet, trace_of, prop_of, has_run_props, is_range_edge}
use Rattle.redl_tree.specs.Roles.Lists.{into, has_blocks, is_thick}
use Rattle.redl_tree.specs.declared.lists.Reach.{Reach}
use Rattle.redl_tree.specs.declared.lists.Reach.TheVariants.{Direct, Control, Beyond}
use Rattle.redl_tree.specs.Decisions.Fates.{live_name, renamed, is_revived}
use Rattle.redl_tree.specs.declared.kinds.Say.{Say}
use Rattle.redl_tree.specs.declared.kinds.Space.TheVariants.{W}
use Rattle.redl_tree.specs.Model.Nodes.{Close}
use Rattle.redl_tree.proofs.Roles.Named.{named, by_name}

-- a name that the pass never changes or gives
abbrev pub ordinary : String → Bool
ordinary name =
    not (bytes_eq (codes "delText") (codes name) || bytes_eq (codes "delInstrText") (codes name)
    || bytes_eq (codes "t") (codes name) || bytes_eq (codes "instrText") (codes name))

-- two tags that every rule treats alike
pub record Like (a b : Tag) : Type 0 where
  pub name : (n : String) → ordinary n ≡ true → is n b ≡ is n a
  pub space : b.space ≡ a.space
  pub math : (n : String) → is_math n b ≡ is_math n a
  pub local : is_quiet a ≡ true → b.local ≡ a.local

-- a tag is like itself
pub like_self : (a : Tag) → Like a a
like_self a = record { name = λ n o. refl; space = refl; math = λ n. refl; local = λ q. refl }

-- two paragraphs are alike
pub like_p : (a b : Tag) → is "p" a ≡ true → is "p" b ≡ true → Like a b
like_p a b p q =
    let x = named "p" a p in
    let y = named "p" b q in
    record {
      name = λ n o. by_name (λ t. is n t ≡ is n a) "p" b q (by_name (λ t. is n (record b { space = W; local = codes "p" }) ≡ is n t) "p" a p refl);
      space = y.space ∙ sym x.space;
      math = λ n. by_name (λ t. is_math n t ≡ is_math n a) "p" b q (by_name (λ t. is_math n (record b { space = W; local = codes "p" }) ≡ is_math n t) "p" a p refl);
      local = λ k. y.local ∙ sym x.local;
    }

-- what is like an element and keeps its attributes
pub record Own (a b : Tag) : Type 0 where
  pub like : Like a b
  pub tail : b.tail ≡ a.tail

module _ (a : Tag) (old new : String) where
  abbrev changed : Tag
  changed = record a { local = codes new }

  like_changed : is old a ≡ true → is_quiet a ≡ false → ((n : String) → ordinary n ≡ true → bytes_eq (codes old) (codes n) ≡ false) →
      ((n : String) → ordinary n ≡ true → bytes_eq (codes new) (codes n) ≡ false) → Like a changed
  like_changed e q x y =
      let w = named old a e in
      record {
        name = λ n o. at_new n (y n o) ∙ sym (by_name (λ t. is n t ≡ false) old a e (x n o));
        space = refl;
        math = λ n. by_name (λ t. is_math n (record t { local = codes new }) ≡ is_math n t) old a e refl;
        local = λ k. absurd (true≢false (sym k ∙ q));
      }
    where
      at_new : (n : String) → bytes_eq (codes new) (codes n) ≡ false → is n changed ≡ false
      at_new n h = and_right (is_w a.space) (bytes_eq (codes new) (codes n)) h

not_ordinary : (n : String) → ordinary n ≡ true →
    (bytes_eq (codes "delText") (codes n) ≡ false) × (bytes_eq (codes "delInstrText") (codes n) ≡ false)
    × (bytes_eq (codes "t") (codes n) ≡ false) × (bytes_eq (codes "instrText") (codes n) ≡ false)
not_ordinary n o =
    let p = or_parts (bytes_eq (codes "delText") (codes n) || bytes_eq (codes "delInstrText") (codes n) || bytes_eq (codes "t") (codes n)) (bytes_eq (codes "instrText") (codes n)) (not-true _ o) in
    let q = or_parts (bytes_eq (codes "delText") (codes n) || bytes_eq (codes "delInstrText") (codes n)) (bytes_eq (codes "t") (codes n)) p.0 in
    let r = or_parts (bytes_eq (codes "delText") (codes n)) (bytes_eq (codes "delInstrText") (codes n)) q.0 in
    (r.0, r.1, q.1, p.1)

-- a tag after the pass is like the tag before it
pub own_renamed : (says : List Say) (ancestors : List Tag) (tag : Tag) → Own tag (renamed says ancestors tag)
own_renamed says ancestors tag = at (is_revived says ancestors)
  where
    self : Own tag tag
    self = record { like = like_self tag; tail = refl }

    at_instr : (b : Bool) → is "delInstrText" tag ≡ b → Own tag (if b then record tag { local = codes "instrText" } else tag)
    at_instr true e = record {
      like = like_changed tag "delInstrText" "instrText" e (by_name (λ t. is_quiet t ≡ false) "delInstrText" tag e refl) (λ n o. (not_ordinary n o).1) (λ n o. (not_ordinary n o).3);
      tail = refl;
    }
    at_instr false e = record { like = like_self tag; tail = refl }

    at_text : (b : Bool) → is "delText" tag ≡ b → Own tag (if b then record tag { local = codes "t" } else if is "delInstrText" tag then record tag { local = codes "instrText" } else tag)
    at_text true e = record {
      like = like_changed tag "delText" "t" e (by_name (λ t. is_quiet t ≡ false) "delText" tag e refl) (λ n o. (not_ordinary n o).0) (λ n o. (not_ordinary n o).2);
      tail = refl;
    }
    at_text false e = at_instr (is "delInstrText" tag) refl

    at : (b : Bool) → Own tag (if b then live_name tag else tag)
    at true = at_text (is "delText" tag) refl
    at false = record { like = like_self tag; tail = refl }

pub like_close : (a b : Tag) → Like a b → (c : Close) → Like a (record b { close = c })
like_close a b l c = record { name = l.name; space = l.space; math = l.math; local = l.local }

-- tests of names

ap2_or : (a b c d : Bool) → a ≡ c → b ≡ d → (a || b) ≡ (c || d)
ap2_or a b c d p q = rw (p, q) refl

-- alike tags have the same of any ordinary names
pub like_any : (names : List String) (a b : Tag) → Like a b → list_all ordinary names ≡ true → is_any names b ≡ is_any names a
like_any [] a b l o = refl
like_any (n ∷ names) a b l o =
    let both = and_parts (ordinary n) (list_all ordinary names) o in
    ap2_or (is n b) (is_any names b) (is n a) (is_any names a) (l.name n both.0) (like_any names a b l both.1)

-- both hold properties, or neither does
pub like_quiet : (a b : Tag) → Like a b → is_quiet b ≡ is_quiet a
like_quiet a b l =
    ap2_or _ _ _ _ (like_any ("pPr" ∷ "rPr" ∷ "sectPr" ∷ "tblPr" ∷ "tblPrEx" ∷ "trPr" ∷ "tcPr" ∷ "sdtPr" ∷ "sdtEndPr" ∷ "tblGrid" ∷ []) a b l refl) (l.math "ctrlPr")

-- both are the same kind of content revision, or neither is one
pub like_trace : (a b : Tag) → Like a b → trace_of b ≡ trace_of a
like_trace a b l = rw (l.name "ins" refl, l.name "del" refl, l.name "moveFrom" refl, l.name "moveTo" refl) refl

-- both are a change of the same properties, or neither is one
pub like_prop : (a b : Tag) → Like a b → prop_of b ≡ prop_of a
like_prop a b l =
    rw (l.name "rPrChange" refl, l.name "pPrChange" refl, l.name "sectPrChange" refl, l.name "tblPrChange" refl, l.name "tblPrExChange" refl, l.name "trPrChange" refl, l.name "tcPrChange" refl) refl

pub like_edge : (a b : Tag) → Like a b → is_range_edge b ≡ is_range_edge a
like_edge a b l = like_any ("moveFromRangeStart" ∷ "moveFromRangeEnd" ∷ "moveToRangeStart" ∷ "moveToRangeEnd" ∷ []) a b l refl

pub like_thick : (a b : Tag) → Like a b → is_thick b ≡ is_thick a
like_thick a b l =
    ap2_or _ _ _ _ (like_any ("p" ∷ "tbl" ∷ "sdt" ∷ "customXml" ∷ "altChunk" ∷ []) a b l refl) (ap (λ s. not (is_w s || is_m s)) l.space)

pub like_has_blocks : (a b : Tag) → Like a b → has_blocks b ≡ has_blocks a
like_has_blocks a b l = like_any ("body" ∷ "hdr" ∷ "ftr" ∷ "footnote" ∷ "endnote" ∷ "comment" ∷ "tc" ∷ "txbxContent" ∷ []) a b l refl

pub like_into : (r : Reach) (a b : Tag) → Like a b → into r b ≡ into r a
like_into Direct a b l = rw (l.name "sdt" refl, l.name "customXml" refl) refl
like_into Control a b l = rw (l.name "sdtContent" refl) refl
like_into Beyond a b l = refl

pub like_run_props : (a b : Tag) → Like a b → has_run_props b ≡ has_run_props a
like_run_props a b l =
    ap2_or _ _ _ _ (ap2_or _ _ _ _ (like_any ("r" ∷ "sdtPr" ∷ "sdtEndPr" ∷ []) a b l refl) (l.math "r")) (l.math "ctrlPr")
