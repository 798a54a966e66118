-- The marks of a story, found by the paths of its elements, are those of the recursion.
use Rattle.std.proofs.Common.{◌≡◌, List, [], ◌∷◌, ◌++◌, map, filter, Bool, true, false, cond, ◌&&◌, ◌||◌, not, refl, sym, ap, ◌∙◌, if◌then◌else◌}
use Rattle.std.proofs.lemmas.Bool.{and_right, cond-false}
use Rattle.std.proofs.lemmas.List.{map-append}
use Rattle.std.proofs.lemmas.List.Elements.{filter-append}
use Rattle.std.specs.List.{list_any}
use Rattle.redl_laws.proofs.Survival.Indexed.{AreStories, indexed_stories, passed, stories-pass}
use Rattle.redl_laws.proofs.Survival.Stories.{tags_above}
use Rattle.redl_stays_sound.proofs.Marks.{kept, own_kept, passed_tags, tags}
use Rattle.redl_stays_sound.specs.Kept.{KeptStay, Placed, is_kept, is_mark, kept_marks, marks, placed_in}
use Rattle.redl_tree.proofs.Roles.Fits.{open_∷}
use Rattle.redl_tree.specs.Decisions.Packages.{stories}
use Rattle.redl_tree.specs.Decisions.Pass.{pass}
use Rattle.redl_tree.specs.Decisions.Survivors.{any_gone, is_gone}
use Rattle.redl_tree.specs.Model.Nodes.{Tag, Nodes, no_nodes, bytes, element}
use Rattle.redl_tree.specs.Model.View.{Element}
use Rattle.redl_tree.specs.Revisions.Markers.{Value}
use Rattle.redl_tree.specs.Roles.Places.{is_quiet}
use Rattle.redl_tree.specs.declared.kinds.Say.{Say}

-- ---- tests of paths, where a test looks at one element after the other

-- the tags that pass, where nothing below an element is looked at that ends the test
abbrev left_by : (List Element → Tag → Nodes → Bool) → (Tag → Bool) → List Element → Nodes → List Tag
left_by ends own ancestors no_nodes = []
left_by ends own ancestors (bytes b rest) = left_by ends own ancestors rest
left_by ends own ancestors (element tag kids rest) =
    (if ends ancestors tag kids then [] else (if own tag then tag ∷ [] else []) ++ left_by ends own (record { tag = tag; kids = kids } ∷ ancestors) kids)
    ++ left_by ends own ancestors rest

module _ (live : List Element → Bool) (ends : List Element → Tag → Nodes → Bool) (own : Tag → Bool)
    (step : (ancestors : List Element) (tag : Tag) (kids : Nodes) → live (record { tag = tag; kids = kids } ∷ ancestors) ≡ (not (ends ancestors tag kids) && live ancestors)) where
  abbrev passing : List Placed → List Placed
  passing ones = filter (λ one. own one.tag && live one.path) ones

  abbrev named : List Placed → List Tag
  named ones = map (λ one. one.tag) ones

  dead : (ancestors : List Element) (nodes : Nodes) → live ancestors ≡ false → passing (placed_in ancestors nodes) ≡ []
  dead ancestors no_nodes d = refl
  dead ancestors (bytes b rest) d = dead ancestors rest d
  dead ancestors (element tag kids rest) d =
      let here : Element = record { tag = tag; kids = kids } in
      let below = step ancestors tag kids ∙ and_right (not (ends ancestors tag kids)) (live ancestors) d in
      let inside = placed_in (here ∷ ancestors) kids in
      let after = placed_in ancestors rest in
      cond-false (own tag && live (here ∷ ancestors)) (record { tag = tag; path = here ∷ ancestors } ∷ passing (inside ++ after)) (passing (inside ++ after)) (and_right (own tag) (live (here ∷ ancestors)) below)
      ∙ filter-append (λ one. own one.tag && live one.path) inside after
      ∙ ap (λ (xs : List Placed). xs ++ passing after) (dead (here ∷ ancestors) kids below)
      ∙ dead ancestors rest d

  left : (ancestors : List Element) (nodes : Nodes) → live ancestors ≡ true → named (passing (placed_in ancestors nodes)) ≡ left_by ends own ancestors nodes
  left ancestors no_nodes l = refl
  left ancestors (bytes b rest) l = left ancestors rest l
  left ancestors (element tag kids rest) l =
      let here : Element = record { tag = tag; kids = kids } in
      let inside = placed_in (here ∷ ancestors) kids in
      let after = placed_in ancestors rest in
      ap (λ (xs : List Placed). named (cond (own tag && live (here ∷ ancestors)) (record { tag = tag; path = here ∷ ancestors } ∷ xs) xs)) (filter-append (λ one. own one.tag && live one.path) inside after)
      ∙ at (ends ancestors tag kids) (live (here ∷ ancestors)) (own tag) (passing inside) (passing after) (left_by ends own (here ∷ ancestors) kids) (step ancestors tag kids ∙ ap (λ b. not (ends ancestors tag kids) && b) l)
      (dead (here ∷ ancestors) kids) (left (here ∷ ancestors) kids)
      ∙ ap (λ (ts : List Tag). (if ends ancestors tag kids then [] else (if own tag then tag ∷ [] else []) ++ left_by ends own (here ∷ ancestors) kids) ++ ts) (left ancestors rest l)
    where
      at : (e b o : Bool) (inside after : List Placed) (left : List Tag) → b ≡ (not e && true) → (b ≡ false → inside ≡ []) → (b ≡ true → named inside ≡ left)
          → named (cond (o && b) (record { tag = tag; path = record { tag = tag; kids = kids } ∷ ancestors } ∷ (inside ++ after)) (inside ++ after))
          ≡ (if e then [] else (if o then tag ∷ [] else []) ++ left) ++ named after
      at true true o inside after left is d h = absurd (cc is)
      at true false true inside after left is d h = ap (λ (xs : List Placed). named (xs ++ after)) (d refl)
      at true false false inside after left is d h = ap (λ (xs : List Placed). named (xs ++ after)) (d refl)
      at false true true inside after left is d h = ap (λ (ts : List Tag). tag ∷ ts) (map-append (λ one. one.tag) inside after ∙ ap (λ (ts : List Tag). ts ++ named after) (h refl))
      at false true false inside after left is d h = map-append (λ one. one.tag) inside after ∙ ap (λ (ts : List Tag). ts ++ named after) (h refl)
      at false false o inside after left is d h = absurd (cc is)

-- ---- the two tests

left-marks : (ancestors : List Element) (nodes : Nodes) → left_by (λ ancestors tag kids. is_quiet tag) is_mark ancestors nodes ≡ tags nodes
left-marks ancestors no_nodes = refl
left-marks ancestors (bytes b rest) = left-marks ancestors rest
left-marks ancestors (element tag kids rest) =
    ap (λ (ts : List Tag). (if is_quiet tag then [] else (if is_mark tag then tag ∷ [] else []) ++ ts) ++ left_by (λ ancestors tag kids. is_quiet tag) is_mark ancestors rest)
    (left-marks (record { tag = tag; kids = kids } ∷ ancestors) kids)
    ∙ ap (λ (ts : List Tag). (if is_quiet tag then [] else (if is_mark tag then tag ∷ [] else []) ++ tags kids) ++ ts) (left-marks ancestors rest)

abbrev ends_under : List Say → List Element → Tag → Nodes → Bool
ends_under says ancestors tag kids = is_quiet tag || is_gone says ancestors (record { tag = tag; kids = kids })

left-kept : (says : List Say) (parent : Element) (ancestors : List Element) (nodes : Nodes)
    → left_by (ends_under says) (is_kept says) (parent ∷ ancestors) nodes ≡ kept says (tags_above (parent ∷ ancestors)) nodes
left-kept says parent ancestors no_nodes = refl
left-kept says parent ancestors (bytes b rest) = left-kept says parent ancestors rest
left-kept says parent ancestors (element tag kids rest) =
    ap (λ (ts : List Tag). (if ends_under says (parent ∷ ancestors) tag kids then [] else own_kept says tag ++ ts) ++ left_by (ends_under says) (is_kept says) (parent ∷ ancestors) rest)
    (left-kept says (record { tag = tag; kids = kids }) (parent ∷ ancestors) kids)
    ∙ ap (λ (ts : List Tag). (if ends_under says (parent ∷ ancestors) tag kids then [] else own_kept says tag ++ kept says (tag ∷ tags_above (parent ∷ ancestors)) kids) ++ ts) (left-kept says parent ancestors rest)

not_or : (a b : Bool) → not (a || b) ≡ (not a && not b)
not_or true b = refl
not_or false b = refl

not_ors : (q l g a : Bool) → (not (q || l) && not (g || a)) ≡ (not (q || g) && (not l && not a))
not_ors true l g a = refl
not_ors false true true a = refl
not_ors false true false a = refl
not_ors false false true a = refl
not_ors false false false a = refl

marks-tags : (root : Tag) (kids : Nodes) → is_quiet root ≡ false → marks (record { tag = root; kids = kids }) ≡ tags kids
marks-tags root kids q =
    left (λ path. not (list_any (λ parts. is_quiet parts.tag) path)) (λ ancestors tag kids. is_quiet tag) is_mark
    (λ ancestors tag kids. not_or (is_quiet tag) (list_any (λ parts. is_quiet parts.tag) ancestors))
    (record { tag = root; kids = kids } ∷ []) kids (rw q refl)
    ∙ left-marks (record { tag = root; kids = kids } ∷ []) kids

kept-tags : (says : List Say) (root : Tag) (kids : Nodes) → is_quiet root ≡ false → kept_marks says (record { tag = root; kids = kids }) ≡ kept says (root ∷ []) kids
kept-tags says root kids q =
    left (λ path. not (list_any (λ parts. is_quiet parts.tag) path) && not (any_gone says path)) (ends_under says) (is_kept says)
    (λ ancestors tag kids. not_ors (is_quiet tag) (list_any (λ parts. is_quiet parts.tag) ancestors) (is_gone says ancestors (record { tag = tag; kids = kids })) (any_gone says ancestors))
    (record { tag = root; kids = kids } ∷ []) kids (rw q refl)
    ∙ left-kept says (record { tag = root; kids = kids }) [] kids

-- ---- stories

stays_of : (says : List Say) (xs : List Element) → AreStories xs → map marks (map (passed says) xs) ≡ map (kept_marks says) xs
stays_of says [] h = refl
stays_of says (x ∷ xs) h =
    ap (λ (ts : List Tag). ts ∷ map marks (map (passed says) xs))
    (marks-tags x.tag (pass says (x.tag ∷ []) x.kids) h.0.loud ∙ passed_tags says (x.tag ∷ []) x.kids (open_∷ x.tag [] h.0.loud) h.0.fits
    ∙ sym (kept-tags says x.tag x.kids h.0.loud))
    ∙ ap (λ (ts : List (List Tag)). kept_marks says x ∷ ts) (stays_of says xs h.1)

-- the law: of each story, the marks that stay are those of the kept revisions that are in nothing that goes
pub kept_stay : (value : Value) → KeptStay value
kept_stay value says nodes indexed = ap (λ (xs : List Element). map marks xs) (stories-pass says nodes) ∙ stays_of says (stories nodes) (indexed_stories value nodes indexed)
