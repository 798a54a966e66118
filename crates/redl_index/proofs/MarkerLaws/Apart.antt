-- No marker is at the start tag of an element that is none, nor at an end tag.
use Rattle.std.proofs.Common.{◌≡◌, ◌∙◌, refl, ap, sym, subst, ℕ, zero, suc, ◌+◌, ◌≤◌, ◌<◌, List, [], ◌∷◌, ◌++◌, Option, Some, None, filter_map, arith}
use Rattle.std.specs.List.{cons_option}
use Rattle.std.proofs.lemmas.List.Elements.{filter_map-append}
use Rattle.std.proofs.lemmas.Option.{none-some}
use Rattle.redl_tree.specs.Model.Nodes.{Nodes, no_nodes, bytes, element}
use Rattle.redl_tree.specs.Model.Seen.{Spot, spot, Seen, seen_one, seen_from, tags}
use Rattle.redl_tree.specs.Revisions.Moves.{Marking}
use Rattle.redl_tree.specs.Revisions.Markers.{Value, marker_of}
use Rattle.redl_moves.specs.Standing.{IsApart}
use Rattle.redl_index.specs.Inside.Markers.Free.{Every}
use Rattle.redl_index.proofs.EveryLaws.{every-append, every-more}
use Rattle.redl_index.proofs.MarkerLaws.Rising.{Between, marker-at, markers-between}

-- no marker is at this position
abbrev pub Apart : ℕ → List Marking → Type 0
Apart p [] = Unit {0}
Apart p (m ∷ ms) = (m.at ≡ p → ⊥) × Apart p ms

pub apart-is : (p : ℕ) (ms : List Marking) → Apart p ms → IsApart p ms
apart-is p [] a i m e = absurd (cc)
apart-is p (x ∷ ms) a zero m e = let is : x ≡ m = cc in λ at. a.0 (ap (λ (y : Marking). y.at) is ∙ at)
apart-is p (x ∷ ms) a (suc i) m e = apart-is p ms a.1 i m e

apart-below : (p lo hi : ℕ) (ms : List Marking) → Between lo hi ms → p < lo → Apart p ms
apart-below p lo hi [] b h = tt
apart-below p lo hi (m ∷ ms) b h = (λ e. absurd (omega (arith, e, b.0, h)), apart-below p (m.at + 1) hi ms b.2 (omega (arith, b.0, h)))

pub apart-above : (p lo hi : ℕ) (ms : List Marking) → Between lo hi ms → hi ≤ p → Apart p ms
apart-above p lo hi [] b h = tt
apart-above p lo hi (m ∷ ms) b h = (λ e. absurd (omega (arith, e, b.1, h)), apart-above p (m.at + 1) hi ms b.2 h)

apart-append : (p : ℕ) (xs ys : List Marking) → Apart p xs → Apart p ys → Apart p (xs ++ ys)
apart-append p [] ys a b = b
apart-append p (x ∷ xs) ys a b = (a.0, apart-append p xs ys a.1 b)

apart-first : (p : ℕ) (o : Option Marking) (ms : List Marking) → ((m : Marking) → o ≡ Some m → m.at ≡ p → ⊥) → Apart p ms → Apart p (cons_option o ms)
apart-first p None ms own a = a
apart-first p (Some m) ms own a = (own m refl, a)

-- ---- elements

-- an element whose tags are in these bounds, where no marker is at its end tag, nor at its start tag if it is none
pub record Free (value : Value) (lo hi : ℕ) (ms : List Marking) (x : Seen) : Type 0 where
  pub low : lo ≤ x.own.start
  pub order : x.own.start < x.own.end
  pub high : x.own.end < hi
  pub start : marker_of value x ≡ None → Apart x.own.start ms
  pub end : Apart x.own.end ms

module _ (value : Value) where
  pub seen-free : (ancestors : List Spot) (at : ℕ) (nodes : Nodes) →
      Every (Free value at (at + tags nodes) (filter_map (marker_of value) (seen_from ancestors at nodes))) (seen_from ancestors at nodes)
  seen-free ancestors at no_nodes = tt
  seen-free ancestors at (bytes b rest) = seen-free ancestors at rest
  seen-free ancestors at (element tag kids rest) =
      let find = filter_map (marker_of value) in
      let it = seen_one ancestors at tag kids in
      let inner = seen_from (spot at tag kids ∷ ancestors) (at + 1) kids in
      let outer = seen_from ancestors (at + 2 + tags kids) rest in
      let in_kids = markers-between value (spot at tag kids ∷ ancestors) (at + 1) kids in
      let in_rest = markers-between value ancestors (at + 2 + tags kids) rest in
      let hi = at + (2 + tags kids + tags rest) in
      let all = cons_option (marker_of value it) (find (inner ++ outer)) in
      let F : Seen → Type 0 = Free value at hi all in
      let whole : (p : ℕ) → ((m : Marking) → marker_of value it ≡ Some m → m.at ≡ p → ⊥) → Apart p (find inner) → Apart p (find outer) → Apart p all =
      λ p own a b. apart-first p (marker_of value it) (find (inner ++ outer)) own
      (let P : List Marking → Type 0 = Apart p in subst P (sym (filter_map-append (marker_of value) inner outer)) (apart-append p (find inner) (find outer) a b)) in (
        record {
          low = omega arith;
          order = omega arith;
          high = omega arith;
          start = λ none. whole at (λ m e i. absurd (none-some m (sym none ∙ e)))
              (apart-below at (at + 1) (at + 1 + tags kids) (find inner) in_kids (omega arith))
              (apart-below at (at + 2 + tags kids) (at + 2 + tags kids + tags rest) (find outer) in_rest (omega arith));
          end = whole (at + 1 + tags kids) (λ m e i. absurd (omega (arith, marker-at value it m e, i)))
              (apart-above (at + 1 + tags kids) (at + 1) (at + 1 + tags kids) (find inner) in_kids (omega arith))
              (apart-below (at + 1 + tags kids) (at + 2 + tags kids) (at + 2 + tags kids + tags rest) (find outer) in_rest (omega arith));
        },
        every-append F inner outer
            (every-more (Free value (at + 1) (at + 1 + tags kids) (find inner)) F inner
            (λ x f. record {
              low = omega (arith, f.low);
              order = f.order;
              high = omega (arith, f.high);
              start = λ none. whole x.own.start (λ m e i. absurd (omega (arith, marker-at value it m e, i, f.low))) (f.start none)
                  (apart-below x.own.start (at + 2 + tags kids) (at + 2 + tags kids + tags rest) (find outer) in_rest (omega (arith, f.order, f.high)));
              end = whole x.own.end (λ m e i. absurd (omega (arith, marker-at value it m e, i, f.low, f.order))) f.end
                  (apart-below x.own.end (at + 2 + tags kids) (at + 2 + tags kids + tags rest) (find outer) in_rest (omega (arith, f.high)));
            })
            (seen-free (spot at tag kids ∷ ancestors) (at + 1) kids))
            (every-more (Free value (at + 2 + tags kids) (at + 2 + tags kids + tags rest) (find outer)) F outer
            (λ x f. record {
              low = omega (arith, f.low);
              order = f.order;
              high = omega (arith, f.high);
              start = λ none. whole x.own.start (λ m e i. absurd (omega (arith, marker-at value it m e, i, f.low)))
                  (apart-above x.own.start (at + 1) (at + 1 + tags kids) (find inner) in_kids (omega (arith, f.low))) (f.start none);
              end = whole x.own.end (λ m e i. absurd (omega (arith, marker-at value it m e, i, f.low, f.order)))
                  (apart-above x.own.end (at + 1) (at + 1 + tags kids) (find inner) in_kids (omega (arith, f.low, f.order))) f.end;
            })
            (seen-free ancestors (at + 2 + tags kids) rest)),
      )
