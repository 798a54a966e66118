-- The parts of a document, as the code finds them.
use Rattle.std.proofs.Common.{◌≡◌, ℕ, ◌+◌, true, false, List, [], ◌∷◌, length, ◌≤◌, Some, None, refl, sym, ap, subst, ◌∙◌, arith}
use Rattle.std.proofs.lemmas.Option.{same_Some}
use Rattle.redl_reading.proofs.Options.{map_some, map_none}
use Rattle.redl_tree.specs.Model.Nodes.{Nodes, no_nodes, bytes, ◌⊕◌}
use Rattle.redl_tree.proofs.Model.Laws.{⊕-no_nodes}
use Rattle.redl_grammar.specs.declared.section.Section.TheVariants.{BeforeRoot, AfterRoot}
use Rattle.redl_markup.specs.declared.error.MarkupError.{MarkupError}
use Rattle.redl_markup.specs.declared.error.MarkupError.TheVariants.{Unreadable, NoMemory}
use Rattle.redl_reading.specs.Lists.{is_filled}
use Rattle.redl_markup.specs.Reading.{Fails}
use Rattle.redl_xml.specs.Inside.Elements.{element_at}
use Rattle.redl_xml.specs.Inside.Sizes.{capped, sizes_of, found_sizes, element_sizes}
use Rattle.redl_xml.specs.Shapes.{depth_of}
use Rattle.redl_tree.specs.Model.Count.{count}
use Rattle.std.specs.Option.{option_map}
use Rattle.redl_xml.proofs.Measures.{depth-⊕, count-⊕, one_more-capped, one_more_grows}
use Rattle.redl_xml.specs.Inside.Documents.{stretch_in, bytes_or_none, whole_nodes, document_at, counted, sizes_at}

pub none_filled : (bs : List ℕ) → length bs ≡ 0 → is_filled bs ≡ false
none_filled [] e = refl
none_filled (b ∷ bs) e = absurd cc

pub some_filled : (bs : List ℕ) → (length bs ≡ 0 → ⊥) → is_filled bs ≡ true
some_filled [] e = absurd (e refl)
some_filled (b ∷ bs) e = refl

-- ---- the sizes of the parts

bytes_depth : (b : List ℕ) → depth_of (bytes_or_none b) ≡ 0
bytes_depth [] = refl
bytes_depth (c ∷ cs) = refl

whole_depth : (b a : List ℕ) (u : Nodes) → depth_of (whole_nodes b u a) ≡ depth_of u
whole_depth b a u = omega (arith, depth-⊕ (bytes_or_none b) (u ⊕ bytes_or_none a), depth-⊕ u (bytes_or_none a), bytes_depth b, bytes_depth a)

counted-capped : (limit : ℕ) (b : List ℕ) (n : ℕ) → counted limit b (capped limit n) ≡ capped limit (n + count (bytes_or_none b))
counted-capped limit [] n = ap (capped limit) (let e : n ≡ n + 0 = omega arith in e)
counted-capped limit (c ∷ cs) n = one_more-capped limit n

whole_count : (limit : ℕ) (b a : List ℕ) (u : Nodes) → counted limit a (counted limit b (capped limit (count u))) ≡ capped limit (count (whole_nodes b u a))
whole_count limit b a u =
    let all : (count u + count (bytes_or_none b)) + count (bytes_or_none a) ≡ count (whole_nodes b u a) = omega (arith, count-⊕ (bytes_or_none b) (u ⊕ bytes_or_none a), count-⊕ u (bytes_or_none a)) in
    ap (counted limit a) (counted-capped limit b (count u)) ∙ counted-capped limit a (count u + count (bytes_or_none b)) ∙ ap (capped limit) all

-- ---- the whole

pub document_is : (bs before root : List ℕ) (u : Nodes) (rest after end : List ℕ) → Some (stretch_in BeforeRoot bs) ≡ Some (before, root) → element_at root ≡ Some (u, rest) → Some (stretch_in AfterRoot rest) ≡ Some (after, end) → is_filled end ≡ false
    → document_at bs ≡ Some (whole_nodes before u after)
unfolding document_at
document_is bs before root u rest after end b e a none = rw (same_Some _ _ b, e, same_Some _ _ a, none) refl

document_fails : (bs before root : List ℕ) → Some (stretch_in BeforeRoot bs) ≡ Some (before, root) → element_at root ≡ None → document_at bs ≡ None
unfolding document_at
document_fails bs before root b e = rw (same_Some _ _ b, e) refl

document_goes_on : (bs before root : List ℕ) (u : Nodes) (rest after end : List ℕ) → Some (stretch_in BeforeRoot bs) ≡ Some (before, root) → element_at root ≡ Some (u, rest) → Some (stretch_in AfterRoot rest) ≡ Some (after, end) → is_filled end ≡ true → document_at bs ≡ None
unfolding document_at
document_goes_on bs before root u rest after end b e a some = rw (same_Some _ _ b, e, same_Some _ _ a, some) refl

pub sizes_are : (limit : ℕ) (bs before root : List ℕ) (d n : ℕ) (rest after end : List ℕ) (few many : ℕ) → Some (stretch_in BeforeRoot bs) ≡ Some (before, root) → element_sizes limit root ≡ Some ((d, n), rest) → Some (stretch_in AfterRoot rest) ≡ Some (after, end) → is_filled end ≡ false → few ≡ counted limit before n → many ≡ counted limit after few
    → sizes_at limit bs ≡ Some (d, many)
sizes_are limit bs before root d n rest after end few many b e a none f m =
    let r = map_some (found_sizes limit) (element_at root) ((d, n), rest) e in
    let u = r.0.0 in
    let P : List ℕ → Type 0 = λ x. element_at root ≡ Some (u, x) in
    let is = document_is bs before root u rest after end b (subst P (ap (λ (x : (ℕ × ℕ) × List ℕ). x.1) r.2) r.1) a none in
    let deep : depth_of (whole_nodes before u after) ≡ d = whole_depth before after u ∙ ap (λ (x : (ℕ × ℕ) × List ℕ). x.0.0) r.2 in
    let all : capped limit (count (whole_nodes before u after)) ≡ many = sym (m ∙ ap (counted limit after) (f ∙ ap (λ (x : (ℕ × ℕ) × List ℕ). counted limit before x.0.1) (sym r.2)) ∙ whole_count limit before after u) in
    ap (option_map (sizes_of limit)) is ∙ ap (λ (x : ℕ). Some (x, capped limit (count (whole_nodes before u after)))) deep ∙ ap (λ (x : ℕ). Some (d, x)) all

pub sizes_fail : (limit : ℕ) (bs before root : List ℕ) (found : (ℕ × ℕ) × List ℕ) (after end : List ℕ) → Some (stretch_in BeforeRoot bs) ≡ Some (before, root) → element_sizes limit root ≡ Some found → Some (stretch_in AfterRoot found.1) ≡ Some (after, end) → is_filled end ≡ true → sizes_at limit bs ≡ None
sizes_fail limit bs before root found after end b e a some =
    let r = map_some (found_sizes limit) (element_at root) found e in
    let behind = ap (λ (x : (ℕ × ℕ) × List ℕ). Some (stretch_in AfterRoot x.1)) r.2 ∙ a in
    ap (option_map (sizes_of limit)) (document_goes_on bs before root r.0.0 r.0.1 after end b r.1 behind some)

pub root_fails : (limit : ℕ) (bs before root : List ℕ) (e : MarkupError) → Some (stretch_in BeforeRoot bs) ≡ Some (before, root) → Fails e (element_sizes limit root) → Fails e (sizes_at limit bs)
root_fails limit bs before root Unreadable b e = ap (option_map (sizes_of limit)) (document_fails bs before root b (map_none (found_sizes limit) (element_at root) e))
root_fails limit bs before root NoMemory b e = tt

-- a count never falls
pub counted_grows : (limit : ℕ) (b : List ℕ) (n : ℕ) → n ≤ counted limit b n
counted_grows limit [] n = omega arith
counted_grows limit (c ∷ cs) n = one_more_grows limit n

pub pushed_none : (nodes : Nodes) (bs : List ℕ) → length bs ≡ 0 → nodes ≡ nodes ⊕ bytes_or_none bs
pushed_none nodes [] e = sym (⊕-no_nodes nodes)
pushed_none nodes (b ∷ bs) e = absurd cc

pub pushed_some : (nodes : Nodes) (bs : List ℕ) → (length bs ≡ 0 → ⊥) → nodes ⊕ bytes bs no_nodes ≡ nodes ⊕ bytes_or_none bs
pushed_some nodes [] e = absurd (e refl)
pushed_some nodes (b ∷ bs) e = refl
