-- Numbers of nodes that hold no moved matter and no marker of a move: each member is a revision of its own.
use Rattle.std.proofs.Common.{◌≡◌, ℕ, ◌+◌, ◌≤◌, Bool, true, false, true≢false, ◌&&◌, not, List, [], ◌∷◌, ◌++◌, Option, Some, None, is_some, cond, codes, refl, sym, ap, ◌∙◌, append_assoc, arith, if◌then◌else◌}
use Rattle.std.proofs.lemmas.Bool.{and_parts, not-true}
use Rattle.std.specs.Prelude.{find}
use Rattle.redl_tree.specs.Model.Nodes.{Tag, Nodes, no_nodes, bytes, element, ◌⊕◌}
use Rattle.redl_tree.specs.Model.Seen.{Spot, Seen, spot, seen_one, seen_from, tags, tags_of}
use Rattle.redl_tree.specs.Revisions.Markers.{Value, own_role, move_of_marker, move_of_member, either}
use Rattle.redl_tree.specs.Revisions.Moves.{Pair, is_of_pair}
use Rattle.redl_tree.specs.Revisions.Numbers.{Membership, membership, Numbering, counted, revision_of, numbering_after}
use Rattle.redl_tree.specs.Roles.Places.{is_open, is_range_edge, role}
use Rattle.redl_tree.specs.Rules.Sound.{is_marker}
use Rattle.redl_tree.specs.declared.kinds.Kind.{Kind}
use Rattle.redl_tree.specs.declared.kinds.Kind.TheVariants.{Plain, Content, Mark, Row, Cell, Change, Marker}
use Rattle.redl_tree.specs.declared.kinds.Trace.TheVariants.{Ins, Del, From, To}

-- ---- a list of nodes in two parts

-- the position after nodes of which the first tag has this one
abbrev pub past : ℕ → Nodes → ℕ
past at no_nodes = at
past at (bytes b rest) = past at rest
past at (element tag kids rest) = past (at + 2 + tags kids) rest

pub past_later : (at : ℕ) (nodes : Nodes) → at ≤ past at nodes
past_later at no_nodes = omega arith
past_later at (bytes b rest) = past_later at rest
past_later at (element tag kids rest) = omega (arith, past_later (at + 2 + tags kids) rest)

pub seen-⊕ : (ancestors : List Spot) (at : ℕ) (xs ys : Nodes) → seen_from ancestors at (xs ⊕ ys) ≡ seen_from ancestors at xs ++ seen_from ancestors (past at xs) ys
seen-⊕ ancestors at no_nodes ys = refl
seen-⊕ ancestors at (bytes b rest) ys = seen-⊕ ancestors at rest ys
seen-⊕ ancestors at (element tag kids rest) ys =
    let inside = seen_from (spot at tag kids ∷ ancestors) (at + 1) kids in
    ap (λ (xs : List Seen). seen_one ancestors at tag kids ∷ (inside ++ xs)) (seen-⊕ ancestors (at + 2 + tags kids) rest ys)
    ∙ ap (λ (xs : List Seen). seen_one ancestors at tag kids ∷ xs)
    (sym (append_assoc inside (seen_from ancestors (at + 2 + tags kids) rest) (seen_from ancestors (past (at + 2 + tags kids) rest) ys)))

-- ---- members that are no part of a move

abbrev pub is_own_kind : Kind → Bool
is_own_kind Plain = true
is_own_kind (Content Ins) = true
is_own_kind (Content Del) = true
is_own_kind (Content From) = false
is_own_kind (Content To) = false
is_own_kind (Mark Ins) = true
is_own_kind (Mark Del) = true
is_own_kind (Mark From) = false
is_own_kind (Mark To) = false
is_own_kind (Row trace) = true
is_own_kind (Cell trace) = true
is_own_kind (Change prop) = true
is_own_kind Marker = true

-- how many revisions such a member is
abbrev pub revisions_by : Kind → ℕ
revisions_by Plain = 0
revisions_by (Content trace) = 1
revisions_by (Mark trace) = 1
revisions_by (Row trace) = 1
revisions_by (Cell trace) = 1
revisions_by (Change prop) = 1
revisions_by Marker = 1

-- all elements among these nodes are such
abbrev pub all_own : List Tag → Nodes → Bool
all_own ancestors no_nodes = true
all_own ancestors (bytes b rest) = all_own ancestors rest
all_own ancestors (element tag kids rest) =
    ((not (is_range_edge tag) && is_own_kind (role ancestors tag)) && all_own (tag ∷ ancestors) kids) && all_own ancestors rest

-- how many revisions these are
abbrev pub own_revisions : List Tag → Nodes → ℕ
own_revisions ancestors no_nodes = 0
own_revisions ancestors (bytes b rest) = own_revisions ancestors rest
own_revisions ancestors (element tag kids rest) =
    revisions_by (role ancestors tag) + own_revisions (tag ∷ ancestors) kids + own_revisions ancestors rest

-- so many more revisions
abbrev pub with_more : ℕ → Numbering → Numbering
with_more count so_far = record { next = so_far.next + count; moves = so_far.moves }

by_next : (so_far : Numbering) (n : ℕ) → so_far.next ≡ n → so_far ≡ record { next = n; moves = so_far.moves }
by_next so_far n e = ap (λ (m : ℕ). record { next = m; moves = so_far.moves }) e

counted_own : (kind : Kind) (so_far : Numbering) → counted (membership kind None) so_far ≡ with_more (revisions_by kind) so_far
counted_own Plain so_far = by_next so_far (so_far.next + 0) (omega arith)
counted_own (Content trace) so_far = refl
counted_own (Mark trace) so_far = refl
counted_own (Row trace) so_far = refl
counted_own (Cell trace) so_far = refl
counted_own (Change prop) so_far = refl
counted_own Marker so_far = refl

no_move : (moves : List Pair) (kind : Kind) (x : Seen) → is_own_kind kind ≡ true → move_of_member moves kind x ≡ None
no_move moves Plain x e = refl
no_move moves (Content Ins) x e = refl
no_move moves (Content Del) x e = refl
no_move moves (Content From) x e = absurd (true≢false (sym e))
no_move moves (Content To) x e = absurd (true≢false (sym e))
no_move moves (Mark Ins) x e = refl
no_move moves (Mark Del) x e = refl
no_move moves (Mark From) x e = absurd (true≢false (sym e))
no_move moves (Mark To) x e = absurd (true≢false (sym e))
no_move moves (Row trace) x e = refl
no_move moves (Cell trace) x e = refl
no_move moves (Change prop) x e = refl
no_move moves Marker x e = refl

module _ (value : Value) (moves : List Pair) where
  pub numbering-⊕ : (ancestors : List Spot) (at : ℕ) (so_far : Numbering) (xs ys : Nodes)
      → numbering_after value moves ancestors at so_far (xs ⊕ ys) ≡ numbering_after value moves ancestors (past at xs) (numbering_after value moves ancestors at so_far xs) ys
  numbering-⊕ ancestors at so_far no_nodes ys = refl
  numbering-⊕ ancestors at so_far (bytes b rest) ys = numbering-⊕ ancestors at so_far rest ys
  numbering-⊕ ancestors at so_far (element tag kids rest) ys = numbering-⊕ ancestors (at + 2 + tags kids) _ rest ys

  -- ---- the numbers by the elements in their order

  abbrev pub over : List Seen → Numbering → Numbering
  over [] so_far = so_far
  over (x ∷ xs) so_far = over xs (counted (revision_of value moves x) so_far)

  over-append : (xs ys : List Seen) (so_far : Numbering) → over (xs ++ ys) so_far ≡ over ys (over xs so_far)
  over-append [] ys so_far = refl
  over-append (x ∷ xs) ys so_far = over-append xs ys (counted (revision_of value moves x) so_far)

  pub over_seen : (ancestors : List Spot) (at : ℕ) (so_far : Numbering) (nodes : Nodes) → numbering_after value moves ancestors at so_far nodes ≡ over (seen_from ancestors at nodes) so_far
  over_seen ancestors at so_far no_nodes = refl
  over_seen ancestors at so_far (bytes b rest) = over_seen ancestors at so_far rest
  over_seen ancestors at so_far (element tag kids rest) =
      let first = counted (revision_of value moves (seen_one ancestors at tag kids)) so_far in
      let inside = seen_from (spot at tag kids ∷ ancestors) (at + 1) kids in
      ap (λ s. numbering_after value moves ancestors (at + 2 + tags kids) s rest) (over_seen (spot at tag kids ∷ ancestors) (at + 1) first kids)
      ∙ over_seen ancestors (at + 2 + tags kids) (over inside first) rest
      ∙ sym (over-append inside (seen_from ancestors (at + 2 + tags kids) rest) first)

  -- ---- an element that is no marker

  none_found : (test : Pair → Bool) (pairs : List Pair) → ((pair : Pair) → test pair ≡ false) → find test pairs ≡ None
  none_found test [] h = refl
  none_found test (pair ∷ pairs) h = ap (λ b. cond b (Some pair) (find test pairs)) (h pair) ∙ none_found test pairs h

  off : (o b h p : Bool) → b ≡ false → (((o && b) && h) && p) ≡ false
  off true b h p e = ap (λ x. (x && h) && p) e
  off false b h p e = refl

  pub no_marker : (x : Seen) → is_range_edge x.own.tag ≡ false → move_of_marker value moves x ≡ None
  no_marker x e =
      none_found (λ pair. is_marker (λ tail. is_some (value tail (codes "id"))) (tags_of x.ancestors) x.own.tag && is_of_pair x.own.start pair) moves
      (λ pair. off (is_open (tags_of x.ancestors)) (is_range_edge x.own.tag) (is_some (value x.own.tag.tail (codes "id"))) (is_of_pair x.own.start pair) e)

  -- the revision of an element that is no marker goes by its role
  pub by_role : (x : Seen) → is_range_edge x.own.tag ≡ false → revision_of value moves x ≡ membership (own_role x) (move_of_member moves (own_role x) x)
  by_role x e =
      ap (λ (m : Option Pair). membership (if is_some m then Marker else own_role x) (either m (move_of_member moves (own_role x) x))) (no_marker x e)

  own_element : (x : Seen) (so_far : Numbering) → is_range_edge x.own.tag ≡ false → is_own_kind (own_role x) ≡ true
      → counted (revision_of value moves x) so_far ≡ with_more (revisions_by (own_role x)) so_far
  own_element x so_far e k =
      ap (λ (m : Membership). counted m so_far) (by_role x e ∙ ap (membership (own_role x)) (no_move moves (own_role x) x k))
      ∙ counted_own (own_role x) so_far

  -- nodes of which each member is a revision of its own
  pub own_numbering : (ancestors : List Spot) (at : ℕ) (so_far : Numbering) (nodes : Nodes) → all_own (tags_of ancestors) nodes ≡ true
      → numbering_after value moves ancestors at so_far nodes ≡ with_more (own_revisions (tags_of ancestors) nodes) so_far
  own_numbering ancestors at so_far no_nodes own = by_next so_far (so_far.next + 0) (omega arith)
  own_numbering ancestors at so_far (bytes b rest) own = own_numbering ancestors at so_far rest own
  own_numbering ancestors at so_far (element tag kids rest) own =
      let above = tags_of ancestors in
      let here = revisions_by (role above tag) in
      let inside = own_revisions (tag ∷ above) kids in
      let later = own_revisions above rest in
      let one = and_parts ((not (is_range_edge tag) && is_own_kind (role above tag)) && all_own (tag ∷ above) kids) (all_own above rest) own in
      let two = and_parts (not (is_range_edge tag) && is_own_kind (role above tag)) (all_own (tag ∷ above) kids) one.0 in
      let three = and_parts (not (is_range_edge tag)) (is_own_kind (role above tag)) two.0 in
      let sum : so_far.next + here + inside + later ≡ so_far.next + (here + inside + later) = omega arith in
      ap (λ s. numbering_after value moves ancestors (at + 2 + tags kids) (numbering_after value moves (spot at tag kids ∷ ancestors) (at + 1) s kids) rest)
      (own_element (seen_one ancestors at tag kids) so_far (not-true (is_range_edge tag) three.0) three.1)
      ∙ ap (λ s. numbering_after value moves ancestors (at + 2 + tags kids) s rest)
      (own_numbering (spot at tag kids ∷ ancestors) (at + 1) (with_more here so_far) kids two.1)
      ∙ own_numbering ancestors (at + 2 + tags kids) (with_more inside (with_more here so_far)) rest one.1
      ∙ ap (λ (m : ℕ). record { next = m; moves = so_far.moves }) sum
