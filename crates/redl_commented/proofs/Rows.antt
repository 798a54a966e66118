-- Worked rows: the ranges of comments, and which revisions they are on, by computing (ECMA-376 Part 1, 17.13.4).
use Rattle.std.proofs.Common.{◌≡◌, ℕ, zero, suc, ◌+◌, List, [], ◌∷◌, length, codes, Option, Some, None, Bool, true, false, refl}
use Rattle.redl_commented.specs.On.{count_of, remarks_on}
use Rattle.redl_commented.specs.Ranges.{own_ranges, range_at}
use Rattle.redl_commented.specs.declared.range.Range.{Range}
use Rattle.redl_commented.specs.declared.range.Ranged.{Ranged}
use Rattle.redl_spans.specs.declared.place.Anchor.{Anchor}
use Rattle.redl_spans.specs.declared.place.Anchor.TheVariants.{Start, End, Reference}
use Rattle.redl_spans.specs.declared.place.CommentPlace.{CommentPlace}
use Rattle.redl_spans.specs.declared.span.Span.{Span}

-- ---- ranges

-- a place of the comment 0, in the first story
at : Anchor → ℕ → Bool → CommentPlace
at anchor count near = record { anchor = anchor; id = codes "0"; story = 1; at = record { count = count; near = near } }

range : ℕ → ℕ → Option Range
range from to = Some (record { from = from; to = to })

-- the units from its start to its end, of which the first ones count
from_start_to_end : own_ranges (at Start 2 true ∷ at End 5 true ∷ at Reference 5 true ∷ at Start 7 true ∷ at End 9 true ∷ []) (codes "0" ∷ []) ≡ range 2 5 ∷ []
unfolding at range
from_start_to_end = refl

-- without a unit it is on the one before, and on the one after where none of its paragraph is before
at_a_point : own_ranges (at Start 5 true ∷ at End 5 true ∷ []) (codes "0" ∷ []) ≡ range 4 5 ∷ []
unfolding at range
at_a_point = refl

at_the_begin : own_ranges (at Start 5 false ∷ at End 5 false ∷ []) (codes "0" ∷ []) ≡ range 5 6 ∷ []
unfolding at range
at_the_begin = refl

-- where it ends before it starts, and without a start, its end is the point
end_first : own_ranges (at End 3 true ∷ at Start 8 true ∷ []) (codes "0" ∷ []) ≡ range 2 3 ∷ []
unfolding at range
end_first = refl

-- without an end the reference is, and without that the start
reference_alone : own_ranges (at Start 2 true ∷ at Reference 6 true ∷ []) (codes "0" ∷ []) ≡ range 5 6 ∷ []
unfolding at range
reference_alone = refl

start_alone : own_ranges (at Start 2 true ∷ []) (codes "0" ∷ []) ≡ range 1 2 ∷ []
unfolding at range
start_alone = refl

-- a place in another story doesn't count, nor does a second comment with the same id, and one without places has none
of_other_stories : own_ranges (at Start 2 true ∷ record { anchor = End; id = codes "0"; story = 9; at = record { count = 12; near = true } } ∷ []) (codes "0" ∷ codes "0" ∷ codes "1" ∷ []) ≡ range 1 2 ∷ None ∷ None ∷ []
unfolding at range
of_other_stories = refl

-- a reply to a reply without places is where the first comment is
of_replies : range_at (range 3 4 ∷ None ∷ None ∷ []) (record { parents = None ∷ Some 0 ∷ Some 1 ∷ []; done = [] }) 2 ≡ range 3 4
unfolding range
of_replies = refl

-- two that reply to each other have none
in_a_ring : range_at (None ∷ None ∷ []) (record { parents = Some 1 ∷ Some 0 ∷ []; done = [] }) 0 ≡ None
in_a_ring = refl

-- ---- on revisions

span : ℕ → ℕ → ℕ → Span
span v from to = record { revision = v; from = from; to = to }

ranged : ℕ → ℕ → ℕ → Ranged
ranged n from to = record { comment = n; range = record { from = from; to = to } }

-- one that ends where a revision begins, or begins where it ends, isn't on it; of the others those that end last come first
beside_and_on : (remarks_on (span 1 5 8 ∷ []) (ranged 0 2 5 ∷ ranged 1 8 9 ∷ ranged 2 7 9 ∷ ranged 3 0 20 ∷ ranged 4 2 6 ∷ []) 1).kept ≡ 3 ∷ 2 ∷ 4 ∷ []
unfolding span ranged
beside_and_on = refl

-- one that is on both halves of a move comes once
on_both : (remarks_on (span 1 6 9 ∷ span 2 3 4 ∷ span 1 0 3 ∷ []) (ranged 0 2 7 ∷ ranged 1 3 6 ∷ ranged 2 8 9 ∷ []) 1).kept ≡ 0 ∷ 2 ∷ []
unfolding span ranged
on_both = refl

counted_once : count_of (remarks_on (span 1 6 9 ∷ span 2 3 4 ∷ span 1 0 3 ∷ []) (ranged 0 2 7 ∷ ranged 1 3 6 ∷ ranged 2 8 9 ∷ []) 1) ≡ 2
unfolding span ranged
counted_once = refl

-- those that end at one place come in the order of their begin, and then of their part
at_one_end : (remarks_on (span 1 3 4 ∷ []) (ranged 0 3 9 ∷ ranged 1 2 9 ∷ ranged 2 3 9 ∷ []) 1).kept ≡ 1 ∷ 0 ∷ 2 ∷ []
unfolding span ranged
at_one_end = refl

-- a revision that holds nothing has none
on_nothing : (remarks_on (span 1 3 4 ∷ []) (ranged 0 3 9 ∷ []) 2).kept ≡ []
unfolding span ranged
on_nothing = refl

-- of one member with 21 comments 20 are kept, and all are counted
many : ℕ → List Ranged
many zero = []
many (suc n) = ranged n n (n + 1) ∷ many n

kept_and_counted : length (remarks_on (span 1 0 30 ∷ []) (many 21) 1).kept ≡ 20
unfolding span ranged many
kept_and_counted = refl

counted : count_of (remarks_on (span 1 0 30 ∷ []) (many 21) 1) ≡ 21
unfolding span ranged many
counted = refl
