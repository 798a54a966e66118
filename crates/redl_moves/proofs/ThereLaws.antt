-- The four markers of a paired move are among the markers of the story, at the places that their positions give.
use Rattle.std.proofs.Common.{◌≡◌, ◌∙◌, ap, sym, ℕ, suc, inl, inr, List, [], ◌∷◌, Some, slice_get, filter}
use Rattle.redl_tree.specs.Revisions.Moves.{from_start, from_end, to_start, to_end, Marking, Range, Pair, range_with_name, pair_of, pairs, is_open_at, pair_at, place_of}
use Rattle.redl_moves.specs.Marks.{RisesFrom}
use Rattle.redl_moves.specs.declared.opens.Side.TheVariants.{Source, Target}
use Rattle.redl_moves.proofs.PlaceLaws.{place-at}
use Rattle.redl_moves.proofs.StandingLaws.{range-end, pair_from-some}
use Rattle.redl_moves.proofs.AgainLaws.{In, filter-in, map-in, latest-some, named, start-again}

-- the marker is found at the place that its position gives
abbrev pub IsAtPlace : List Marking → Marking → Type 0
IsAtPlace marks mark = slice_get marks (place_of marks mark.at) ≡ Some mark

-- and so are the four of a move
pub record IsThere (marks : List Marking) (pair : Pair) : Type 0 where
  pub source_start : IsAtPlace marks pair.source.start
  pub source_end : IsAtPlace marks pair.source.end
  pub target_start : IsAtPlace marks pair.target.start
  pub target_end : IsAtPlace marks pair.target.end

in-place : (marks : List Marking) (mark : Marking) → In mark marks → (i : ℕ) × (slice_get marks i ≡ Some mark)
in-place [] mark i = absurd i
in-place (m ∷ marks) mark (inl is) = (0, ap Some (sym is))
in-place (m ∷ marks) mark (inr j) = let r = in-place marks mark j in (suc r.0, r.1)

module _ (marks : List Marking) (rises : RisesFrom 0 marks) where
  at-place : (mark : Marking) → (i : ℕ) × (slice_get marks i ≡ Some mark) → IsAtPlace marks mark
  at-place mark there = ap (slice_get marks) (place-at 0 marks there.0 mark rises there.1).1 ∙ there.1

  -- both ranges of a pair have their starts and ends among the markers
  pub pair-there : (pair : Pair) → In pair (pairs marks) → IsThere marks pair
  pair-there pair i =
      let own = map-in (pair_of marks) marks pair i in
      let name = named marks from_start own.0 pair own.2 in
      let both = pair_from-some (range_with_name from_start from_end marks name.0) (range_with_name to_start to_end marks name.0) pair name.3 in
      record {
        source_start = at-place pair.source.start (in-place marks pair.source.start (start-again marks Source name.0 pair name.3).0);
        source_end = at-place pair.source.end (range-end from_start from_end marks name.0 pair.source both.0);
        target_start = at-place pair.target.start (in-place marks pair.target.start (start-again marks Target name.0 pair name.3).0);
        target_end = at-place pair.target.end (range-end to_start to_end marks name.0 pair.target both.1);
      }

  -- the source start of a paired move is found at its place
  pub start-there : (pair : Pair) → In pair (pairs marks) → IsAtPlace marks pair.source.start
  start-there pair i = (pair-there pair i).source_start

  -- and so of the move that is open at a position
  pub open-there : (range_of : Pair → Range) (at : ℕ) (pair : Pair) → pair_at range_of at (pairs marks) ≡ Some pair → IsThere marks pair
  open-there range_of at pair e =
      pair-there pair
      (filter-in (λ p. is_open_at at (range_of p)) (pairs marks) pair (latest-some range_of (filter (λ p. is_open_at at (range_of p)) (pairs marks)) pair e).0).0
