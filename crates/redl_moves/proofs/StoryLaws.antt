-- What the index of a story answers.
use Rattle.std.proofs.Common.{◌≡◌, ◌∙◌, refl, ap, sym, ℕ, List, [], Option, Some, None, nat_eq, option_map, slice_get, map}
use Rattle.indexmap.specs.IndexMap.{get}
use Rattle.redl_tree.specs.Revisions.Moves as moves
use Rattle.redl_tree.specs.Revisions.Moves.{Marking, Pair, pairs, pair_at, by_places, paired_moves}
use Rattle.redl_moves.specs.Marks.{move_of, RisesFrom}
use Rattle.redl_moves.specs.Opens.{opens_over}
use Rattle.redl_moves.specs.Inside.Owners.{owner_over}
use Rattle.redl_moves.specs.Standing.{range_on, before, IsApart, pair_open}
use Rattle.redl_moves.specs.Starts.{at_of, start_in}
use Rattle.redl_moves.specs.Inside.Stories.{item_of, start_of_move, open_in, IsMoveIndex}
use Rattle.redl_moves.specs.declared.marker.Move.{Move}
use Rattle.redl_moves.specs.declared.opens.Side.{Side}
use Rattle.redl_moves.specs.declared.opens.Side.TheVariants.{Source, Target}
use Rattle.redl_moves.specs.declared.move_index.MoveIndex.{MoveIndex}
use Rattle.redl_moves.proofs.AgainLaws.{pair_at-open}
use Rattle.redl_moves.proofs.BeforeLaws.{before-within, mapped-item}
use Rattle.redl_moves.proofs.OwnerLaws.{owner-pairs}
use Rattle.redl_moves.proofs.StandingLaws.{open-in_list}
use Rattle.redl_moves.proofs.ThereLaws.{IsThere, open-there}

module _ (marks : List Marking) where
  -- a move by places begins where the paired move begins
  start-open : (found : Option Move) (latest : Option Pair) → ((p : Pair) → latest ≡ Some p → IsThere marks p) →
      option_map move_of found ≡ option_map (by_places marks) latest → option_map (start_of_move marks) found ≡ option_map (start_in marks) latest
  start-open None None each e = refl
  start-open None (Some p) each e = absurd (cc)
  start-open (Some m) None each e = absurd (cc)
  start-open (Some m) (Some p) each e =
      let is : move_of m ≡ by_places marks p = cc in
      ap (λ (x : moves.Move). Some (record { at = at_of (slice_get marks x.from_start); place = x.from_start })) is
      ∙ ap (λ o. Some (record { at = at_of o; place = (by_places marks p).from_start })) (each p refl).source_start

  module _ (rises : RisesFrom 0 marks) where
    -- the list of open moves, at the number of markers before a position
    pub opens-start : (side : Side) (opens : List (Option Move)) → map (option_map move_of) opens ≡ opens_over side marks [] 0 marks →
        (at : ℕ) → IsApart at marks →
        option_map (start_of_move marks) (item_of (slice_get opens (before at marks))) ≡ option_map (start_in marks) (pair_at (range_on side) at (pairs marks))
    opens-start side opens index at apart =
        let there = open-in_list marks rises at apart side (before-within at marks) in
        let item = mapped-item (option_map move_of) opens (before at marks) (option_map (by_places marks) (pair_open side at marks))
        (ap (λ os. slice_get os (before at marks)) index ∙ there) in
        ap (λ o. option_map (start_of_move marks) (item_of o)) item.1
        ∙ start-open item.0 (pair_at (range_on side) at (pairs marks)) (open-there marks rises (range_on side) at)
        (item.2 ∙ ap (option_map (by_places marks)) (sym (pair_at-open marks side at rises)))

    pub index-is : (index : MoveIndex) → map (option_map move_of) index.sources.items ≡ opens_over Source marks [] 0 marks →
        map (option_map move_of) index.targets.items ≡ opens_over Target marks [] 0 marks →
        ((at : ℕ) → get nat_eq index.owners at ≡ owner_over marks at None (paired_moves marks)) → IsMoveIndex marks index
    index-is index sources targets owners = record {
      opens = by;
      owners = λ at. owners at ∙ owner-pairs marks at rises;
    }
      where
        by : (side : Side) (at : ℕ) → IsApart at marks →
            option_map (start_of_move marks) (open_in side index (before at marks)) ≡ option_map (start_in marks) (pair_at (range_on side) at (pairs marks))
        by Source at apart = opens-start Source index.sources.items sources at apart
        by Target at apart = opens-start Target index.targets.items targets at apart
