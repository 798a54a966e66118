-- The ranges of comments (ECMA-376 Part 1, 17.13.4; what a point is on is our own rule): the units between the places of a comment. A
-- comment at a point is on the unit before it, as word processors put it, or else on the unit after it.
use Rattle.std.specs.Prelude.{ℕ, zero, suc, ◌+◌, ◌-◌, ◌==◌, nat_lt, Bool, false, List, [], ◌∷◌, ◌++◌, bytes_eq, slice_get, unwrap_or, Option, Some, None, option_and_then, if◌then◌else◌}
use Rattle.redl_comments.specs.Threads.{Threads, parent_at, place_of}
use Rattle.redl_reading.specs.Steps.{or_else}
use Rattle.redl_spans.specs.declared.place.Anchor.{Anchor}
use Rattle.redl_spans.specs.declared.place.Anchor.TheVariants.{Start, End, Reference}
use Rattle.redl_spans.specs.declared.place.CommentPlace.{CommentPlace}
use Rattle.redl_spans.specs.declared.place.Position.{Position}
use Rattle.redl_commented.specs.declared.found.Found.{Found}
use Rattle.redl_commented.specs.declared.range.Range.{Range}
use Rattle.redl_commented.specs.declared.range.Ranged.{Ranged}

-- ---- the places of one comment: the first of each, in the story of the first of all

abbrev pub noted : Anchor → Position → Found → Found
noted Start at found = record found { start = or_else found.start (Some at) }
noted End at found = record found { end = or_else found.end (Some at) }
noted Reference at found = record found { reference = or_else found.reference (Some at) }

abbrev pub nothing_in : ℕ → Found
nothing_in story = record { story = story; start = None; end = None; reference = None }

-- with one place more
abbrev pub with_place : Option Found → CommentPlace → Found
with_place None place = noted place.anchor place.at (nothing_in place.story)
with_place (Some found) place = if place.story == found.story then noted place.anchor place.at found else found

abbrev pub found_after : Option Found → List CommentPlace → List ℕ → Option Found
found_after found [] id = found
found_after found (place ∷ more) id = found_after (if bytes_eq place.id id then Some (with_place found place) else found) more id

-- those of the comment with this id among these places
abbrev pub found_in : List CommentPlace → List ℕ → Option Found
found_in places id = found_after None places id

-- ---- ranges

abbrev pub point : Position → Range
point at = if at.near then record { from = at.count - 1; to = at.count } else record { from = at.count; to = at.count + 1 }

-- between a start and an end: where no unit is between them, the end is a point
abbrev pub between : Position → Position → Range
between start end = if nat_lt start.count end.count then record { from = start.count; to = end.count } else point end

-- without one of the two, the point is the end, else the reference, else the start
abbrev pub range_of : Option Position → Option Position → Option Position → Option Range
range_of (Some start) (Some end) reference = Some (between start end)
range_of None (Some end) reference = Some (point end)
range_of start None (Some reference) = Some (point reference)
range_of (Some start) None None = Some (point start)
range_of None None None = None

abbrev pub range_found : Found → Option Range
range_found found = range_of found.start found.end found.reference

-- ---- those of all comments, which are known by their places in their part, from 0

abbrev pub is_at : ℕ → Option ℕ → Bool
is_at n None = false
is_at n (Some m) = n == m

-- the range of a comment that has places of its own; of several comments with one id the first counts
abbrev pub own_range : List CommentPlace → List (List ℕ) → ℕ → List ℕ → Option Range
own_range places ids n id = if is_at n (place_of ids id) then option_and_then range_found (found_in places id) else None

abbrev pub own_ranges_from : List CommentPlace → List (List ℕ) → ℕ → List (List ℕ) → List (Option Range)
own_ranges_from places ids n [] = []
own_ranges_from places ids n (id ∷ more) = own_range places ids n id ∷ own_ranges_from places ids (n + 1) more

abbrev pub own_ranges : List CommentPlace → List (List ℕ) → List (Option Range)
own_ranges places ids = own_ranges_from places ids 0 ids

abbrev pub own_at : List (Option Range) → ℕ → Option Range
own_at own n = unwrap_or (slice_get own n) None

-- that of the first of the next comments of a thread, so many, that has one
abbrev pub range_along : ℕ → List (Option Range) → Threads → Option ℕ → Option Range
range_along zero own threads place = None
range_along (suc n) own threads None = None
range_along (suc n) own threads (Some place) = or_else (own_at own place) (range_along n own threads (parent_at threads place))

-- a reply without places has the range of the comment that it replies to; a hundred comments of a thread are looked at
abbrev pub range_at : List (Option Range) → Threads → ℕ → Option Range
range_at own threads place = range_along 100 own threads (Some place)

abbrev pub ranged_if : ℕ → Option Range → List Ranged
ranged_if n None = []
ranged_if n (Some range) = record { comment = n; range = range } ∷ []

-- those of the comments behind the first n, of which there are as many as here
abbrev pub ranged_from : List (Option Range) → Threads → ℕ → List (Option Range) → List Ranged
ranged_from own threads n [] = []
ranged_from own threads n (range ∷ more) = ranged_if n (range_at own threads n) ++ ranged_from own threads (n + 1) more

-- the comments that have a range, in the order of their part
abbrev pub ranged_of : List (Option Range) → Threads → List Ranged
ranged_of own threads = ranged_from own threads 0 own
