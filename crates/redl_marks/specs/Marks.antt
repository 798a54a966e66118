-- The marks of a text (our own rule): what was done to it, by whom and when. They are a set, kept in order of what was done, the
-- author and the minute. Authors and minutes are those that are written, before references are read.
use Rattle.std.specs.Prelude.{ℕ, List, [], ◌∷◌, Bool, true, false, ◌==◌, ◌&&◌, length, bytes_eq, if◌then◌else◌}
use Rattle.std.specs.declared.cmp.Ordering.{Ordering}
use Rattle.std.specs.Cmp.Lexicographic.{slice_cmp}
use Rattle.std.specs.Ordering.{nat_cmp, on, then_cmp}
use Rattle.std.specs.BTreeSet.{insert_key}
use Rattle.redl_io.specs.Limits.{depth}
use Rattle.redl_marks.specs.declared.sign.Sign.{Sign}
use Rattle.redl_marks.specs.declared.sign.Sign.TheVariants.{Inserted, Deleted, MovedTo, MovedFrom, Formatted}

-- who made a change, and the minute on the clock when: `YYYY-MM-DDThh:mm`, without seconds and zone
pub record Stamp : Type 0 where
  pub author : List ℕ
  pub minute : List ℕ

-- what was done, by whom and when
pub record Mark : Type 0 where
  pub sign : Sign
  pub stamp : Stamp

-- marks in their order, each once
abbrev pub Marks : Type 0
Marks = List Mark

abbrev pub no_marks : Marks
no_marks = []

-- ---- the order of marks

abbrev pub sign_place : Sign → ℕ
sign_place Inserted = 0
sign_place Deleted = 1
sign_place MovedTo = 2
sign_place MovedFrom = 3
sign_place Formatted = 4

abbrev pub mark_order : Mark → Mark → Ordering
mark_order =
    then_cmp (on (λ mark. sign_place mark.sign) nat_cmp)
    (then_cmp (on (λ mark. mark.stamp.author) (slice_cmp nat_cmp)) (on (λ mark. mark.stamp.minute) (slice_cmp nat_cmp)))

-- These marks and one more. No package that is read has elements nested so deep that a mark is left out.
abbrev pub with_mark : Marks → Mark → Marks
with_mark marks mark = if length marks == depth then marks else insert_key mark_order marks mark

-- ---- equal marks

abbrev pub same_mark : Mark → Mark → Bool
same_mark a b =
    sign_place a.sign == sign_place b.sign && (bytes_eq a.stamp.author b.stamp.author && bytes_eq a.stamp.minute b.stamp.minute)

abbrev pub same_marks : Marks → Marks → Bool
same_marks [] [] = true
same_marks (a ∷ more) (b ∷ others) = same_mark a b && same_marks more others
same_marks _ _ = false
