-- A date of a comment that can be read lies in the years 0000 to 9999.
use Rattle.std.proofs.Common.{◌≡◌, ◌≤ℤ◌, ◌+ℤ◌, ◌-ℤ◌, pos, ℕ, ℤ, Bool, true, false, List, filter, Option, Some, None, option_and_then, codes, int_le, if◌then◌else◌, IfSome, All, sym, subst, refl}
use lib.Signed.{le_z_yes}
use lib.Dec.{T}
use Rattle.std.proofs.lemmas.Bool.{and_parts}
use Rattle.std.proofs.lemmas.List.Elements.{All-map}
use Rattle.std.specs.List.{slice_index_or}
use Rattle.redl_opc.specs.Elements.{elements_of}
use Rattle.redl_reading.specs.Lists.{behind}
use Rattle.redl_reading.specs.Steps.{◌>>=◌}
use Rattle.redl_stamp.specs.Attribute.{attribute_value}
use Rattle.redl_stamp.specs.Moment.{IsMoment, behind_fraction, date_at, first_moment, is_moment, last_moment, moment_of, time_at, within_years, zone_in}
use Rattle.redl_stamp.specs.Stamp.{seconds_of}
use Rattle.redl_tree.specs.Model.Nodes.{Nodes}
use Rattle.redl_comments.specs.Comments.{comment_of, comments_of, comments_story, is_comment, kids_if_any}
use Rattle.redl_page_remarks.specs.Remarks.{IsDated}

le-yes : (a b : ℤ) → int_le a b ≡ true → a ≤ℤ b
le-yes a b e = le_z_yes (subst T (sym e) tt)

years-within : (seconds : ℤ) → IfSome (within_years seconds) IsMoment
years-within seconds = by (is_moment seconds) refl
  where
    by : (b : Bool) → is_moment seconds ≡ b → IfSome (if b then Some seconds else None) IsMoment
    by false is = tt
    by true is =
        let parts = and_parts (int_le first_moment seconds) (int_le seconds last_moment) is in
        (le-yes first_moment seconds parts.0, le-yes seconds last_moment parts.1)

-- what holds after a step holds of both
after_step : {A : Type 0} (o : Option A) (f : A → Option ℤ) → ((a : A) → IfSome (f a) IsMoment) → IfSome (o >>= f) IsMoment
after_step None f all = tt
after_step (Some a) f all = all a

moment-within : (text : List ℕ) → IfSome (moment_of text) IsMoment
unfolding moment_of
moment-within text =
    after_step (date_at text) _ (λ date. after_step (behind (codes "T") date.1) _ (λ rest. after_step (time_at rest) _ (λ time.
    after_step (behind_fraction time.1) _ (λ zone. after_step (zone_in zone) _ (λ ahead. years-within ((date.0 +ℤ pos time.0) -ℤ ahead))))))

seconds-within : (tail : List ℕ) → IfSome (seconds_of tail) IsMoment
seconds-within tail = by (attribute_value tail (codes "date"))
  where
    by : (o : Option (List ℕ)) → IfSome (option_and_then moment_of o) IsMoment
    by None = tt
    by (Some text) = moment-within text

pub comments-dated : (nodes : Nodes) → All IsDated (comments_of nodes)
comments-dated nodes =
    let all = filter is_comment (elements_of (kids_if_any (comments_story nodes))) in
    All-map IsDated comment_of all (λ k d within. seconds-within (slice_index_or all k d).tag.tail)
