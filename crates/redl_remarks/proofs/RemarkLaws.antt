-- Dates of comments, and details with comments one after another.
use Rattle.std.proofs.Common.{◌≡◌, ◌∙◌, ◌+◌, ◌<◌, ◌≤◌, ◌≤ℤ◌, ◌+ℤ◌, ◌-ℤ◌, pos, ℕ, ℤ, Bool, true, false, List, [], ◌∷◌, ◌++◌, length, filter, slice_get, get_or, take, Option, Some, None, option_and_then, codes, int_le, if◌then◌else◌, IfSome, All, ap, sym, subst, refl, arith, append_assoc}
use lib.Signed.{le_z_yes}
use lib.Dec.{T}
use Rattle.std.proofs.lemmas.Bool.{and_parts}
use Rattle.std.proofs.lemmas.List.{append-nil, length_push, take_more}
use Rattle.std.proofs.lemmas.List.Concat.{flat_map-append}
use Rattle.std.proofs.lemmas.List.Elements.{All-map, filter_map-append}
use Rattle.std.specs.List.{cons_option, filter_map, slice_index_or}
use Rattle.std.specs.Option.{option_to_list}
use Rattle.redl_opc.specs.Elements.{elements_of}
use Rattle.redl_reading.specs.Lists.{behind}
use Rattle.redl_reading.specs.Steps.{◌>>=◌}
use Rattle.redl_stamp.specs.Attribute.{attribute_value}
use Rattle.redl_stamp.specs.Moment.{IsMoment, behind_fraction, date_at, first_moment, is_moment, last_moment, moment_of, time_at, within_years, zone_in}
use Rattle.redl_stamp.specs.Stamp.{seconds_of}
use Rattle.redl_tree.specs.Model.Nodes.{Nodes}
use Rattle.redl_commented.specs.Package.{package_remarks}
use Rattle.redl_commented.specs.declared.package.Commented.{Commented}
use Rattle.redl_comments.specs.Comments.{comment_of, comments_of, comments_story, is_comment, kids_if_any}
use Rattle.redl_comments.specs.Threads.{Threads, package_threads}
use Rattle.redl_comments.specs.declared.comment.Comment.{Comment}
use Rattle.redl_excerpts.specs.Details.{with_remarks}
use Rattle.redl_excerpts.specs.Remarks.{Remarks}
use Rattle.redl_excerpts.specs.declared.detail.Detail.{Detail}
use Rattle.redl_excerpts.specs.declared.remark.Remark.{Remark}
use Rattle.redl_remarks.specs.Ids.{spaced_id, spaced_ids}
use Rattle.redl_remarks.specs.Remarked.{is_set, remarked_from, remarks_of, remarks_on}
use Rattle.redl_remarks.specs.Inside.{IsDated, all_remarked, remarked, remarks_at, remarks_if}

-- ---- dates

le-yes : (a b : ℤ) → int_le a b ≡ true → a ≤ℤ b
le-yes a b e = le_z_yes (subst T (sym e) tt)

years-within : (seconds : ℤ) → IfSome (within_years seconds) IsMoment
years-within seconds = by (is_moment seconds) refl
  where
    by : (b : Bool) → is_moment seconds ≡ b → IfSome (if b then Some seconds else None) IsMoment
    by false is = tt
    by true is =
        let parts = and_parts (int_le first_moment seconds) (int_le seconds last_moment) is in
        (le-yes first_moment seconds parts.0, le-yes seconds last_moment parts.1)

-- what holds after a step holds of both
after_step : {A : Type 0} (o : Option A) (f : A → Option ℤ) → ((a : A) → IfSome (f a) IsMoment) → IfSome (o >>= f) IsMoment
after_step None f all = tt
after_step (Some a) f all = all a

moment-within : (text : List ℕ) → IfSome (moment_of text) IsMoment
unfolding moment_of
moment-within text =
    after_step (date_at text) _ (λ date. after_step (behind (codes "T") date.1) _ (λ rest. after_step (time_at rest) _ (λ time.
    after_step (behind_fraction time.1) _ (λ zone. after_step (zone_in zone) _ (λ ahead. years-within ((date.0 +ℤ pos time.0) -ℤ ahead))))))

seconds-within : (tail : List ℕ) → IfSome (seconds_of tail) IsMoment
seconds-within tail = by (attribute_value tail (codes "date"))
  where
    by : (o : Option (List ℕ)) → IfSome (option_and_then moment_of o) IsMoment
    by None = tt
    by (Some text) = moment-within text

-- a date of a comment that can be read lies in the years 0000 to 9999
pub comments-dated : (nodes : Nodes) → All IsDated (comments_of nodes)
comments-dated nodes =
    let all = filter is_comment (elements_of (kids_if_any (comments_story nodes))) in
    All-map IsDated comment_of all (λ k d within. seconds-within (slice_index_or all k d).tag.tail)

-- ---- comments one after another

-- one place more
pub remarks-more : (at : ℕ → Option Remark) (places : List ℕ) (i : ℕ) → i < length places → filter_map at (take (i + 1) places) ≡ filter_map at (take i places) ++ option_to_list (at (get_or places i 0))
remarks-more at places i within =
    let place = get_or places i 0 in
    ap (filter_map at) (take_more places i 0 within) ∙ filter_map-append at (take i places) (place ∷ [])
    ∙ ap (λ (remarks : List Remark). filter_map at (take i places) ++ remarks) (one (at place))
  where
    one : (remark : Option Remark) → cons_option remark [] ≡ option_to_list remark
    one None = refl
    one (Some remark) = refl

-- ---- ids

-- the id of one comment more
pub spaced-more : (comments : List Comment) (places : List ℕ) (i : ℕ) → i < length places → spaced_ids comments (take (i + 1) places) ≡ spaced_ids comments (take i places) ++ spaced_id (slice_get comments (get_or places i 0))
spaced-more comments places i within =
    let place = get_or places i 0 in
    ap (spaced_ids comments) (take_more places i 0 within)
    ∙ flat_map-append (λ p. spaced_id (slice_get comments p)) (take i places) (place ∷ [])
    ∙ ap (λ (ids : List ℕ). spaced_ids comments (take i places) ++ ids) (append-nil (spaced_id (slice_get comments place)))

-- ---- details one after another

module _ (found : Commented) (wanted : List Bool) (whole : List Detail) where
  -- one more, of the first of the details that are left
  pub remarked-more : (all more details left : List Detail) (detail now : Detail) → details ≡ detail ∷ left → now ≡ remarked found wanted (length all) detail → more ≡ all ++ now ∷ []
      → all ++ all_remarked found wanted (length all) details ≡ whole → more ++ all_remarked found wanted (length more) left ≡ whole
  remarked-more all more details left detail now front is grown so_far =
      let next = length all + 1 in
      let count : length more ≡ next = ap length grown ∙ length_push all now in
      ap (λ n. more ++ all_remarked found wanted n left) count ∙ ap (λ ds. ds ++ all_remarked found wanted next left) grown
      ∙ append_assoc all (now ∷ []) (all_remarked found wanted next left)
      ∙ ap (λ d. all ++ d ∷ all_remarked found wanted next left) is
      ∙ ap (λ ds. all ++ all_remarked found wanted (length all) ds) (sym front) ∙ so_far

  -- none is left
  pub remarked-done : (all left : List Detail) → left ≡ [] → all ++ all_remarked found wanted (length all) left ≡ whole → all ≡ whole
  remarked-done all left none so_far = sym (append-nil all) ∙ (rw none at so_far)

-- ---- what was found of a package

module _ (found : Commented) (nodes : Nodes) (wanted : List Bool) (count : ℕ) where
  abbrev AllOn : Type 0
  AllOn = (k : ℕ) → k < count → slice_get found.on.items k ≡ Some (package_remarks nodes (k + 1))

  remarks-found : (place : ℕ) → found.comments.items ≡ comments_of nodes → found.threads ≡ package_threads nodes → AllOn → place < count → remarks_at found place ≡ remarks_on nodes (place + 1)
  remarks-found place comments threads on within =
      let here = package_remarks nodes (place + 1) in
      ap (remarks_if found.comments.items found.threads) (on place within)
      ∙ ap (λ (cs : List Comment). remarks_of cs found.threads here) comments
      ∙ ap (λ (ts : Threads). remarks_of (comments_of nodes) ts here) threads

  pub all-found : (details : List Detail) (place : ℕ) → found.comments.items ≡ comments_of nodes → found.threads ≡ package_threads nodes → AllOn → place + length details ≤ count
      → all_remarked found wanted place details ≡ remarked_from nodes wanted place details
  all-found [] place comments threads on within = refl
  all-found (detail ∷ more) place comments threads on within =
      let own = λ (remarks : Remarks). if is_set wanted place then with_remarks detail remarks else detail in
      ap (λ (remarks : Remarks). own remarks ∷ all_remarked found wanted (place + 1) more) (remarks-found place comments threads on (omega arith))
      ∙ ap (λ (ds : List Detail). own (remarks_on nodes (place + 1)) ∷ ds) (all-found more (place + 1) comments threads on (omega arith))
