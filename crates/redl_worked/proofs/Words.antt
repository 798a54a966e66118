-- The words of the commands (our own rule; `docs/PROGRAMS.md` lists them).
use Prim.Native.String.{String}
use Rattle.std.proofs.Common.{◌≡◌, ℕ, List, [], ◌∷◌, Bool, true, false, Option, None, Some, codes, map, pos, refl}
use Rattle.std.specs.Fmt.{digits}
use Rattle.std.specs.Str.{chars, is_utf8}
use lib.Utf8.{encode}
use Rattle.jiff_core.specs.Calendar.{day_count, days_from_civil, days_of_months, days_of_years}
use Rattle.redl_join.specs.declared.verdict.Verdict.TheVariants as verdict
use Rattle.redl_journal.specs.Journals.{is_visible}
use Rattle.redl_journal.specs.Reading.{is_reviewer, number_in}
use Rattle.redl_journal.specs.declared.entry.Word.TheVariants as word
use Rattle.redl_kinds.specs.KindNames.{kind_named}
use Rattle.redl_kinds.specs.Selections.{Selection, all, author, group, kind, numbers, span, edits}
use Rattle.redl_kinds.specs.declared.group.Group.TheVariants as groups
use Rattle.redl_kinds.specs.declared.lock.Lock.{Lock}
use Rattle.redl_kinds.specs.declared.lock.Lock.TheVariants as lock
use Rattle.redl_kinds.specs.declared.rev_kind.RevKind.TheVariants as kinds
use Rattle.redl_kinds.specs.declared.selection.Listed.TheVariants.{One, Range}
use Rattle.redl_reading.specs.Lists.{field_at}
use Rattle.redl_stamp.specs.Moment.{behind_fraction, date_at, moment_of, offset_in, time_at, zone_in}
use Rattle.redl_tree.specs.declared.kinds.Prop.TheVariants as props
use Rattle.redl_tree.specs.declared.kinds.Trace.TheVariants as trace
use Rattle.redl_words.specs.Commands.{Command, check, decide, join, list, page, report, resume, sample, settle, view_text, write}
use Rattle.redl_words.specs.Reading.Commands.{asked_in, check_in, command_in, decide_in, form_in, join_in, left_in, page_in, resume_in, sample_in, say_in, settle_in, text_in, verb_in, view_in, write_in}
use Rattle.redl_words.specs.Reading.Items.{deciding_option, gathered, locking_option, option_in, paging_option, reporting_option, with_option, with_plain_journal, with_lone, with_word}
use Rattle.redl_words.specs.Reading.Locks.{lock_in}
use Rattle.redl_words.specs.Reading.Ranks.{rank_in}
use Rattle.redl_words.specs.Reading.Selections.{group_named, item_in, labelled, moments_in, numbers_after, numbers_in, range_in, selection_in}
use Rattle.redl_words.specs.Reading.Shown.{only_in, verdict_in}
use Rattle.redl_words.specs.Reading.Sittings.{sittings_in}
use Rattle.redl_words.specs.Shown.{chosen, decided}
use Rattle.redl_words.specs.declared.command.View.TheVariants as view

-- the command of words of ASCII
abbrev asked : List String → Option Command
asked words = command_in (map (λ (word : String). codes word) words)

-- `settle accept P` and `settle reject P`: three words
settle_takes_a_say :
    (asked ("settle" ∷ "accept" ∷ "p" ∷ []) ≡ Some (settle true (codes "p")))
    × (asked ("settle" ∷ "reject" ∷ "p" ∷ []) ≡ Some (settle false (codes "p")))
    × (asked ("settle" ∷ "keep" ∷ "p" ∷ []) ≡ None)
    × (asked ("settle" ∷ "p" ∷ []) ≡ None)
    × (asked ("settle" ∷ "accept" ∷ []) ≡ None)
    × (asked ("settle" ∷ "accept" ∷ "p" ∷ "q" ∷ []) ≡ None)
    × (asked ("settle" ∷ "accept" ∷ "-p" ∷ []) ≡ None)
    × (asked ("settle" ∷ "accept" ∷ "" ∷ []) ≡ None)
unfolding command_in verb_in say_in settle_in view_in text_in form_in left_in asked_in page_in write_in decide_in resume_in join_in check_in sample_in with_plain_journal with_lone deciding_option reporting_option paging_option locking_option option_in with_option with_word gathered lock_in rank_in range_in item_in numbers_after numbers_in moments_in group_named labelled selection_in verdict_in only_in sittings_in kind_named is_visible number_in is_reviewer field_at moment_of date_at time_at behind_fraction offset_in zone_in is_utf8 chars encode digits days_from_civil day_count days_of_years days_of_months
settle_takes_a_say = (refl, refl, refl, refl, refl, refl, refl, refl)

-- `check P` and `sample N`; a number has no leading zeros and is at most 4294967295
check_and_sample_take_one_word :
    (asked ("check" ∷ "p" ∷ []) ≡ Some (check (codes "p")))
    × (asked ("check" ∷ []) ≡ None)
    × (asked ("check" ∷ "p" ∷ "q" ∷ []) ≡ None)
    × (asked ("check" ∷ "-p" ∷ []) ≡ None)
    × (asked ("sample" ∷ "0" ∷ []) ≡ Some (sample 0))
    × (asked ("sample" ∷ "4294967295" ∷ []) ≡ Some (sample 4294967295))
    × (asked ("sample" ∷ "4294967296" ∷ []) ≡ None)
    × (asked ("sample" ∷ "08" ∷ []) ≡ None)
    × (asked ("sample" ∷ "-1" ∷ []) ≡ None)
    × (asked ("sample" ∷ []) ≡ None)
    × (asked ("sample" ∷ "" ∷ []) ≡ None)
unfolding command_in verb_in say_in settle_in view_in text_in form_in left_in asked_in page_in write_in decide_in resume_in join_in check_in sample_in with_plain_journal with_lone deciding_option reporting_option paging_option locking_option option_in with_option with_word gathered lock_in rank_in range_in item_in numbers_after numbers_in moments_in group_named labelled selection_in verdict_in only_in sittings_in kind_named is_visible number_in is_reviewer field_at moment_of date_at time_at behind_fraction offset_in zone_in is_utf8 chars encode digits days_from_civil day_count days_of_years days_of_months
check_and_sample_take_one_word = (refl, refl, refl, refl, refl, refl, refl, refl, refl, refl, refl)

-- `text P --view NAME`, and `left P --format NAME`
text_and_left_have_views :
    (asked ("text" ∷ "p" ∷ []) ≡ Some (view_text (codes "p") view.Final))
    × (asked ("text" ∷ "p" ∷ "--view" ∷ "original" ∷ []) ≡ Some (view_text (codes "p") view.Original))
    × (asked ("text" ∷ "p" ∷ "--view" ∷ "final" ∷ []) ≡ Some (view_text (codes "p") view.Final))
    × (asked ("text" ∷ "p" ∷ "--view" ∷ "marked" ∷ []) ≡ Some (view_text (codes "p") view.Marked))
    × (asked ("text" ∷ "p" ∷ "--view" ∷ "bare" ∷ []) ≡ Some (view_text (codes "p") view.Bare))
    × (asked ("text" ∷ "p" ∷ "--view" ∷ "all" ∷ []) ≡ None)
    × (asked ("text" ∷ "p" ∷ "--view" ∷ []) ≡ None)
    × (asked ("text" ∷ "--view" ∷ "final" ∷ "p" ∷ []) ≡ None)
    × (asked ("left" ∷ "p" ∷ []) ≡ Some (view_text (codes "p") view.Left))
    × (asked ("left" ∷ "p" ∷ "--format" ∷ "json" ∷ []) ≡ Some (view_text (codes "p") view.LeftJson))
    × (asked ("left" ∷ "p" ∷ "--format" ∷ "tab" ∷ []) ≡ None)
unfolding command_in verb_in say_in settle_in view_in text_in form_in left_in asked_in page_in write_in decide_in resume_in join_in check_in sample_in with_plain_journal with_lone deciding_option reporting_option paging_option locking_option option_in with_option with_word gathered lock_in rank_in range_in item_in numbers_after numbers_in moments_in group_named labelled selection_in verdict_in only_in sittings_in kind_named is_visible number_in is_reviewer field_at moment_of date_at time_at behind_fraction offset_in zone_in is_utf8 chars encode digits days_from_civil day_count days_of_years days_of_months
text_and_left_have_views = (refl, refl, refl, refl, refl, refl, refl, refl, refl, refl, refl)

-- `join J ..`, one journal or more, and `resume P Q` with journals of both
join_takes_journals :
    (asked ("join" ∷ "j" ∷ []) ≡ Some (join (codes "j" ∷ [])))
    × (asked ("join" ∷ "j" ∷ "k" ∷ "j" ∷ []) ≡ Some (join (codes "j" ∷ codes "k" ∷ codes "j" ∷ [])))
    × (asked ("join" ∷ []) ≡ None)
    × (asked ("join" ∷ "j" ∷ "-k" ∷ []) ≡ None)
    × (asked ("resume" ∷ "p" ∷ "q" ∷ []) ≡ Some (resume (codes "p") (codes "q") [] []))
    × (asked ("resume" ∷ "p" ∷ "q" ∷ "k" ∷ "--journal" ∷ "j" ∷ "l" ∷ []) ≡ Some (resume (codes "p") (codes "q") (codes "j" ∷ []) (codes "k" ∷ codes "l" ∷ [])))
    × (asked ("resume" ∷ "p" ∷ []) ≡ None)
    × (asked ("resume" ∷ "p" ∷ "q" ∷ "--journal" ∷ []) ≡ None)
    × (asked ("resume" ∷ "p" ∷ "q" ∷ "--journal" ∷ "--journal" ∷ []) ≡ None)
    × (asked ("resume" ∷ "p" ∷ "q" ∷ "--lock" ∷ "a" ∷ []) ≡ None)
unfolding command_in verb_in say_in settle_in view_in text_in form_in left_in asked_in page_in write_in decide_in resume_in join_in check_in sample_in with_plain_journal with_lone deciding_option reporting_option paging_option locking_option option_in with_option with_word gathered lock_in rank_in range_in item_in numbers_after numbers_in moments_in group_named labelled selection_in verdict_in only_in sittings_in kind_named is_visible number_in is_reviewer field_at moment_of date_at time_at behind_fraction offset_in zone_in is_utf8 chars encode digits days_from_civil day_count days_of_years days_of_months
join_takes_journals = (refl, refl, refl, refl, refl, refl, refl, refl, refl, refl)

-- `write P`, locks and journals in any order; the word after an option is its value, whatever it is
write_takes_locks :
    (asked ("write" ∷ "p" ∷ []) ≡ Some (write (codes "p") [] []))
    × (asked ("write" ∷ "p" ∷ "j" ∷ "k" ∷ []) ≡ Some (write (codes "p") [] (codes "j" ∷ codes "k" ∷ [])))
    × (asked ("write" ∷ "p" ∷ "j" ∷ "--lock" ∷ "Ann" ∷ "k" ∷ []) ≡ Some (write (codes "p") (lock.Author (codes "Ann") ∷ []) (codes "j" ∷ codes "k" ∷ [])))
    × (asked ("write" ∷ "p" ∷ "--lock" ∷ "--lock" ∷ []) ≡ Some (write (codes "p") (lock.Author (codes "--lock") ∷ []) []))
    × (asked ("write" ∷ "p" ∷ "--lock-kind" ∷ "del" ∷ []) ≡ Some (write (codes "p") (lock.Kind (kinds.Content trace.Del) ∷ []) []))
    × (asked ("write" ∷ "p" ∷ "--lock-kind" ∷ "content" ∷ []) ≡ None)
    × (asked ("write" ∷ "p" ∷ "--lock-span" ∷ "1970-01-01T00:00:00Z/1970-01-02T00:00:00Z" ∷ []) ≡ Some (write (codes "p") (lock.Span (pos 0) (pos 86400) ∷ []) []))
    × (asked ("write" ∷ "p" ∷ "--lock" ∷ []) ≡ None)
    × (asked ("write" ∷ "p" ∷ "--lock=Ann" ∷ []) ≡ None)
    × (asked ("write" ∷ "p" ∷ "--format" ∷ "text" ∷ []) ≡ None)
    × (asked ("write" ∷ "p" ∷ "--" ∷ []) ≡ None)
    × (asked ("write" ∷ []) ≡ None)
unfolding command_in verb_in say_in settle_in view_in text_in form_in left_in asked_in page_in write_in decide_in resume_in join_in check_in sample_in with_plain_journal with_lone deciding_option reporting_option paging_option locking_option option_in with_option with_word gathered lock_in rank_in range_in item_in numbers_after numbers_in moments_in group_named labelled selection_in verdict_in only_in sittings_in kind_named is_visible number_in is_reviewer field_at moment_of date_at time_at behind_fraction offset_in zone_in is_utf8 chars encode digits days_from_civil day_count days_of_years days_of_months
write_takes_locks = (refl, refl, refl, refl, refl, refl, refl, refl, refl, refl, refl, refl)

-- `list P`: one format at most, locks, what is shown, and journals
list_takes_a_format :
    (asked ("list" ∷ "p" ∷ []) ≡ Some (list (codes "p") (codes "text") [] [] []))
    × (asked ("list" ∷ "p" ∷ "--format" ∷ "tab" ∷ "j" ∷ []) ≡ Some (list (codes "p") (codes "tab") [] (codes "j" ∷ []) []))
    × (asked ("list" ∷ "p" ∷ "--format" ∷ "a" ∷ "--format" ∷ "a" ∷ []) ≡ None)
    × (asked ("list" ∷ "p" ∷ "--only" ∷ "open" ∷ []) ≡ Some (list (codes "p") (codes "text") [] [] (decided verdict.Undecided ∷ [])))
    × (asked ("list" ∷ "p" ∷ "--only" ∷ "disputed" ∷ []) ≡ Some (list (codes "p") (codes "text") [] [] (decided verdict.Disputed ∷ [])))
    × (asked ("list" ∷ "p" ∷ "--only" ∷ "kind:ins" ∷ []) ≡ Some (list (codes "p") (codes "text") [] [] (chosen (kind (kinds.Content trace.Ins)) ∷ [])))
    × (asked ("list" ∷ "p" ∷ "--only" ∷ "closed" ∷ []) ≡ None)
    × (asked ("list" ∷ "p" ∷ "--by" ∷ "kind" ∷ []) ≡ None)
unfolding command_in verb_in say_in settle_in view_in text_in form_in left_in asked_in page_in write_in decide_in resume_in join_in check_in sample_in with_plain_journal with_lone deciding_option reporting_option paging_option locking_option option_in with_option with_word gathered lock_in rank_in range_in item_in numbers_after numbers_in moments_in group_named labelled selection_in verdict_in only_in sittings_in kind_named is_visible number_in is_reviewer field_at moment_of date_at time_at behind_fraction offset_in zone_in is_utf8 chars encode digits days_from_civil day_count days_of_years days_of_months
list_takes_a_format = (refl, refl, refl, refl, refl, refl, refl, refl)

-- `report P`, `--by kind` once at most, and `page P` with a title and a rank, and with its pictures or not
report_goes_by_kind :
    (asked ("report" ∷ "p" ∷ []) ≡ Some (report (codes "p") (codes "text") false [] []))
    × (asked ("report" ∷ "p" ∷ "--by" ∷ "kind" ∷ "j" ∷ []) ≡ Some (report (codes "p") (codes "text") true [] (codes "j" ∷ [])))
    × (asked ("report" ∷ "p" ∷ "--by" ∷ "day" ∷ []) ≡ None)
    × (asked ("report" ∷ "p" ∷ "--by" ∷ "kind" ∷ "--by" ∷ "kind" ∷ []) ≡ None)
    × (asked ("page" ∷ "p" ∷ []) ≡ Some (page (codes "p") None None true [] []))
    × (asked ("page" ∷ "p" ∷ "--title" ∷ "A b" ∷ "--rank" ∷ "9" ∷ "j" ∷ []) ≡ Some (page (codes "p") (Some (codes "A b")) (Some 9) true [] (codes "j" ∷ [])))
    × (asked ("page" ∷ "p" ∷ "--rank" ∷ "10" ∷ []) ≡ None)
    × (asked ("page" ∷ "p" ∷ "--rank" ∷ "1" ∷ "--rank" ∷ "1" ∷ []) ≡ None)
    × (asked ("page" ∷ "p" ∷ "--title" ∷ []) ≡ None)
    × (asked ("page" ∷ "p" ∷ "--no-pictures" ∷ "j" ∷ []) ≡ Some (page (codes "p") None None false [] (codes "j" ∷ [])))
    × (asked ("page" ∷ "p" ∷ "--title" ∷ "--no-pictures" ∷ []) ≡ Some (page (codes "p") (Some (codes "--no-pictures")) None true [] []))
    × (asked ("page" ∷ "p" ∷ "--no-pictures" ∷ "--no-pictures" ∷ []) ≡ None)
    × (asked ("write" ∷ "p" ∷ "--no-pictures" ∷ []) ≡ None)
unfolding command_in verb_in say_in settle_in view_in text_in form_in left_in asked_in page_in write_in decide_in resume_in join_in check_in sample_in with_plain_journal with_lone deciding_option reporting_option paging_option locking_option option_in with_option with_word gathered lock_in rank_in range_in item_in numbers_after numbers_in moments_in group_named labelled selection_in verdict_in only_in sittings_in kind_named is_visible number_in is_reviewer field_at moment_of date_at time_at behind_fraction offset_in zone_in is_utf8 chars encode digits days_from_civil day_count days_of_years days_of_months
report_goes_by_kind = (refl, refl, refl, refl, refl, refl, refl, refl, refl, refl, refl, refl, refl)

-- `decide P REVIEWER`: one choice or more; a rank of at most 9, once; a reviewer as a journal may hold
decide_takes_choices :
    (asked ("decide" ∷ "p" ∷ "Ann" ∷ "--accept" ∷ "all" ∷ []) ≡ Some (decide (codes "p") (codes "Ann") [] [] ((word.Accept, all) ∷ []) 0))
    × (asked ("decide" ∷ "p" ∷ "Ann" ∷ "--reject" ∷ "all" ∷ "--withdraw" ∷ "all" ∷ []) ≡ Some (decide (codes "p") (codes "Ann") [] [] ((word.Reject, all) ∷ (word.Withdraw, all) ∷ []) 0))
    × (asked ("decide" ∷ "p" ∷ "Ann" ∷ "--accept" ∷ "all" ∷ "--rank" ∷ "9" ∷ []) ≡ Some (decide (codes "p") (codes "Ann") [] [] ((word.Accept, all) ∷ []) 9))
    × (asked ("decide" ∷ "p" ∷ "-A" ∷ "--accept" ∷ "all" ∷ []) ≡ Some (decide (codes "p") (codes "-A") [] [] ((word.Accept, all) ∷ []) 0))
    × (asked ("decide" ∷ "p" ∷ "Ann" ∷ "--journal" ∷ "j" ∷ "--accept" ∷ "all" ∷ []) ≡ Some (decide (codes "p") (codes "Ann") (codes "j" ∷ []) [] ((word.Accept, all) ∷ []) 0))
    × (asked ("decide" ∷ "p" ∷ "Ann" ∷ []) ≡ None)
    × (asked ("decide" ∷ "p" ∷ "Ann" ∷ "--rank" ∷ "1" ∷ []) ≡ None)
    × (asked ("decide" ∷ "p" ∷ "Ann" ∷ "--accept" ∷ "all" ∷ "--rank" ∷ "10" ∷ []) ≡ None)
    × (asked ("decide" ∷ "p" ∷ "Ann" ∷ "--accept" ∷ "all" ∷ "j" ∷ []) ≡ None)
    × (asked ("decide" ∷ "p" ∷ "" ∷ "--accept" ∷ "all" ∷ []) ≡ None)
    × (asked ("decide" ∷ "p" ∷ "A\tB" ∷ "--accept" ∷ "all" ∷ []) ≡ None)
unfolding command_in verb_in say_in settle_in view_in text_in form_in left_in asked_in page_in write_in decide_in resume_in join_in check_in sample_in with_plain_journal with_lone deciding_option reporting_option paging_option locking_option option_in with_option with_word gathered lock_in rank_in range_in item_in numbers_after numbers_in moments_in group_named labelled selection_in verdict_in only_in sittings_in kind_named is_visible number_in is_reviewer field_at moment_of date_at time_at behind_fraction offset_in zone_in is_utf8 chars encode digits days_from_civil day_count days_of_years days_of_months
decide_takes_choices = (refl, refl, refl, refl, refl, refl, refl, refl, refl, refl, refl)

-- what may be chosen: all, numbers and ranges, edits, an author, a kind or a group of kinds, a span of time
selections_choose_revisions :
    (asked ("decide" ∷ "p" ∷ "Ann" ∷ "--accept" ∷ "numbers:1" ∷ []) ≡ Some (decide (codes "p") (codes "Ann") [] [] ((word.Accept, numbers (One 1 ∷ [])) ∷ []) 0))
    × (asked ("decide" ∷ "p" ∷ "Ann" ∷ "--accept" ∷ "numbers:1,4-6" ∷ []) ≡ Some (decide (codes "p") (codes "Ann") [] [] ((word.Accept, numbers (One 1 ∷ Range 4 6 ∷ [])) ∷ []) 0))
    × (asked ("decide" ∷ "p" ∷ "Ann" ∷ "--accept" ∷ "numbers:6-6" ∷ []) ≡ Some (decide (codes "p") (codes "Ann") [] [] ((word.Accept, numbers (Range 6 6 ∷ [])) ∷ []) 0))
    × (asked ("decide" ∷ "p" ∷ "Ann" ∷ "--accept" ∷ "numbers:6-4" ∷ []) ≡ None)
    × (asked ("decide" ∷ "p" ∷ "Ann" ∷ "--accept" ∷ "numbers:" ∷ []) ≡ None)
    × (asked ("decide" ∷ "p" ∷ "Ann" ∷ "--accept" ∷ "numbers:1," ∷ []) ≡ None)
    × (asked ("decide" ∷ "p" ∷ "Ann" ∷ "--accept" ∷ "numbers:01" ∷ []) ≡ None)
    × (asked ("decide" ∷ "p" ∷ "Ann" ∷ "--accept" ∷ "edit:12" ∷ []) ≡ Some (decide (codes "p") (codes "Ann") [] [] ((word.Accept, edits (One 12 ∷ [])) ∷ []) 0))
    × (asked ("decide" ∷ "p" ∷ "Ann" ∷ "--accept" ∷ "edit:3,5-7" ∷ []) ≡ Some (decide (codes "p") (codes "Ann") [] [] ((word.Accept, edits (One 3 ∷ Range 5 7 ∷ [])) ∷ []) 0))
    × (asked ("decide" ∷ "p" ∷ "Ann" ∷ "--accept" ∷ "edit:" ∷ []) ≡ None)
    × (asked ("decide" ∷ "p" ∷ "Ann" ∷ "--accept" ∷ "edits:3" ∷ []) ≡ None)
    × (asked ("decide" ∷ "p" ∷ "Ann" ∷ "--accept" ∷ "author:Bob Hay" ∷ []) ≡ Some (decide (codes "p") (codes "Ann") [] [] ((word.Accept, author (codes "Bob Hay")) ∷ []) 0))
    × (asked ("decide" ∷ "p" ∷ "Ann" ∷ "--accept" ∷ "author:" ∷ []) ≡ Some (decide (codes "p") (codes "Ann") [] [] ((word.Accept, author []) ∷ []) 0))
    × (asked ("decide" ∷ "p" ∷ "Ann" ∷ "--accept" ∷ "kind:move" ∷ []) ≡ Some (decide (codes "p") (codes "Ann") [] [] ((word.Accept, kind kinds.Move) ∷ []) 0))
    × (asked ("decide" ∷ "p" ∷ "Ann" ∷ "--accept" ∷ "kind:mark-to" ∷ []) ≡ Some (decide (codes "p") (codes "Ann") [] [] ((word.Accept, kind (kinds.Mark trace.To)) ∷ []) 0))
    × (asked ("decide" ∷ "p" ∷ "Ann" ∷ "--accept" ∷ "kind:cell-props" ∷ []) ≡ Some (decide (codes "p") (codes "Ann") [] [] ((word.Accept, kind (kinds.Change props.Cell)) ∷ []) 0))
    × (asked ("decide" ∷ "p" ∷ "Ann" ∷ "--accept" ∷ "kind:props" ∷ []) ≡ Some (decide (codes "p") (codes "Ann") [] [] ((word.Accept, group groups.Props) ∷ []) 0))
    × (asked ("decide" ∷ "p" ∷ "Ann" ∷ "--accept" ∷ "kind:row-move" ∷ []) ≡ None)
    × (asked ("decide" ∷ "p" ∷ "Ann" ∷ "--accept" ∷ "span:2024-05-06T07:08:09Z/2024-05-06T09:08:10+02:00" ∷ []) ≡ Some (decide (codes "p") (codes "Ann") [] [] ((word.Accept, span (pos 1714979289) (pos 1714979290)) ∷ []) 0))
    × (asked ("decide" ∷ "p" ∷ "Ann" ∷ "--accept" ∷ "span:2024-05-06/2024-05-07" ∷ []) ≡ None)
    × (asked ("decide" ∷ "p" ∷ "Ann" ∷ "--accept" ∷ "All" ∷ []) ≡ None)
    × (asked ("decide" ∷ "p" ∷ "Ann" ∷ "--accept" ∷ "1" ∷ []) ≡ None)
unfolding command_in verb_in say_in settle_in view_in text_in form_in left_in asked_in page_in write_in decide_in resume_in join_in check_in sample_in with_plain_journal with_lone deciding_option reporting_option paging_option locking_option option_in with_option with_word gathered lock_in rank_in range_in item_in numbers_after numbers_in moments_in group_named labelled selection_in verdict_in only_in sittings_in kind_named is_visible number_in is_reviewer field_at moment_of date_at time_at behind_fraction offset_in zone_in is_utf8 chars encode digits days_from_civil day_count days_of_years days_of_months
selections_choose_revisions = (refl, refl, refl, refl, refl, refl, refl, refl, refl, refl, refl, refl, refl, refl, refl, refl, refl, refl, refl, refl, refl, refl)

-- other words are no command
no_other_words_are_commands :
    (asked [] ≡ None)
    × (asked ("" ∷ []) ≡ None)
    × (asked ("accept" ∷ "p" ∷ []) ≡ None)
    × (asked ("Settle" ∷ "accept" ∷ "p" ∷ []) ≡ None)
    × (asked ("--help" ∷ []) ≡ None)
unfolding command_in verb_in say_in settle_in view_in text_in form_in left_in asked_in page_in write_in decide_in resume_in join_in check_in sample_in with_plain_journal with_lone deciding_option reporting_option paging_option locking_option option_in with_option with_word gathered lock_in rank_in range_in item_in numbers_after numbers_in moments_in group_named labelled selection_in verdict_in only_in sittings_in kind_named is_visible number_in is_reviewer field_at moment_of date_at time_at behind_fraction offset_in zone_in is_utf8 chars encode digits days_from_civil day_count days_of_years days_of_months
no_other_words_are_commands = (refl, refl, refl, refl, refl)
