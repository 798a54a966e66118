-- One journal of two sittings is the same for the journals of both in any order and with repeats.
use Rattle.std.proofs.Common.{◌≡◌, ℕ, List, Bool, true, false, cond, Result, Ok, Err, sym, ap, ◌∙◌, subst}
use Rattle.std.specs.Str.{bytes_eq}
use Rattle.redl_outcome.proofs.LeftLaws.{is_made}
use Rattle.redl_outcome.specs.AnyOrder.{OrderOfSittings}
use Rattle.redl_outcome.specs.Brought.{Brought}
use Rattle.redl_commands_shown.specs.Resume.{first_sitting, left_by, of_second, resumed, resumption, second_sitting, sitting_on}
use Rattle.redl_commands.specs.Write.{left_text}
use Rattle.redl_outcome.specs.Outcome.{writing_of}
use Rattle.redl_commands.specs.Writing.{Writing, outcome_of}
use Rattle.redl_inputs.proofs.AnyOrder.{sits_same}
use Rattle.redl_inputs.proofs.StepLaws.{both_ok, same_ok}
use Rattle.redl_inputs.specs.Admission.{Admission, sitting_over}
use Rattle.redl_inputs.specs.Journals.{AreSame}
use Rattle.redl_inputs.specs.Packages.{package_file, package_in}
use Rattle.redl_inputs.specs.Readers.{Reader}
use Rattle.redl_inputs.specs.Steps.{◌>>=◌}
use Rattle.redl_io.specs.Limits.{journal_bytes}
use Rattle.redl_io.specs.Shelf.{Files}
use Rattle.redl_lines.specs.Failures.{Failure, caused, not_written}
use Rattle.redl_session.specs.Sessions.{SessionState}
use Rattle.redl_tree.specs.Model.Nodes.{Nodes}

-- ---- one sitting

-- the sittings over one package, however it is read
over_same : (reader : Reader) (files : Files) (read : Result Nodes Failure) (most left : ℕ) (names others : List (List ℕ)) (whole : List ℕ) (one other : Admission × ℕ) → AreSame names others
    → read >>= sitting_over reader files most names whole ≡ Ok one → read >>= sitting_over reader files left others whole ≡ Ok other → one.0 ≡ other.0
over_same reader files read most left names others whole one other same is too =
    let first = both_ok read (sitting_over reader files most names whole) one is in
    let again = both_ok read (sitting_over reader files left others whole) other too in
    let nodes : again.x ≡ first.x = same_ok (sym again.first ∙ first.first) in
    sits_same reader files most left names others whole first.x one other same first.second
    (subst (λ n. sitting_over reader files left others whole n ≡ Ok other) nodes again.second)

-- a text that is what a session leaves stays as it is
left_is : (state : SessionState) (fetched whole : List ℕ) → left_by state fetched ≡ Ok whole → fetched ≡ whole
left_is state fetched whole is = by (bytes_eq fetched (left_text state)) is
  where
    by : (b : Bool) → cond b (Ok fetched) (Err (caused not_written)) ≡ Ok whole → fetched ≡ whole
    by true e = same_ok e
    by false e = absurd (cc e)

second_same : (reader : Reader) (files : Files) (q : List ℕ) (journals more : List (List ℕ)) (one other two again : Admission × ℕ) → AreSame journals more
    → second_sitting reader files q journals one ≡ Ok two → second_sitting reader files q more other ≡ Ok again → two.0 ≡ again.0
second_same reader files q journals more one other two again same is too =
    let first = both_ok (package_file files q) (λ fetched. left_by one.0.state fetched >>= (λ whole. sitting_on reader files one.1 journals whole)) two is in
    let next = both_ok (package_file files q) (λ fetched. left_by other.0.state fetched >>= (λ whole. sitting_on reader files other.1 more whole)) again too in
    let kept = both_ok (left_by one.0.state first.x) (λ whole. sitting_on reader files one.1 journals whole) two first.second in
    let left = both_ok (left_by other.0.state next.x) (λ whole. sitting_on reader files other.1 more whole) again next.second in
    let whole : left.x ≡ kept.x =
    sym (left_is other.0.state next.x left.x left.first) ∙ same_ok (sym next.first ∙ first.first) ∙ left_is one.0.state first.x kept.x kept.first in
    over_same reader files (of_second (package_in reader kept.x)) one.1 other.1 journals more kept.x two again same kept.second
    (subst (λ w. sitting_on reader files other.1 more w ≡ Ok again) whole left.second)

-- ---- both

resumed_same : (reader : Reader) (files : Files) (q : List ℕ) (firsts journals again more : List (List ℕ)) (whole : List ℕ) (one other : Writing) → AreSame firsts again → AreSame journals more
    → resumed reader files q firsts journals whole ≡ Ok one → resumed reader files q again more whole ≡ Ok other → one ≡ other
resumed_same reader files q firsts journals again more whole one other same too is next =
    let first = both_ok (first_sitting reader files firsts whole) (λ x. second_sitting reader files q journals x >>= (λ y. resumption x.0 y.0)) one is in
    let begun = both_ok (first_sitting reader files again whole) (λ x. second_sitting reader files q more x >>= (λ y. resumption x.0 y.0)) other next in
    let second = both_ok (second_sitting reader files q journals first.x) (λ y. resumption first.x.0 y.0) one first.second in
    let ended = both_ok (second_sitting reader files q more begun.x) (λ y. resumption begun.x.0 y.0) other begun.second in
    let firsts_same = over_same reader files (package_in reader whole) journal_bytes journal_bytes firsts again whole first.x begun.x same first.first begun.first in
    let seconds_same = second_same reader files q journals more first.x begun.x second.x ended.x too second.first ended.first in
    same_ok (sym second.second ∙ ap (λ (x : Admission). resumption x second.x.0) firsts_same ∙ ap (λ (y : Admission). resumption begun.x.0 y) seconds_same ∙ ended.second)

pub order_of_sittings : (reader : Reader) (files : Files) (brought : Brought) → OrderOfSittings reader files brought
order_of_sittings reader files brought words others p q firsts journals again more same too is next written ended =
    let one = is_made (writing_of reader files brought (reader.command words)) written in
    let other = is_made (writing_of reader files brought (reader.command others)) ended in
    let first = both_ok (package_file files p) (λ whole. resumed reader files q firsts journals whole) one.0 (ap (writing_of reader files brought) (sym is) ∙ one.1) in
    let second = both_ok (package_file files p) (λ whole. resumed reader files q again more whole) other.0 (ap (writing_of reader files brought) (sym next) ∙ other.1) in
    let whole : second.x ≡ first.x = same_ok (sym second.first ∙ first.first) in
    ap outcome_of
    (one.1 ∙ ap Ok (resumed_same reader files q firsts journals again more first.x one.0 other.0 same too first.second
    (subst (λ w. resumed reader files q again more w ≡ Ok other.0) whole second.second)) ∙ sym other.1)
