-- The marks among idle elements that a list keeps as text, each as one byte of what the walk over the text shows.
use Rattle.std.specs.Prelude.{◌≡◌, ℕ, ◌+◌, Bool, List, [], ◌∷◌, length, OnOk, if◌then◌else◌}
use Rattle.std.proofs.Common.{sym, ap, add-zero}
use Rattle.std.proofs.lemmas.Result.{on_ok_weaker}
use Rattle.redl_idle.specs.Shows.{ShowRule}
use Rattle.redl_idle.specs.Takes.{Taking}
use Rattle.redl_undecided.specs.Undecided.{is_mark_name}
use Rattle.redl_undecided.specs.Sums.{limited, limited-then}
use Rattle.redl_undecided.specs.declared.count.Idle.{Idle}
use Rattle.redl_undecided.specs.declared.count.Marks.{Marks}

-- a byte for a mark
abbrev pub mark_shown : Bool → List ℕ
mark_shown b = if b then 0 ∷ [] else []

abbrev pub idle_rule : ShowRule Idle
idle_rule = record {
  bytes = λ below b. [];
  start = λ below local tail kids. mark_shown (is_mark_name local);
  inside = λ below local tail kids. below;
  end = λ below. [];
}

-- as many more are counted as the text has bytes
abbrev pub by_count : {E : Type 0} → Taking Marks E
by_count = record {
  Takes = λ T old new text result. OnOk result (limited new.count ≡ limited (old.count + length text));
  nothing = λ T taker x. ap limited (sym (add-zero taker.count));
  then = λ T U old mid new first rest x r p q. on_ok_weaker r (λ e. limited-then old.count mid.count new.count first rest p e) q;
  stops = λ T U old new first rest e p. tt;
}
